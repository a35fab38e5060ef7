-- No public contract cites this. What a pruned table keeps: three tables in full, and as candidates the places from
-- which the next last segment may begin, but for those that were pruned long enough ago.
use Rattle.std.specs.Prelude.{◌≡◌, ◌≢◌, ℕ, ℤ, ◌+◌, ◌-◌, ◌*◌, ◌^◌, ◌<◌, ◌≤◌, Bool, true, false, List, [], ◌∷◌, ◌++◌, length, slice_index, filter, pos, ◌+ℤ◌, ◌≤ℤ◌, vec_len, vec_capacity}
use Rattle.segment_model.specs.{Limits.IsLength, Tables.{int_at, IsTable}, Values.{AreWithinLimits, cost_between}}
use Rattle.pelt_core.specs.{declared.bounds.Found.Found, declared.rows.Rows.Rows, Candidates.{stays, open_places}}
use Rattle.pelt_core.specs.Bounds.{bound_at, HaveBounds, HaveMore, IsLowered}

-- the tables of the first n places, and their candidates with bounds: the last segment of n + 1 positions begins at n + 1 - len
-- at the latest, and the marks up to `swept` were seen
pub record ArePruned (cost : ℕ → ℕ → ℤ) (n : ℕ) (b : ℤ) (rows : Rows) : Type 0 where
  pub length_from : IsLength rows.length
  pub table : IsTable cost n b rows.length rows.least.items rows.back.items rows.pruned.items
  pub swept : rows.swept ≤ n + 1 - rows.length
  pub candidates : rows.candidates.items ≡ open_places rows.length rows.swept rows.pruned.items (n + 1 - rows.length + 1)
  pub bounds : HaveBounds cost n rows.least.items rows.candidates.items rows.leader rows.bounds.items
  pub room : n + 1 ≤ vec_capacity rows.candidates
  pub wide : n + 1 ≤ 256 * length rows.bounds.items

-- there is room for one place more
pub record HaveRoom (rows : Rows) : Type 0 where
  pub least : vec_len rows.least < vec_capacity rows.least
  pub back : vec_len rows.back < vec_capacity rows.back
  pub pruned : vec_len rows.pruned < vec_capacity rows.pruned
  pub candidates : vec_len rows.least + 1 ≤ vec_capacity rows.candidates
  pub bounds : length rows.least.items + 1 ≤ 256 * length rows.bounds.items

-- the rows of all positions but the last, with room for the row of that one
pub record CanGrow (cost_of : List ℤ → ℤ) (positions : List (List ℤ)) (b : ℤ) (rows : Rows) : Type 0 where
  pub limits : AreWithinLimits positions
  pub some : 0 < length positions
  pub low : pos 0 ≤ℤ b
  pub high : b ≤ℤ pos (10 ^ 36)
  pub pruned : ArePruned (cost_between cost_of positions) (length positions - 1) b rows
  pub room : HaveRoom rows

-- the tables have one row more, whose last cut is the candidate that was found; the candidates are the same
pub record AddsRow (b : ℤ) (found : Found) (old new : Rows) : Type 0 where
  pub least : new.least.items ≡ old.least.items ++ (found.total +ℤ b) ∷ []
  pub back : new.back.items ≡ old.back.items ++ slice_index old.candidates.items found.index ∷ []
  pub unmarked : new.pruned.items ≡ old.pruned.items ++ 0 ∷ []
  pub len : new.length ≡ old.length
  pub swept : new.swept ≡ old.swept
  pub candidates : new.candidates.items ≡ old.candidates.items
  pub capacity : vec_capacity new.candidates ≡ vec_capacity old.candidates
  pub many : length new.bounds.items ≡ length old.bounds.items

-- the least length and the three tables are the same
pub record HaveSameTables (old new : Rows) : Type 0 where
  pub len : new.length ≡ old.length
  pub least : new.least.items ≡ old.least.items
  pub back : new.back.items ≡ old.back.items
  pub pruned : new.pruned.items ≡ old.pruned.items

-- the same lists but for more bounds, with no less room
pub record HasRoomMade (old new : Rows) : Type 0 where
  pub tables : HaveSameTables old new
  pub swept : new.swept ≡ old.swept
  pub candidates : new.candidates.items ≡ old.candidates.items
  pub bounds : HaveMore old.bounds.items new.bounds.items
  pub leader : new.leader ≡ old.leader
  pub capacity : vec_capacity old.candidates ≤ vec_capacity new.candidates

-- all but the marks is the same
pub record SameButMarks (old new : Rows) : Type 0 where
  pub len : new.length ≡ old.length
  pub swept : new.swept ≡ old.swept
  pub least : new.least.items ≡ old.least.items
  pub back : new.back.items ≡ old.back.items
  pub candidates : new.candidates.items ≡ old.candidates.items
  pub bounds : new.bounds.items ≡ old.bounds.items
  pub capacity : vec_capacity new.candidates ≡ vec_capacity old.candidates

-- all but the candidates is the same; they are the same too, or those that have no mark up to place g are left
pub record IsSwept (g : ℕ) (did : Bool) (old new : Rows) : Type 0 where
  pub tables : HaveSameTables old new
  pub bounds : new.bounds.items ≡ old.bounds.items
  pub same : did ≡ false → (new.candidates.items ≡ old.candidates.items) × (new.swept ≡ old.swept)
  pub fewer : did ≡ true → (new.candidates.items ≡ filter (stays g old.pruned.items) old.candidates.items) × (new.swept ≡ g)
  pub capacity : vec_capacity old.candidates ≤ vec_capacity new.candidates

-- all but the bounds and the leader is the same; they are the same too, but that the leader is at that index, or each bound is
-- the total to place t
pub record AreRenewed (did : Bool) (t : ℕ) (total : ℤ) (index : ℕ) (old new : Rows) : Type 0 where
  pub tables : HaveSameTables old new
  pub swept : new.swept ≡ old.swept
  pub candidates : new.candidates.items ≡ old.candidates.items
  pub capacity : vec_capacity new.candidates ≡ vec_capacity old.candidates
  pub many : length new.bounds.items ≡ length old.bounds.items
  pub same : did ≡ false → (new.bounds.items ≡ old.bounds.items) × (new.leader ≡ index)
  pub all : did ≡ true → (k : ℕ) → k < length old.bounds.items → bound_at new.bounds.items k ≡ record { at = t; total = total }

-- a candidate more in block k, whose bound is lowered by its total, as one to place t
pub record HasOneMore (t ready k : ℕ) (old new : Rows) : Type 0 where
  pub candidates : new.candidates.items ≡ old.candidates.items ++ ready ∷ []
  pub start : 256 * k ≤ length old.candidates.items
  pub end : length old.candidates.items < 256 * k + 256
  pub lowered : IsLowered (bound_at old.bounds.items k) t (int_at old.least.items ready) (bound_at new.bounds.items k)
  pub others : (j : ℕ) → j ≢ k → bound_at new.bounds.items j ≡ bound_at old.bounds.items j

-- place `ready` became a candidate, where a segment may begin there
pub record IsAdmitted (t ready : ℕ) (old new : Rows) : Type 0 where
  pub tables : HaveSameTables old new
  pub swept : new.swept ≡ old.swept
  pub leader : new.leader ≡ old.leader
  pub capacity : vec_capacity old.candidates ≤ vec_capacity new.candidates
  pub many : length new.bounds.items ≡ length old.bounds.items
  pub none : ready < old.length → (new.candidates.items ≡ old.candidates.items) × (new.bounds.items ≡ old.bounds.items)
  pub one : old.length ≤ ready → (k : ℕ) × HasOneMore t ready k old new

-- the rows of the positions, within the limits
pub record IsPrunedTable (cost_of : List ℤ → ℤ) (positions : List (List ℤ)) (b : ℤ) (rows : Rows) : Type 0 where
  pub low : pos 0 ≤ℤ b
  pub high : b ≤ℤ pos (10 ^ 36)
  pub within : AreWithinLimits positions
  pub pruned : ArePruned (cost_between cost_of positions) (length positions) b rows
