-- What the clauses of a room say of its passes. A room is seen as the locks of its machines, and a pass of a room as what it
-- knows of each, in the room's order.
use Rattle.std.specs.{Prelude.{◌≡◌, ◌⊎◌, ℕ, ◌+◌, ◌<◌, ◌≤◌, List, [], ◌∷◌, length, map, slice_index_or}, List.AllByRecursion}
use Rattle.history_lock.specs.Marks.{HaveMarksUpTo}
use Rattle.track_room.specs.Sights.{Home, Sight, IsWholeSight, Joins, seeing}

-- it is a pass of that room
abbrev pub IsPassOf : List Home → List Sight → Type 0
IsPassOf room pass = map (λ (s : Sight). s.home) pass ≡ room

-- it is the first pass of its room
abbrev pub IsFirst : List Sight → Type 0
IsFirst pass = AllByRecursion (λ (s : Sight). s.mark ≡ 0) pass

-- it is the first pass, and every pass that was split from it was joined into it
abbrev pub IsWhole : List Sight → Type 0
IsWhole pass = AllByRecursion IsWholeSight pass

-- who the pass is, whatever it has seen: of which machine, with which marks
abbrev pub badge : Sight → Sight
badge s = seeing s []

-- the same passes, which may have seen something else
abbrev pub AreSame : List Sight → List Sight → Type 0
AreSame old new = map badge new ≡ map badge old

-- no entry that the pass has seen bears a mark that it didn't give
abbrev pub HasGivenMarks : Sight → Type 0
HasGivenMarks s = HaveMarksUpTo s.given s.seen

abbrev pub HaveGivenMarks : List Sight → Type 0
HaveGivenMarks pass = AllByRecursion HasGivenMarks pass

-- ---- joins

-- what is known of the k-th machine
abbrev at : ℕ → Sight → List Sight → Sight
at k s pass = slice_index_or pass k s

-- into each of the first passes was joined
pub record JoinsEach (old others new : List Sight) : Type 0 where
  pub long : length new ≡ length old
  pub joined : (k : ℕ) (s : Sight) → k < length others
      → Joins (at k s old) (at k s others) (at k s new)
  pub rest : (k : ℕ) (s : Sight) → length others ≤ k → at k s new ≡ at k s old

-- the first pass, where a pass was split from it and joined back
abbrev pub split_back : Sight → Sight
split_back s = record { home = s.home; kept = s.kept; seen = s.seen; mark = s.mark; given = s.given + 1; joined = (s.given + 1) ∷ s.joined }

abbrev pub IsSplitBack : Sight → Sight → Type 0
IsSplitBack old new = (new ≡ old) ⊎ (new ≡ split_back old)
