-- The first pass of a machine's lock while others are joined into it: what it knows of them.
use Rattle.std.specs.{Prelude.{◌≡◌, ℕ, List, [], ◌∷◌, ◌++◌, map, slice_get, Some}, List.AllByRecursion}
use Rattle.history_lock.specs.{Marks.{AreBy, AreByOthers, Follows, unmarked}, declared.view.Marked.Marked}
use Rattle.history_model.specs.declared.entries.Placed.{Placed}
use Rattle.track_model.specs.Tracks.{Track}
use Rattle.track_room.specs.Sights.{Sight, IsFirstOf, Joins, own_marks, splitting}

-- a pass that was joined: the mark of its entries, and what it had seen
pub record Part : Type 0 where
  pub mark : ℕ
  pub seen : List (Marked Placed)

abbrev pub part_of : Sight → Part
part_of s = record { mark = s.mark; seen = s.seen }

abbrev pub marks_of : List Part → List ℕ
marks_of parts = map (λ (w : Part). w.mark) parts

-- the history goes on from what the part had seen, by others than it
abbrev pub IsBehind : List (Marked Placed) → Part → Type 0
IsBehind log w = Follows (w.mark ∷ []) w.seen log

-- the first pass made nothing; it has seen what was kept, and then entries of others, and goes on
-- from each part that was joined into it
pub record Joining (kept : List Placed) (parts : List Part) (s : Sight) : Type 0 where
  pub mark : s.mark ≡ 0
  pub joined : s.joined ≡ marks_of parts
  pub rest : List (Marked Placed)
  pub begins : s.seen ≡ unmarked kept ++ rest
  pub others : AreByOthers (0 ∷ []) rest
  pub behind : AllByRecursion (IsBehind s.seen) parts

-- it is so of a new lock, and stays so where a pass is split off and where one is joined
abbrev pub JoiningStarts : Type 0
JoiningStarts = (t : Track) (s : Sight) → IsFirstOf t s → Joining t.history [] s

abbrev pub JoiningSplits : Type 0
JoiningSplits =
    (kept : List Placed) (parts : List Part) (s : Sight) → Joining kept parts s
    → Joining kept parts (splitting s)

abbrev pub JoiningGoesOn : Type 0
JoiningGoesOn =
    (kept : List Placed) (parts : List Part) (old other new : Sight) → Joining kept parts old
    → Joins old other new → Joining kept (part_of other ∷ parts) new

-- an entry was made by one of the parts
pub record IsMadeByPart (parts : List Part) (x : Marked Placed) : Type 0 where
  pub place : ℕ
  pub part : Part
  pub there : slice_get parts place ≡ Some part
  pub mark : x.by ≡ Some part.mark

-- where the first pass is whole, so that each mark is its own or one that was joined, each entry
-- behind the kept ones was made by one of the parts
abbrev pub JoiningEnds : Type 0
JoiningEnds =
    (kept : List Placed) (parts : List Part) (s : Sight) (j : Joining kept parts s)
    → AreBy (own_marks s) s.seen → AllByRecursion (IsMadeByPart parts) j.rest
