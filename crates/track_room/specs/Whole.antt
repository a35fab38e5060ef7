-- Which passes are out: how it is known that the first pass is whole once all that were split from it were joined into it.
use Rattle.std.specs.{Prelude.{◌≡◌, ℕ, ◌<◌, ◌≤◌, List, [], ◌∷◌, ◌++◌, length, map, slice_index_or}, List.AllZip}
use Rattle.history_lock.specs.Marks.{IsNoneOf}
use Rattle.track_model.specs.Tracks.{Track}
use Rattle.track_room.specs.{Rooms.{AreSame, IsSplitBack, IsWhole, JoinsEach}, Sights.{Sight, IsFirstOf, splitting, split_off}}

-- what is known of the k-th machine
abbrev at : ℕ → Sight → List Sight → Sight
at k s pass = slice_index_or pass k s

-- the marks of some passes at the k-th machine
abbrev pub marks_at : ℕ → Sight → List (List Sight) → List ℕ
marks_at k s outs = map (λ (o : List Sight). (at k s o).mark) outs

-- these passes are out: each mark that the first pass has given was joined into it, or is that of one of them
abbrev pub AreOut : List (List Sight) → List Sight → Type 0
AreOut outs pass =
    (k : ℕ) (s : Sight) → k < length pass
    → ((at k s pass).mark ≡ 0)
    × ((m : ℕ) → 0 < m → m ≤ (at k s pass).given
    → ¬ IsNoneOf m ((at k s pass).joined ++ marks_at k s outs))

-- none is out of a new room
abbrev pub NoneIsOut : Type 0
NoneIsOut = (ts : List Track) (pass : List Sight) → AllZip IsFirstOf ts pass → AreOut [] pass

-- a pass that is split off goes out
abbrev pub SplitGoesOut : Type 0
SplitGoesOut = (outs : List (List Sight)) (pass : List Sight) → AreOut outs pass
    → AreOut (map split_off pass ∷ outs) (map splitting pass)

-- where a split finds no memory the same ones stay out
abbrev pub SplitBackStays : Type 0
SplitBackStays = (outs : List (List Sight)) (pass new : List Sight) → AllZip IsSplitBack pass new
    → AreOut outs pass → AreOut outs new

-- a pass that is out stays the same, whatever it does
abbrev pub WorkStaysOut : Type 0
WorkStaysOut =
    (before after : List (List Sight)) (other new pass : List Sight) → AreSame other new
    → length other ≡ length pass
    → AreOut (before ++ other ∷ after) pass → AreOut (before ++ new ∷ after) pass

-- a pass that is joined comes back
abbrev pub JoinComesBack : Type 0
JoinComesBack =
    (before after : List (List Sight)) (other pass new : List Sight) → length other ≡ length pass
    → JoinsEach pass other new
    → AreOut (before ++ other ∷ after) pass → AreOut (before ++ after) new

-- a first pass of which none is out is whole
abbrev pub NoneOutIsWhole : Type 0
NoneOutIsWhole = (pass : List Sight) → AreOut [] pass → IsWhole pass
