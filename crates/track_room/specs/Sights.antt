-- What a pass of a room knows of a machine, and how it comes to know more.
use Rattle.std.specs.Prelude.{◌≡◌, ℕ, ◌+◌, ◌<◌, ◌≤◌, ◌⊎◌, Bool, List, [], ◌∷◌, ◌++◌, Some, map}
use Rattle.atomic_table.specs.Seated.{TableId}
use Rattle.history_model.specs.declared.entries.Placed.{Placed}
use Rattle.history_lock.specs.{declared.view.Marked.Marked, Marks.{IsNoneOf, AreBy, AreByOthers, IsLongerOf, marked, entries}}
use Rattle.std.specs.FinSet as set
use Rattle.track_model.specs.Tracks.{Track}
use Rattle.track_state.specs.Work.{Work, bare}

-- a lock, and the machine whose state it guards
pub record Home : Type 0 where
  pub lock : TableId
  pub machine : List ℕ

-- what a pass knows of a machine: whether the store had it, the beginning of its history that the pass has seen, the mark
-- of the entries that the pass makes, how many passes were split from it, and the marks of those that were joined into it
pub record Sight : Type 0 where
  pub home : Home
  pub kept : Bool
  pub seen : List (Marked Placed)
  pub mark : ℕ
  pub given : ℕ
  pub joined : List ℕ

-- the machine with the history that was seen; a pass doesn't know which tables are home
abbrev pub track_of : Sight → Track
track_of s = record { machine = s.home.machine; kept = s.kept; history = entries s.seen; home = set.empty }

-- the machines, whatever is claimed of them
abbrev pub tracks_of : List Work → List Track
tracks_of states = map (λ (w : Work). w.track) states

-- the marks of the pass, and of those that were joined into it
abbrev pub own_marks : Sight → List ℕ
own_marks s = s.mark ∷ s.joined

-- ---- in and out of a lock

-- the pass, where it has seen this history
abbrev pub seeing : Sight → List (Marked Placed) → Sight
seeing s log = record { home = s.home; kept = s.kept; seen = log; mark = s.mark; given = s.given; joined = s.joined }

-- the pass has seen more, which others added
abbrev pub SeesMore : Sight → Sight → Type 0
SeesMore old new = (more : List (Marked Placed)) × AreByOthers (own_marks old) more
    × (new ≡ seeing old (old.seen ++ more))

-- the pass has added an entry, which bears its mark
abbrev pub AddsOne : Sight → Sight → Type 0
AddsOne old new = (e : Placed) × (new ≡ seeing old (old.seen ++ marked e (Some old.mark) ∷ []))

abbrev pub AddsOneAtMost : Sight → Sight → Type 0
AddsOneAtMost old new = (new ≡ old) ⊎ AddsOne old new

-- the pass entered the lock, this was done to the state that it found there, and it left the lock again; by the history it
-- has seen the state as it was, and then as it is
pub record Visits (Does : Work → Work → Type 0) (old new : Sight) : Type 0 where
  pub found : Sight
  pub sees : SeesMore old found
  pub before : Work
  pub after : Work
  pub was : bare before.track ≡ track_of found
  pub left : bare after.track ≡ track_of new
  pub does : Does before after
  pub adds : AddsOneAtMost found new

-- ---- the first pass of a lock, and passes that are split from it and joined into it

-- the first pass of a new lock, which has seen what the machine had
abbrev pub IsFirstOf : Track → Sight → Type 0
IsFirstOf t s = (track_of s ≡ bare t) × (s.mark ≡ 0) × (s.given ≡ 0) × (s.joined ≡ [])
    × AreBy [] s.seen

-- the first pass after a split
abbrev pub splitting : Sight → Sight
splitting s = record { home = s.home; kept = s.kept; seen = s.seen; mark = s.mark; given = s.given + 1; joined = s.joined }

-- the pass that is split off
abbrev pub split_off : Sight → Sight
split_off s = record { home = s.home; kept = s.kept; seen = s.seen; mark = s.given + 1; given = 0; joined = [] }

-- the first pass after another was joined into it: it has seen the longer of what both have seen
abbrev pub Joins : Sight → Sight → Sight → Type 0
Joins old other new =
    (log : List (Marked Placed)) × IsLongerOf (own_marks old) old.seen (other.mark ∷ []) other.seen log
    × (new ≡ record { home = old.home; kept = old.kept; seen = log; mark = old.mark; given = old.given; joined = other.mark ∷ old.joined })

-- it is the first pass, and every pass that was split from it was joined into it
abbrev pub IsWholeSight : Sight → Type 0
IsWholeSight s = (s.mark ≡ 0) × ((k : ℕ) → 0 < k → k ≤ s.given → ¬ IsNoneOf k s.joined)

-- ---- the end of a lock

-- the state of a lock that was closed: the machine with what the pass has seen, and then entries of others
abbrev pub Ends : Sight → Track → Type 0
Ends s t = (last : Sight) × SeesMore s last × (bare t ≡ track_of last)

-- a whole pass has seen all, and each entry bears its mark or that of a pass that was joined into it, or came first
abbrev pub EndsWhole : Sight → Track → Type 0
EndsWhole s t = (bare t ≡ track_of s) × AreBy (own_marks s) s.seen
