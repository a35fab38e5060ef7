-- What holds of touches in all histories.
use Rattle.std.specs.{Prelude.{◌≡◌, ◌≤◌, ℕ, ◌+◌, Bool, false, ◌||◌, if◌then◌else◌, List, [], ◌∷◌, ◌++◌, length, take, slice_get, Some}, List.list_any}
use Rattle.history_model.specs.{declared.entries.Entry.Entry, declared.entries.Entry.TheVariants.{Accept, Retract}, Allowed.{Allowed, Legal}}
use Rattle.history_model.specs.{Publications.last_publication, Runs.{Series, accepted, is_known, is_of}}
use Rattle.touch_model.specs.{Touches.{touches, last_touch}, Stale.is_behind}

-- an entry that touches a series is its last touch; every other one leaves it
abbrev pub TouchesGrow : Type 0
TouchesGrow = (h : List Entry) (e : Entry) (s : Series) → last_touch (h ++ e ∷ []) s
    ≡ (if touches h s e then length h + 1 else last_touch h s)

-- a touch is in the history
abbrev pub TouchesArePast : Type 0
TouchesArePast = (h : List Entry) (s : Series) → last_touch h s ≤ length h

-- an entry brings samples of a series
abbrev pub brings : Series → Entry → Bool
brings s (Accept run) = list_any (is_of s) run.samples
brings s e = false

-- a series is known with one entry more where it was known, or where the entry brings samples of it
abbrev pub KnownGrows : Type 0
KnownGrows = (h : List Entry) (e : Entry) (s : Series) → is_known s (h ++ e ∷ [])
    ≡ (is_known s h || brings s e)

-- a run that is retracted in a legal history was accepted before that
abbrev pub RetractedStays : Type 0
RetractedStays =
    (h : List Entry) (k : ℕ) (run : List ℕ) → Legal h → slice_get h k ≡ Some (Retract run)
    → accepted run h ≡ accepted run (take k h)

-- what isn't behind the last publication isn't behind a later one
abbrev pub LatestStays : Type 0
LatestStays =
    (h : List Entry) (e : Entry) (s : Series) (step : ℕ) → Allowed h e
    → is_behind step (last_publication s h) ≡ false
    → is_behind step (last_publication s (h ++ e ∷ [])) ≡ false
