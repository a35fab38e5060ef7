-- Which entries touch a series.
use Rattle.std.specs.{Prelude.{ℕ, ◌+◌, Bool, false, if◌then◌else◌, List, [], ◌∷◌, ◌++◌, length, bytes_eq, Option, Some, None}, List.list_any}
use Rattle.history_model.specs.declared.entries.{Acceptance.Acceptance, Entry.Entry, Entry.TheVariants.{Accept, Retract, Tune}}
use Rattle.history_model.specs.Runs.{Series, accepted, is_of}

-- whether an accepted run has a sample of the series
abbrev pub has_sample : Series → Option Acceptance → Bool
has_sample s None = false
has_sample s (Some a) = list_any (is_of s) a.run.samples

-- an entry touches a series where it accepts or retracts a run with a sample of it, or tunes its metric. The entries before
-- it tell which samples the run has that it retracts
abbrev pub touches : List Entry → Series → Entry → Bool
touches before s (Accept run) = list_any (is_of s) run.samples
touches before s (Retract run) = has_sample s (accepted run before)
touches before s (Tune metric penalty len) = bytes_eq metric s.metric
touches before s e = false

-- the step of the last entry that touches the series, among those behind others; else the step given
abbrev pub last_touch_from : List Entry → Series → ℕ → List Entry → ℕ
last_touch_from before s step [] = step
last_touch_from before s step (e ∷ es) =
    last_touch_from (before ++ e ∷ []) s (if touches before s e then length before + 1 else step) es

-- the step of the last touch of a series in a history, or 0
abbrev pub last_touch : List Entry → Series → ℕ
last_touch h s = last_touch_from [] s 0 h
