-- No public contract cites this. Which known series an entry touches, as it is looked at.
use Rattle.std.specs.{Prelude.{ℕ, Bool, false, ◌&&◌, List, bytes_eq}, List.list_any}
use Rattle.sample_model.specs.Samples.{Measurement}
use Rattle.history_model.specs.declared.entries.Entry.{Entry, TheVariants.{Accept, Retract, Tune}}
use Rattle.history_model.specs.Runs.{Series, accepted, is_known, is_of, same_series}
use Rattle.touch_model.specs.Touches.{has_sample}

-- the series of some samples
abbrev pub sampled : List Measurement → Series → Bool
sampled samples s = list_any (is_of s) samples

-- those of a metric among some series
abbrev pub named : List ℕ → List Series → Series → Bool
named metric names s = list_any (λ (n : Series). same_series n s && bytes_eq n.metric metric) names

-- those that an entry of a history touches
abbrev pub touched_by : List Entry → Entry → Series → Bool
touched_by h (Accept run) s = sampled run.samples s
touched_by h (Retract run) s = has_sample s (accepted run h)
touched_by h (Tune metric penalty len) s = is_known s h && bytes_eq metric s.metric
touched_by h e s = false
