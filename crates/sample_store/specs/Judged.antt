-- What the acceptance and the retraction of a run come to.
use Rattle.std.specs.Prelude.{ℕ, ◌+◌, nat_lt, if◌then◌else◌, List, length, find, Option, Some, None}
use Rattle.metric_table.specs.Limits.{most}
use Rattle.metric_table.specs.declared.limits.Limit.TheVariants as limit
use Rattle.history_model.specs.{declared.run.Run.Run, Runs.same_run}
use Rattle.sample_store.specs.declared.answers.{Accepted.Accepted, Accepted.TheVariants.{New, Duplicate, Clash, Full}, Retracted.Retracted}
use Rattle.sample_store.specs.declared.{answers.Retracted.TheVariants.{Done, UnknownRun, AlreadyRetracted}, store.Stored.Stored}
use Rattle.sample_store.specs.Runs.{names, samples_in}

-- a run of a name that was accepted: the same, or another
abbrev pub told_again : Run → Stored → Accepted
told_again run s = if same_run run s.run then Duplicate s.step else Clash s.step

-- a run of a new name: the first of the two limits that it would pass
abbrev pub within : List Stored → Run → Accepted
within runs run =
    if nat_lt (most limit.Runs) (length runs + 1) then Full limit.Runs
    else (if nat_lt (most limit.Samples) (samples_in runs + length run.samples) then Full limit.Samples else New)

abbrev pub judged_by : List Stored → Run → Option Stored → Accepted
judged_by runs run (Some s) = told_again run s
judged_by runs run None = within runs run

-- by the run of that name, else by the limits
abbrev pub judged : List Stored → Run → Accepted
judged runs run = judged_by runs run (find (names run.run) runs)

abbrev pub retracted_by : Option ℕ → Retracted
retracted_by (Some step) = AlreadyRetracted step
retracted_by None = Done

abbrev pub retraction_by : Option Stored → Retracted
retraction_by (Some s) = retracted_by s.retracted
retraction_by None = UnknownRun

-- by the run of that name
abbrev pub retraction : List Stored → List ℕ → Retracted
retraction runs run = retraction_by (find (names run) runs)
