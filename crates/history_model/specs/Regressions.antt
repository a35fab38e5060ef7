-- The regressions that a history raises, numbered from 1, and the state that each came to.
use Rattle.std.specs.{Prelude.{◌≡◌, ℕ, ◌<◌, Bool, true, ◌&&◌, ◌==◌, nat_le, List, length, unwrap_or, if◌then◌else◌, IsSome, Option, Some, None}, List.last_or}
use Rattle.regression_state.specs.{Moves.is_move, declared.states.State.State, declared.states.State.TheVariants.Detected}
use Rattle.history_model.specs.declared.{entries.Entry.Entry, entries.Entry.TheVariants.Regression, events.Raised.Raised}
use Rattle.history_model.specs.{declared.events.RegressionEvent.RegressionEvent, Commits.name_of, Entries.chosen, Runs.{Series, is_known}}
use Rattle.history_model.specs.declared.events.RegressionEvent.TheVariants as event

-- the change that an entry raises, and all that were raised
abbrev pub raised : ℕ → Entry → Option Raised
raised step (Regression (event.Raise r)) = Some r
raised step e = None

abbrev pub regressions : List Entry → List Raised
regressions h = chosen raised h

-- the series of a change
abbrev pub raised_of : Raised → Series
raised_of r = record { test = r.test; metric = r.metric }

-- one of so many numbers from 1 on
abbrev pub is_number : ℕ → ℕ → Bool
is_number count n = nat_le 1 n && nat_le n count

-- the state to which an entry moves the regression of this number
abbrev pub moved : ℕ → ℕ → Entry → Option State
moved number step (Regression (event.Move regression state)) = if regression == number then Some state else None
moved number step e = None

-- the state of a regression: that of its last move, else it is detected
abbrev pub state_of : ℕ → List Entry → State
state_of number h = unwrap_or (last_or None (chosen (moved number) h)) Detected

-- a change is raised of a known series, between declared commits in their order; and a regression that is there moves as
-- the table of moves has it
abbrev pub MayBecome : List Entry → RegressionEvent → Type 0
MayBecome h (event.Raise r) =
    (is_known (raised_of r) h ≡ true) × IsSome (name_of r.before h) × IsSome (name_of r.after h) × (r.before < r.after)
MayBecome h (event.Move number state) =
    (is_number (length (regressions h)) number ≡ true) × (is_move (state_of number h) state ≡ true)
