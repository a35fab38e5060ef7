-- A history with an entry more: its regressions, the state of each, and its limits.
use Rattle.std.proofs.{Common.{◌≡◌, ℕ, ◌+◌, ◌≤◌, ◌<◌, List, [], ◌∷◌, ◌++◌, length, ap, arith}, lemmas.Grind.common_steps}
use Rattle.std.specs.{Prelude.{option_to_list, unwrap_or, Some, None}, List.last_or}
use Rattle.metric_table.specs.Limits.{most}
use Rattle.metric_table.specs.declared.limits.Limit.TheVariants as limit
use Rattle.regression_state.specs.declared.states.State.{State, TheVariants.Detected}
use Rattle.history_model.specs.{declared.entries.Entry.Entry, declared.events.RegressionEvent.RegressionEvent, Allowed.{Allowed, Legal, KeepsLimits}}
use Rattle.history_model.specs.declared.entries.Entry.TheVariants as entry
use Rattle.history_model.specs.Regressions.{raised, regressions, moved, state_of}
use Rattle.history_model.proofs.{Chosen.{chosen-push, chosen-skip}, Others.limits-other, Silent.silent, Standings.jobs-stay, Tunings.last-push}

-- ---- the state of a regression
pub state-moved : (h : List Entry) (e : Entry) (number : ℕ) (state : State) → moved number (length h + 1) e ≡ Some state → state_of number (h ++ e ∷ []) ≡ state
state-moved h e number state moves = grind (arith, common_steps, unwrap_or, last_or, chosen-push, option_to_list, last-push)

pub state-stays : (h : List Entry) (e : Entry) (number : ℕ) → moved number (length h + 1) e ≡ None → state_of number (h ++ e ∷ []) ≡ state_of number h
state-stays h e number none = ap (λ (ms : List State). unwrap_or (last_or None ms) Detected) (chosen-skip (moved number) h e none)

-- ---- one that is not raised has not moved
none-moved : (h : List Entry) (e : Entry) → Allowed h e → (n : ℕ) → length (regressions h) < n → moved n (length h + 1) e ≡ None
none-moved h = grind (arith, common_steps)

pub new-detected : (h : List Entry) (number : ℕ) → Legal h → length (regressions h) < number → state_of number h ≡ Detected
new-detected h number legal above = ap (λ (ms : List State). unwrap_or (last_or None ms) Detected) (silent raised moved none-moved h legal number above)

-- ---- limits
pub limits-regression : (h : List Entry) (e : RegressionEvent) → KeepsLimits h → length h + 1 ≤ most limit.Steps → KeepsLimits (h ++ entry.Regression e ∷ [])
limits-regression h e keeps steps = grind (arith, common_steps, limits-other, chosen-skip, jobs-stay)
