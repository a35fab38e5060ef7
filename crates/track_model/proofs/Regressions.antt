-- What may become of a regression: a move of which nothing is refused, and a change of the last publication of a series.
use Rattle.std.{proofs.Common.{◌≡◌, ℕ, ◌-◌, ◌≤◌, ◌<◌, true, List, length, subst, arith}, specs.Prelude.{nat_le, slice_index, Some, None}}
use Rattle.std.proofs.lemmas.{Bool.{and_parts, leb-true, not-false}, Grind.common_steps}
use Rattle.metric_table.specs.Limits.{most}
use Rattle.metric_table.specs.declared.limits.Limit.TheVariants as limit
use Rattle.segment_model.specs.Limits.{commits_of}
use Rattle.regression_state.specs.declared.states.State.{State}
use Rattle.history_model.specs.{declared.entries.Entry.Entry, declared.publication.Publication.Publication, Allowed.{Allowed, KeepsLimits, Legal}}
use Rattle.history_model.specs.declared.entries.Entry.TheVariants as entry
use Rattle.history_model.specs.declared.events.RegressionEvent.TheVariants as event
use Rattle.history_model.specs.{Followed.{IsBetweenDeclared, CutsAreBetweenDeclared, LimitsAfterRegression}, Laws.LastStands, Positions.positions}
use Rattle.history_model.specs.{Publications.{last_publication, spoken_of}, Regressions.is_number, Runs.{Series, is_known}}
use Rattle.track_model.specs.Following as following
use Rattle.track_model.proofs.Rows.{passes}

module _ (limits : LimitsAfterRegression) (h : List Entry) (keeps : KeepsLimits h) (room : length h < most limit.Steps) where
  pub move-allowed : (number : ℕ) (state : State) → following.move_refusal h number state ≡ None → Allowed h (entry.Regression (event.Move number state))
  move-allowed number state free = grind (arith, common_steps)

  pub raise-allowed : LastStands → CutsAreBetweenDeclared → (s : Series) (p : Publication) (change : ℕ) → Legal h → is_known s h ≡ true → last_publication s h ≡ Some p
      → following.raise_refusal p change ≡ None → Allowed h (entry.Regression (event.Raise (following.change_of h s p change)))
  raise-allowed last_stands cuts s p change legal known last free =
      let is_one : is_number (length p.cuts) change ≡ true = not-false _ (passes _ _ free) in
      let range = and_parts (nat_le 1 change) (nat_le change (length p.cuts)) is_one in
      let from : 1 ≤ change = leb-true 1 change range.0 in
      let to : change ≤ length p.cuts = leb-true change (length p.cuts) range.1 in
      let stands = last_stands h s p legal last in
      let P : Series → Type 0 = λ x. IsBetweenDeclared h (commits_of (positions (spoken_of h p) x)) (slice_index p.cuts (change - 1)) in
      let between = subst P stands.0 (cuts h p legal stands.1 (change - 1) (omega (arith, from, to))) in
      ((known, between.before, between.after, between.rising), limits h (event.Raise (following.change_of h s p change)) keeps room)
