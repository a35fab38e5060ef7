use Rattle.std.{proofs.Common.{◌≡◌, ◌-◌, ◌≤◌, ℕ, true, false, ap, ◌∙◌, arith}, specs.Prelude.IfOk, proofs.lemmas.Grind.common_steps}
use Rattle.metric_table.specs.{Limits.most, declared.limits.Limit.TheVariants.Cuts}
use Rattle.history_model.specs.Publications.{cut_count}
use Rattle.journal_walk.specs.Walks.{Walked, added}
use Rattle.play_audit.{specs.Segments.{HasFewCuts, PassesCuts}, proofs.Passing.alike, proofs.segment.passes_cuts.Goals.After-has_past}
use Rattle.play_audit.proofs.segment.passes_cuts.Goals as goal

module _ (c : After-has_past) where
  same : c.go_to.new.walk.history ≡ c.args.walk.now.history
  same = c.in_ok-go_to.ensures.by.same ∙ ap (λ (w : Walked). w.history) c.in_ok-past.ensures

  room : c.most.result - c.cut_count.result ≡ most Cuts - cut_count (added c.args.walk.now)
  room = grind (arith, common_steps)

pub returns-clause-yes : goal.returns-clause-yes
returns-clause-yes c =
    let k = (goal.at.returns-clause-yes c).After-has_past in
    alike (λ j from to room. IfOk c.has_past.result (λ has. has ≡ true → PassesCuts j (record { test = c.args.test.now; metric = c.args.metric.now }) from to room))
    (same k) c.in_ok-go_to.ensures.there c.len.ensures (room k) c.has_past.ensures.yes

pub returns-clause-no : goal.returns-clause-no
returns-clause-no c =
    let k = (goal.at.returns-clause-no c).After-has_past in
    alike (λ j from to room. IfOk c.has_past.result (λ has. has ≡ false → (version : ℕ) → from ≤ version → version ≤ to
    → HasFewCuts j (record { test = c.args.test.now; metric = c.args.metric.now }) version room))
    (same k) c.in_ok-go_to.ensures.there c.len.ensures (room k) c.has_past.ensures.no
