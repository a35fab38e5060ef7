use Rattle.std.proofs.{Common.{subst, arith}, lemmas.Grind.common_steps}
use Rattle.history_model.specs.declared.entries.Author.TheVariants.{Kept}
use Rattle.track_step.specs.{Publications.IsPublished, Published.Published}
use Rattle.journal_walk.proofs.Publishing.{is-added, is-full, is-stale, publishes}
use Rattle.journal_walk.proofs.steps.publish.Goals as goal

pub returns-in-Ok-clause-published : goal.returns-in-Ok-clause-published
returns-in-Ok-clause-published c =
    let step = c.in_ok-finished.ensures.step in
    publishes c.args.track.now c.args.made.done c.finish.new.track c.in_ok-finished.finished.reply step.0
    (is-added c.args.track.now c.args.made.done c.finish.new.track c.in-Ok.field-0
    (subst (λ (t : Published). IsPublished c.args.track.now Kept c.args.made.done t c.finish.new.track) c.in-Ok.is c.in_ok-finished.ensures.published))
    step.1 step.2

pub returns-in-Stale-clause-none : goal.returns-in-Stale-clause-none
returns-in-Stale-clause-none c =
    (is-stale c.args.track.now c.args.made.done c.finish.new.track c.in-Stale.field-0
    (subst (λ (t : Published). IsPublished c.args.track.now Kept c.args.made.done t c.finish.new.track) c.in-Stale.is c.in_ok-finished.ensures.published)).0

pub returns-in-Full-clause-none : goal.returns-in-Full-clause-none
returns-in-Full-clause-none c =
    (is-full c.args.track.now c.args.made.done c.finish.new.track c.in-Full.field-0
    (subst (λ (t : Published). IsPublished c.args.track.now Kept c.args.made.done t c.finish.new.track) c.in-Full.is c.in_ok-finished.ensures.published)).0

pub returns-in-Full-clause-kept : goal.returns-in-Full-clause-kept
returns-in-Full-clause-kept c = grind (arith, common_steps, is-full)
