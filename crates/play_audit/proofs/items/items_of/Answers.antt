use Rattle.std.proofs.{Common.{sym, ◌∙◌, arith}, lemmas.Grind.common_steps}
use Rattle.play_audit.proofs.Reading.{begins_going, goes_going}
use Rattle.play_audit.proofs.items.items_of.Goals as goal

pub loop-alloc-init : goal.loop-alloc-init
loop-alloc-init c = begins_going c.args.script.now c.in-Ok.source c.in-Ok-new.lines c.new-items.result.items c.in-Ok.ensures.made c.in-Ok-new.ensures c.new-items.ensures.items

pub read_item-requires-clause-open : goal.read_item-requires-clause-open
read_item-requires-clause-open c = sym c.has_ended.ensures ∙ c.loop-alloc-test.true

pub read_item-requires-clause-on : goal.read_item-requires-clause-on
read_item-requires-clause-on c = (c.loop-alloc.invariant.open_ (sym c.has_ended.ensures ∙ c.loop-alloc-test.true)).0

pub loop-alloc-preserved : goal.loop-alloc-preserved
loop-alloc-preserved c = grind (arith, common_steps, goes_going)

pub returns-clause-read : goal.returns-clause-read
returns-clause-read c = c.loop-alloc.invariant.over (sym c.has_ended.ensures ∙ c.loop-alloc-test.false)
