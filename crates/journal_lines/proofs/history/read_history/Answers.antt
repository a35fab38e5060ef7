use Rattle.std.{proofs.Common.{List, sym, arith, subst, IsTrue, ◌↔◌}, specs.List.AllByRecursion}
use Rattle.history_model.specs.declared.entries.Placed.{Placed}
use Rattle.journal_lines.{specs.Coming.WasKept, proofs.OneMore.{no_loop, longer, next_more, none_more, read_whole}}
use Rattle.journal_lines.proofs.history.read_history.Goals as goal

pub loop-alloc-init : goal.loop-alloc-init
loop-alloc-init c = no_loop c.args.scripts c.args.count c.args.lines.now c.new-history.result.items c.new-history.ensures.items

pub read_next-requires : goal.read_next-requires
read_next-requires c =
    subst (λ (l : List Placed). IsTrue c.loop-alloc.kept ↔ AllByRecursion WasKept l) (sym c.deref.ensures.value) c.loop-alloc.invariant.all

pub returns-in-Ok-None-clause-read : goal.returns-in-Ok-None-clause-read
returns-in-Ok-None-clause-read c =
    (none_more c.args.scripts c.args.count c.args.lines.now c.loop-alloc.lines c.read_next.new.lines c.loop-alloc.kept c.deref.result.now c.loop-alloc.history.items
    c.in-Ok-None.field-0 c.deref.ensures.value c.in-Ok-None.field-0-is c.loop-alloc.invariant c.in-Ok-None.ensures.none).0

pub returns-in-Ok-None-clause-counted : goal.returns-in-Ok-None-clause-counted
returns-in-Ok-None-clause-counted c =
    (none_more c.args.scripts c.args.count c.args.lines.now c.loop-alloc.lines c.read_next.new.lines c.loop-alloc.kept c.deref.result.now c.loop-alloc.history.items
    c.in-Ok-None.field-0 c.deref.ensures.value c.in-Ok-None.field-0-is c.loop-alloc.invariant c.in-Ok-None.ensures.none).1

pub loop-alloc-smaller : goal.loop-alloc-smaller
loop-alloc-smaller c =
    longer c.loop-alloc.history.items c.push.new.self.items c.in-Ok-Some.placed c.args.count
    (omega (arith, c.loop-alloc-test.true, c.len.ensures, c.loop-alloc.history.ok.0)) c.in_ok-push.ensures.items

pub loop-alloc-preserved : goal.loop-alloc-preserved
loop-alloc-preserved c =
    next_more c.args.scripts c.args.count c.args.lines.now c.loop-alloc.lines c.read_next.new.lines c.loop-alloc.kept c.is_kept-kept.result c.deref.result.now
    c.loop-alloc.history.items c.push.new.self.items c.in-Ok-Some.field-0 c.in-Ok-Some.placed c.deref.ensures.value c.in-Ok-Some.field-0-is c.loop-alloc.invariant
    (omega (arith, c.loop-alloc-test.true, c.len.ensures, c.loop-alloc.history.ok.0)) c.in-Ok-Some.ensures.some c.is_kept-kept.ensures c.in_ok-push.ensures.items

pub returns-clause-read : goal.returns-clause-read
returns-clause-read c =
    read_whole c.args.scripts c.args.count c.args.lines.now.rest c.loop-alloc.lines.rest c.loop-alloc.history.items c.loop-alloc.invariant.so
    (omega (arith, c.loop-alloc-test.false, c.len.ensures, c.loop-alloc.history.ok.0))

pub returns-clause-counted : goal.returns-clause-counted
returns-clause-counted c = c.loop-alloc.invariant.counted
