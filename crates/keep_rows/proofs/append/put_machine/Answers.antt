use Rattle.std.{proofs.Common.{ap, sym, ◌∙◌, arith}, specs.Option.option_copied}
use Rattle.track_outside.specs.Kept.{bytes_of}
use Rattle.keep_rows.proofs.NewRows.{put_more}
use Rattle.keep_rows.proofs.append.put_machine.Goals as goal

pub loop-k-preserved : goal.loop-k-preserved
loop-k-preserved c =
    put_more c.args.machine.now.machine c.machine.result.now c.args.machine.now.history _ c.loop-k.k c.in-Some.placed.now _ (bytes_of c.loop-k.out.items) (bytes_of c.put_head.new.out.items)
    c.machine.ensures (omega arith) (sym (ap option_copied c.in-Some.is) ∙ c.entry.ensures.there (omega arith)) c.in_ok-put_placed-in-Some.ensures c.loop-k.invariant
