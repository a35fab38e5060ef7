use Rattle.std.{proofs.Common.{ap, sym, ◌∙◌, arith}, specs.Prelude.option_copied}
use Rattle.keep_rows.proofs.Fitting.{fit_more}
use Rattle.keep_rows.proofs.spelled.entries_fit.Goals as goal

pub loop-k-preserved : goal.loop-k-preserved
loop-k-preserved c =
    fit_more c.args.machine.now.history _ c.loop-k.k c.in-Some.placed.now (omega arith) (omega arith)
    (sym (ap option_copied c.in-Some.is) ∙ c.entry.ensures.there (omega arith)) c.entry_law.ensures c.loop-k.invariant
