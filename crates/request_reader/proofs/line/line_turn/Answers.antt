use Rattle.std.proofs.{Common.sym, lemmas.Result.err_from_is_err_and}
use Rattle.request_reader.{specs.Scripts.{IsLine, IsTooLong}, proofs.Stops.{line_reads, stops_long, stops_filling, few_none}}
use Rattle.request_reader.proofs.line.line_turn.Goals as goal

pub returns-in-Long-clause-err : goal.returns-in-Long-clause-err
returns-in-Long-clause-err g c =
    let over : IsTooLong c.args.lines.now.kept = rw (sym c.kept.ensures.same) c.in-Long.ensures in
    let within = rw c.kept.ensures.same at c.kept.ensures.within in
    rw c.before-in-Long.ensures (record {
      why = stops_long c.args.lines.now (g.S.Source.left c.args.source.now) (g.S.Source.left c.args.source.now) 0 0 over within;
      few = few_none c.args.lines.now (g.S.Source.left c.args.source.now) within;
    })

pub returns-in_err-fill-clause-err : goal.returns-in_err-fill-clause-err
returns-in_err-fill-clause-err g c =
    let p = err_from_is_err_and c.from_residual.result c.from_residual.ensures.1 in
    let line : IsLine c.args.lines.now.kept = rw (sym c.kept.ensures.same) c.in-More.ensures in
    rw (p.1, p.2) (record {
      why = stops_filling _ _ _ _ _ _ (line_reads _ _ line) c.in_err-fill.ensures.err;
      few = c.in_err-fill.ensures.few;
    })
