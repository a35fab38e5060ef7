use Rattle.std.proofs.{Common.{◌++◌, take, length-append, subst, arith}, lemmas.Result.err_from_is_err_and}
use Rattle.line_pieces.{specs.Pieces.HasCause, proofs.Fronts.too_many, proofs.Parts.{front_refused, read_refused}}
use Rattle.line_pieces.proofs.input.take_allowed.Goals as goal

pub returns-in_err-take-clause-err : goal.returns-in_err-take-clause-err
returns-in_err-take-clause-err g c =
    let p = err_from_is_err_and c.from_residual.result c.from_residual.ensures.1 in
    rw (p.1, p.2) (λ read rest has short. front_refused g.R.LineReader.reading c.args.reader.now read c.args.bytes.now rest c.args.allowed c.in_err-take.field-0.0 short has c.in_err-take.ensures.err)

pub returns-in_err-may_go_on-clause-err : goal.returns-in_err-may_go_on-clause-err
returns-in_err-may_go_on-clause-err g c =
    let p = err_from_is_err_and c.from_residual-in_err-may_go_on.result c.from_residual-in_err-may_go_on.ensures.1 in
    let kind = g.R.LineReader.reading in
    rw (p.1, p.2) (λ read rest has short.
    subst (λ m. HasCause (kind.rules m) ((read ++ c.args.bytes.now) ++ rest) c.in_err-may_go_on.field-0.0) c.take.ensures.limit
    (read_refused kind c.take.new.reader read c.args.bytes.now rest c.args.allowed c.in_err-may_go_on.field-0.0 short (c.in_ok-take.ensures.ok read has) c.in_err-may_go_on.ensures.err))

pub returns-then-count-allowed-clause-err : goal.returns-then-count-allowed-clause-err
returns-then-count-allowed-clause-err g c read rest has short =
    let kind = g.R.LineReader.reading in
    too_many (kind.rules (kind.most c.args.reader.now)).goes_on read c.args.bytes.now rest c.args.allowed short (omega arith)
    (subst (λ m. (kind.rules m).goes_on (read ++ take c.args.allowed c.args.bytes.now)) c.take.ensures.limit
    (c.in_ok-may_go_on.ensures.ok (read ++ take c.args.allowed c.args.bytes.now) (c.in_ok-take.ensures.ok read has)))

pub returns-in_err-take-2-clause-err : goal.returns-in_err-take-2-clause-err
returns-in_err-take-2-clause-err g c =
    let p = err_from_is_err_and c.from_residual-in_err-take-2.result c.from_residual-in_err-take-2.ensures.1 in
    rw (p.1, p.2) (λ read rest has short. c.in_err-take-2.ensures.err read rest has (omega (arith, short, length-append read c.args.bytes.now)))
