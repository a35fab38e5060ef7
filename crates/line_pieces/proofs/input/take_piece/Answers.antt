use Rattle.std.proofs.{Common.{◌++◌, take, drop, arith, length-append}, lemmas.List.{take-append-le, length-take}}
use Rattle.std.proofs.lemmas.Result.{err_from_is_err_and, MatchResult-weaker}
use Rattle.line_pieces.proofs.Given.{piece_taken, gave_few, piece_stops, faulted, faulted_refused}
use Rattle.line_pieces.proofs.input.take_piece.Goals as goal

pub returns-in_err-may_go_on-clause-err : goal.returns-in_err-may_go_on-clause-err
returns-in_err-may_go_on-clause-err g c =
    let p = err_from_is_err_and c.from_residual.result c.from_residual.ensures.1 in
    rw (p.1, p.2) (λ first gave. faulted_refused g.I.Source g.R.LineReader.reading first c.args.input.now c.read.new.self c.args.reader.now c.args.allowed gave c.in_err-may_go_on.field-0.0
    c.in_default.ensures.kept c.in_err-may_go_on.ensures.err)

pub returns-in_default-clause-err : goal.returns-in_default-clause-err
returns-in_default-clause-err g c first gave =
    faulted g.I.Source g.R.LineReader.reading first c.args.input.now c.read.new.self c.args.reader.now c.args.allowed gave c.in_default.ensures.kept c.in_default.ensures.rose c.in_ok-may_go_on.ensures.ok

pub returns-clause-err : goal.returns-clause-err
returns-clause-err g c =
    MatchResult-weaker c.take_allowed.result c.take_allowed.ensures.err (λ x told. told) (λ stop told first gave.
    piece_stops g.I.Source g.R.LineReader.reading first c.args.input.now c.read.new.self c.args.reader.now c.args.allowed gave stop (take c.in-Ok.count c.read.new.buf) _ c.in-Ok.ensures.bytes
    (take-append-le c.in-Ok.count c.read.new.buf (drop c.min-room.result c.args.buffer.now) c.in-Ok.ensures.count.0) told)

pub returns-clause-ok : goal.returns-clause-ok
returns-clause-ok g c =
    MatchResult-weaker c.take_allowed.result c.take_allowed.ensures.ok (λ count takes.
    piece_taken g.I.Source g.R.LineReader.reading c.args.input.now c.read.new.self c.args.reader.now c.take_allowed.new.reader c.args.allowed count (take c.in-Ok.count c.read.new.buf) _ c.in-Ok.ensures.bytes
    (take-append-le c.in-Ok.count c.read.new.buf (drop c.min-room.result c.args.buffer.now) c.in-Ok.ensures.count.0) c.read.ensures.counts
    (λ none. c.in-Ok.ensures.end (omega (arith, none, c.in-Ok.ensures.count.0, length-take c.in-Ok.count (c.read.new.buf ++ drop c.min-room.result c.args.buffer.now), length-append c.read.new.buf (drop c.min-room.result c.args.buffer.now))))
    takes) (λ stop told. told)

pub returns-clause-few : goal.returns-clause-few
returns-clause-few g c first gave =
    gave_few g.I.Source g.R.LineReader.reading first c.args.input.now c.read.new.self c.args.reader.now c.args.allowed gave (take c.in-Ok.count c.read.new.buf) c.in-Ok.ensures.bytes
    (omega (arith, c.in-Ok.ensures.count.0, c.in-Ok.ensures.count.1, c.read.auto.buf, length-take c.min-room.result c.args.buffer.now))
