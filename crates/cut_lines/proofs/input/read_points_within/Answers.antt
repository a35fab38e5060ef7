use Rattle.std.{proofs.Common.{◌≤◌, List, length, sym, subst, ◌∙◌, arith}, specs.Prelude.IfSome, proofs.lemmas.Result.{err_from_is_err_and, MatchResult-weaker}}
use Rattle.segment_model.specs.Segments.{Position}
use Rattle.line_pieces.proofs.Given.{end_stops}
use Rattle.cut_lines.{specs.Reading.ArePointsWithin, specs.Stops.StopsWithin, specs.Pieces.reading, proofs.PieceSteps.end_points}
use Rattle.cut_lines.proofs.input.read_points_within.Goals as goal

pub finish-requires : goal.finish-requires
finish-requires g c = let gave = c.in_ok-read_lines.ensures.ok.gave in omega (arith, gave.lines, gave.short)

pub returns-clause-points : goal.returns-clause-points
returns-clause-points g c =
    MatchResult-weaker c.finish.result c.finish.ensures.ok (λ points told.
    subst (λ m. IfSome (g.I.Source.left c.args.input.now) (λ bytes. ArePointsWithin m bytes points)) (c.read_lines.ensures.limit ∙ c.new-reader.ensures.limit)
    (end_points g.I.Source c.args.input.now c.read_lines.new.input c.read_lines.new.reader points c.in_ok-read_lines.ensures.ok told)) (λ stop told. told)

pub returns-clause-positions : goal.returns-clause-positions
returns-clause-positions g c =
    let gave = c.in_ok-read_lines.ensures.ok.gave in
    MatchResult-weaker c.finish.result c.finish.ensures.ok (λ points told.
    let are = told gave.read gave.has in
    let few : length points ≤ c.read_lines.new.reader.most = subst (λ (ps : List Position). length ps ≤ c.read_lines.new.reader.most) (sym are.2) are.1.fits.few_positions in
    omega (arith, few, c.read_lines.ensures.limit, c.new-reader.ensures.limit)) (λ stop told. told)

pub returns-clause-stop : goal.returns-clause-stop
returns-clause-stop g c =
    let all = c.in_ok-read_lines.ensures.ok in
    MatchResult-weaker c.finish.result c.finish.ensures.err (λ points told. told) (λ stop told.
    subst (λ m. StopsWithin m g.I.Source c.args.input.now c.read_lines.new.input stop) (c.read_lines.ensures.limit ∙ c.new-reader.ensures.limit)
    (end_stops g.I.Source reading stop c.args.input.now c.read_lines.new.input c.read_lines.new.reader all.allowed all.gave all.whole
    (told all.gave.read all.gave.has (omega (arith, all.gave.short)))))

pub returns-in_err-read_lines-clause-stop : goal.returns-in_err-read_lines-clause-stop
returns-in_err-read_lines-clause-stop g c =
    let p = err_from_is_err_and c.from_residual.result c.from_residual.ensures.1 in
    rw (p.1, p.2) (subst (λ m. StopsWithin m g.I.Source c.args.input.now c.read_lines.new.input c.in_err-read_lines.field-0.0) c.new-reader.ensures.limit c.in_err-read_lines.ensures.stop)
