use Rattle.std.proofs.{Common.arith, lemmas.Result.MatchResult-weaker, lemmas.Grind.common_steps}
use Rattle.line_pieces.proofs.Given.{end_stops}
use Rattle.commit_lines.{specs.Pieces.reading, proofs.PieceSteps.end_names}
use Rattle.commit_lines.proofs.input.read_commits.Goals as goal

pub finish-requires : goal.finish-requires
finish-requires g c = let gave = c.in_ok-read_lines.ensures.ok.gave in omega (arith, gave.lines, gave.short)

pub returns-clause-names : goal.returns-clause-names
returns-clause-names g c = grind (arith, common_steps, end_names)

pub returns-clause-stop : goal.returns-clause-stop
returns-clause-stop g c =
    let all = c.in_ok-read_lines.ensures.ok in
    MatchResult-weaker c.finish.result c.finish.ensures.err (λ names told. told) (λ stop told.
    end_stops g.I.Source reading stop c.args.input.now c.read_lines.new.input c.read_lines.new.reader all.allowed all.gave all.whole
    (told all.gave.read all.gave.has (omega (arith, all.gave.short))))
