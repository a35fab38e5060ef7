use Rattle.std.proofs.{Common.{[], ◌∷◌}, lemmas.Result.{err_from_is_err_and, MatchResult-weaker}}
use Rattle.line_pieces.proofs.Parts.{refused_before, refused_behind}
use Rattle.commit_lines.specs.Pieces.{reading}
use Rattle.commit_lines.proofs.reader.ReaderLineReader.take_line.Goals as goal

pub returns-in_err-extend_line-clause-err : goal.returns-in_err-extend_line-clause-err
returns-in_err-extend_line-clause-err c =
    let p = err_from_is_err_and c.from_residual.result c.from_residual.ensures.1 in
    rw (p.1, p.2) (refused_before reading c.args.self.now c.extend_line.new.self c.args.part.now (10 ∷ []) c.in_err-extend_line.field-0.0 c.in_err-extend_line.ensures.err)

pub returns-clause-err : goal.returns-clause-err
returns-clause-err c =
    MatchResult-weaker c.end_line.result c.end_line.ensures.err (λ x told. told) (λ stop told.
    refused_behind reading c.args.self.now c.extend_line.new.self c.args.part.now (10 ∷ []) stop c.extend_line.ensures.limit c.in_ok-extend_line.ensures.ok told.1)
