use Rattle.std.{proofs.Common.{◌≡◌, ◌≤◌, [], ◌∷◌, ◌++◌, length, refl, sym, ◌∙◌, arith}, specs.Vec.vec_len, proofs.lemmas.Bool.eqb-true}
use Rattle.std.proofs.lemmas.{List.nil_from_length, Result.{err_from_is_err_and, MatchResult-weaker}}
use Rattle.line_pieces.proofs.Parts.{read_on, refused_before, refused_behind}
use Rattle.cut_lines.{specs.HasRead.kept_by, specs.Pieces.reading, proofs.PieceSteps.cause, proofs.ReaderSteps.{whole_taken, whole_refused}}
use Rattle.cut_lines.proofs.reader.ReaderLineReader.take_line.Goals as goal

pub returns-in_err-extend_line-clause-err : goal.returns-in_err-extend_line-clause-err
returns-in_err-extend_line-clause-err c =
    let p = err_from_is_err_and c.from_residual.result c.from_residual.ensures.1 in
    rw (p.1, p.2) (refused_before reading c.args.self.now c.extend_line.new.self c.args.part.now (10 ∷ []) c.in_err-extend_line.field-0.0 c.in_err-extend_line.ensures.err)

pub returns-then-not-is_empty-clause-err : goal.returns-then-not-is_empty-clause-err
returns-then-not-is_empty-clause-err c =
    MatchResult-weaker c.end_line.result c.end_line.ensures.err (λ x told. told) (λ stop told.
    refused_behind reading c.args.self.now c.extend_line.new.self c.args.part.now (10 ∷ []) stop c.extend_line.ensures.limit c.in_ok-extend_line.ensures.ok told.1)

pub returns-in_err-add_line-clause-err : goal.returns-in_err-add_line-clause-err
returns-in_err-add_line-clause-err c =
    let p = err_from_is_err_and c.from_residual-in_err-add_line.result c.from_residual-in_err-add_line.ensures.1 in
    let none : vec_len c.args.self.now.line ≡ 0 = eqb-true (vec_len c.args.self.now.line) 0 (sym c.is_empty.ensures ∙ c.if-not-is_empty.false) in
    let empty : c.args.self.now.line.items ≡ [] = nil_from_length c.args.self.now.line.items (omega (arith, none, c.args.self.now.line.ok)) in
    let short : length c.args.part.now ≤ 4_096 = omega arith in
    rw (p.1, p.2) (λ read rest has few. cause c.args.self.now.most (read ++ (c.args.part.now ++ 10 ∷ [])) rest c.in_err-add_line.field-0.0 few
    (whole_refused read c.args.part.now (kept_by c.args.self.now) _ c.in_err-add_line.field-0.0 c.requires.part empty short refl c.in_err-add_line.ensures.err has))

pub returns-clause-ok : goal.returns-clause-ok
returns-clause-ok c read has =
    let none : vec_len c.args.self.now.line ≡ 0 = eqb-true (vec_len c.args.self.now.line) 0 (sym c.is_empty.ensures ∙ c.if-not-is_empty.false) in
    let empty : c.args.self.now.line.items ≡ [] = nil_from_length c.args.self.now.line.items (omega (arith, none, c.args.self.now.line.ok)) in
    let short : length c.args.part.now ≤ 4_096 = omega arith in
    whole_taken read c.args.part.now (kept_by c.args.self.now) _ _ c.requires.part empty short (record { most = refl; whole = refl; line = empty }) refl c.in_ok-add_line.ensures.ok has

pub returns-then-not-is_empty-clause-ok : goal.returns-then-not-is_empty-clause-ok
returns-then-not-is_empty-clause-ok c =
    MatchResult-weaker c.end_line.result c.end_line.ensures.ok (λ x told.
    read_on reading c.args.self.now c.extend_line.new.self c.args.part.now (10 ∷ []) c.end_line.new.self c.in_ok-extend_line.ensures.ok told) (λ stop told. told)
