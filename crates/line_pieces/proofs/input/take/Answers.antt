use Rattle.std.proofs.Common.{◌≡◌, ℕ, ◌+◌, ◌≤◌, List, [], ◌∷◌, ◌++◌, length, take, drop, sym, ap, subst, ◌∙◌, arith, append-nil, append_assoc, eq-eqb, get_or}
use Rattle.std.proofs.lemmas.{List.{take_rest, get_or_default}, Result.{err_from_is_err_and, MatchResult-weaker}}
use Rattle.line_pieces.{specs.Pieces.HasCause, proofs.Fronts.line_done, proofs.Parts.part_refused}
use Rattle.line_pieces.proofs.input.take.Goals as goal

pub returns-in_err-take_line-clause-err : goal.returns-in_err-take_line-clause-err
returns-in_err-take_line-clause-err g c =
    let p = err_from_is_err_and c.from_residual.result c.from_residual.ensures.1 in
    let kind = g.R.LineReader.reading in
    let rest : List ℕ = c.loop-end.rest.now in
    let end : ℕ = c.in-Some.end in
    let done : List ℕ = c.loop-end.invariant.0 in
    let part : List ℕ = take end rest ++ 10 ∷ [] in
    let whole : done ++ (part ++ drop (end + 1) rest) ≡ c.args.bytes.now =
    sym (append_assoc done part (drop (end + 1) rest)) ∙ (line_done done rest c.args.bytes.now end c.in-Some.ensures.0.high c.in-Some.ensures.1 c.loop-end.invariant.1).behind in
    rw (p.1, p.2) (λ read behind has short.
    subst (λ m. HasCause (kind.rules m) ((read ++ c.args.bytes.now) ++ behind) c.in_err-take_line.field-0.0) c.loop-end.invariant.4
    (part_refused kind c.loop-end.reader read done part (drop (end + 1) rest) c.args.bytes.now behind c.in_err-take_line.field-0.0 whole short
    (c.loop-end.invariant.3 read has) c.in_err-take_line.ensures.err))

pub loop-end-preserved : goal.loop-end-preserved
loop-end-preserved g c =
    let kind = g.R.LineReader.reading in
    let rest : List ℕ = c.loop-end.rest.now in
    let end : ℕ = c.in-Some.end in
    let done : List ℕ = c.loop-end.invariant.0 in
    let cut = line_done done rest c.args.bytes.now end c.in-Some.ensures.0.high c.in-Some.ensures.1 c.loop-end.invariant.1 in
    let lines : kind.whole_lines c.take_line.new.self ≤ kind.whole_lines c.args.reader.now + length (done ++ (take end rest ++ 10 ∷ [])) =
    omega (arith, cut.count, c.loop-end.invariant.2, c.take_line.ensures.lines) in (
      done ++ (take end rest ++ 10 ∷ []),
      ap (λ bs. (done ++ (take end rest ++ 10 ∷ [])) ++ bs) (take_rest rest (end + 1)) ∙ cut.behind,
      lines,
      λ read has. subst (λ bs. kind.has_read bs c.take_line.new.self) (append_assoc read done (take end rest ++ 10 ∷ []))
          (c.in_ok-take_line.ensures.ok (read ++ done) (c.loop-end.invariant.3 read has)),
      c.take_line.ensures.limit ∙ c.loop-end.invariant.4,
    )

pub extend_line-requires-clause-part : goal.extend_line-requires-clause-part
extend_line-requires-clause-part g c k d less is =
    c.in_default.ensures k (omega arith) less (eq-eqb (get_or c.loop-end.rest.now k 0) 10 (get_or_default c.loop-end.rest.now k 0 d less ∙ is))

pub returns-clause-ok : goal.returns-clause-ok
returns-clause-ok g c =
    let kind = g.R.LineReader.reading in
    let rest : List ℕ = c.loop-end.rest.now in
    let done : List ℕ = c.loop-end.invariant.0 in
    MatchResult-weaker c.extend_line.result c.extend_line.ensures.ok (λ x told read has.
    subst (λ bs. kind.has_read bs c.extend_line.new.self) (append_assoc read done rest ∙ ap (λ bs. read ++ bs) c.loop-end.invariant.1)
    (told (read ++ done) (c.loop-end.invariant.3 read has))) (λ stop told. told)

pub returns-clause-err : goal.returns-clause-err
returns-clause-err g c =
    let kind = g.R.LineReader.reading in
    let rest : List ℕ = c.loop-end.rest.now in
    let done : List ℕ = c.loop-end.invariant.0 in
    MatchResult-weaker c.extend_line.result c.extend_line.ensures.err (λ x told. told) (λ stop told read behind has short.
    subst (λ m. HasCause (kind.rules m) ((read ++ c.args.bytes.now) ++ behind) stop) c.loop-end.invariant.4
    (part_refused kind c.loop-end.reader read done rest [] c.args.bytes.now behind stop (ap (λ bs. done ++ bs) (append-nil rest) ∙ c.loop-end.invariant.1) short
    (c.loop-end.invariant.3 read has) told))
