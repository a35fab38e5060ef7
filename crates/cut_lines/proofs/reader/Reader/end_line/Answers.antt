use Rattle.std.proofs.{Common.{ℕ, ◌+◌, [], ◌∷◌, ◌++◌, refl, subst}, lemmas.Result.err_from_is_err_and}
use Rattle.cut_lines.{specs.Adding.{TakesLine, RefusesLine}, specs.HasRead.kept_by, proofs.PieceSteps.{cause, end_cause}}
use Rattle.cut_lines.proofs.ReaderSteps.{line_taken, line_refused}
use Rattle.cut_lines.proofs.reader.Reader.end_line.Goals as goal

pub returns-in_err-add_line-clause-err : goal.returns-in_err-add_line-clause-err
returns-in_err-add_line-clause-err c =
    let p = err_from_is_err_and c.from_residual.result c.from_residual.ensures.1 in
    let most : ℕ = c.args.self.now.most in
    let stop = c.in_err-add_line.field-0.0 in
    let refuses : RefusesLine most c.args.self.now.line.items (c.args.self.now.whole_lines + 1) c.args.self.now.points stop =
    subst (λ line. RefusesLine most line (c.args.self.now.whole_lines + 1) c.args.self.now.points stop) c.deref.ensures.value c.in_err-add_line.ensures.err in
    rw (p.1, p.2) (
      λ read has few. end_cause most read stop few (line_refused read (kept_by c.args.self.now) (c.args.self.now.whole_lines + 1) stop refl refuses has).0,
      λ read rest has few. cause most (read ++ 10 ∷ []) rest stop few (line_refused read (kept_by c.args.self.now) (c.args.self.now.whole_lines + 1) stop refl refuses has).1,
    )

pub returns-clause-ok : goal.returns-clause-ok
returns-clause-ok c read has =
    line_taken read (kept_by c.args.self.now) _ (c.args.self.now.whole_lines + 1) (record { most = refl; whole = refl; line = c.clear.ensures.items }) refl
    (subst (λ line. TakesLine c.args.self.now.most line (c.args.self.now.whole_lines + 1) c.args.self.now.points c.add_line.new.points) c.deref.ensures.value c.in_ok-add_line.ensures.ok) has
