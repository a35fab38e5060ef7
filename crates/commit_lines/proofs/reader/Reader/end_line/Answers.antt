use Rattle.std.proofs.{Common.{◌≡◌, ◌<◌, ◌≤◌, length, List, [], ◌∷◌, ◌++◌, ℕ, sym, subst, arith}, lemmas.Result.err_from_is_err_and}
use Rattle.commit_lines.{specs.HasRead.{kept_by, TakesLine}, specs.Reading.Breaks, proofs.PieceSteps.{cause, end_cause}}
use Rattle.line_pieces.specs.Pieces.{OnRefused}
use Rattle.commit_lines.proofs.ReaderSteps.{line_taken, long_taken, line_refused}
use Rattle.commit_lines.proofs.reader.Reader.end_line.Goals as goal

pub returns-then-len-gt-LINE_LIMIT-clause-ok : goal.returns-then-len-gt-LINE_LIMIT-clause-ok
returns-then-len-gt-LINE_LIMIT-clause-ok c read has =
    let long : 4_096 < length c.args.self.now.line.items = omega (arith, c.len.ensures, c.args.self.now.line.ok) in
    long_taken read (kept_by c.args.self.now) (kept_by c.next_line.new.self) (record { whole = c.next_line.ensures.whole; line = c.next_line.ensures.line }) long c.next_line.ensures.names has

pub returns-in_err-add_line-clause-err : goal.returns-in_err-add_line-clause-err
returns-in_err-add_line-clause-err c =
    let p = err_from_is_err_and c.from_residual.result c.from_residual.ensures.1 in
    let short : length c.args.self.now.line.items ≤ 4_096 = omega (arith, c.len.ensures, c.args.self.now.line.ok) in
    let number : ℕ = c.number-number.result in
    let stop = c.in_err-add_line.field-0.0 in
    let refuses : OnRefused (λ why k. (k ≡ number) × Breaks why c.args.self.now.names.keys c.args.self.now.line.items) stop =
    subst (λ (line : List ℕ). OnRefused (λ why k. (k ≡ number) × Breaks why c.args.self.now.names.keys line) stop) c.deref.ensures.value c.in_err-add_line.ensures.err in
    rw (p.1, p.2) (
      λ read has few. end_cause read stop few (line_refused read (kept_by c.args.self.now) number stop c.number-number.ensures short refuses has).0,
      λ read rest has few. cause (read ++ 10 ∷ []) rest stop few (line_refused read (kept_by c.args.self.now) number stop c.number-number.ensures short refuses has).1,
    )

pub returns-clause-ok : goal.returns-clause-ok
returns-clause-ok c read has =
    let short : length c.args.self.now.line.items ≤ 4_096 = omega (arith, c.len.ensures, c.args.self.now.line.ok) in
    line_taken read (kept_by c.args.self.now) (kept_by c.next_line-2.new.self) (record { whole = c.next_line-2.ensures.whole; line = c.next_line-2.ensures.line }) short
    (subst (λ (names : List (List ℕ)). TakesLine c.args.self.now.line.items c.args.self.now.names.keys names) (sym c.next_line-2.ensures.names)
    (subst (λ (line : List ℕ). TakesLine line c.args.self.now.names.keys c.add_line.new.names.keys) c.deref.ensures.value c.in_ok-add_line.ensures.ok)) has
