use Rattle.std.proofs.{Common.{◌≡◌, ◌++◌, ◌<◌, ◌≤◌, length, List, ℕ, take, refl, sym, ap, subst, ◌∙◌, arith}, lemmas.Bool.false≢true}
use Rattle.commit_lines.{specs.Lines.IsSkipped, specs.HasRead.kept_by, proofs.PieceSteps.cause, proofs.ReaderSteps.{has_short, has_long, long_refused}}
use Rattle.line_pieces.specs.declared.stop.{Refusal.TheVariants.Bad, Stop.TheVariants.Refused}
use Rattle.commit_lines.proofs.reader.ReaderLineReader.extend_line.Goals as goal

pub returns-then-len-le-LINE_LIMIT-clause-ok : goal.returns-then-len-le-LINE_LIMIT-clause-ok
returns-then-len-le-LINE_LIMIT-clause-ok c read has =
    let same : length c.extend_from_slice.new.self.items ≡ length (c.args.self.now.line.items ++ c.args.part.now) = ap (λ (bs : List ℕ). length bs) c.in_ok-extend_from_slice.ensures.items in
    let short : length (c.args.self.now.line.items ++ c.args.part.now) ≤ 4_096 = omega (arith, same, c.len.ensures, c.extend_from_slice.new.self.ok) in
    has_short read c.args.part.now (kept_by c.args.self.now) _ c.requires.part (record { names = refl; whole = refl }) c.in_ok-extend_from_slice.ensures.items short has

pub returns-then-not-is_skipped-clause-err : goal.returns-then-not-is_skipped-clause-err
returns-then-not-is_skipped-clause-err c read rest has few =
    let same : length c.extend_from_slice.new.self.items ≡ length (c.args.self.now.line.items ++ c.args.part.now) = ap (λ (bs : List ℕ). length bs) c.in_ok-extend_from_slice.ensures.items in
    let long : 4_096 < length (c.args.self.now.line.items ++ c.args.part.now) = omega (arith, same, c.len.ensures, c.extend_from_slice.new.self.ok) in
    let whole : c.deref.result.now ≡ c.args.self.now.line.items ++ c.args.part.now = c.deref.ensures.value ∙ c.in_ok-extend_from_slice.ensures.items in
    cause (read ++ c.args.part.now) rest (Refused Bad c.number.result) few
    (long_refused read c.args.part.now (kept_by c.args.self.now) c.number.result c.requires.part c.number.ensures long
    (λ skipped. false≢true (c.if-not-is_skipped.ensures.1 (subst IsSkipped (sym whole) skipped))) has)

pub returns-clause-ok : goal.returns-clause-ok
returns-clause-ok c read has =
    let same : length c.extend_from_slice.new.self.items ≡ length (c.args.self.now.line.items ++ c.args.part.now) = ap (λ (bs : List ℕ). length bs) c.in_ok-extend_from_slice.ensures.items in
    let long : 4_096 < length (c.args.self.now.line.items ++ c.args.part.now) = omega (arith, same, c.len.ensures, c.extend_from_slice.new.self.ok) in
    let whole : c.deref.result.now ≡ c.args.self.now.line.items ++ c.args.part.now = c.deref.ensures.value ∙ c.in_ok-extend_from_slice.ensures.items in
    has_long read c.args.part.now (kept_by c.args.self.now) _ c.requires.part (record { names = refl; whole = refl })
    (c.truncate.ensures.items ∙ ap (take 4_097) c.in_ok-extend_from_slice.ensures.items) long (subst IsSkipped whole (c.if-not-is_skipped.ensures.0 refl)) has
