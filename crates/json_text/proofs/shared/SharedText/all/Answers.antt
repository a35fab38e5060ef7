use Rattle.std.{proofs.Common.{◌≡◌, ℕ, List, arith, ap, length, subst, sym}, specs.Str.{IsUtf8, IsCharBoundary}}
use Rattle.std.proofs.lemmas.Str.{IsCharBoundary-start, IsCharBoundary-end}
use Rattle.json_text.proofs.shared.SharedText.all.Goals as goal

pub invariant_of-result : goal.invariant_of-result
invariant_of-result c =
    let same = c.as_str-end.ensures in
    let size : length c.as_str-end.result.now ≡ length c.args.whole = ap (λ (bytes : List ℕ). length bytes) same in
    (omega arith, IsCharBoundary-start c.args.whole (subst IsUtf8 same c.as_str-end.utf8), subst (IsCharBoundary c.args.whole) (sym size) (IsCharBoundary-end c.args.whole))
