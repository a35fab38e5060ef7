use Rattle.std.{proofs.Common.{refl, ℕ, ◌<◌, ◌≤◌, get_or, List, length, drop, sym, ◌∙◌, ap, subst, arith}, specs.Str.{IsUtf8, trim_start}}
use Rattle.std.proofs.lemmas.Str.{IsCharBoundary-from_drop}
use Rattle.go_bench_text.{specs.Parts.{IsBlackByte, IsWhiteByte}, proofs.Whites.{IsPast, past_white, black_start}}
use Rattle.go_bench_text.proofs.fields.without_white.Goals as goal
use Rattle.go_bench_text.proofs.fields.without_white.Goals.{After-front_count}

within : (c : goal.After-front_count) → c.front_count.result ≤ length c.args.text.now
within c = subst (λ (bytes : List ℕ). c.front_count.result ≤ length bytes) c.as_bytes.ensures.value c.front_count.ensures.within

past : (c : goal.After-front_count) → IsPast c.args.text.now (drop c.front_count.result c.args.text.now)
past c = past_white c.args.text.now c.front_count.result c.utf8.text (within c)
    (subst (λ (bytes : List ℕ). (k : ℕ) → k < c.front_count.result → IsWhiteByte (get_or bytes k 0)) c.as_bytes.ensures.value (λ k less. (c.front_count.ensures.each k less).0 refl))

pub range_from-rest-requires : goal.range_from-rest-requires
range_from-rest-requires c some = IsCharBoundary-from_drop c.args.text.now c.front_count.result (within c) (past c).is

pub returns-in-len1-up-clause-trim : goal.returns-in-len1-up-clause-trim
returns-in-len1-up-clause-trim c =
    let rest : List ℕ = c.range_from-rest.result.now in
    let cut = past (goal.at.returns-in-len1-up-clause-trim c).After-front_count in
    let is : IsUtf8 rest = subst IsUtf8 (sym c.range_from-rest.ensures.value) cut.is in
    let some : 0 < length rest = subst (λ (bytes : List ℕ). 0 < length bytes) c.as_bytes-2.ensures.value (omega (arith, c.in-len1-up.len_at_least)) in
    let black : IsBlackByte (get_or c.as_bytes-2.result.now 0 0) = c.is_black_byte.ensures.0 c.if-is_black_byte.true in
    let first : IsBlackByte (get_or rest 0 0) = subst (λ (bytes : List ℕ). IsBlackByte (get_or bytes 0 0)) c.as_bytes-2.ensures.value black in
    sym (black_start rest some first is) ∙ (ap trim_start c.range_from-rest.ensures.value ∙ sym cut.same)

pub returns-in_default-clause-trim : goal.returns-in_default-clause-trim
returns-in_default-clause-trim c =
    let cut = past (goal.at.returns-in_default-clause-trim c).After-front_count in
    c.trim_start.ensures.trim ∙ (ap trim_start c.range_from-rest.ensures.value ∙ sym cut.same)
