use Rattle.std.proofs.{Common.{◌≡◌, ℕ, List, get_or, arith, subst}, lemmas.Str.IsCharBoundary-after_ascii}
use Rattle.go_bench_text.proofs.spelling.parts_at.Goals as goal

pub range_from-name-requires : goal.range_from-name-requires
range_from-name-requires c some =
    let hash : get_or c.args.test.now c.args.at 0 ≡ 35 = subst (λ (xs : List ℕ). get_or xs c.args.at 0 ≡ 35) c.as_bytes.ensures.value c.if-as_bytes-at-ne35.false in
    IsCharBoundary-after_ascii c.args.test.now c.args.at c.utf8.test c.requires (omega (arith, hash))
