use Rattle.std.proofs.{Common.{◌≢◌, ◌∷◌, ◌++◌, [], ℕ, List, sym, ◌∙◌, lit<}, lemmas.Str.Pattern.strip_suffix_char}
use Rattle.go_bench_text.proofs.Settings.{returns_none}
use Rattle.go_bench_text.proofs.config.without_returns.Goals as goal

pub returns : goal.returns
returns c =
    let none = strip_suffix_char 13 c.loop-front.rest.now c.strip_suffix.result c.strip_suffix.ensures.cases (lit< tt) in
    let off : (front : List ℕ) → c.loop-front.rest.now ≢ front ++ 13 ∷ [] = rw c.in_default.is at none in
    sym (returns_none c.loop-front.rest.now off) ∙ c.loop-front.invariant.same
