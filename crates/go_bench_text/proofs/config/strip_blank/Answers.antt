use Rattle.std.proofs.{Common.{◌≢◌, ◌∷◌, ℕ, List, lit<}, lemmas.Str.Pattern.strip_prefix_char}
use Rattle.go_bench_text.proofs.Settings.{blanks_none}
use Rattle.go_bench_text.proofs.config.strip_blank.Goals as goal

pub returns-clause-none : goal.returns-clause-none
returns-clause-none c =
    let first = strip_prefix_char 32 c.args.text.now c.strip_prefix.result c.strip_prefix.ensures.cases (lit< tt) in
    let second = strip_prefix_char 9 c.args.text.now c.strip_prefix-2.result c.strip_prefix-2.ensures.cases (lit< tt) in
    let space : (rest : List ℕ) → c.args.text.now ≢ 32 ∷ rest = rw c.in_default.is at first in
    let tab : (rest : List ℕ) → c.args.text.now ≢ 9 ∷ rest = rw c.in_default-strip_prefix.is at second in
    blanks_none c.args.text.now space tab
