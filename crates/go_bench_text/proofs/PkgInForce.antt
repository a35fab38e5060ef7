-- The value of `pkg` behind one line more.
use Rattle.std.proofs.Common.{◌≡◌, ℕ, Bool, true, false, cond, ◌&&◌, List, [], ◌∷◌, ◌++◌, ◌-◌, take, reverse, get_or, ◌∙◌, ap, arith, Some}
use Rattle.std.{specs.Prelude.find, specs.Option.option_map_or, proofs.lemmas.Grind.common_steps, proofs.lemmas.List.reverse-append}
use Rattle.go_bench_text.specs.{Lines.{begins, value_of}, Readings.{sets_pkg, pkg_of}}

chosen : (line : List ℕ) (back : List (List ℕ)) (t : Bool) → sets_pkg line ≡ t
    → option_map_or value_of (find sets_pkg (line ∷ back)) [] ≡ option_map_or value_of (cond t (Some line) (find sets_pkg back)) []
chosen line back t e = ap (λ (b : Bool). option_map_or value_of (cond b (Some line) (find sets_pkg back)) []) e

last_first : (before : List (List ℕ)) (line : List ℕ) → pkg_of (before ++ line ∷ []) ≡ option_map_or value_of (find sets_pkg (line ∷ reverse before)) []
last_first before line = ap (λ (lines : List (List ℕ)). option_map_or value_of (find sets_pkg lines) []) (reverse-append before (line ∷ []))

pub pkg_set : (before : List (List ℕ)) (line : List ℕ) → sets_pkg line ≡ true → pkg_of (before ++ line ∷ []) ≡ value_of line
pkg_set before line e = last_first before line ∙ chosen line (reverse before) true e

pub pkg_kept : (before : List (List ℕ)) (line : List ℕ) → sets_pkg line ≡ false → pkg_of (before ++ line ∷ []) ≡ pkg_of before
pkg_kept before line e = last_first before line ∙ chosen line (reverse before) false e

second : (a b : Bool) → (a && b) ≡ true → b ≡ true
second a b h = grind (arith, common_steps)

front_first : (n : ℕ) (line more : List ℕ) (b : ℕ) → take n line ≡ b ∷ more → get_or line 0 0 ≡ b
front_first n line more b e = grind (arith, common_steps)

pub begins_not_pkg : (line : List ℕ) → begins line ≡ true → sets_pkg line ≡ false
begins_not_pkg line h = grind (arith, common_steps)
