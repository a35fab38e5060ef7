-- The parts of a configuration line.
use Rattle.std.proofs.Common.{◌≡◌, ◌≢◌, ℕ, suc, ◌+◌, ◌-◌, Bool, true, false, cond, not, ◌||◌, List, [], ◌∷◌, ◌++◌, length, take, reverse, refl, sym, ◌∙◌, ap, arith, eqb, Option, IfNone, lit<, Bor}
use Rattle.std.{specs.List.{list_any, prefix_len, suffix_len, position_or_len}, proofs.lemmas.List.{take_all, reverse-append, reverse-reverse}}
use Rattle.std.proofs.lemmas.{Str.Pattern.{IsSplitOnceResult, split_once_first}, Bool.Decides.nat_tests, Grind.common_steps}
use Rattle.go_bench_text.specs.Lines.{is_colon, without_returns, without_blanks}

-- no carriage return at the end: nothing is taken away
last_stays : (bs back : List ℕ) → reverse bs ≡ back → ((front : List ℕ) → bs ≢ front ++ 13 ∷ []) → prefix_len (λ b. eqb b 13) back ≡ 0
last_stays bs [] e h = refl
last_stays bs (b ∷ back) e h = at_last (eqb b 13) refl where
  at_last : (t : Bool) → eqb b 13 ≡ t → cond t (1 + prefix_len (λ b. eqb b 13) back) 0 ≡ 0
  at_last false f = refl
  at_last true f =
      let is : b ≡ 13 = grind (arith, nat_tests) in
      absurd (h (reverse back) (sym (reverse-reverse bs) ∙ (ap reverse (e ∙ ap (λ (x : ℕ). x ∷ back) is) ∙ reverse-append (13 ∷ []) back)))

pub returns_none : (bs : List ℕ) → ((front : List ℕ) → bs ≢ front ++ 13 ∷ []) → without_returns bs ≡ bs
returns_none bs h =
    let none : suffix_len (λ b. eqb b 13) bs ≡ 0 = last_stays bs (reverse bs) refl h in
    ap (λ (n : ℕ). take (length bs - n) bs) none ∙ take_all (length bs - 0) bs (omega arith)

-- nothing blank in front
pub blanks_none : (bs : List ℕ) → ((rest : List ℕ) → bs ≢ 32 ∷ rest) → ((rest : List ℕ) → bs ≢ 9 ∷ rest) → without_blanks bs ≡ bs
blanks_none bs space tab = grind (arith, common_steps)

colon_first : (b : ℕ) (bs : List ℕ) (t : Bool) → (cond (not t) (1 + position_or_len is_colon bs) 0 ≡ suc (length bs)) → (position_or_len is_colon bs ≡ length bs → list_any is_colon bs ≡ false) → (t || list_any is_colon bs) ≡ false
colon_first b bs t h rest = grind (arith, common_steps)

-- no colon comes first, so there is none
pub no_colon : (bs : List ℕ) → position_or_len is_colon bs ≡ length bs → list_any is_colon bs ≡ false
no_colon [] h = refl
no_colon (b ∷ bs) h = colon_first b bs (is_colon b) h (no_colon bs)

pub split_none : (bs : List ℕ) (r : Option (Bor (List ℕ) × Bor (List ℕ))) → IsSplitOnceResult 58 bs r → IfNone r (list_any is_colon bs ≡ false)
split_none bs r h = grind (arith, common_steps, no_colon, split_once_first, lit<)
