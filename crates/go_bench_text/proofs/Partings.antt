-- Where a test is cut.
use Rattle.std.proofs.Common.{◌≡◌, ℕ, ◌+◌, List, [], ◌∷◌, ◌++◌, length, take, drop, get_or, sym, ◌∙◌, ap, append_assoc}
use Rattle.std.proofs.lemmas.List.{take_at, drop_at, get_or_at, length_push}
use Rattle.go_bench_text.specs.Spellings.{IsPartedAt}

-- what a cut at this place is
pub record PartedThere (test : List ℕ) (at : ℕ) (pkg name : List ℕ) : Type 0 where
  pub front : pkg ≡ take at test
  pub hash : get_or test at 0 ≡ 35
  pub back : name ≡ drop (at + 1) test

pub parted_there : (test pkg name : List ℕ) (at : ℕ) → length pkg ≡ at → IsPartedAt test pkg name → PartedThere test at pkg name
parted_there test pkg name at n cut = record {
  front = sym (ap (take at) cut.joined ∙ take_at pkg (35 ∷ name) at n);
  hash = ap (λ (xs : List ℕ). get_or xs at 0) cut.joined ∙ get_or_at pkg 35 name 0 at n;
  back =
      let joined : test ≡ (pkg ++ 35 ∷ []) ++ name = cut.joined ∙ sym (append_assoc pkg (35 ∷ []) name) in
      let len : length (pkg ++ 35 ∷ []) ≡ at + 1 = length_push pkg 35 ∙ ap (λ (k : ℕ). k + 1) n in
      sym (ap (drop (at + 1)) joined ∙ drop_at (pkg ++ 35 ∷ []) name (at + 1) len);
}
