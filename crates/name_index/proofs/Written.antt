-- What one write makes of what is found of names, and of pairs of them.
use Rattle.std.proofs.{Common.{◌≡◌, ℕ, Bool, true, cond, ◌&&◌, List, [], sym, ap, ap₂, ◌∙◌, Option, Some, inl, inr, arith}, lemmas.Grind.common_steps}
use Rattle.std.specs.{Prelude.{unwrap_or}, Cmp.Lexicographic.slice_cmp, Ordering.nat_cmp}
use Rattle.std.proofs.lemmas.{Bool.cases_Bool, Map.Text.is_eq-slice_cmp, Slice.Eq.bytes_eq-Decides}
use Rattle.name_index.specs.{Found.{found, IsWritten}, Pairs.{Named, Pairs, is_same, found_name, found_pair}}

-- names that are the same are equal
pub same-name : (one other : List ℕ) → is_same one other ≡ true → one ≡ other
same-name one other same = (bytes_eq-Decides one other).0 (sym (is_eq-slice_cmp one other) ∙ same)

both : (a b : Bool) → (a && b) ≡ true → (a ≡ true) × (b ≡ true)
both a b h = grind (arith, common_steps)

pub either-same : {A : Type 0} (b : Bool) (x : A) → cond b x x ≡ x
either-same b x = grind (arith, common_steps)

-- what is read of a choice
pub read-cond : {A B : Type 0} (g : A → B) (b : Bool) (x y : A) → g (cond b x y) ≡ cond b (g x) (g y)
read-cond g b x y = grind (arith, common_steps)

pub fixed-pair : {A : Type 0} (look : List ℕ → List ℕ → A) (f : A → A) (first second : List ℕ) → f (look first second) ≡ look first second
    → (t m : List ℕ) → look t m ≡ cond (is_same first t && is_same second m) (f (look t m)) (look t m)
fixed-pair look f first second fixed t m = elim (cases_Bool (is_same first t && is_same second m)) [
  | inl hit ↦
      let parts = both (is_same first t) (is_same second m) hit in
      let here : look first second ≡ look t m = ap₂ look (same-name first t parts.0) (same-name second m parts.1) in
      sym (ap (λ b. cond b (f (look t m)) (look t m)) hit ∙ ap f (sym here) ∙ fixed ∙ here)
  | inr miss ↦ sym (ap (λ b. cond b (f (look t m)) (look t m)) miss)
]

module _ {T : Type 0} where
  -- ---- a write at a name
  pub read-name : {A : Type 0} (g : Option T → A) (f : A → A) (name : List ℕ) (value : Option T) (before after : Named T)
      → IsWritten (slice_cmp nat_cmp) name value before after → g value ≡ f (g (found_name name before))
      → (q : List ℕ) → g (found_name q after) ≡ cond (is_same name q) (f (g (found_name q before))) (g (found_name q before))
  read-name g f name value before after written is q =
      ap g (written q) ∙ read-cond g (is_same name q) value (found_name q before) ∙ elim (cases_Bool (is_same name q)) [
        | inl hit ↦
            ap (λ b. cond b (g value) (g (found_name q before))) hit ∙ is ∙ ap (λ (n : List ℕ). f (g (found_name n before))) (same-name name q hit)
            ∙ sym (ap (λ b. cond b (f (g (found_name q before))) (g (found_name q before))) hit)
        | inr miss ↦
            ap (λ b. cond b (g value) (g (found_name q before))) miss ∙ sym (ap (λ b. cond b (f (g (found_name q before))) (g (found_name q before))) miss)
      ]

  -- ---- a write of other second names at a first one
  module _ (es now after : Pairs T) (view_is : es ≡ now) (first : List ℕ) (v new : Named T)
      (here : unwrap_or (found (slice_cmp nat_cmp) first es) [] ≡ v) (written : IsWritten (slice_cmp nat_cmp) first (Some new) es after) where
    pub read-pair : {A : Type 0} (g : Option T → A) (f : A → A) (second : List ℕ)
        → ((m : List ℕ) → g (found_name m new) ≡ cond (is_same second m) (f (g (found_name m v))) (g (found_name m v)))
        → (t m : List ℕ) → g (found_pair t m after) ≡ cond (is_same first t && is_same second m) (f (g (found_pair t m now))) (g (found_pair t m now))
    read-pair {A = A} g f second inner t m =
        let read : Option (Named T) → A = λ o. g (found_name m (unwrap_or o [])) in
        ap read (written t)
        ∙ elim (cases_Bool (is_same first t)) [
          | inl hit ↦
              let v_is : v ≡ unwrap_or (found (slice_cmp nat_cmp) t es) [] =
              sym here ∙ ap (λ (n : List ℕ). unwrap_or (found (slice_cmp nat_cmp) n es) []) (same-name first t hit) in
              ap (λ b. read (cond b (Some new) (found (slice_cmp nat_cmp) t es))) hit
              ∙ inner m
              ∙ ap (λ (xs : Named T). cond (is_same second m) (f (g (found_name m xs))) (g (found_name m xs))) v_is
              ∙ ap (λ b. cond (b && is_same second m) (f (g (found_pair t m es))) (g (found_pair t m es))) (sym hit)
          | inr miss ↦
              ap (λ b. read (cond b (Some new) (found (slice_cmp nat_cmp) t es))) miss
              ∙ ap (λ b. cond (b && is_same second m) (f (g (found_pair t m es))) (g (found_pair t m es))) (sym miss)
        ]
        ∙ ap (λ (xs : Pairs T). cond (is_same first t && is_same second m) (f (g (found_pair t m xs))) (g (found_pair t m xs))) view_is

    pub same-pair : {A : Type 0} (g : Option T → A) → ((m : List ℕ) → g (found_name m new) ≡ g (found_name m v)) → (t m : List ℕ) → g (found_pair t m after) ≡ g (found_pair t m now)
    same-pair g inner t m =
        read-pair g (λ x. x) m (λ q. inner q ∙ sym (either-same (is_same m q) (g (found_name q v)))) t m
        ∙ either-same (is_same first t && is_same m m) (g (found_pair t m now))
