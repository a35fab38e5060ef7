-- The text of a list whose items are appended one after another, and of the members round lists.
use Rattle.std.proofs.Common.{◌≡◌, ℕ, Bool, true, ◌+◌, ◌<◌, ◌≤◌, List, [], ◌∷◌, ◌++◌, map, drop, length, get_or, refl, sym, ap, ◌∙◌, append_assoc}
use Rattle.std.{specs.Prelude.{codes, decimal}, proofs.lemmas.List.{at_drop_more, at_drop_all}}
use Rattle.json.specs.Print.{quoted}
use Rattle.serde_json.specs.{Data.{Data, array}, View.items_of, Written.{comma_if, compact_text, items_text}}
use Rattle.serde_json.proofs.OnLiterals.{serde_json_on_literals}
use Rattle.report_model.specs.declared.pages.Pages.{Pages}
use Rattle.report_pages.specs.{Json.{job_data, regression_data, series_data, pages_json}, Lists.lists_text}

joined : (a b c d : List ℕ) → (a ++ (b ++ c)) ++ d ≡ a ++ (b ++ (c ++ d))
joined a b c d = simp append_assoc

module _ {X : Type 0} (f : X → Data) where
  -- what is to come of the items
  abbrev pub rest_text : Bool → List X → List ℕ
  rest_text later xs = items_text later (items_of (map f xs))

  pub item_more : (xs : List X) (i : ℕ) (x : X) (later : Bool) (at after all : List ℕ) → i < length xs → x ≡ get_or xs i x
      → at ++ rest_text later (drop i xs) ≡ all → after ≡ at ++ (comma_if later ++ compact_text (f x))
      → after ++ rest_text true (drop (i + 1) xs) ≡ all
  item_more xs i x later at after all within is stood e =
      let rest : List X = drop (i + 1) xs in
      ap (λ (l : List ℕ). l ++ rest_text true rest) e
      ∙ joined at (comma_if later) (compact_text (f x)) (rest_text true rest)
      ∙ ap (λ (y : X). at ++ rest_text later (y ∷ rest)) is
      ∙ ap (λ (l : List ℕ). at ++ l) (sym (at_drop_more (rest_text later) xs i x within))
      ∙ stood

  pub items_end : (xs : List X) (i : ℕ) (later : Bool) (at after all : List ℕ) → length xs ≤ i
      → at ++ rest_text later (drop i xs) ≡ all → after ≡ at ++ codes "]" → after ≡ all
  items_end xs i later at after all past stood e =
      e ∙ ap (λ (l : List ℕ). at ++ l) (sym (at_drop_all (rest_text later) xs i past)) ∙ stood

-- the members before the step, behind what stood there
pub lists_behind : (o a j b m c r d s : List ℕ)
    → (((((((o ++ a) ++ j) ++ b) ++ m) ++ c) ++ r) ++ d) ++ s ≡ o ++ (((((((a ++ j) ++ b) ++ m) ++ c) ++ r) ++ d) ++ s)
lists_behind o a j b m c r d s = simp append_assoc

-- an object of five members, by the texts of their keys and values
abbrev five : (a b c d e j m r s n : List ℕ) → List ℕ
five a b c d e j m r s n =
    123 ∷ (a ++ 58 ∷ (j ++ 44 ∷ (b ++ 58 ∷ (m ++ 44 ∷ (c ++ 58 ∷ (r ++ 44 ∷ (d ++ 58 ∷ (s ++ 44 ∷ (e ++ 58 ∷ (n ++ 125 ∷ []))))))))))

same_keys : (a b c d e a' b' c' d' e' j m r s n : List ℕ) → a ≡ a' → b ≡ b' → c ≡ c' → d ≡ d' → e ≡ e'
    → five a b c d e j m r s n ≡ five a' b' c' d' e' j m r s n
same_keys a b c d e a' b' c' d' e' j m r s n p q u v w = rw (p, q, u, v, w) refl

-- the keys between quotes
keys : (quoted (codes "jobs") ≡ codes "\"jobs\"") × (quoted (codes "machine") ≡ codes "\"machine\"") × (quoted (codes "regressions") ≡ codes "\"regressions\"")
    × (quoted (codes "series") ≡ codes "\"series\"") × (quoted (codes "step") ≡ codes "\"step\"")
unfolding serde_json_on_literals
keys = (refl, refl, refl, refl, refl)

in_order : (j m r s n : List ℕ)
    → ((((((((codes "{\"jobs\":" ++ j) ++ codes ",\"machine\":") ++ m) ++ codes ",\"regressions\":") ++ r) ++ codes ",\"series\":") ++ s)
    ++ codes ",\"step\":" ++ n) ++ codes "}\n"
    ≡ five (codes "\"jobs\"") (codes "\"machine\"") (codes "\"regressions\"") (codes "\"series\"") (codes "\"step\"") j m r s n ++ codes "\n"
in_order j m r s n = simp append_assoc

-- what is put one part after another is the text of the whole
pub whole_text : (p : Pages) → ((lists_text p ++ codes ",\"step\":") ++ decimal p.step) ++ codes "}\n" ≡ pages_json p
whole_text p =
    let j : List ℕ = compact_text (array (items_of (map job_data p.jobs))) in
    let m : List ℕ = quoted p.machine in
    let r : List ℕ = compact_text (array (items_of (map regression_data p.regressions))) in
    let s : List ℕ = compact_text (array (items_of (map series_data p.series))) in
    let n : List ℕ = decimal p.step in
    in_order j m r s n
    ∙ ap (λ (l : List ℕ). l ++ codes "\n") (sym (same_keys _ _ _ _ _ _ _ _ _ _ j m r s n keys.0 keys.1 keys.2 keys.3 keys.4))
