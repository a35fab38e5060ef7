-- The texts of samples, one behind the other.
use Rattle.std.proofs.Common.{◌≡◌, ℕ, List, [], ◌∷◌, ◌++◌, ◌≤◌, length, take, refl, sym, subst, ◌∙◌, ap, arith}
use Rattle.std.proofs.lemmas.{List.{append-nil, take_all}, Grind.common_steps}
use Rattle.sample_model.specs.Samples.{Measurement}
use Rattle.go_bench_text.specs.Spellings.{IsSpelling, AreSpelled}

pub spelled_more : (samples : List Measurement) (sample : Measurement) (text more : List ℕ) → AreSpelled samples text → IsSpelling sample more → AreSpelled (samples ++ sample ∷ []) (text ++ more)
spelled_more [] sample text more before is = (more, [], ap (λ (xs : List ℕ). xs ++ more) before ∙ sym (append-nil more), is, refl)
spelled_more (first ∷ samples) sample text more before is = grind (arith, common_steps, spelled_more samples sample before.1 more before.4 is)

-- all samples were taken
pub all_spelled : (samples items : List Measurement) (out : List ℕ) (place : ℕ) → items ≡ samples → length items ≤ place → AreSpelled (take place items) out → AreSpelled samples out
all_spelled samples items out place e l h = subst (λ (done : List Measurement). AreSpelled done out) (take_all place items l ∙ e) h
