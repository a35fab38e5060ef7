-- A text has one reading.
use Rattle.std.proofs.{Common.{◌≡◌, ℕ, Bool, true, false, List, [], ◌∷◌, ◌++◌, refl, sym, ◌∙◌, ap, arith}, lemmas.Grind.common_steps}
use Rattle.metric_value.specs.Values.{ValueIsOne}
use Rattle.sample_model.specs.Samples.{Measurement}
use Rattle.go_bench_text.specs.{Lines.{begins, IsResult}, Readings.{IsSampleOf, PairsGive, LineGives, LinesGive, pkg_of, test_of}}
use Rattle.go_bench_text.specs.Readings.LineGives.{measured, broken, silent}

same_sample : (one other : Measurement) → one.test ≡ other.test → one.metric ≡ other.metric → one.value ≡ other.value → one ≡ other
same_sample one other e f g = grind (arith, common_steps)

-- a pair has one sample
one_sample : (test text unit : List ℕ) (sample other : Measurement) → ValueIsOne → IsSampleOf test text unit sample → IsSampleOf test text unit other → sample ≡ other
one_sample test text unit sample other law one two =
    same_sample sample other (one.of_test ∙ sym two.of_test) (one.by_metric ∙ sym two.by_metric) (law unit text sample.value other.value one.value two.value)

-- pairs have one list of samples
one_list : (test : List ℕ) (pairs : List (List ℕ)) (samples others : List Measurement) → ValueIsOne → PairsGive test pairs samples → PairsGive test pairs others → samples ≡ others
one_list test [] [] [] values one two = refl
one_list test [] [] (other ∷ others) values one two = absurd two
one_list test [] (sample ∷ samples) others values one two = absurd one
one_list test (value ∷ []) samples others values one two = absurd one
one_list test (value ∷ unit ∷ more) [] others values one two = absurd one
one_list test (value ∷ unit ∷ more) (sample ∷ samples) [] values one two = absurd two
one_list test (value ∷ unit ∷ more) (sample ∷ samples) (other ∷ others) values one two =
    ap (λ (s : Measurement). s ∷ samples) (one_sample test value unit sample other values one.0 two.0) ∙ ap (λ (ss : List Measurement). other ∷ ss) (one_list test more samples others values one.1 two.1)

-- a result line has one name and one list of pairs
pub record SameParts (name other : List ℕ) (pairs others : List (List ℕ)) : Type 0 where
  pub names : name ≡ other
  pub both : pairs ≡ others

pub same_parts : (line name other : List ℕ) (pairs others : List (List ℕ)) → IsResult line name pairs → IsResult line other others → SameParts name other pairs others
same_parts line name other pairs others one two = grind (arith, common_steps)

pub not_both : (b : Bool) → b ≡ true → b ≡ false → ⊥
not_both b e f = let no : true ≡ false = sym e ∙ f in absurd (cc)

-- a line gives one list of samples and one number of ignored lines
one_line : (before : List (List ℕ)) (line : List ℕ) (samples others : List Measurement) (ignored count : ℕ) → ValueIsOne → LineGives before line samples ignored → LineGives before line others count
    → (samples ≡ others) × (ignored ≡ count)
one_line before line samples others ignored count values (measured name pairs is gives e) (measured other more also given f) =
    let same = same_parts line other name more pairs also is in
    let there : PairsGive (test_of (pkg_of before) name) pairs others = grind (arith, common_steps) in
    (one_list (test_of (pkg_of before) name) pairs samples others values gives there, e ∙ sym f)
one_line before line samples others ignored count values (measured name pairs is gives e) (broken not_is f g) = absurd (not_is.1 (name, pairs, is))
one_line before line samples others ignored count values (measured name pairs is gives e) (silent off f g) = absurd (not_both (begins line) is.head.first off)
one_line before line samples others ignored count values (broken not_is e f) (measured name pairs is gives g) = absurd (not_is.1 (name, pairs, is))
one_line before line samples others ignored count values (broken not_is e f) (broken also g h) = (e ∙ sym g, f ∙ sym h)
one_line before line samples others ignored count values (broken not_is e f) (silent off g h) = absurd (not_both (begins line) not_is.0 off)
one_line before line samples others ignored count values (silent off e f) (measured name pairs is gives g) = absurd (not_both (begins line) is.head.first off)
one_line before line samples others ignored count values (silent off e f) (broken not_is g h) = absurd (not_both (begins line) not_is.0 off)
one_line before line samples others ignored count values (silent off e f) (silent also g h) = (e ∙ sym g, f ∙ sym h)

-- so do lines in a row
pub one_reading : ValueIsOne → (before lines : List (List ℕ)) (samples others : List Measurement) (ignored count : ℕ) → LinesGive before lines samples ignored → LinesGive before lines others count
    → (samples ≡ others) × (ignored ≡ count)
one_reading values before [] samples others ignored count one two = (one.0 ∙ sym two.0, one.1 ∙ sym two.1)
one_reading values before (line ∷ lines) samples others ignored count one two =
    let first = one_line before line one.0 two.0 one.2 two.2 values one.6 two.6 in
    let rest = one_reading values (before ++ line ∷ []) lines one.1 two.1 one.3 two.3 one.7 two.7 in
    let joined : one.0 ++ one.1 ≡ two.0 ++ two.1 = ap (λ (xs : List Measurement). xs ++ one.1) first.0 ∙ ap (λ (xs : List Measurement). two.0 ++ xs) rest.0 in
    (one.4 ∙ (joined ∙ sym two.4), omega (arith, one.5, two.5, first.1, rest.1))
