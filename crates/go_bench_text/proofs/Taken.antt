-- The pairs of a line as far as they were read.
use Rattle.std.proofs.{Common.{◌≡◌, ℕ, ◌<◌, ◌≤◌, inl, inr, List, [], ◌∷◌, ◌++◌, length, refl, sym, ap, subst, arith}, lemmas.Grind.common_steps}
use Rattle.std.{specs.List.All, proofs.lemmas.List.{append-nil, length-map}, proofs.lemmas.List.Elements.All-append}
use Rattle.sample_model.specs.Samples.{Measurement}
use Rattle.metric_value.specs.Values.{HasNoneInRange}
use Rattle.go_bench_text.specs.{Lines.ArePairs, Pairs.{IsPair, IsPairOf, sample_of, samples_of, ReadsPairs}, Readings.{HasLarge, PairsGive}}
use Rattle.go_bench_text.specs.declared.pairs.Pair.{Pair}

-- these pairs stand in front of the rest
pub record Taken (fields rest : List (List ℕ)) (pairs : List Pair) : Type 0 where
  pub gives : (test : List ℕ) (more : List Measurement) → PairsGive test rest more → PairsGive test fields (samples_of test pairs ++ more)
  pub on : ArePairs rest → ArePairs fields
  pub back : ArePairs fields → ArePairs rest
  pub large : HasLarge fields → HasLarge rest
  pub larger : HasLarge rest → HasLarge fields
  pub each : All IsPair pairs

pub taken_none : (fields : List (List ℕ)) (pairs : List Pair) → pairs ≡ [] → Taken fields fields pairs
taken_none fields pairs e = grind (arith, common_steps)

one : (pair : Pair) → IsPair pair → All IsPair (pair ∷ [])
one pair is x2 d l = grind (arith, common_steps)

in_front : (test : List ℕ) (pairs : List Pair) (pair : Pair) (more : List Measurement) → samples_of test (pairs ++ pair ∷ []) ++ more ≡ samples_of test pairs ++ sample_of test pair ∷ more
in_front test pairs pair more = grind (arith, common_steps)

in_range : (value unit : List ℕ) (pair : Pair) → IsPairOf value unit pair → ¬ HasNoneInRange unit value
in_range value unit pair of none = omega (arith, of.is.within, none pair.value of.gives)

pub taken_more : (fields more : List (List ℕ)) (value unit : List ℕ) (pairs after : List Pair) (pair : Pair) → Taken fields (value ∷ unit ∷ more) pairs → IsPairOf value unit pair → after ≡ pairs ++ pair ∷ [] → Taken fields more after
taken_more fields more value unit pairs after pair taken of e = subst (Taken fields more) (sym e) (record {
  gives = λ test rest given. subst (PairsGive test fields) (sym (in_front test pairs pair rest)) (taken.gives test (sample_of test pair ∷ rest) (record { of_test = refl; by_metric = of.same; value = of.gives }, given));
  on = λ h. taken.on (of.numeral, subst (λ (u : List ℕ). length u ≤ 64) of.same of.is.short, h);
  back = λ h. (taken.back h).2;
  large = λ h. later (taken.large h);
  larger = λ h. taken.larger (inr h);
  each = All-append IsPair pairs (pair ∷ []) taken.each (one pair of.is);
}) where
  later : HasLarge (value ∷ unit ∷ more) → HasLarge more
  later (inl h) = absurd (in_range value unit pair of h)
  later (inr h) = h

-- no samples are those of no fields
no_fields : (fields : List (List ℕ)) → PairsGive [] fields [] → fields ≡ []
no_fields fields h = grind (arith, common_steps)

some_fields : (fields : List (List ℕ)) (samples : List Measurement) → PairsGive [] fields samples → 0 < length samples → 0 < length fields
some_fields fields samples h l = grind (arith, common_steps)

all_given : (fields rest : List (List ℕ)) (pairs : List Pair) (test : List ℕ) → Taken fields rest pairs → rest ≡ [] → PairsGive test fields (samples_of test pairs)
all_given fields rest pairs test taken e = subst (PairsGive test fields) (append-nil (samples_of test pairs)) (taken.gives test [] (subst (λ (fs : List (List ℕ)). PairsGive test fs []) (sym e) tt))

pub taken_all : (fields rest : List (List ℕ)) (pairs : List Pair) → Taken fields rest pairs → rest ≡ [] → 0 < length pairs → ReadsPairs fields pairs
taken_all fields rest pairs taken e some = record {
  some = some_fields fields (samples_of [] pairs) (all_given fields rest pairs [] taken e) (omega (arith, some, length-map pairs (sample_of [])));
  paired = taken.on (subst ArePairs (sym e) tt);
  gives = λ test. all_given fields rest pairs test taken e;
  in_range = λ h. subst HasLarge e (taken.large h);
  each = taken.each;
  any = some;
}

-- where no pair was taken there are no fields
pub taken_no : (fields rest : List (List ℕ)) (pairs : List Pair) → Taken fields rest pairs → rest ≡ [] → pairs ≡ [] → 0 < length fields → ⊥
taken_no fields rest pairs taken e none some =
    let empty : fields ≡ [] = no_fields fields (subst (λ (ps : List Pair). PairsGive [] fields (samples_of [] ps)) none (all_given fields rest pairs [] taken e)) in
    omega (arith, some, ap (λ (fs : List (List ℕ)). length fs) empty)
