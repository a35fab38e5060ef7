-- Prefix sums with a position more, and of the first positions.
use Rattle.std.proofs.Common.{◌≡◌, ℕ, ℤ, zero, suc, ◌+◌, ◌-◌, ◌≤◌, List, [], ◌∷◌, ◌++◌, length, slice_index_or, take, drop, All, refl, sym, ap, ◌∙◌, inl, inr, pos, ◌-ℤ◌, arith}
use Rattle.std.proofs.lemmas.{Bool.cases_lt, List.{length-append, length-take, take-append-drop, get_or_append_left, get_or_push, get_or-take}}
use Rattle.std.proofs.lemmas.List.Elements.{All-tail}
use Rattle.segment_model.specs.{Limits.IsSmall, Laws.{SumsAdd, SmallSumsAreInRange}}
use Rattle.segment_model.specs.Values.{values_between, AreWithinLimits, ValuesHaveParts, ValuesAreWithinLimits, FrontHasSameValues, FrontIsWithinLimits, NextValuesFollow}
use Rattle.prefix_sums.{specs.declared.sums.Sums.Sums, specs.Sums.{AreSums, IsInRange}, specs.Prefixes.ArePrefixSums, proofs.Ranges.{range-of, sums-between}}

-- some sums, of some values
abbrev pub Are : List ℤ → Sums → Type 0
Are values x = AreSums values x.count x.sum x.squares

-- the sums that were read for place t
pub up-to : (ps : List (List ℤ)) (sums : List Sums) → ArePrefixSums ps sums → (t : ℕ) (x : Sums) → t ≤ length ps
    → (t ≡ 0 → x ≡ record { count = 0; sum = pos 0; squares = pos 0 }) → ((i : ℕ) (d : Sums) → t ≡ i + 1 → x ≡ slice_index_or sums i d)
    → Are (values_between ps 0 t) x
up-to ps sums h zero x le none some = rw (none refl) (record { counted = refl; summed = refl; squared = refl })
up-to ps sums h (suc i) x le none some =
    let e : i + 1 ≡ suc i = omega arith in
    rw (some i x (sym e), ← e) (h.summed i x (omega arith))

pub up-to-range : SmallSumsAreInRange → ValuesAreWithinLimits → (ps : List (List ℤ)) → AreWithinLimits ps → (t : ℕ) (x : Sums) → t ≤ length ps
    → Are (values_between ps 0 t) x → IsInRange x.count x.sum x.squares
up-to-range ranges limits ps within t x le are =
    let small = limits ps within 0 t (omega arith) le in
    range-of ranges (values_between ps 0 t) x.count x.sum x.squares small.0 small.1 are

-- the sums of a segment, as differences of prefix sums
pub part-are : SumsAdd → ValuesHaveParts → (ps : List (List ℤ)) (s t : ℕ) (x y : Sums) → s ≤ t → Are (values_between ps 0 s) x → Are (values_between ps 0 t) y
    → AreSums (values_between ps s t) (y.count - x.count) (y.sum -ℤ x.sum) (y.squares -ℤ x.squares)
part-are add parts ps s t x y le from to =
    sums-between add (values_between ps 0 s) (values_between ps s t) (values_between ps 0 t) x.count y.count x.sum y.sum x.squares y.squares
    (parts ps 0 s t (omega arith) le) from to

module _ (ps : List (List ℤ)) (sums : List Sums) (h : ArePrefixSums ps sums) where
  -- with a position more
  pub pushed : FrontHasSameValues → NextValuesFollow → (values : List ℤ) (x : Sums) → AreWithinLimits (ps ++ values ∷ [])
      → Are (values_between ps 0 (length ps) ++ values) x → ArePrefixSums (ps ++ values ∷ []) (sums ++ x ∷ [])
  pushed front next values x within are = record {
    within = within;
    as_many = omega (arith, h.as_many, length-append ps (values ∷ []), length-append sums (x ∷ []));
    summed = λ i d lt. elim (cases_lt i (length ps)) [
      | inl before ↦
          rw (get_or_append_left sums (x ∷ []) d i (omega (arith, h.as_many)), front ps (values ∷ []) 0 (i + 1) (omega arith) (omega arith)) (h.summed i d before)
      | inr behind ↦
          let at : i ≡ length ps = omega (arith, length-append ps (values ∷ [])) in
          let e : length sums ≡ length ps = h.as_many in
          rw (at, get_or_push sums x d (length ps) e, next ps values) are
    ];
  }

  -- of the first positions
  pub cut : FrontHasSameValues → FrontIsWithinLimits → (k : ℕ) → k ≤ length ps → ArePrefixSums (take k ps) (take k sums)
  cut front within k le =
      let whole : take k ps ++ drop k ps ≡ ps = take-append-drop k ps in
      let size : length (take k ps) ≡ k = length-take k ps ∙ omega arith in
      record {
        within = within (take k ps) (drop k ps) (rw whole h.within);
        as_many = omega (arith, size, length-take k sums, h.as_many);
        summed = λ i d lt.
            rw (get_or-take k sums i d (omega (arith, size)), ← front (take k ps) (drop k ps) 0 (i + 1) (omega arith) (omega (arith, size)), whole) (h.summed i d (omega (arith, size)));
      }

pub counts-rise : ValuesHaveParts → (ps : List (List ℤ)) (s t : ℕ) (x y : Sums) → s ≤ t → Are (values_between ps 0 s) x → Are (values_between ps 0 t) y → x.count ≤ y.count
counts-rise parts ps s t x y le from to =
    omega (arith, from.counted, to.counted, ap length (parts ps 0 s t (omega arith) le) ∙ length-append (values_between ps 0 s) (values_between ps s t))

-- the values of a position that may be pushed are small, and few with those before
module _ (next : NextValuesFollow) (limits : ValuesAreWithinLimits) (ps : List (List ℤ)) (values : List ℤ) (within : AreWithinLimits (ps ++ values ∷ [])) where
  all_of : All IsSmall (values_between (ps ++ values ∷ []) 0 (length ps + 1)) × (length (values_between (ps ++ values ∷ []) 0 (length ps + 1)) ≤ 65_536)
  all_of = limits (ps ++ values ∷ []) within 0 (length ps + 1) (omega arith) (omega (arith, length-append ps (values ∷ [])))

  pub last-few : length (values_between ps 0 (length ps)) + length values ≤ 65_536
  last-few = omega (arith, all_of.1, ap length (next ps values) ∙ length-append (values_between ps 0 (length ps)) values)

  pub last-small : All IsSmall values
  last-small = right (values_between ps 0 (length ps)) values (rw (next ps values) at all_of.0)
    where
      right : (xs ys : List ℤ) → All IsSmall (xs ++ ys) → All IsSmall ys
      right [] ys h = h
      right (x ∷ xs) ys h = right xs ys (All-tail IsSmall x (xs ++ ys) h)
