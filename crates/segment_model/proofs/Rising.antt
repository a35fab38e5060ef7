-- Rising lists of numbers, and the numbers of a list in rising order.
use Rattle.std.proofs.Common.{◌≡◌, ℕ, suc, ◌<◌, ◌≤◌, ◌⊎◌, inl, inr, List, [], ◌∷◌, ◌++◌, length, refl, sym, ap, ◌∙◌, arith, nat_lt, if◌then◌else◌, ◌==◌}
use Rattle.std.proofs.lemmas.{Bool.cases_order, Grind.common_steps}
use Rattle.segment_model.specs.Brought.{in_place, rising}

abbrev pub IsIn : ℕ → List ℕ → Type 0
IsIn c [] = ⊥
IsIn c (x ∷ xs) = (c ≡ x) ⊎ IsIn c xs

abbrev pub RisesFrom : ℕ → List ℕ → Type 0
RisesFrom low [] = Unit {0}
RisesFrom low (x ∷ xs) = (low ≤ x) × RisesFrom (suc x) xs

pub rises-lower : (low lower : ℕ) (xs : List ℕ) → lower ≤ low → RisesFrom low xs → RisesFrom lower xs
rises-lower low lower [] le rises = tt
rises-lower low lower (x ∷ xs) le rises = (omega (arith, rises.0), rises.1)

pub in-bound : (low c : ℕ) (xs : List ℕ) → RisesFrom low xs → IsIn c xs → low ≤ c
in-bound low c [] rises is_in = absurd is_in
in-bound low c (x ∷ xs) rises is_in = elim is_in [ inl e ↦ omega (arith, e, rises.0) | inr later ↦ omega (arith, rises.0, in-bound (suc x) c xs rises.1 later) ]

-- a rising list whose numbers all stand in another is no longer
pub no-longer : (low : ℕ) (xs ys : List ℕ) → RisesFrom low xs → RisesFrom low ys → ((c : ℕ) → IsIn c xs → IsIn c ys) → length xs ≤ length ys
no-longer low [] ys rx ry all = omega arith
no-longer low (x ∷ xs) [] rx ry all = absurd (all x (inl refl))
no-longer low (x ∷ xs) (y ∷ ys) rx ry all = elim (cases_order x y) [
  | inl same ↦
      let rest : length xs ≤ length ys = no-longer (suc x) xs ys rx.1 (rw (← same) at ry.1) (λ c is_in. elim (all c (inr is_in)) [
        | inl e ↦ absurd (omega (arith, e, same, in-bound (suc x) c xs rx.1 is_in))
        | inr later ↦ later
      ]) in omega (arith, rest)
  | inr other ↦ elim other [
    | inl below ↦ absurd (elim (all x (inl refl)) [ inl e ↦ omega (arith, e, below) | inr later ↦ omega (arith, below, in-bound (suc y) x ys ry.1 later) ])
    | inr above ↦
        let rest : length (x ∷ xs) ≤ length ys = no-longer (suc y) (x ∷ xs) ys (above, rx.1) ry.1 (λ c is_in. elim (all c is_in) [
          | inl e ↦ absurd (omega (arith, e, above, in-bound x c (x ∷ xs) (omega arith, rx.1) is_in))
          | inr later ↦ later
        ]) in omega (arith, rest)
  ]
]

pub in-place-cases : {A : Type 0} (c d : ℕ) (x y z : A) (P : A → Type 0) → (c < d → P x) → (d ≡ c → P y) → (d < c → P z) → P (if nat_lt c d then x else (if d == c then y else z))
in-place-cases c d x y z P below same above = grind (arith, common_steps)

pub in_place-rises : (low c : ℕ) (ds : List ℕ) → low ≤ c → RisesFrom low ds → RisesFrom low (in_place c ds)
in_place-rises low c [] le rises = (le, tt)
in_place-rises low c (d ∷ ds) le rises =
    in-place-cases c d (c ∷ d ∷ ds) (d ∷ ds) (d ∷ in_place c ds) (RisesFrom low)
    (λ lt. (le, (omega (arith, lt), rises.1)))
    (λ e. rises)
    (λ gt. (rises.0, in_place-rises (suc d) c ds (omega (arith, gt)) rises.1))

pub in_place-has : (c d : ℕ) (ds : List ℕ) → (c ≡ d) ⊎ IsIn c ds → IsIn c (in_place d ds)
in_place-has c d [] is_in = is_in
in_place-has c d (e ∷ ds) is_in =
    in-place-cases d e (d ∷ e ∷ ds) (e ∷ ds) (e ∷ in_place d ds) (IsIn c)
    (λ lt. is_in)
    (λ same. elim is_in [ inl at ↦ inl (at ∙ sym same) | inr later ↦ later ])
    (λ gt. elim is_in [ inl at ↦ inr (in_place-has c d ds (inl at)) | inr later ↦ elim later [ inl at ↦ inl at | inr there ↦ inr (in_place-has c d ds (inr there)) ] ])

pub in_place-only : (c d : ℕ) (ds : List ℕ) → IsIn c (in_place d ds) → (c ≡ d) ⊎ IsIn c ds
in_place-only c d [] = λ is_in. is_in
in_place-only c d (e ∷ ds) = grind (arith, common_steps, in_place-only c d ds)

pub rising-rises : (cs : List ℕ) → RisesFrom 0 (rising cs)
rising-rises [] = tt
rising-rises (c ∷ cs) = in_place-rises 0 c (rising cs) (omega arith) (rising-rises cs)

pub rising-has : (c : ℕ) (cs : List ℕ) → IsIn c cs → IsIn c (rising cs)
rising-has c [] is_in = is_in
rising-has c (d ∷ cs) is_in = in_place-has c d (rising cs) (elim is_in [ inl at ↦ inl at | inr later ↦ inr (rising-has c cs later) ])

pub rising-only : (c : ℕ) (cs : List ℕ) → IsIn c (rising cs) → IsIn c cs
rising-only c [] is_in = is_in
rising-only c (d ∷ cs) is_in = elim (in_place-only c d (rising cs) is_in) [ inl at ↦ inl at | inr later ↦ inr (rising-only c cs later) ]

pub rising-fewer : (xs ys : List ℕ) → ((c : ℕ) → IsIn c xs → IsIn c ys) → length (rising xs) ≤ length (rising ys)
rising-fewer xs ys all = no-longer 0 (rising xs) (rising ys) (rising-rises xs) (rising-rises ys) (λ c is_in. rising-has c ys (all c (rising-only c xs is_in)))

-- two rising lists of the same numbers are equal
pub same-rising : (low : ℕ) (xs ys : List ℕ) → RisesFrom low xs → RisesFrom low ys → ((c : ℕ) → IsIn c xs → IsIn c ys) → ((c : ℕ) → IsIn c ys → IsIn c xs) → xs ≡ ys
same-rising low [] [] rx ry to from = refl
same-rising low [] (y ∷ ys) rx ry to from = absurd (from y (inl refl))
same-rising low (x ∷ xs) [] rx ry to from = absurd (to x (inl refl))
same-rising low (x ∷ xs) (y ∷ ys) rx ry to from = elim (cases_order x y) [
  | inl same ↦ ap (λ c. c ∷ xs) same ∙ ap (λ zs. y ∷ zs) (same-rising (suc x) xs ys rx.1 (rw (← same) at ry.1)
      (λ c is_in. elim (to c (inr is_in)) [ inl e ↦ absurd (omega (arith, e, same, in-bound (suc x) c xs rx.1 is_in)) | inr later ↦ later ])
      (λ c is_in. elim (from c (inr is_in)) [ inl e ↦ absurd (omega (arith, e, same, in-bound (suc y) c ys ry.1 is_in)) | inr later ↦ later ]))
  | inr other ↦ elim other [
    | inl below ↦ absurd (elim (to x (inl refl)) [ inl e ↦ omega (arith, e, below) | inr later ↦ omega (arith, below, in-bound (suc y) x ys ry.1 later) ])
    | inr above ↦ absurd (elim (from y (inl refl)) [ inl e ↦ omega (arith, e, above) | inr later ↦ omega (arith, above, in-bound (suc x) y xs rx.1 later) ])
  ]
]

pub in-append : (c : ℕ) (xs ys : List ℕ) → IsIn c (xs ++ ys) → IsIn c xs ⊎ IsIn c ys
in-append c [] ys is_in = inr is_in
in-append c (x ∷ xs) ys is_in = elim is_in [ inl at ↦ inl (inl at) | inr later ↦ elim (in-append c xs ys later) [ inl there ↦ inl (inr there) | inr there ↦ inr there ] ]

pub append-in : (c : ℕ) (xs ys : List ℕ) → IsIn c xs ⊎ IsIn c ys → IsIn c (xs ++ ys)
append-in c [] ys is_in = elim is_in [ inl none ↦ absurd none | inr there ↦ there ]
append-in c (x ∷ xs) ys is_in = elim is_in [
  | inl first ↦ elim first [ inl at ↦ inl at | inr later ↦ inr (append-in c xs ys (inl later)) ]
  | inr there ↦ inr (append-in c xs ys (inr there))
]

-- a number more at the end is put in its place
pub rising-push : (cs : List ℕ) (c : ℕ) → rising (cs ++ c ∷ []) ≡ in_place c (rising cs)
rising-push cs c = same-rising 0 (rising (cs ++ c ∷ [])) (in_place c (rising cs))
    (rising-rises (cs ++ c ∷ [])) (in_place-rises 0 c (rising cs) (omega arith) (rising-rises cs))
    (λ d is_in. in_place-has d c (rising cs) (elim (in-append d cs (c ∷ []) (rising-only d (cs ++ c ∷ []) is_in)) [
      | inl there ↦ inr (rising-has d cs there)
      | inr last ↦ elim last [ inl at ↦ inl at | inr none ↦ absurd none ]
    ]))
    (λ d is_in. rising-has d (cs ++ c ∷ []) (append-in d cs (c ∷ []) (elim (in_place-only d c (rising cs) is_in) [
      | inl at ↦ inr (inl at)
      | inr there ↦ inl (rising-only d cs there)
    ])))
