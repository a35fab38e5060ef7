-- The halving of the numbers that the middle may be.
use Rattle.std.proofs.lemmas.List.Elements.{All-head, All-tail, All-get_or, All-weaker, All-more}
use Rattle.std.proofs.Common.{[], ◌∷◌, get_or, take, nat_abs, ◌≤ℤ◌, ◌+ℤ◌, suc, ◌≡◌, ℕ, ℤ, pos, ◌+◌, ◌*◌, ◌<◌, ◌≤◌, List, length, ◌-ℤ◌, refl, sym, ap, ◌∙◌, subst, FitsSigned, w64, arith}
use Rattle.std.{specs.List.All, proofs.lemmas.List.take_all, proofs.lemmas.Int.ints}
use Rattle.segment_model.specs.Limits.{IsSmall}
use Rattle.distance_model.specs.{Middles.at_most, Distances.{distances_about, middle_of, least_distances_of}}
use Rattle.distance_model.proofs.Middles.{is_middle, le_told, le_not_told, most_yes, most_no}
use Rattle.absolute_cost.specs.{Between.{AreWider, IsBetween}, Numbers.number_of, declared.ends.Ends.Ends}

-- the middle is none below low, and none above high
pub record Halves (values : List ℤ) (least : ℤ) (span low high : ℕ) : Type 0 where
  pub order : low ≤ high
  pub last : high ≤ span
  pub half : length values ≤ 2 * at_most (number_of least high) values
  pub less : 2 * at_most (number_of least low -ℤ pos 1) values < length values

pub begins : (values : List ℤ) (least : ℤ) (span : ℕ) → 0 < length values → at_most (least -ℤ pos 1) values ≡ 0 → at_most (least +ℤ pos span) values ≡ length values → Halves values least span 0 span
begins values least span some above below =
    let e : number_of least 0 -ℤ pos 1 ≡ least -ℤ pos 1 = omega (arith, ints) in
    let less : at_most (number_of least 0 -ℤ pos 1) values ≡ 0 = subst (λ (c : ℤ). at_most c values ≡ 0) (sym e) above in
    record { order = omega arith; last = omega arith; half = omega (arith, below); less = omega (arith, less, some) }

pub lower : (values : List ℤ) (least : ℤ) (span low high mid : ℕ) → Halves values least span low high → low ≤ mid → mid < high → length values ≤ 2 * at_most (number_of least mid) values → Halves values least span low mid
lower values least span low high mid h from to test = record { order = from; last = omega (arith, h.last); half = test; less = h.less }

pub raise : (values : List ℤ) (least : ℤ) (span low high mid : ℕ) → Halves values least span low high → mid < high → 2 * at_most (number_of least mid) values < length values → Halves values least span (mid + 1) high
raise values least span low high mid h to test =
    let e : number_of least (mid + 1) -ℤ pos 1 ≡ number_of least mid = omega (arith, ints) in
    record { order = omega arith; last = h.last; half = h.half; less = subst (λ (c : ℤ). 2 * at_most c values < length values) (sym e) test }

-- a number between two small ones
pub near : (least : ℤ) (span above : ℕ) → IsSmall least → IsSmall (least +ℤ pos span) → above ≤ span → IsSmall (least +ℤ pos above)
near least span above small far h = omega (arith, ints, small, far, h)

pub ends : (values : List ℤ) (least : ℤ) (span low high : ℕ) (r : ℤ) → 0 < length values → Halves values least span low high → high ≤ low → r ≡ number_of least low → r ≡ middle_of values
ends values least span low high r some h met is =
    let e : high ≡ low = omega (arith, h.order) in
    is ∙ is_middle values (number_of least low) some (record { half = subst (λ (n : ℕ). length values ≤ 2 * at_most (number_of least n) values) e h.half; less = h.less })

pub not_above : (a b c : ℤ) → a ≤ℤ b → b ≤ℤ c → a ≤ℤ c
not_above a b c h k = omega (arith, ints, h, k)

-- ---- the least and the greatest value

pub none_under : (e : Ends) (xs : List ℤ) → All (IsBetween e) xs → at_most (e.least -ℤ pos 1) xs ≡ 0
none_under e [] h = refl
none_under e (x ∷ xs) h =
    let here : IsBetween e x = All-head (IsBetween e) x xs h in
    most_no (e.least -ℤ pos 1) x xs (le_not_told x (e.least -ℤ pos 1) (omega (arith, ints, here.0))) ∙ none_under e xs (All-tail (IsBetween e) x xs h)

add_one : (n : ℕ) → 1 + n ≡ suc n
add_one n = omega arith

pub all_up_to : (e : Ends) (xs : List ℤ) → All (IsBetween e) xs → at_most e.greatest xs ≡ length xs
all_up_to e [] h = refl
all_up_to e (x ∷ xs) h =
    let here : IsBetween e x = All-head (IsBetween e) x xs h in
    most_yes e.greatest x xs (le_told x e.greatest here.1) ∙ ap (λ (n : ℕ). 1 + n) (all_up_to e xs (All-tail (IsBetween e) x xs h)) ∙ add_one (length xs)

-- from the least to the greatest
pub spans : (values : List ℤ) (e : Ends) (span : ℕ) → 0 < length values → All (IsBetween e) values → span ≡ nat_abs (e.greatest -ℤ e.least) → e.least +ℤ pos span ≡ e.greatest
spans values e span some all s =
    let here : IsBetween e (get_or values 0 (pos 0)) = All-get_or (IsBetween e) values 0 (pos 0) some all in
    omega (arith, ints, here.0, here.1, s)

-- the sum of distances from the middle
pub least_is : (xs ys : List ℤ) (c : ℤ) → c ≡ middle_of xs → xs ≡ ys → pos (distances_about c xs) ≡ least_distances_of ys
unfolding least_distances_of
least_is xs ys c is same = ap (λ (m : ℤ). pos (distances_about m xs)) is ∙ ap (λ (zs : List ℤ). pos (distances_about (middle_of zs) zs)) same

-- ---- two numbers with values between them

-- what lies between some ends lies between wider ones
pub still : (e f : Ends) → AreWider e f → (xs : List ℤ) → All (IsBetween e) xs → All (IsBetween f) xs
still e f wider xs all =
    All-weaker (IsBetween e) (IsBetween f) (λ (x : ℤ) (h : IsBetween e x). (not_above f.least e.least x wider.0 h.0, not_above x e.greatest f.greatest h.1 wider.1)) xs all

pub wider : (e f g : Ends) → AreWider e f → AreWider f g → AreWider e g
wider e f g one two = (not_above g.least f.least e.least two.0 one.0, not_above e.greatest f.greatest g.greatest one.1 two.1)

-- with one value more
pub between_more : (values : List ℤ) (i : ℕ) (e f : Ends) → i < length values → All (IsBetween e) (take i values) → AreWider e f → IsBetween f (get_or values i (pos 0)) → All (IsBetween f) (take (i + 1) values)
between_more values i e f within all h k = All-more (IsBetween f) values i (pos 0) within (still e f h (take i values) all) k

pub between_all : (values : List ℤ) (i : ℕ) (e : Ends) → length values ≤ i → All (IsBetween e) (take i values) → All (IsBetween e) values
between_all values i e end all = subst (λ (xs : List ℤ). All (IsBetween e) xs) (take_all i values end) all

-- a small value fits a word
pub small-fits : (v : ℤ) → IsSmall v → FitsSigned w64 v
small-fits v small = omega (arith, ints, small)

pub value-fits : (values : List ℤ) → All IsSmall values → (i : ℕ) → i < length values → FitsSigned w64 (get_or values i (pos 0))
value-fits values small i lt = small-fits (get_or values i (pos 0)) (small i (pos 0) lt)
