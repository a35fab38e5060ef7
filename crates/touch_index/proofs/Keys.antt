-- Keys that are the same are equal.
use Rattle.std.{proofs.Common.{◌≡◌, ℕ, true, List, refl, sym, ap₂, ◌∙◌}, specs.declared.cmp.Ordering.Ordering}
use Rattle.std.specs.{declared.cmp.Ordering.TheVariants.{Less, Equal, Greater}, Ordering.{nat_cmp, is_eq, ordering_then}, Cmp.Lexicographic.slice_cmp}
use Rattle.std.proofs.lemmas.{Map.Text.is_eq-slice_cmp, Slice.Eq.bytes_eq-Decides}
use Rattle.touch_index.specs.{Marks.key_cmp, declared.key.SeriesKey.SeriesKey}

pub both : (x y : Ordering) → is_eq (ordering_then x y) ≡ true → (is_eq x ≡ true) × (is_eq y ≡ true)
both Less y h = absurd (cc)
both Equal y h = (refl, h)
both Greater y h = absurd (cc)

same-name : (one other : List ℕ) → is_eq (slice_cmp nat_cmp one other) ≡ true → one ≡ other
same-name one other same = (bytes_eq-Decides one other).0 (sym (is_eq-slice_cmp one other) ∙ same)

pub same-key : (one other : SeriesKey) → is_eq (key_cmp one other) ≡ true → one ≡ other
same-key one other same =
    let parts = both (slice_cmp nat_cmp one.test other.test) (slice_cmp nat_cmp one.metric other.metric) same in
    ap₂ (λ (t m : List ℕ). record { test = t; metric = m }) (same-name one.test other.test parts.0) (same-name one.metric other.metric parts.1)
