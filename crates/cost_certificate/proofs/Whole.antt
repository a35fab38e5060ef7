-- Rows and places that hold are the whole tables.
use Rattle.std.proofs.{Common.{◌≡◌, ℕ, ℤ, ◌^◌, ◌<◌, ◌≤◌, List, inl, inr, pos, neg_ℤ, ◌≤ℤ◌, arith}, lemmas.Int.ints}
use Rattle.segment_model.specs.{Tables.{IsTable, IsOpenAt, IsUnmarkedBefore, IsVerified}, Laws.TotalsAreInRange}
use Rattle.cost_certificate.specs.{declared.tables.Tables.Tables, Checks.{PlaceHolds, RowHolds, cost_in, last_cut_at, last_place, total_at}}
use Rattle.cost_certificate.specs.Totals.{AreCosts, AreTotals}

module _ (tables : Tables) where
  -- what the rows and the places tell, once each of them holds
  abbrev pub IsLookedAt : Type 0
  IsLookedAt = IsVerified (cost_in tables) (last_place tables) tables.penalty tables.len tables.least.now tables.back.now tables.pruned.now

  pub verified : total_at tables 0 ≡ neg_ℤ tables.penalty → last_cut_at tables 0 ≡ 0
      → ((t : ℕ) → 0 < t → t ≤ last_place tables → RowHolds tables t) → ((s : ℕ) → s ≤ last_place tables → PlaceHolds tables s) → IsLookedAt
  verified first first_back rows places = record {
    tables = record { least_length = tables.least_length; back_length = tables.back_length; pruned_length = tables.pruned_length; least_at_none = first; back_at_none = first_back };
    before = λ t some le. (rows t some le).0;
    made = λ t some le. (rows t some le).1;
    at_most = λ s t is le open'. (((places s (omega (arith, is.0, le))).1 t is.0 le open').0 is open').0;
    earlier = λ s t lt is le open'. (((places s (omega (arith, is.0, le))).1 t is.0 le open').0 is open').1 lt;
    marked = λ s le. (places s le).0;
    dear = λ s t above le unmarked. (((places s (omega (arith, above, le))).1 t above le (opened s t unmarked)).1 unmarked).0;
    cheap = λ s t above le unmarked. (((places s (omega (arith, above, le))).1 t above le (opened s t unmarked)).1 unmarked).1;
  }
    where
      opened : (s t : ℕ) → IsUnmarkedBefore tables.pruned.now s t → IsOpenAt tables.len tables.pruned.now s t
      opened s t unmarked = elim unmarked [ inl none ↦ inl none | inr before ↦ inr (omega (arith, before, tables.is_length.0)) ]

  module _ (h : IsLookedAt) where
    pub rows-hold : (t : ℕ) → 0 < t → t ≤ last_place tables → RowHolds tables t
    rows-hold t some le = (h.before t some le, h.made t some le)

    pub places-hold : (s : ℕ) → s ≤ last_place tables → PlaceHolds tables s
    places-hold s le = (
      h.marked s le,
      λ t above within open'. (
        (λ is open''. (h.at_most s t is within open'', λ lt. h.earlier s t lt is within open'')),
        (λ unmarked. (h.dear s t above within unmarked, h.cheap s t above within unmarked)),
      ),
    )

-- the totals of the tables are in their range
pub totals-are : TotalsAreInRange → (cost : ℕ → ℕ → ℤ) (n : ℕ) (b : ℤ) (len : ℕ) (least : List ℤ) (back pruned : List ℕ) → IsTable cost n b len least back pruned
    → pos 0 ≤ℤ b → b ≤ℤ pos (10 ^ 36) → AreCosts cost n → AreTotals least
totals-are in_range cost n b len least back pruned h low high range s lt =
    let there = in_range cost n (10 ^ 37) b len least back pruned low range h s (omega (arith, h.tables.least_length)) in
    (omega (arith, ints, high, there.0), there.1)
