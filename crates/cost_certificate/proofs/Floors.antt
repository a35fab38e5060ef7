-- What a last segment makes never falls as it grows, so that a pair needs no look where an earlier one made enough.
use Rattle.std.proofs.{Common.{◌≡◌, ◌≢◌, ℕ, ℤ, ◌+◌, ◌*◌, ◌^◌, ◌<◌, ◌≤◌, inl, inr, pos, neg_ℤ, ◌+ℤ◌, ◌≤ℤ◌, arith}, lemmas.Int.ints}
use Rattle.segment_model.specs.Tables.{IsSettled}
use Rattle.cost_certificate.specs.{declared.tables.Tables.Tables, Checks.{IsFloor, PairHolds, cost_in, last_cut_at, last_place, mark_at, total_at}}

module _ (tables : Tables) where
  -- a pair whose place is settled, where its total is no less and its place is no mark
  pub settled-holds : (s t : ℕ) → IsSettled tables.len (last_cut_at tables t) s → total_at tables t ≤ℤ (total_at tables s +ℤ cost_in tables s t +ℤ tables.penalty) → mark_at tables s ≢ t → PairHolds tables s t
  settled-holds s t settled enough apart = (
    (λ is open'. (enough, λ lt. absurd (elim settled [ inl same ↦ omega (arith, same, lt) | inr may ↦ omega (arith, may.0, lt) ]))),
    (λ unmarked. ((λ free. absurd (free settled)), (λ z. apart))),
  )

  pub first-floor : (s from : ℕ) → s ≤ from → s ≤ last_place tables → IsFloor tables s (from + 1) (total_at tables s)
  first-floor s from le placed =
      let total = tables.totals s (omega (arith, placed, tables.least_length)) in
      record {
        at_most = λ v behind within. omega (arith, ints, (tables.costs s v (omega (arith, le, behind)) within).0);
        low = total.0;
        high = omega (arith, ints, total.1);
      }

  pub next-floor : (s t : ℕ) (floor : ℤ) → IsFloor tables s t floor → IsFloor tables s (t + 1) floor
  next-floor s t floor before = record {
    at_most = λ v from le. before.at_most v (omega (arith, from)) le;
    low = before.low;
    high = before.high;
  }

  pub floor-here : (s t : ℕ) (made : ℤ) → s < t
      → made ≡ total_at tables s +ℤ cost_in tables s t → neg_ℤ (pos (10 ^ 36)) ≤ℤ made → made ≤ℤ pos (2 * 10 ^ 37) → IsFloor tables s (t + 1) made
  floor-here s t made lt is low high = record {
    at_most = λ v from le.
        omega (arith, ints, is, tables.merges s t v (omega (arith, lt)) (omega (arith, from)) le, (tables.costs t v (omega (arith, from)) le).0);
    low = low;
    high = high;
  }

  -- where the last cut settles a place, a pair holds whose floor and penalty aren't below the total, and whose place is no mark
  pub unlooked : (s t : ℕ) (floor : ℤ) → IsFloor tables s t floor → t ≤ last_place tables
      → IsSettled tables.len (last_cut_at tables t) s → total_at tables t ≤ℤ (floor +ℤ tables.penalty) → mark_at tables s ≢ t → PairHolds tables s t
  unlooked s t floor bound le settled above apart = settled-holds s t settled (omega (arith, ints, bound.at_most t (omega arith) le, above)) apart
