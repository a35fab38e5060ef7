-- The pairs of places, block by block.
use Rattle.std.proofs.{Common.{◌≡◌, ◌≢◌, ℕ, ℤ, ◌+◌, ◌-◌, ◌*◌, ◌^◌, ◌<◌, ◌≤◌, ◌⊎◌, inl, inr, pos, neg_ℤ, ◌+ℤ◌, ◌≤ℤ◌, arith}, lemmas.Int.ints}
use Rattle.std.proofs.lemmas.Bool.{cases_eq}
use Rattle.cost_certificate.specs.declared.{blocks.Need.Need, tables.Tables.Tables}
use Rattle.cost_certificate.specs.Checks.{IsLevel, IsNeed, IsReach, MarksHold, PairHolds, PlaceHolds, PlaceHoldsInBlock, cost_in, last_place, mark_at, total_at}
use Rattle.cost_certificate.proofs.Floors.{settled-holds}

module _ (tables : Tables) where
  -- that of one place more
  pub next-need : (from : ℕ) (need need' : Need) (t : ℕ) (total : ℤ) → IsNeed tables from (t - 1) need → from < t → total_at tables t ≤ℤ (total +ℤ cost_in tables from t)
      → neg_ℤ (pos (2 * 10 ^ 37)) ≤ℤ total → total ≤ℤ pos (10 ^ 37)
      → need.total ≤ℤ need'.total → total ≤ℤ need'.total → (need'.total ≡ need.total) ⊎ (need'.total ≡ total)
      → need.reach ≤ need'.reach → IsReach tables t need'.reach → IsNeed tables from (t + 1 - 1) need'
  next-need from need need' t total h above here low high more at_here one later cut_here = record {
    total = λ v behind within. elim (cases_eq v t) [
      | inl at ↦ rw at (omega (arith, ints, here, at_here))
      | inr apart ↦ omega (arith, ints, h.total v behind (omega (arith, within, apart)), more)
    ];
    reach = λ v behind within. elim (cases_eq v t) [
      | inl at ↦ rw at cut_here
      | inr apart ↦ (λ s from le. h.reach v behind (omega (arith, within, apart)) s (omega (arith, from, later)) le)
    ];
    low = elim one [ inl same ↦ rw same h.low | inr same ↦ rw same low ];
    high = elim one [ inl same ↦ rw same h.high | inr same ↦ rw same high ];
  }

  pub whole-need : (from : ℕ) (need : Need) (t end : ℕ) → IsNeed tables from (t - 1) need → end < t → IsNeed tables from end need
  whole-need from need t end h past = record {
    total = λ v behind within. h.total v behind (omega (arith, within, past));
    reach = λ v behind within. h.reach v behind (omega (arith, within, past));
    low = h.low;
    high = h.high;
  }

  -- what a place makes to the beginning of a block tells of its pairs
  pub told : (need : Need) (s from end : ℕ) (made : ℤ) → end ≤ last_place tables → s < from → IsNeed tables from end need → made ≡ total_at tables s +ℤ cost_in tables s from
      → need.total ≤ℤ (made +ℤ tables.penalty) → need.reach ≤ s → (mark_at tables s ≡ 0) ⊎ (end < mark_at tables s) → PlaceHoldsInBlock tables s from end
  told need s from end made le before h is enough later open' t above behind within opened =
      let all = tables.merges s from t (omega (arith, before)) (omega (arith, behind)) (omega (arith, within, le)) in
      settled-holds tables s t (h.reach t behind within s later (omega (arith, above, within, le))) (omega (arith, ints, h.total t behind within, enough, is, all))
      (λ at. elim open' [ inl none ↦ absurd (omega (arith, none, at, above)) | inr more ↦ absurd (omega (arith, more, at, within)) ])

  -- in a level block each pair holds, where no last cut lies in it
  pub level-holds : (need : Need) (s from end : ℕ) → end ≤ last_place tables → IsNeed tables from end need
      → need.reach ≤ from → IsLevel tables from end end → from ≤ s → PlaceHoldsInBlock tables s from end
  level-holds need s from end le h last level start t above behind within opened =
      let near = level s t start above within in
      settled-holds tables s t (h.reach t behind within s (omega (arith, last, start)) (omega (arith, above, within, le)))
      (omega (arith, ints, near.0, (tables.costs s t (omega (arith, above)) (omega (arith, within, le))).0))
      (λ at. elim near.1 [ inl none ↦ absurd (omega (arith, none, at, above)) | inr more ↦ absurd (omega (arith, more, at, within)) ])

  -- a closed place has no pairs
  pub closed : (s from end : ℕ) → mark_at tables s ≢ 0 → mark_at tables s + tables.len ≤ from + 1 → PlaceHoldsInBlock tables s from end
  closed s from end some le t above behind within opened = elim opened [ inl none ↦ absurd (some none) | inr more ↦ absurd (omega (arith, more, le, behind)) ]

  module _ (s from end low high : ℕ) (low_s : s ≤ low) (low_from : from ≤ low) (low_one : (low ≡ s) ⊎ (low ≡ from)) (high_end : high ≤ end)
      (open' : (t : ℕ) → t ≤ high → (mark_at tables s ≡ 0) ⊎ (t < mark_at tables s + tables.len)) (all' : (t : ℕ) → t ≤ end → (mark_at tables s ≡ 0) ⊎ (t < mark_at tables s + tables.len) → t ≤ high) where
    -- the pairs up to the last place at which s is open are those of the block
    pub to-block : ((t : ℕ) → low < t → t ≤ high → PairHolds tables s t) → PlaceHoldsInBlock tables s from end
    to-block all t above behind within opened =
        all t (elim low_one [ inl e ↦ omega (arith, e, above) | inr e ↦ omega (arith, e, behind) ]) (all' t within opened)

    pub from-block : PlaceHoldsInBlock tables s from end → (t : ℕ) → low < t → t ≤ high → PairHolds tables s t
    from-block all t above within =
        all t (omega (arith, above, low_s)) (omega (arith, above, low_from)) (omega (arith, within, high_end)) (open' t within)

  pub places-from : MarksHold tables → ((s : ℕ) → PlaceHoldsInBlock tables s 0 (last_place tables)) → (s : ℕ) → s ≤ last_place tables → PlaceHolds tables s
  places-from marks blocks s le = (marks s le, λ t above within opened. blocks s t above (omega (arith, above)) within opened)

  pub blocks-from : ((s : ℕ) → s ≤ last_place tables → PlaceHolds tables s) → (s : ℕ) → PlaceHoldsInBlock tables s 0 (last_place tables)
  blocks-from places s t above behind within opened = (places s (omega (arith, above, within))).1 t above within opened

  -- a level range with one place more
  pub level-more : (bottom bottom' : ℤ) (from s end : ℕ) → ((r : ℕ) → from ≤ r → r < s → bottom ≤ℤ total_at tables r)
      → IsLevel tables from s end → bottom' ≤ℤ bottom → bottom' ≤ℤ total_at tables s → total_at tables (s + 1) ≤ℤ (bottom' +ℤ tables.penalty)
      → (mark_at tables s ≡ 0) ⊎ (end < mark_at tables s) → IsLevel tables from (s + 1) end
  level-more bottom bottom' from s end below level less here near mark r t start above within = elim (cases_eq t (s + 1)) [
    | inr apart ↦ level r t start above (omega (arith, within, apart))
    | inl at ↦ elim (cases_eq r s) [
      | inl same ↦ rw (at, same) (omega (arith, ints, near, here), mark)
      | inr before ↦
          let earlier : r < s = omega (arith, above, at, before) in
          rw at (omega (arith, ints, near, less, below r start earlier), (level r s start earlier (omega arith)).1)
    ]
  ]
