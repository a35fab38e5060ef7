-- What is known of blocks of places.
use Rattle.std.proofs.Common.{◌≡◌, ℕ, ℤ, ◌+◌, ◌*◌, ◌^◌, ◌<◌, ◌≤◌, List, length, set, replicate, true, false, ◌⊎◌, inl, inr, refl, ◌∙◌, pos, neg_ℤ, ◌+ℤ◌, ◌≤ℤ◌, get_or-set_same, get_or-set_other, arith}
use Rattle.std.proofs.{Math.ListN.length-set, lemmas.List.{length-replicate, get_or-replicate}, lemmas.Int.ints, lemmas.Bool.cases_eq}
use Rattle.cost_certificate.specs.declared.{blocks.Need.Need, blocks.Watch.Watch, tables.Tables.Tables}
use Rattle.cost_certificate.specs.Checks.{AreWatches, IsClosed, IsNeed, IsWatch, PlacesHoldInBlock, cost_in, last_place, mark_at, total_at, watch_at}
use Rattle.cost_certificate.proofs.{Needs.{told, closed}, Bools.not_both}

module _ (tables : Tables) where
  -- with a closed place more
  pub closed-more : (start : ℕ) (watch : Watch) (s : ℕ) → IsClosed tables s watch.at → IsWatch tables start s watch.at watch → IsWatch tables start (s + 1) watch.at watch
  closed-more start watch s here h = record {
    made = h.made;
    known = λ r above below. elim (cases_eq r s) [
      | inl same ↦ rw same (inl here)
      | inr apart ↦ h.known r above (omega (arith, below, apart))
    ];
    low = h.low;
    high = h.high;
  }

  -- with an open place more
  pub open-more : (start : ℕ) (watch watch' : Watch) (s : ℕ) (made : ℤ) → s < watch.at → IsWatch tables start s watch.at watch
      → made ≡ total_at tables s +ℤ cost_in tables s watch.at → neg_ℤ (pos (10 ^ 36)) ≤ℤ made → made ≤ℤ pos (2 * 10 ^ 37)
      → watch'.total ≤ℤ watch.total → watch'.total ≤ℤ made → (watch'.total ≡ watch.total) ⊎ (watch'.total ≡ made)
      → watch'.until ≤ watch.until → (mark_at tables s ≡ 0) ⊎ (watch'.until < mark_at tables s) → watch'.is_shut ≡ false → watch'.at ≡ watch.at
      → IsWatch tables start (s + 1) watch.at watch'
  open-more start watch watch' s made lt h is low high less below one sooner marked shut there = record {
    made = omega (arith, there);
    known = λ r above before. elim (cases_eq r s) [
      | inl same ↦ rw same (inr (record {
        open' = shut;
        until = marked;
        at_least = λ v from behind le. let behind' : watch.at ≤ v = omega (arith, there, behind) in
            rw there (omega (arith, ints, is, below, tables.merges s watch.at v (omega (arith, lt)) behind' le));
      }))
      | inr apart ↦ elim (h.known r above (omega (arith, before, apart))) [
        | inl shut' ↦ inl (shut'.0, omega (arith, shut'.1, there))
        | inr w ↦ inr (record {
          open' = shut;
          until = elim w.until [ inl none ↦ inl none | inr later ↦ inr (omega (arith, later, sooner)) ];
          at_least = λ v from behind le. let behind' : watch.at ≤ v = omega (arith, there, behind) in
              rw there (omega (arith, ints, less, w.at_least v from behind' le));
        })
      ]
    ];
    low = elim one [ inl same ↦ rw same h.low | inr same ↦ rw same (omega (arith, ints, low)) ];
    high = elim one [ inl same ↦ rw same h.high | inr same ↦ rw same high ];
  }

  -- what is right of any places
  pub nothing-known : (start stop at : ℕ) (watch : Watch) → watch.at ≡ 0 → watch.is_shut ≡ false → watch.until ≡ 0 → watch.total ≡ neg_ℤ (pos (2 * 10 ^ 37))
      → IsWatch tables start stop at watch
  nothing-known start stop at watch there shut until total = record {
    made = omega (arith, there);
    known = λ s above below. inr (record {
      open' = shut;
      until = elim (cases_eq (mark_at tables s) 0) [ inl none ↦ inl none | inr some ↦ inr (omega (arith, some, until)) ];
      at_least = λ v from behind le. omega (arith, ints, total, (tables.totals s (omega (arith, from, le, tables.least_length))).0, (tables.costs s v from le).0, (tables.costs watch.at v behind le).1);
    });
    low = omega (arith, ints, total);
    high = omega (arith, ints, total);
  }

  -- what is known at a place is known at a later one
  pub known-later : (start stop at at' : ℕ) (watch : Watch) → at ≤ at' → IsWatch tables start stop at watch → IsWatch tables start stop at' watch
  known-later start stop at at' watch le h = record { made = omega (arith, le, h.made); known = h.known; low = h.low; high = h.high }

  -- what is known of a block tells of its places
  pub passed : (need : Need) (watch : Watch) (start stop from end : ℕ) → end ≤ last_place tables → from ≤ end → stop ≤ from → IsNeed tables from end need
      → IsWatch tables start stop from watch
      → (watch.is_shut ≡ true) ⊎ ((need.reach ≤ start) × (end ≤ watch.until) × (need.total ≤ℤ (watch.total +ℤ cost_in tables watch.at from +ℤ tables.penalty)))
      → PlacesHoldInBlock tables start stop from end
  passed need watch start stop from end le rising front is_need h tells s above below = elim (h.known s above below) [
    | inl shut ↦ closed tables s from end shut.0 (omega (arith, shut.1, h.made))
    | inr w ↦ elim tells [
      | inl is_shut ↦ absurd (not_both watch.is_shut w.open' is_shut)
      | inr t ↦
          let at_least = w.at_least from (omega (arith, below, front)) h.made (omega (arith, rising, le)) in
          let enough : need.total ≤ℤ (total_at tables s +ℤ cost_in tables s from +ℤ tables.penalty) = omega (arith, ints, at_least, t.2) in
          let marked : (mark_at tables s ≡ 0) ⊎ (end < mark_at tables s) = elim w.until [ inl none ↦ inl none | inr later ↦ inr (omega (arith, later, t.1)) ] in
          told tables need s from end (total_at tables s +ℤ cost_in tables s from) le (omega (arith, below, front)) is_need refl enough (omega (arith, t.0, above)) marked
    ]
  ]

  -- no block was seen yet
  pub none-seen : (at : ℕ) (watch : Watch) → watch.at ≡ 0 → watch.is_shut ≡ false → watch.until ≡ 0 → watch.total ≡ neg_ℤ (pos (2 * 10 ^ 37))
      → AreWatches tables at (replicate 512 watch)
  none-seen at watch there shut until total = record {
    enough = length-replicate 512 watch;
    each = λ j lt.
        let each : watch_at (replicate 512 watch) j ≡ watch = get_or-replicate 512 j watch (record { at = 0; total = pos 0; until = 0; is_shut = false }) lt in
        rw each (nothing-known (j * 32) (j * 32 + 32) at watch there shut until total);
  }

  -- the watches at a later place
  pub watches-later : (at at' : ℕ) (watches : List Watch) → at ≤ at' → AreWatches tables at watches → AreWatches tables at' watches
  watches-later at at' watches le h = record {
    enough = h.enough;
    each = λ j lt. known-later (j * 32) (j * 32 + 32) at at' (watch_at watches j) le (h.each j lt);
  }

  -- one watch made anew
  pub watch-set : (at k : ℕ) (watch : Watch) (watches : List Watch) → k < 512 → AreWatches tables at watches → IsWatch tables (k * 32) (k * 32 + 32) at watch
      → AreWatches tables at (set watches k watch)
  watch-set at k watch watches lt h here =
      let inside : k < length watches = omega (arith, lt, h.enough) in
      let new : watch_at (set watches k watch) k ≡ watch = get_or-set_same watches k watch (record { at = 0; total = pos 0; until = 0; is_shut = false }) inside in
      record {
        enough = length-set watches k watch ∙ h.enough;
        each = λ j below. elim (cases_eq j k) [
          | inl same ↦ rw (same, new) here
          | inr apart ↦
              let other : watch_at (set watches k watch) j ≡ watch_at watches j = get_or-set_other watches k j watch (record { at = 0; total = pos 0; until = 0; is_shut = false }) apart in
              rw other (h.each j below)
        ];
      }
