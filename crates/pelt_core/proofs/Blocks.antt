-- The bounds of the blocks of candidates.
use Rattle.std.proofs.Common.{◌≡◌, ◌≢◌, ℕ, ℤ, ◌+◌, ◌*◌, ◌^◌, ◌<◌, ◌≤◌, List, [], ◌∷◌, ◌++◌, length, set, slice_index, inl, inr, refl, sym, ◌∙◌, pos, neg_ℤ, ◌+ℤ◌, ◌≤ℤ◌, get_or-set_same, get_or-set_other, arith}
use Rattle.std.proofs.{Math.ListN.length-set, lemmas.Int.ints, lemmas.Bool.{cases_lt, cases_eq}, lemmas.Grind.common_steps}
use Rattle.std.proofs.lemmas.List.{length-append, get_or_append_left, get_or_push}
use Rattle.segment_model.specs.{Cuts.{Agree, Merges}, Tables.{int_at, IsCandidate, IsFirstLeast}}
use Rattle.pelt_core.specs.{declared.bounds.Bound.Bound, declared.bounds.Found.Found, Candidates.total_from}
use Rattle.pelt_core.specs.Bounds.{bound_at, IsBound, HaveBounds, HaveMore, IsFirst, IsBelowBlock, IsLowered, IsMoved, AreInRange}

abbrev pub no_bound : Bound
no_bound = record { at = 0; total = pos 0 }

-- bounds of which one was lowered keep to their range
lowered-range : (cost : ℕ → ℕ → ℤ) (t : ℕ) (least : List ℤ) (cs : List ℕ) (apart : ℕ) (bounds bounds' : List Bound) → HaveBounds cost t least cs apart bounds → (k : ℕ) (x : ℤ)
    → length bounds' ≡ length bounds → k < length bounds → neg_ℤ (pos (10 ^ 36)) ≤ℤ x → x ≤ℤ pos (2 * 10 ^ 37) → IsLowered (bound_at bounds k) t x (bound_at bounds' k)
    → ((j : ℕ) → j ≢ k → bound_at bounds' j ≡ bound_at bounds j)
    → ((j : ℕ) → j < length bounds' → (bound_at bounds' j).at ≤ t) × ((j : ℕ) → j < length bounds' → neg_ℤ (pos (10 ^ 36)) ≤ℤ (bound_at bounds' j).total)
    × ((j : ℕ) → j < length bounds' → (bound_at bounds' j).total ≤ℤ pos (2 * 10 ^ 37))
lowered-range cost t least cs apart bounds bounds' h k x size in' low high lowered others = (
  (λ j lt. elim (cases_eq j k) [ inl at ↦ rw at (omega (arith, lowered.at)) | inr away ↦ rw (others j away) (h.placed j (omega (arith, lt, size))) ]),
  (λ j lt. elim (cases_eq j k) [
    | inl at ↦ rw at (elim lowered.one [ inl same ↦ rw same (h.low k in') | inr same ↦ rw same low ])
    | inr away ↦ rw (others j away) (h.low j (omega (arith, lt, size)))
  ]),
  (λ j lt. elim (cases_eq j k) [
    | inl at ↦ rw at (elim lowered.one [ inl same ↦ rw same (h.high k in') | inr same ↦ rw same high ])
    | inr away ↦ rw (others j away) (h.high j (omega (arith, lt, size)))
  ]),
)

module _ (cost : ℕ → ℕ → ℤ) (least : List ℤ) (t : ℕ) (merges : Merges cost t) (range : AreInRange cost t) where
  -- a bound that is lowered is one for a later place
  pub bound-later : (s : ℕ) (total : ℤ) (old new : Bound) → old.at ≤ t → IsLowered old t total new → IsBound cost least s old → IsBound cost least s new
  bound-later s total old new placed h is =
      let more = merges s old.at t is.behind placed (omega arith) in
      let last = (range old.at t placed (omega arith)).0 in
      record {
        behind = omega (arith, is.behind, placed, h.at);
        at_most = rw h.at (omega (arith, ints, is.at_most, more, last, h.at_most));
      }

  -- a bound that moves to place t
  pub bound-moved : (s : ℕ) (old new : Bound) → old.at ≤ t → IsMoved cost t old new → IsBound cost least s old → IsBound cost least s new
  bound-moved s old new placed h is =
      let more = merges s old.at t is.behind placed (omega arith) in
      let last = (range old.at t placed (omega arith)).0 in
      record {
        behind = omega (arith, is.behind, placed, h.at);
        at_most = rw h.at (elim (cases_lt old.at t) [
          | inl before ↦ omega (arith, ints, is.at_most, more, h.at_most before)
          | inr end ↦ omega (arith, ints, is.at_most, more, last, h.same end)
        ]);
      }

  -- what a bound allows at place t
  pub allowed : (s : ℕ) (bound : Bound) → bound.at ≤ t → IsBound cost least s bound
      → (bound.total ≤ℤ total_from cost least t s) × (bound.at < t → (bound.total +ℤ cost bound.at t) ≤ℤ total_from cost least t s)
  allowed s bound placed is =
      let more = merges s bound.at t is.behind placed (omega arith) in
      let last = (range bound.at t placed (omega arith)).0 in
      (omega (arith, ints, is.at_most, more, last), λ lt. omega (arith, ints, is.at_most, more, last))

  module _ (cs : List ℕ) (below : (i : ℕ) → i < length cs → slice_index cs i < t) where
    -- one bound was lowered by the total of the candidate for which none held
    pub apart-moves : (guess k : ℕ) (total : ℤ) (bounds bounds' : List Bound) → HaveBounds cost t least cs guess bounds → 256 * k ≤ guess → guess < 256 * k + 256 → k < length bounds
        → neg_ℤ (pos (10 ^ 36)) ≤ℤ total → total ≤ℤ pos (2 * 10 ^ 37) → total ≡ total_from cost least t (slice_index cs guess)
        → length bounds' ≡ length bounds → IsLowered (bound_at bounds k) t total (bound_at bounds' k) → ((j : ℕ) → j ≢ k → bound_at bounds' j ≡ bound_at bounds j)
        → (other : ℕ) → HaveBounds cost t least cs other bounds'
    apart-moves guess k total bounds bounds' h start end in' low high is size lowered others other = record {
      enough = omega (arith, size, h.enough);
      placed = (lowered-range cost t least cs guess bounds bounds' h k total size in' low high lowered others).0;
      low = (lowered-range cost t least cs guess bounds bounds' h k total size in' low high lowered others).1;
      high = (lowered-range cost t least cs guess bounds bounds' h k total size in' low high lowered others).2;
      holds = λ j i lt from upto inside apart. elim (cases_eq j k) [
        | inl at ↦ rw at (elim (cases_eq i guess) [
          | inl here ↦ rw here (here_too (below guess (rw here at inside)))
          | inr there ↦ bound-later (slice_index cs i) total (bound_at bounds k) (bound_at bounds' k) (h.placed k in') lowered (h.holds k i in' (rw at at from) (rw at at upto) inside there)
        ])
        | inr away ↦ rw (others j away) (h.holds j i (omega (arith, lt, size)) from upto inside (λ here. away (omega (arith, start, end, from, upto, here))))
      ];
    }
      where
        here_too : slice_index cs guess < t → IsBound cost least (slice_index cs guess) (bound_at bounds' k)
        here_too lt = record { behind = omega (arith, lt, lowered.at); at_most = rw lowered.at (omega (arith, ints, lowered.below, is)) }

    -- a block has a new bound, which holds for its candidates
    bound-set : (guess k : ℕ) (new : Bound) (bounds : List Bound) → HaveBounds cost t least cs guess bounds → k < length bounds
        → new.at ≤ t → neg_ℤ (pos (10 ^ 36)) ≤ℤ new.total → new.total ≤ℤ pos (2 * 10 ^ 37)
        → ((i : ℕ) → 256 * k ≤ i → i < 256 * k + 256 → i < length cs → i ≢ guess → IsBound cost least (slice_index cs i) new)
        → HaveBounds cost t least cs guess (set bounds k new)
    bound-set guess k new bounds h in' placed low high holds =
        let size : length (set bounds k new) ≡ length bounds = length-set bounds k new in
        let here : bound_at (set bounds k new) k ≡ new = get_or-set_same bounds k new no_bound in' in
        let others : (j : ℕ) → j ≢ k → bound_at (set bounds k new) j ≡ bound_at bounds j = λ j away. get_or-set_other bounds k j new no_bound away in
        record {
          enough = omega (arith, size, h.enough);
          placed = λ j lt. elim (cases_eq j k) [ inl at ↦ rw (at, here) placed | inr away ↦ rw (others j away) (h.placed j (omega (arith, lt, size))) ];
          low = λ j lt. elim (cases_eq j k) [ inl at ↦ rw (at, here) low | inr away ↦ rw (others j away) (h.low j (omega (arith, lt, size))) ];
          high = λ j lt. elim (cases_eq j k) [ inl at ↦ rw (at, here) high | inr away ↦ rw (others j away) (h.high j (omega (arith, lt, size))) ];
          holds = λ j i lt from upto inside apart. elim (cases_eq j k) [
            | inl at ↦ rw (at, here) (holds i (rw at at from) (rw at at upto) inside apart)
            | inr away ↦ rw (others j away) (h.holds j i (omega (arith, lt, size)) from upto inside apart)
          ];
        }

    -- a block was looked at
    pub looked-at : (guess k : ℕ) (total : ℤ) (bounds : List Bound) → HaveBounds cost t least cs guess bounds → k < length bounds
        → neg_ℤ (pos (10 ^ 36)) ≤ℤ total → total ≤ℤ pos (2 * 10 ^ 37)
        → ((i : ℕ) → 256 * k ≤ i → i < 256 * k + 256 → i < length cs → i ≢ guess → total ≤ℤ total_from cost least t (slice_index cs i))
        → HaveBounds cost t least cs guess (set bounds k (record { at = t; total = total }))
    looked-at guess k total bounds h in' low high at_most =
        bound-set guess k (record { at = t; total = total }) bounds h in' (omega arith) low high
        (λ i from upto inside apart. record { behind = omega (arith, below i inside); at_most = at_most i from upto inside apart })

    -- the bound of a block moved to place t
    pub moved-on : (guess k : ℕ) (new : Bound) (bounds : List Bound) → HaveBounds cost t least cs guess bounds → k < length bounds → IsMoved cost t (bound_at bounds k) new
        → HaveBounds cost t least cs guess (set bounds k new)
    moved-on guess k new bounds h in' moved =
        bound-set guess k new bounds h in' (omega (arith, moved.at)) moved.low moved.high
        (λ i from upto inside apart. bound-moved (slice_index cs i) (bound_at bounds k) new (h.placed k in') moved (h.holds k i in' from upto inside apart))

    -- a block was passed over
    pub passed-over : (guess k : ℕ) (bounds : List Bound) (best : Found) → HaveBounds cost t least cs guess bounds → k < length bounds → IsFirst cost least t cs guess (256 * k) best
        → IsBelowBlock cost t (bound_at bounds k) (256 * k) best → IsFirst cost least t cs guess (256 * k + 256) best
    passed-over guess k bounds best h in' first above = record {
      made = first.made;
      before = λ i inside which. elim (cases_eq i guess) [
        | inl here ↦ first.before i inside (inr here)
        | inr there ↦ elim (cases_lt i (256 * k)) [
          | inl before ↦ first.before i inside (inl before)
          | inr behind ↦ elim which [
            | inl upto ↦
                let may = allowed (slice_index cs i) (bound_at bounds k) (h.placed k in') (h.holds k i in' behind upto inside there) in
                above (total_from cost least t (slice_index cs i)) i behind may.0 may.1
            | inr here ↦ absurd (there here)
          ]
        ]
      ];
    }

-- another index apart, where that is the one or the one lies behind the candidates
pub apart-same : (cost : ℕ → ℕ → ℤ) (t : ℕ) (least : List ℤ) (cs : List ℕ) (apart other : ℕ) (bounds : List Bound) → (apart < length cs → other ≡ apart)
    → HaveBounds cost t least cs apart bounds → HaveBounds cost t least cs other bounds
apart-same cost t least cs apart other bounds same h = record {
  enough = h.enough;
  placed = h.placed;
  low = h.low;
  high = h.high;
  holds = λ k i lt from upto inside away. h.holds k i lt from upto inside (λ here. away (here ∙ sym (same (omega (arith, here, inside)))));
}

-- one position more, where the costs agree
pub bounds-agree : (cost other : ℕ → ℕ → ℤ) (n t : ℕ) (least : List ℤ) (cs : List ℕ) (apart : ℕ) (bounds : List Bound) → Agree cost other n → n ≤ t
    → HaveBounds cost n least cs apart bounds → HaveBounds other t least cs apart bounds
bounds-agree cost other n t least cs apart bounds agree le h = record {
  enough = h.enough;
  placed = λ k lt. omega (arith, h.placed k lt, le);
  low = h.low;
  high = h.high;
  holds = λ k i lt from upto inside away.
      let is = h.holds k i lt from upto inside away in
      record { behind = is.behind; at_most = rw (agree (slice_index cs i) (bound_at bounds k).at is.behind (h.placed k lt)) is.at_most };
}

-- one total more
pub bounds-from : (cost : ℕ → ℕ → ℤ) (t : ℕ) (least : List ℤ) (x : ℤ) (cs : List ℕ) (apart : ℕ) (bounds : List Bound) → ((i : ℕ) → i < length cs → slice_index cs i < length least)
    → HaveBounds cost t least cs apart bounds → HaveBounds cost t (least ++ x ∷ []) cs apart bounds
bounds-from cost t least x cs apart bounds below h = record {
  enough = h.enough;
  placed = h.placed;
  low = h.low;
  high = h.high;
  holds = λ k i lt from upto inside away.
      let is = h.holds k i lt from upto inside away in
      record { behind = is.behind; at_most = rw (get_or_append_left least (x ∷ []) (pos 0) (slice_index cs i) (below i inside)) is.at_most };
}

-- each bound is the same
pub bounds-reset : (cost : ℕ → ℕ → ℤ) (t : ℕ) (least : List ℤ) (cs : List ℕ) (apart : ℕ) (total : ℤ) (bounds : List Bound) → length cs ≤ 256 * length bounds
    → ((k : ℕ) → k < length bounds → bound_at bounds k ≡ record { at = t; total = total }) → neg_ℤ (pos (10 ^ 36)) ≤ℤ total → total ≤ℤ pos (2 * 10 ^ 37)
    → ((i : ℕ) → i < length cs → (slice_index cs i ≤ t) × (total ≤ℤ total_from cost least t (slice_index cs i))) → HaveBounds cost t least cs apart bounds
bounds-reset cost t least cs apart total bounds size same low high at_most = grind (arith, common_steps)

-- one candidate more, whose total lowered the bound of its block
pub bounds-push : (cost : ℕ → ℕ → ℤ) (t : ℕ) (least : List ℤ) (cs : List ℕ) (apart k c : ℕ) (x : ℤ) (bounds bounds' : List Bound) → Merges cost t → AreInRange cost t
    → HaveBounds cost t least cs apart bounds → 256 * k ≤ length cs → length cs < 256 * k + 256 → length cs < 256 * length bounds → length bounds' ≡ length bounds
    → neg_ℤ (pos (10 ^ 36)) ≤ℤ x → x ≤ℤ pos (2 * 10 ^ 37) → c ≤ t → x ≤ℤ total_from cost least t c
    → IsLowered (bound_at bounds k) t x (bound_at bounds' k) → ((j : ℕ) → j ≢ k → bound_at bounds' j ≡ bound_at bounds j)
    → HaveBounds cost t least (cs ++ c ∷ []) apart bounds'
bounds-push cost t least cs apart k c x bounds bounds' merges range h start end room size low high le at_most lowered others = record {
  enough = omega (arith, size, room, length-append cs (c ∷ []));
  placed = (lowered-range cost t least cs apart bounds bounds' h k x size in' low high lowered others).0;
  low = (lowered-range cost t least cs apart bounds bounds' h k x size in' low high lowered others).1;
  high = (lowered-range cost t least cs apart bounds bounds' h k x size in' low high lowered others).2;
  holds = λ j i lt from upto inside apart'. elim (cases_lt i (length cs)) [
    | inl before ↦
        rw (get_or_append_left cs (c ∷ []) 0 i before) (elim (cases_eq j k) [
          | inl at ↦ rw at (bound-later cost least t merges range (slice_index cs i) x (bound_at bounds k) (bound_at bounds' k) (h.placed k in') lowered (h.holds k i in' (rw at at from) (rw at at upto) before apart'))
          | inr away ↦ rw (others j away) (h.holds j i (omega (arith, lt, size)) from upto before apart')
        ])
    | inr behind ↦
        let at : i ≡ length cs = omega (arith, behind, inside, length-append cs (c ∷ [])) in
        let here : j ≡ k = omega (arith, at, from, upto, start, end) in
        rw (at, here, get_or_push cs c 0 (length cs) refl) (record { behind = omega (arith, lowered.at, le); at_most = rw lowered.at (omega (arith, ints, lowered.below, at_most)) })
  ];
}
  where
    in' : k < length bounds
    in' = omega (arith, start, room)

-- ---- more bounds
pub more_none : (bounds : List Bound) → HaveMore bounds bounds
more_none bounds = record { more = omega arith; same = λ k lt. refl; fresh = λ k le lt. absurd (omega (arith, le, lt)) }

pub more_push : (old new : List Bound) → HaveMore old new → HaveMore old (new ++ record { at = 0; total = neg_ℤ (pos (10 ^ 36)) } ∷ [])
more_push old new h = grind (arith, common_steps)

-- of blocks that have no candidate yet
pub bounds-more : (cost : ℕ → ℕ → ℤ) (t : ℕ) (least : List ℤ) (cs : List ℕ) (apart : ℕ) (bounds bounds' : List Bound) → HaveMore bounds bounds'
    → HaveBounds cost t least cs apart bounds → HaveBounds cost t least cs apart bounds'
bounds-more cost t least cs apart bounds bounds' has h = record {
  enough = omega (arith, h.enough, has.more);
  placed = λ k lt. elim (cases_lt k (length bounds)) [ inl old ↦ rw (has.same k old) (h.placed k old) | inr new ↦ rw (has.fresh k new lt) (omega arith) ];
  low = λ k lt. elim (cases_lt k (length bounds)) [ inl old ↦ rw (has.same k old) (h.low k old) | inr new ↦ rw (has.fresh k new lt) (omega (arith, ints)) ];
  high = λ k lt. elim (cases_lt k (length bounds)) [ inl old ↦ rw (has.same k old) (h.high k old) | inr new ↦ rw (has.fresh k new lt) (omega (arith, ints)) ];
  holds = λ k i lt from upto inside away. elim (cases_lt k (length bounds)) [
    | inl old ↦ rw (has.same k old) (h.holds k i old from upto inside away)
    | inr new ↦ absurd (omega (arith, new, from, inside, h.enough))
  ];
}

-- each candidate of t makes at least the total of the first least one
pub least-made : (cost : ℕ → ℕ → ℤ) (len t best : ℕ) (least : List ℤ) (x total : ℤ) → length least ≡ t → IsFirstLeast cost len (int_at least) t best → total ≡ total_from cost least t best
    → (s : ℕ) → IsCandidate len t s → total ≤ℤ total_from cost (least ++ x ∷ []) t s
least-made cost len t best least x total size found is s may = grind (arith, common_steps)

-- equal bounds
pub bounds-by : (cost : ℕ → ℕ → ℤ) (t : ℕ) (least least' : List ℤ) (cs cs' : List ℕ) (apart apart' : ℕ) (bounds bounds' : List Bound) → least' ≡ least → cs' ≡ cs → apart' ≡ apart → bounds' ≡ bounds
    → HaveBounds cost t least cs apart bounds → HaveBounds cost t least' cs' apart' bounds'
bounds-by cost t least least' cs cs' apart apart' bounds bounds' e f g i h = rw (e, f, g, i) h
