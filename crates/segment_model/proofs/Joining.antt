-- Joining the two segments beside a cut of the best list costs more, so that their centres differ.
use Rattle.std.proofs.Common.{◌≡◌, ◌≢◌, ℕ, ℤ, zero, suc, ◌+◌, ◌-◌, ◌<◌, ◌≤◌, List, [], ◌∷◌, ◌++◌, length, reverse, slice_index, inl, inr, pos, ◌+ℤ◌, ◌≤ℤ◌, arith}
use Rattle.std.proofs.lemmas.{Int.{ints, by_lt_z}, List.{reverse-append, length-reverse, length-append, get_or-reverse}, Grind.common_steps}
use Rattle.segment_model.specs.Segments.{Position, segment, squares_about, IsCentre, IsLeastSum, IsCost}
use Rattle.segment_model.specs.{Cuts.{IsNotAfter, IsBest, place_before, place_behind}, Laws.IsNeeded}
use Rattle.segment_model.proofs.{BestCuts.{FallsBelow, total_back, reverse-cons, IsBestBack, best-reversed}, Segments.segment-split, Centres.squares-append}

-- the list without its item k
abbrev without : ℕ → List ℕ → List ℕ
without k [] = []
without zero (c ∷ cs) = cs
without (suc k) (c ∷ cs) = c ∷ without k cs

-- the last cut first: the place before cut k, and the place behind it
abbrev next_down : List ℕ → ℕ → ℕ
next_down cs k = slice_index (cs ++ 0 ∷ []) (suc k)

abbrev next_up : ℕ → List ℕ → ℕ → ℕ
next_up t cs k = slice_index (t ∷ cs) k

falls-up : (len low high : ℕ) (cs : List ℕ) → low ≤ high → FallsBelow len low cs → FallsBelow len high cs
falls-up len low high [] le h = tt
falls-up len low high (c ∷ cs) le h = (h.0, omega (arith, h.1), h.2, h.3, omega (arith, h.4))

falls-without : (len t k : ℕ) (cs : List ℕ) → FallsBelow len t cs → FallsBelow len t (without k cs)
falls-without len t k [] h = tt
falls-without len t zero (c ∷ cs) h = falls-up len c t cs (omega (arith, h.1)) h.2
falls-without len t (suc k) (c ∷ []) h = h
falls-without len t (suc k) (c ∷ d ∷ cs) h = (h.0, h.1, falls-without len c k (d ∷ cs) h.2, h.3, h.4)

total-without : (cost : ℕ → ℕ → ℤ) (b : ℤ) (t k : ℕ) (cs : List ℕ) → k < length cs
    → total_back cost b t (without k cs) +ℤ cost (next_down cs k) (slice_index cs k) +ℤ b +ℤ cost (slice_index cs k) (next_up t cs k)
    ≡ total_back cost b t cs +ℤ cost (next_down cs k) (next_up t cs k)
total-without cost b t k [] h = absurd (omega arith)
total-without cost b t zero (c ∷ []) h = omega (arith, ints)
total-without cost b t zero (c ∷ e ∷ r) h = omega (arith, ints)
total-without cost b t (suc k) (c ∷ cs) h = omega (arith, ints, total-without cost b c k cs (omega (arith, h)))

after-without : (len t k : ℕ) (cs : List ℕ) → FallsBelow len t cs → k < length cs → IsNotAfter (cs ++ 0 ∷ []) (without k cs ++ 0 ∷ []) → ⊥
after-without len t k [] h p is = omega arith
after-without len t zero (c ∷ []) h p is = elim is [ inl lt ↦ omega (arith, lt) | inr eq ↦ omega (arith, eq.0, h.0) ]
after-without len t zero (c ∷ e ∷ r) h p is = elim is [ inl lt ↦ omega (arith, lt, h.2.1) | inr eq ↦ omega (arith, eq.0, h.2.1) ]
after-without len t (suc k) (c ∷ cs) h p is = elim is [ inl lt ↦ omega (arith, lt) | inr eq ↦ after-without len c k cs h.2 (omega (arith, p)) eq.1 ]

in-order : (len t k : ℕ) (cs : List ℕ) → FallsBelow len t cs → k < length cs
    → (next_down cs k < slice_index cs k) × (slice_index cs k < next_up t cs k) × (next_up t cs k ≤ t)
in-order len t k [] h p = absurd (omega arith)
in-order len t zero (c ∷ []) h p = (h.0, h.1, omega arith)
in-order len t zero (c ∷ e ∷ r) h p = (h.2.1, h.1, omega arith)
in-order len t (suc k) (c ∷ cs) h p = grind (arith, common_steps, in-order len c k cs h.2 (omega (arith, p)))

needed-back : (cost : ℕ → ℕ → ℤ) (b : ℤ) (len t k : ℕ) (cs : List ℕ) → IsBestBack cost b len t cs → k < length cs
    → IsNeeded cost b t (next_down cs k) (slice_index cs k) (next_up t cs k)
needed-back cost b len t k cs best p =
    let order = in-order len t k cs best.falls p in
    let falls = falls-without len t k cs best.falls in
    let least : total_back cost b t cs ≤ℤ total_back cost b t (without k cs) = best.least (without k cs) falls in
    let sums = total-without cost b t k cs p in
    record {
      from_before = order.0;
      to_behind = order.1;
      placed = order.2;
      costs_more = by_lt_z (cost (next_down cs k) (slice_index cs k) +ℤ b +ℤ cost (slice_index cs k) (next_up t cs k)) (cost (next_down cs k) (next_up t cs k))
          (λ lt. lt)
          (λ ge. absurd (after-without len t k cs best.falls p (best.first (without k cs) falls (omega (arith, ints, least, sums, ge)))));
    }

-- ---- forwards
module _ (cuts : List ℕ) (i : ℕ) (p : i < length cuts) where
  cut-turned : slice_index (reverse cuts) (length cuts - 1 - i) ≡ slice_index cuts i
  cut-turned = grind (arith, common_steps, get_or-reverse, cuts, length, i, p)

  before-turned : next_down (reverse cuts) (length cuts - 1 - i) ≡ place_before cuts i
  before-turned = grind (arith, common_steps, get_or-reverse, cuts, length, i, p, reverse-cons)

  behind-turned : (n : ℕ) → next_up n (reverse cuts) (length cuts - 1 - i) ≡ place_behind cuts n i
  behind-turned n = grind (arith, common_steps, length, cuts, length-append, get_or-reverse, i, p, reverse-append)

pub cuts-needed : (cost : ℕ → ℕ → ℤ) (b : ℤ) (len n : ℕ) (cuts : List ℕ) → IsBest cost b len n cuts → (i : ℕ) → i < length cuts
    → IsNeeded cost b n (place_before cuts i) (slice_index cuts i) (place_behind cuts n i)
cuts-needed cost b len n cuts best i p =
    rw (← cut-turned cuts i p, ← before-turned cuts i p, ← behind-turned cuts i p n)
    (needed-back cost b len n (length cuts - 1 - i) (reverse cuts) (best-reversed cost b len n cuts best) (rw (length-reverse cuts) (omega (arith, p))))

least-at : (xs : List ℤ) (k c : ℤ) → IsLeastSum xs k → IsCentre xs c → squares_about c xs ≤ℤ k
least-at xs k c least centre = omega (arith, ints, centre.least least.centre, least.reached)

pub centres-differ : (points : List Position) (cost : ℕ → ℕ → ℤ) (b : ℤ) (before cut behind : ℕ) → IsCost points cost → pos 0 ≤ℤ b
    → IsNeeded cost b (length points) before cut behind → (left right : ℤ)
    → IsCentre (segment points before cut) left → IsCentre (segment points cut behind) right → left ≢ right
centres-differ points cost b before cut behind is_cost low needed left right at_left at_right same =
    let le : before ≤ cut = omega (arith, needed.from_before) in
    let le' : cut ≤ behind = omega (arith, needed.to_behind) in
    let one = least-at (segment points before cut) (cost before cut) left (is_cost before cut le (omega (arith, needed.to_behind, needed.placed))) at_left in
    let other = rw (← same) at (least-at (segment points cut behind) (cost cut behind) right (is_cost cut behind le' needed.placed) at_right) in
    let both = (is_cost before behind (omega (arith, le, le')) needed.placed).least left in
    let parts = rw (segment-split points before cut behind le le') at both in
    omega (arith, ints, one, other, rw (squares-append left (segment points before cut) (segment points cut behind)) at parts, needed.costs_more, low)
