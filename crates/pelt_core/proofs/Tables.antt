-- Pruned tables of positions: of none, before one more, and of the first ones.
use Rattle.std.proofs.Common.{◌≡◌, ℕ, ℤ, ◌+◌, ◌-◌, ◌^◌, ◌≤◌, List, [], ◌∷◌, ◌++◌, length, take, drop, refl, ap, subst, ◌∙◌, pos, ◌≤ℤ◌, arith}
use Rattle.std.proofs.lemmas.{Int.ints, List.{length-append, length-take, take-append-drop}, Grind.common_steps}
use Rattle.segment_model.specs.{Cuts.{Agree, IsBest, total}, Laws.{AgreeingCostsHaveOneTable, BestOfNoneIsEmpty}}
use Rattle.segment_model.specs.Values.{AreWithinLimits, cost_between, MergesValues, CostsInRange, FrontHasSameValues, FrontIsWithinLimits, SegmentsMerge, SegmentsAreInRange}
use Rattle.segment_cost.specs.{declared.cert.Cert.Cert, Certificate.IsCertificate}
use Rattle.pelt_core.specs.{declared.rows.Rows.Rows, declared.table.Best.Best, Best.IsBestOf, Seen.Tabled, Rows.{ArePruned, IsPrunedTable, HasRoomMade}}
use Rattle.pelt_core.{specs.Bounds.AreInRange, proofs.Growth.{table-by, candidates-by}, proofs.Blocks.{bounds-by, bounds-more, bounds-agree}}

-- no values cost nothing
pub nothing-costs : (f : List ℤ → ℤ) → MergesValues f → CostsInRange f → f [] ≡ pos 0
nothing-costs f merging in_range =
    let twice = merging [] [] in
    let range = in_range [] (λ k d lt. absurd (omega arith)) (omega arith) in
    omega (arith, ints, twice, range.0)

pub none-within : AreWithinLimits []
none-within = grind (arith, common_steps)

pub table-of-none : (f : List ℤ → ℤ) → MergesValues f → CostsInRange f → (ps : List (List ℤ)) → ps ≡ [] → (b : ℤ) (rows : Rows) → pos 0 ≤ℤ b → b ≤ℤ pos (10 ^ 36)
    → ((cost : ℕ → ℕ → ℤ) → cost 0 0 ≡ pos 0 → ArePruned cost 0 b rows) → IsPrunedTable f ps b rows
table-of-none f merging in_range ps none b rows low high are = rw none (record {
  low = low;
  high = high;
  within = none-within;
  pruned = are (cost_between f []) (nothing-costs f merging in_range);
})

-- the same lists, with room made, are pruned alike
pub pruned-same : (cost : ℕ → ℕ → ℤ) (n : ℕ) (b : ℤ) (rows rows' : Rows) → HasRoomMade rows rows' → ArePruned cost n b rows → ArePruned cost n b rows'
pruned-same cost n b rows rows' same h = record {
  length_from = rw same.tables.len h.length_from;
  table = rw same.tables.len (table-by cost n b rows.length rows.least.items rows'.least.items rows.back.items rows'.back.items rows.pruned.items rows'.pruned.items same.tables.least same.tables.back same.tables.pruned h.table);
  swept = rw (same.tables.len, same.swept) h.swept;
  candidates = rw (same.tables.len, same.swept) (candidates-by rows.length rows.swept rows.candidates.items rows'.candidates.items rows.pruned.items rows'.pruned.items (n + 1 - rows.length + 1) same.candidates same.tables.pruned h.candidates);
  bounds = bounds-by cost n rows.least.items rows'.least.items rows.candidates.items rows'.candidates.items rows.leader rows'.leader rows'.bounds.items rows'.bounds.items
      same.tables.least same.candidates same.leader refl (bounds-more cost n rows.least.items rows.candidates.items rows.leader rows.bounds.items rows'.bounds.items same.bounds h.bounds);
  room = omega (arith, h.room, same.capacity);
  wide = omega (arith, h.wide, same.bounds.more);
}

pub table-same : (f : List ℤ → ℤ) (ps ps' : List (List ℤ)) (b : ℤ) (rows rows' : Rows) → ps' ≡ ps → HasRoomMade rows rows' → IsPrunedTable f ps b rows → IsPrunedTable f ps' b rows'
table-same f ps ps' b rows rows' e same h = rw e (record {
  low = h.low;
  high = h.high;
  within = h.within;
  pruned = pruned-same (cost_between f ps) (length ps) b rows rows' same h.pruned;
})

-- costs that agree prune alike
pub pruned-agree : AgreeingCostsHaveOneTable → (cost other : ℕ → ℕ → ℤ) (n : ℕ) (b : ℤ) (rows : Rows) → Agree cost other n → ArePruned cost n b rows → ArePruned other n b rows
pruned-agree agreeing cost other n b rows agree h = record {
  length_from = h.length_from;
  table = agreeing cost other n b rows.length rows.least.items rows.back.items rows.pruned.items agree h.table;
  swept = h.swept;
  candidates = h.candidates;
  bounds = bounds-agree cost other n n rows.least.items rows.candidates.items rows.leader rows.bounds.items agree (omega arith) h.bounds;
  room = h.room;
  wide = h.wide;
}

module _ (f : List ℤ → ℤ) (merging : MergesValues f) (in_range : CostsInRange f) (agreeing : AgreeingCostsHaveOneTable) (merge : SegmentsMerge) (ranges : SegmentsAreInRange)
    (ps : List (List ℤ)) (b : ℤ) (rows : Rows) (h : IsPrunedTable f ps b rows) where
  -- before one position more
  pub before-push : FrontHasSameValues → (v : List ℤ) (ps' : List (List ℤ)) → ps' ≡ ps ++ v ∷ [] → AreWithinLimits (ps ++ v ∷ []) → (rows' : Rows) → HasRoomMade rows rows'
      → ArePruned (cost_between f ps') (length ps' - 1) b rows'
  before-push front v ps' e within rows' same =
      let size : length (ps ++ v ∷ []) ≡ length ps + 1 = length-append ps (v ∷ []) in
      let less : length (ps ++ v ∷ []) - 1 ≡ length ps = omega arith in
      let agree : Agree (cost_between f ps) (cost_between f (ps ++ v ∷ [])) (length ps) = λ s t le fits. ap f (front ps (v ∷ []) s t le fits) in
      rw (e, less) (pruned-same (cost_between f (ps ++ v ∷ [])) (length ps) b rows rows' same (pruned-agree agreeing (cost_between f ps) (cost_between f (ps ++ v ∷ [])) (length ps) b rows agree h.pruned))

  pub after-push : (v : List ℤ) (ps' : List (List ℤ)) → ps' ≡ ps ++ v ∷ [] → AreWithinLimits (ps ++ v ∷ []) → (rows' : Rows)
      → ArePruned (cost_between f ps') (length ps') b rows' → IsPrunedTable f ps' b rows'
  after-push v ps' e within rows' are = record { low = h.low; high = h.high; within = rw e within; pruned = are }

  -- of the first positions
  pub first-ones : FrontHasSameValues → FrontIsWithinLimits → (k : ℕ) → k ≤ length ps → (ps' : List (List ℤ)) → ps' ≡ take k ps → (rows' : Rows)
      → ((cost : ℕ → ℕ → ℤ) (n : ℕ) (b' : ℤ) → k ≤ n → pos 0 ≤ℤ b' → b' ≤ℤ pos (10 ^ 36) → AreInRange cost n → ArePruned cost n b' rows → ArePruned cost k b' rows')
      → IsPrunedTable f ps' b rows'
  first-ones front limits k le ps' e rows' cut =
      let whole : take k ps ++ drop k ps ≡ ps = take-append-drop k ps in
      let size : length (take k ps) ≡ k = length-take k ps ∙ omega arith in
      let within : AreWithinLimits (take k ps) = limits (take k ps) (drop k ps) (rw whole h.within) in
      let agree : Agree (cost_between f ps) (cost_between f (take k ps)) k = grind (arith, common_steps) in
      let are : ArePruned (cost_between f ps) k b rows' = cut (cost_between f ps) (length ps) b le h.low h.high (ranges f in_range ps h.within) h.pruned in
      rw e (record {
        low = h.low;
        high = h.high;
        within = within;
        pruned = rw size (pruned-agree agreeing (cost_between f ps) (cost_between f (take k ps)) k b rows' agree are);
      })

-- no positions have a total of 0
pub total-of-none : (f : List ℤ → ℤ) → MergesValues f → CostsInRange f → BestOfNoneIsEmpty → (ps : List (List ℤ)) (b : ℤ) (len n : ℕ) (cuts : List ℕ) → n ≡ 0
    → IsBest (cost_between f ps) b len n cuts → total (cost_between f ps) b n cuts ≡ pos 0
total-of-none f merging in_range empty ps b len n cuts none best = grind (arith, common_steps, nothing-costs)

-- what the table and its best cut list come to
pub certified : (f : List ℤ → ℤ) (ps : List (List ℤ)) (b : ℤ) (rows : Rows) (t : Tabled) (best : Best) (cert : Cert) → record { positions = ps; penalty = b; length = rows.length } ≡ t → IsPrunedTable f ps b rows
    → IsBestOf (cost_between f t.positions) (length t.positions) t.penalty t.length best → cert.points ≡ length ps → cert.penalty ≡ b → cert.length ≡ rows.length
    → cert.cuts ≡ best.cuts.items → cert.total ≡ best.total → cert.least ≡ rows.least.items → cert.back ≡ rows.back.items → cert.pruned ≡ rows.pruned.items
    → IsCertificate (cost_between f t.positions) (length t.positions) t.penalty t.length cert
certified f ps b rows t best cert seen table is points penalty len cuts total least back pruned =
    let best' : IsBestOf (cost_between f ps) (length ps) b rows.length best = grind (arith, common_steps) in
    let made : IsCertificate (cost_between f ps) (length ps) b rows.length cert = record {
      counted = points;
      same_penalty = penalty;
      same_length = len;
      best = rw cuts best'.cuts;
      totalled = rw (total, cuts) best'.totalled;
      table = rw (least, back, pruned) table.pruned.table;
    } in
    subst (λ (u : Tabled). IsCertificate (cost_between f u.positions) (length u.positions) u.penalty u.length cert) seen made
