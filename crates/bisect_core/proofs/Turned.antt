-- What one turn more makes of the places, the ends and the outcome.
use Rattle.std.proofs.Common.{append_assoc, cond, eqb, ◌-◌, ◌/◌, ◌≡◌, ◌⊎◌, inl, inr, ℕ, ◌+◌, ◌<◌, ◌≤◌, Bool, true, false, List, [], ◌∷◌, ◌++◌, refl, sym, arith, Option, Some, None}
use Rattle.std.proofs.lemmas.{List.{length-append, append-nil}, List.Folds.find-append, Bool.{cases_Bool, eqb-true, eqb-false}, Grind.common_steps}
use Rattle.bisect_core.specs.{declared.outcome.Outcome.TheVariants.{Asks, Found}, Laws.{AreAsked, Agrees, EachIsWithinBound, EndsWereAnswered, FoundIsFirstBad}}
use Rattle.bisect_core.specs.{Bisections.{between, outcome_by, outcome_after, low_after, high_after, questions_after}, Bounds.IsWithinBound}
use Rattle.bisect_core.proofs.{Lists.{greatest_push, least_push, greatest_stands, least_stands, least-le}, Halving.{up, down}}
use Rattle.bisect_core.specs.Turns.{Turn, tested, given_up, is_good, is_bad, is_untestable, place_of, places_by, good_places, bad_places, ending}

places_push : (is : ℕ → Bool) (turns : List Turn) (t : Turn) → places_by is (turns ++ t ∷ []) ≡ places_by is turns ++ places_by is (t ∷ [])
places_push is [] t = refl
places_push is (tested place status ∷ turns) t = grind (arith, common_steps, places_push is turns t)
places_push is (given_up place ∷ turns) t = places_push is turns t

pub good_push : (turns : List Turn) (t : Turn) → good_places (turns ++ t ∷ []) ≡ good_places turns ++ good_places (t ∷ [])
good_push = places_push is_good

pub bad_push : (turns : List Turn) (t : Turn) → bad_places (turns ++ t ∷ []) ≡ bad_places turns ++ bad_places (t ∷ [])
bad_push = places_push is_bad

-- nothing ended it before
pub ending_push : (turns : List Turn) (t : Turn) → ending turns ≡ None → ending (turns ++ t ∷ []) ≡ ending (t ∷ [])
ending_push turns t h = rw (find-append, h) refl

-- what a status says
pub record Says (status : ℕ) (g b u : Bool) : Type 0 where
  pub good : is_good status ≡ g
  pub bad : is_bad status ≡ b
  pub untestable : is_untestable status ≡ u

pub says : (status : ℕ) → Says status true false false ⊎ Says status false true false ⊎ Says status false false true
says status = grind (arith, common_steps)

-- ---- what is asked

pub record IsHalfWay (low high place : ℕ) : Type 0 where
  pub apart : high ≡ low + 1 → ⊥
  pub half_way : place ≡ low + (high - low) / 2

between_asks : (test : Bool) (low high place : ℕ) → eqb high (low + 1) ≡ test → cond test (Found low high) (Asks (low + (high - low) / 2)) ≡ Asks place → IsHalfWay low high place
between_asks true low high place e h = absurd (cc)
between_asks false low high place e h = record { apart = eqb-false high (low + 1) e; half_way = cc }

pub half_way : (low high place : ℕ) → between low high ≡ Asks place → IsHalfWay low high place
half_way low high place h = between_asks (eqb high (low + 1)) low high place refl h

-- nothing has ended what asks
pub asks_on : (end : Option Turn) (low high place : ℕ) → outcome_by end low high ≡ Asks place → (end ≡ None) × (between low high ≡ Asks place)
asks_on None low high place h = (refl, h)
asks_on (Some (tested at status)) low high place h = absurd (cc)
asks_on (Some (given_up at)) low high place h = absurd (cc)

-- ---- the ends after a turn more

pub low_good : (turns : List Turn) (place status : ℕ) → is_good status ≡ true → low_after turns ≤ place → low_after (turns ++ tested place status ∷ []) ≡ place
low_good turns place status good above = rw (good_push, good, greatest_push) (omega arith)

pub low_same : (turns : List Turn) (place status : ℕ) → is_good status ≡ false → low_after (turns ++ tested place status ∷ []) ≡ low_after turns
low_same turns place status good = rw (good_push, good, append-nil) refl

pub high_bad : (n : ℕ) (turns : List Turn) (place status : ℕ) → is_bad status ≡ true → place ≤ high_after n turns → high_after n (turns ++ tested place status ∷ []) ≡ place
high_bad n turns place status bad below = rw (bad_push, bad, least_push) (omega arith)

pub high_same : (n : ℕ) (turns : List Turn) (place status : ℕ) → is_bad status ≡ false → high_after n (turns ++ tested place status ∷ []) ≡ high_after n turns
high_same n turns place status bad = rw (bad_push, bad, append-nil) refl

pub questions_good : (turns : List Turn) (place status : ℕ) → is_good status ≡ true → is_bad status ≡ false → questions_after (turns ++ tested place status ∷ []) ≡ questions_after turns + 1
questions_good turns place status good bad = rw (good_push, bad_push, bad, good, length-append, append-nil) (omega arith)

pub questions_bad : (turns : List Turn) (place status : ℕ) → is_good status ≡ false → is_bad status ≡ true → questions_after (turns ++ tested place status ∷ []) ≡ questions_after turns + 1
questions_bad turns place status good bad = rw (good_push, bad_push, bad, good, append-nil, length-append) (omega arith)

pub questions_same : (turns : List Turn) (place status : ℕ) → is_good status ≡ false → is_bad status ≡ false → questions_after (turns ++ tested place status ∷ []) ≡ questions_after turns
questions_same turns place status good bad = rw (good_push, bad_push, bad, good, append-nil, append-nil) refl

-- ---- the bound after a turn more

-- after what is asked was answered by this status, the ends are within the bound
pub bound_status : (n : ℕ) (turns : List Turn) (place status : ℕ) → IsWithinBound n (low_after turns) (high_after n turns) (questions_after turns)
    → IsHalfWay (low_after turns) (high_after n turns) place
    → IsWithinBound n (low_after (turns ++ tested place status ∷ [])) (high_after n (turns ++ tested place status ∷ [])) (questions_after (turns ++ tested place status ∷ []))
bound_status n turns place status b half = elim (says status) [
  | inl s ↦
      let more : low_after turns + 1 < high_after n turns = omega (arith, b.apart, half.apart) in
      let low : low_after (turns ++ tested place status ∷ []) ≡ place = low_good turns place status s.good (omega (arith, half.half_way)) in
      let high : high_after n (turns ++ tested place status ∷ []) ≡ high_after n turns = high_same n turns place status s.bad in
      let asked : questions_after (turns ++ tested place status ∷ []) ≡ questions_after turns + 1 = questions_good turns place status s.good s.bad in
      rw (low, high, asked, half.half_way) (up n (low_after turns) (high_after n turns) (questions_after turns) b more)
  | inr (inl s) ↦
      let more : low_after turns + 1 < high_after n turns = omega (arith, b.apart, half.apart) in
      let low : low_after (turns ++ tested place status ∷ []) ≡ low_after turns = low_same turns place status s.good in
      let high : high_after n (turns ++ tested place status ∷ []) ≡ place = high_bad n turns place status s.bad (omega (arith, half.half_way)) in
      let asked : questions_after (turns ++ tested place status ∷ []) ≡ questions_after turns + 1 = questions_bad turns place status s.good s.bad in
      rw (low, high, asked, half.half_way) (down n (low_after turns) (high_after n turns) (questions_after turns) b more)
  | inr (inr s) ↦
      let low : low_after (turns ++ tested place status ∷ []) ≡ low_after turns = low_same turns place status s.good in
      let high : high_after n (turns ++ tested place status ∷ []) ≡ high_after n turns = high_same n turns place status s.bad in
      let asked : questions_after (turns ++ tested place status ∷ []) ≡ questions_after turns = questions_same turns place status s.good s.bad in
      rw (low, high, asked) b
]

pub bound_given_up : (n : ℕ) (turns : List Turn) (place : ℕ) → IsWithinBound n (low_after turns) (high_after n turns) (questions_after turns)
    → IsWithinBound n (low_after (turns ++ given_up place ∷ [])) (high_after n (turns ++ given_up place ∷ [])) (questions_after (turns ++ given_up place ∷ []))
bound_given_up n turns place b = rw (good_push, bad_push, append-nil, append-nil) b

pub bound_turn : (n : ℕ) (turns : List Turn) (t : Turn) → IsWithinBound n (low_after turns) (high_after n turns) (questions_after turns)
    → outcome_after n turns ≡ Asks (place_of t)
    → IsWithinBound n (low_after (turns ++ t ∷ [])) (high_after n (turns ++ t ∷ [])) (questions_after (turns ++ t ∷ []))
bound_turn n turns (tested place status) b asks =
    bound_status n turns place status b (half_way (low_after turns) (high_after n turns) place (asks_on (ending turns) (low_after turns) (high_after n turns) place asks).1)
bound_turn n turns (given_up place) b asks = bound_given_up n turns place b

-- turns that were asked, from where the ends are within the bound
bound_from : (n : ℕ) (before behind : List Turn) → AreAsked n (before ++ behind)
    → IsWithinBound n (low_after before) (high_after n before) (questions_after before)
    → IsWithinBound n (low_after (before ++ behind)) (high_after n (before ++ behind)) (questions_after (before ++ behind))
bound_from n before [] asked b = rw append-nil b
bound_from n before (t ∷ behind) asked b =
    let regroup : (before ++ t ∷ []) ++ behind ≡ before ++ t ∷ behind = append_assoc before (t ∷ []) behind in
    let asks : outcome_after n before ≡ Asks (place_of t) = asked before t behind refl in
    let again : AreAsked n ((before ++ t ∷ []) ++ behind) = rw regroup asked in
    let goes = bound_from n (before ++ t ∷ []) behind again (bound_turn n before t b asks) in
    rw regroup at goes

pub each_is_within_bound : EachIsWithinBound
each_is_within_bound n turns some asked =
    let begins : IsWithinBound n (low_after []) (high_after n []) (questions_after []) =
    record { apart = omega arith; inside = omega arith; left = omega arith; asked = omega arith } in
    bound_from n [] turns asked begins

-- ---- what is found

pub ends_were_answered : EndsWereAnswered
ends_were_answered n turns = (greatest_stands (good_places turns), least_stands n (bad_places turns))

between_finds : (test : Bool) (low high lo hi : ℕ) → eqb high (low + 1) ≡ test → cond test (Found low high) (Asks (low + (high - low) / 2)) ≡ Found lo hi → (high ≡ low + 1) × (low ≡ lo) × (high ≡ hi)
between_finds true low high lo hi e h = (eqb-true high (low + 1) e, cc, cc)
between_finds false low high lo hi e h = absurd (cc)

finds : (end : Option Turn) (low high lo hi : ℕ) → outcome_by end low high ≡ Found lo hi → (high ≡ low + 1) × (low ≡ lo) × (high ≡ hi)
finds None low high lo hi h = between_finds (eqb high (low + 1)) low high lo hi refl h
finds (Some (tested at status)) low high lo hi h = absurd (cc)
finds (Some (given_up at)) low high lo hi h = absurd (cc)

low_is_good : (n : ℕ) (turns : List Turn) (is_bad_place : ℕ → Bool) → Agrees n turns is_bad_place → is_bad_place (low_after turns) ≡ false
low_is_good n turns is_bad_place a = grind (arith, common_steps, greatest_stands)

high_is_bad : (n : ℕ) (turns : List Turn) (is_bad_place : ℕ → Bool) → Agrees n turns is_bad_place → is_bad_place (high_after n turns) ≡ true
high_is_bad n turns is_bad_place a = grind (arith, common_steps, least_stands)

below_is_good : (n : ℕ) (turns : List Turn) (is_bad_place : ℕ → Bool) → Agrees n turns is_bad_place → low_after turns ≤ n → (place : ℕ) → place ≤ low_after turns → is_bad_place place ≡ false
below_is_good n turns is_bad_place a inside place below = elim (cases_Bool (is_bad_place place)) [
  | inl bad ↦
      let one : is_bad_place (low_after turns) ≡ true = a.rising place (low_after turns) below inside bad in
      let other : is_bad_place (low_after turns) ≡ false = low_is_good n turns is_bad_place a in
      absurd (cc)
  | inr good ↦ good
]

pub found_is_first_bad : FoundIsFirstBad
found_is_first_bad n turns lo hi h =
    let found : (high_after n turns ≡ low_after turns + 1) × (low_after turns ≡ lo) × (high_after n turns ≡ hi) = finds (ending turns) (low_after turns) (high_after n turns) lo hi h in
    let inside : high_after n turns ≤ n = least-le n (bad_places turns) in (
      omega (arith, found),
      λ (is_bad_place : ℕ → Bool) (a : Agrees n turns is_bad_place). (
        rw (sym found.2) (high_is_bad n turns is_bad_place a),
        λ (place : ℕ) (below : place < hi). below_is_good n turns is_bad_place a (omega (arith, found)) place (omega (arith, found)),
      ),
    )
