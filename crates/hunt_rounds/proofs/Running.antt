-- Searches that run, and those that are closed.
use Rattle.std.proofs.Common.{◌≡◌, ◌≢◌, ℕ, ◌+◌, ◌-◌, ◌<◌, ◌≤◌, min, Bool, true, cond, eqb, List, [], ◌∷◌, length, map, Option, Some, None, inl, inr, refl, sym, ap, subst, ◌∙◌, arith}
use Rattle.std.{specs.Prelude.All, specs.List.range_with_len, proofs.lemmas.Bool.{cases_Bool, eq-eqb}, proofs.lemmas.List.Elements.All-weaker}
use Rattle.std.proofs.lemmas.List.FromFn.{length-map-range_with_len}
use Rattle.track_outside.specs.declared.runner.Runner.{Ghosts}
use Rattle.wide_bisect.specs.declared.{said.Said.Said, outcome.WideOutcome.WideOutcome, outcome.WideOutcome.TheVariants.{Asks, Found, Undecided, Faulted}}
use Rattle.wide_bisect.specs.declared.outcome.WideAnswered.TheVariants as answered
use Rattle.wide_bisect.specs.Answers.{ending, skipped_places}
use Rattle.wide_bisect.specs.Searches.{Search, is_running, settled, begun, asks, asked, place_in_round, said_of, end_by, after_end, after, after_all, answer_to}
use Rattle.wide_bisect.specs.Laws.{CanBegin, EachAsksOpen, EachTakesAway, EachIsWithinBound, IsWithinBound, all_said, skipping}
use Rattle.hunt_rounds.specs.Hunts.{Goes, IsHunted}

-- ---- running

runs : (outcome : WideOutcome) → is_running outcome ≡ true → outcome ≡ Asks
runs Asks told = refl
runs (Found lo hi skipped) told = absurd (cc)
runs (Undecided place status) told = absurd (cc)
runs (Faulted place) told = absurd (cc)

-- it runs where a round has places
pub runs_on : (s : Search) → (asked s ≡ [] → ⊥) → s.outcome ≡ Asks
runs_on s some = elim (cases_Bool (is_running s.outcome)) [
  | inl yes' ↦ runs s.outcome yes'
  | inr no' ↦
      let none : asks s ≡ 0 = rw no' refl in
      absurd (some (ap (λ (n : ℕ). map (place_in_round s) (range_with_len 1 n)) none))
]

pub answer_taken : (s : Search) (count : ℕ) → s.outcome ≡ Asks → count ≡ asks s → answer_to s count ≡ answered.Ok
answer_taken s count running is =
    let one : answer_to s count ≡ cond (eqb count (asks s)) answered.Ok (answered.WrongCount (asks s)) =
    ap (λ (o : WideOutcome). cond (is_running o) (cond (eqb count (asks s)) answered.Ok (answered.WrongCount (asks s))) (answered.Closed s.outcome)) running in
    one ∙ ap (λ (t : Bool). cond t answered.Ok (answered.WrongCount (asks s))) (eq-eqb count (asks s) is)

-- ---- a search that runs has open places

abbrev HasOpen : Search → Type 0
HasOpen s = s.outcome ≡ Asks → 1 ≤ length s.left

settled_open : (low high : ℕ) (left : List ℕ) → settled low high left ≡ Asks → 1 ≤ length left
settled_open low high [] told = absurd (cc)
settled_open low high (x ∷ left) told = omega arith

end_closed : (place : ℕ) (status : Option ℕ) → end_by place status ≡ Asks → ⊥
end_closed place None told = absurd (cc)
end_closed place (Some status) told = absurd (cc)

open_by_end : (s : Search) (said : List Said) (end : Option Said) → HasOpen (after_end s said end)
open_by_end s said None told = settled_open _ _ _ told
open_by_end s said (Some end) told = absurd (end_closed end.place end.status told)

open_after : (s : Search) (rounds : List (List (Option ℕ))) → HasOpen s → HasOpen (after_all s rounds)
open_after s [] has = has
open_after s (statuses ∷ rounds) has = open_after (after s statuses) rounds (open_by_end s (said_of s statuses) (ending (said_of s statuses)))

open_begun : (n k : ℕ) → HasOpen (begun n k)
open_begun n k told = settled_open 0 n (range_with_len 1 (n - 1)) told

-- ---- the width stays

width_by_end : (s : Search) (said : List Said) (end : Option Said) → (after_end s said end).width ≡ s.width
width_by_end s said None = refl
width_by_end s said (Some end) = refl

width_after : (s : Search) (rounds : List (List (Option ℕ))) → (after_all s rounds).width ≡ s.width
width_after s [] = refl
width_after s (statuses ∷ rounds) = width_after (after s statuses) rounds ∙ width_by_end s (said_of s statuses) (ending (said_of s statuses))

asks_few : (s : Search) → asks s ≤ s.width
asks_few s = elim (cases_Bool (is_running s.outcome)) [
  | inl yes' ↦ let is : asks s ≡ min s.width (length s.left) = rw yes' refl in omega (arith, is)
  | inr no' ↦ let is : asks s ≡ 0 = rw no' refl in omega (arith, is)
]

pub count_asked : (s : Search) → length (asked s) ≡ asks s
count_asked s = length-map-range_with_len (place_in_round s) 1 (asks s)

-- ---- a hunt that goes on

module _ {R : Type 0} (g : Ghosts R) (test : List ℕ) (names : List (List ℕ)) (width : ℕ) (old new : List R) (s : Search) (can : CanBegin (length names - 1) width) (goes : Goes g test names width old new s) where
  pub few_asked : length (asked s) ≤ width
  few_asked =
      let same : s.width ≡ width = ap (λ (x : Search). x.width) goes.search ∙ width_after (begun (length names - 1) width) goes.rounds in
      omega (arith, count_asked s, asks_few s, same)

  pub closed : asked s ≡ [] → s.outcome ≢ Asks
  closed none running =
      let has : HasOpen s = subst HasOpen (sym goes.search) (open_after (begun (length names - 1) width) goes.rounds (open_begun (length names - 1) width)) in
      let some : 1 ≤ length s.left = has running in
      let same : s.width ≡ width = ap (λ (x : Search). x.width) goes.search ∙ width_after (begun (length names - 1) width) goes.rounds in
      let is : asks s ≡ min s.width (length s.left) = rw running refl in
      let zero' : length (asked s) ≡ 0 = ap (λ (ps : List ℕ). length ps) none in
      omega (arith, is, count_asked s, same, some, can.one, zero')

  pub places_within : EachAsksOpen → (places : List ℕ) → places ≡ asked s → All (λ place. place < length names) places
  places_within law places is =
      let open' = law (length names - 1) width goes.rounds can goes.taken in
      subst (All (λ place. place < length names)) (ap asked (sym goes.search) ∙ sym is)
      (All-weaker (λ (place : ℕ). (0 < place) × (place < length names - 1)) (λ (place : ℕ). place < length names) (λ place both. omega (arith, both.1)) (asked (after_all (begun (length names - 1) width) goes.rounds)) open'.within)

  -- what is left of a round is less
  pub smaller : EachTakesAway → (statuses : List (Option ℕ)) (t : Search) → s.outcome ≡ Asks → t ≡ after s statuses
      → cond (is_running t.outcome) (1 + length t.left) 0 < cond (is_running s.outcome) (1 + length s.left) 0
  smaller law statuses t running is = elim (cases_Bool (is_running t.outcome)) [
    | inl yes' ↦
        let goes_on : t.outcome ≡ Asks = runs t.outcome yes' in
        let same = goes.search in
        let less : length (after (after_all (begun (length names - 1) width) goes.rounds) statuses).left < length (after_all (begun (length names - 1) width) goes.rounds).left =
        law (length names - 1) width goes.rounds statuses can goes.taken (ap (λ (x : Search). x.outcome) (sym same) ∙ running)
        (ap (λ (x : Search). (after x statuses).outcome) (sym same) ∙ ap (λ (x : Search). x.outcome) (sym is) ∙ goes_on) in
        let one : length (after (after_all (begun (length names - 1) width) goes.rounds) statuses).left ≡ length t.left = ap (λ (x : Search). length (after x statuses).left) (sym same) ∙ ap (λ (x : Search). length x.left) (sym is) in
        let two : length (after_all (begun (length names - 1) width) goes.rounds).left ≡ length s.left = ap (λ (x : Search). length x.left) (sym same) in
        rw (yes', running) (omega (arith, less, one, two))
    | inr no' ↦ rw (no', running) (omega arith)
  ]

  -- a round without places ends it
  pub hunted : EachIsWithinBound → asked s ≡ [] → IsHunted g test names width old new s
  hunted law none = record {
    goes = goes;
    closed = closed none;
    bound = subst (λ (x : Search). IsWithinBound (length names - 1) width (length x.left) (length goes.rounds) (skipping (begun (length names - 1) width) goes.rounds)
        (length (skipped_places (all_said (begun (length names - 1) width) goes.rounds))) x)
        (sym goes.search) (law (length names - 1) width goes.rounds can goes.taken);
  }
