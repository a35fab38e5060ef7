-- The places that the rounds of a search ask.
use Rattle.std.proofs.Common.{◌≡◌, ℕ, ◌+◌, ◌<◌, ◌≤◌, true, List, [], ◌∷◌, length, get_or, Option, Some, None, inl, inr, refl, sym, arith, subst}
use Rattle.std.{specs.Prelude.Contains, proofs.lemmas.Bool.cases_Bool, proofs.lemmas.List.Elements.{All-from_get_or, Contains-get_or}}
use Rattle.std.proofs.lemmas.List.FromFn.{length-map-range_with_len, get_or-map-range_with_len}
use Rattle.wide_bisect.specs.declared.{said.Said.Said, outcome.WideOutcome.WideOutcome, outcome.WideOutcome.TheVariants.{Asks, Found, Undecided, Faulted}}
use Rattle.wide_bisect.specs.Answers.{bad_places, ending}
use Rattle.wide_bisect.specs.{Searches.{Search, is_running, begun, asks, asked, place_in_round, said_of, after_end, after, after_all}, Sound.IsSound}
use Rattle.wide_bisect.{specs.Laws.{AsksOpen, EachAsksOpen, EachTakesAway}, proofs.Lists.least-le, proofs.Rounds.{place_between, place_is, fewer}}
use Rattle.wide_bisect.proofs.{Gaps.rises_on, Histories.{after_any, end_not_asks}}

-- ---- a search that runs

runs : (outcome : WideOutcome) → is_running outcome ≡ true → outcome ≡ Asks
runs Asks told = refl
runs (Found lo hi skipped) told = absurd (cc)
runs (Undecided place status) told = absurd (cc)
runs (Faulted place) told = absurd (cc)

some_asked : (s : Search) (i : ℕ) → i < asks s → s.outcome ≡ Asks
some_asked s i within = elim (cases_Bool (is_running s.outcome)) [
  | inl yes' ↦ runs s.outcome yes'
  | inr no' ↦
      let none : asks s ≡ 0 = rw no' refl in
      absurd (omega (arith, none))
]

-- ---- high never rises

high_by_end : (s : Search) (said : List Said) (end : Option Said) → (after_end s said end).high ≤ s.high
high_by_end s said None = least-le s.high (bad_places said)
high_by_end s said (Some end) = omega arith

high_falls : (s : Search) (rounds : List (List (Option ℕ))) → (after_all s rounds).high ≤ s.high
high_falls s [] = omega arith
high_falls s (statuses ∷ rounds) =
    omega (arith, high_by_end s (said_of s statuses) (ending (said_of s statuses)), high_falls (after s statuses) rounds)

-- ---- the places of a round

place_at : (s : Search) (i d : ℕ) → i < asks s → get_or (asked s) i d ≡ place_in_round s (i + 1)
place_at s i d within = get_or-map-range_with_len (place_in_round s) 1 (asks s) i (i + 1) d within (omega arith)

count_asked : (s : Search) → length (asked s) ≡ asks s
count_asked s = length-map-range_with_len (place_in_round s) 1 (asks s)

asks_open : (n : ℕ) (s : Search) → IsSound s → s.high ≤ n → AsksOpen n s
asks_open n s sound top =
    let m : length (asked s) ≡ asks s = count_asked s in
    record {
      rising = λ (i : ℕ) (within : i + 1 < length (asked s)).
          let e : get_or (asked s) i 0 ≡ place_in_round s (i + 1) = place_at s i 0 (omega (arith, m, within)) in
          let f : get_or (asked s) (i + 1) 0 ≡ place_in_round s (i + 1 + 1) = place_at s (i + 1) 0 (omega (arith, m, within)) in
          omega (arith, e, f, rises_on s sound (some_asked s i (omega (arith, m, within))) (i + 1) (i + 1 + 1) (omega arith) (omega arith) (omega (arith, m, within)));
      among = All-from_get_or (Contains s.left) (asked s) 0
          (λ (i : ℕ) (within : i < length (asked s)).
          let few : i < asks s = omega (arith, m, within) in
          subst (Contains s.left) (sym (place_at s i 0 few))
          (Contains-get_or s.left _ 0 (place_is s sound (some_asked s i few) (i + 1) (omega arith) (omega arith))));
      within = All-from_get_or (λ (place : ℕ). (0 < place) × (place < n)) (asked s) 0
          (λ (i : ℕ) (within : i < length (asked s)).
          let few : i < asks s = omega (arith, m, within) in
          let between = place_between s sound (some_asked s i few) (i + 1) (omega arith) (omega arith) in
          let e : get_or (asked s) i 0 ≡ place_in_round s (i + 1) = place_at s i 0 few in
          (omega (arith, e, between.0), omega (arith, e, between.1, top)));
    }

pub each_asks_open : EachAsksOpen
each_asks_open n k rounds can taken =
    asks_open n (after_all (begun n k) rounds) (after_any n k rounds can taken).sound (high_falls (begun n k) rounds)

-- ---- the open places are fewer

fewer_by_end : (s : Search) → IsSound s → s.outcome ≡ Asks → (statuses : List (Option ℕ)) (end : Option Said) → ending (said_of s statuses) ≡ end
    → (after_end s (said_of s statuses) end).outcome ≡ Asks → length (after_end s (said_of s statuses) end).left < length s.left
fewer_by_end s sound running statuses None is goes = fewer s sound running statuses is
fewer_by_end s sound running statuses (Some end) is goes = absurd (end_not_asks end.place end.status goes)

pub each_takes_away : EachTakesAway
each_takes_away n k rounds statuses can taken running goes =
    fewer_by_end (after_all (begun n k) rounds) (after_any n k rounds can taken).sound running statuses (ending (said_of (after_all (begun n k) rounds) statuses)) refl goes
