use Rattle.std.proofs.{Common.{◌≤◌, length, ◌≡◌, ℕ, ◌-◌, List, [], Option, arith, sym, ap, ◌∙◌, subst, inl, inr}, lemmas.Bool.both_ways}
use Rattle.wide_bisect.specs.{declared.outcome.WideOutcome.TheVariants.Asks, Laws.CanBegin, Searches.{asks, asked, after}}
use Rattle.hunt_rounds.{specs.Asked.EachWasAsked, specs.Rounds.asks_at, proofs.Chains.{none_of, of_twice, goes_begins, goes_more}}
use Rattle.hunt_rounds.proofs.Running.{runs_on, answer_taken, few_asked, hunted, places_within, smaller, count_asked}
use Rattle.hunt_rounds.proofs.search.hunt.Goals as goal

can_begin : (n k : ℕ) → 2 ≤ n → n ≤ 65_536 → 1 ≤ k → k ≤ 8 → CanBegin (n - 1) k
can_begin n k some few one eight = record { some = omega arith; few = omega arith; one = one; eight = eight }

pub returns-in-Err-NoMemory-clause-asked : goal.returns-in-Err-NoMemory-clause-asked
returns-in-Err-NoMemory-clause-asked g c = none_of g.A.Runner c.args.test.now c.args.names.now c.args.runners.now

pub unreachable-requires : goal.unreachable-requires
unreachable-requires g c =
    elim (c.in-Err-BadRange.ensures.bad.0 c.in-Err-BadRange.field-0-is) [
      | inl none ↦ omega arith
      | inr (inl many) ↦ omega arith
      | inr (inr (inl zero')) ↦ omega arith
      | inr (inr (inr wide)) ↦ omega arith
    ]

pub rounds-init : goal.rounds-init
rounds-init g c = record {
  goes = goes_begins g.A.Runner c.args.test.now c.args.names.now c.args.width c.args.runners.now c.in-Ok.search c.in-Ok.ensures.begun;
  some = none_of g.A.Runner c.args.test.now c.args.names.now c.args.runners.now;
}

pub returns-in_err-places-clause-asked : goal.returns-in_err-places-clause-asked
returns-in_err-places-clause-asked g c = c.rounds.invariant.some

pub returns-then-is_empty-clause-asked : goal.returns-then-is_empty-clause-asked
returns-then-is_empty-clause-asked g c = c.rounds.invariant.some

pub returns-then-is_empty-clause-hunted : goal.returns-then-is_empty-clause-hunted
returns-then-is_empty-clause-hunted g c =
    let can : CanBegin (length c.args.names.now - 1) c.args.width = can_begin (length c.args.names.now) c.args.width c.requires.names.0 c.requires.names.1 c.requires.width.0 c.requires.width.1 in
    let none : asked c.rounds.search ≡ [] = sym c.in_ok-places.ensures ∙ c.is_empty.ensures.0 c.if-is_empty.true in
    hunted g.A.Runner c.args.test.now c.args.names.now c.args.width c.args.runners.now c.rounds.runners c.rounds.search can c.rounds.invariant.goes c.bound_law.ensures none

pub ask_round-requires-clause-places : goal.ask_round-requires-clause-places
ask_round-requires-clause-places g c κs within =
    let can : CanBegin (length c.args.names.now - 1) c.args.width = can_begin (length c.args.names.now) c.args.width c.requires.names.0 c.requires.names.1 c.requires.width.0 c.requires.width.1 in
    places_within g.A.Runner c.args.test.now c.args.names.now c.args.width c.args.runners.now c.rounds.runners c.rounds.search can c.rounds.invariant.goes c.asked_law.ensures
    c.as_slice.result.now (c.as_slice.ensures ∙ c.in_ok-places.ensures)

pub ask_round-requires-clause-enough : goal.ask_round-requires-clause-enough
ask_round-requires-clause-enough g c κs within =
    let can : CanBegin (length c.args.names.now - 1) c.args.width = can_begin (length c.args.names.now) c.args.width c.requires.names.0 c.requires.names.1 c.requires.width.0 c.requires.width.1 in
    let few = few_asked g.A.Runner c.args.test.now c.args.names.now c.args.width c.args.runners.now c.rounds.runners c.rounds.search can c.rounds.invariant.goes in
    let same : length c.as_slice.result.now ≡ length (asked c.rounds.search) = ap (λ (ps : List ℕ). length ps) (c.as_slice.ensures ∙ c.in_ok-places.ensures) in
    let kept : length c.rounds.runners ≡ length c.args.runners.now = c.rounds.invariant.goes.asked.kept in
    omega (arith, few, same, kept, c.requires.enough)

pub returns-in_err-statuses-clause-asked : goal.returns-in_err-statuses-clause-asked
returns-in_err-statuses-clause-asked g c =
    (of_twice g.A.Runner c.args.test.now c.args.names.now c.args.runners.now c.rounds.runners c.ask_round.new.runners c.rounds.invariant.some c.ask_round.ensures.some)

pub rounds-smaller : goal.rounds-smaller
rounds-smaller g c =
    let can : CanBegin (length c.args.names.now - 1) c.args.width = can_begin (length c.args.names.now) c.args.width c.requires.names.0 c.requires.names.1 c.requires.width.0 c.requires.width.1 in
    let running : c.rounds.search.outcome ≡ Asks = runs_on c.rounds.search (λ none. both_ways c.is_empty.result c.if-is_empty.false (c.is_empty.ensures.1 (c.in_ok-places.ensures ∙ none))) in
    let places : c.as_slice.result.now ≡ asked c.rounds.search = c.as_slice.ensures ∙ c.in_ok-places.ensures in
    let count : length c.deref.result.now ≡ asks c.rounds.search =
    ap (λ (ss : List (Option ℕ)). length ss) c.deref.ensures.value ∙ c.in_ok-statuses.ensures.many ∙ ap (λ (ps : List ℕ). length ps) places ∙ count_asked c.rounds.search in
    let is : c.answer.new.self ≡ after c.rounds.search c.deref.result.now = c.answer.ensures.done (c.answer.ensures.told ∙ answer_taken c.rounds.search (length c.deref.result.now) running count) in
    smaller g.A.Runner c.args.test.now c.args.names.now c.args.width c.args.runners.now c.rounds.runners c.rounds.search can c.rounds.invariant.goes c.fewer_law.ensures
    c.deref.result.now c.answer.new.self running is

pub rounds-preserved : goal.rounds-preserved
rounds-preserved g c =
    let running : c.rounds.search.outcome ≡ Asks = runs_on c.rounds.search (λ none. both_ways c.is_empty.result c.if-is_empty.false (c.is_empty.ensures.1 (c.in_ok-places.ensures ∙ none))) in
    let places : c.as_slice.result.now ≡ asked c.rounds.search = c.as_slice.ensures ∙ c.in_ok-places.ensures in
    let count : length c.deref.result.now ≡ asks c.rounds.search =
    ap (λ (ss : List (Option ℕ)). length ss) c.deref.ensures.value ∙ c.in_ok-statuses.ensures.many ∙ ap (λ (ps : List ℕ). length ps) places ∙ count_asked c.rounds.search in
    let is : c.answer.new.self ≡ after c.rounds.search c.deref.result.now = c.answer.ensures.done (c.answer.ensures.told ∙ answer_taken c.rounds.search (length c.deref.result.now) running count) in
    record {
      goes = goes_more g.A.Runner c.args.test.now c.args.names.now c.args.width c.args.runners.now c.rounds.runners c.ask_round.new.runners c.rounds.search c.answer.new.self c.deref.result.now
          c.rounds.invariant.goes running count
          (subst (λ (ss : List (Option ℕ)). EachWasAsked g.A.Runner (asks_at c.args.test.now c.args.names.now (asked c.rounds.search) ss) c.rounds.runners c.ask_round.new.runners) (sym c.deref.ensures.value)
          (subst (λ (ps : List ℕ). EachWasAsked g.A.Runner (asks_at c.args.test.now c.args.names.now ps c.in_ok-statuses.statuses.items) c.rounds.runners c.ask_round.new.runners) places c.in_ok-statuses.ensures.asked))
          is;
      some = of_twice g.A.Runner c.args.test.now c.args.names.now c.args.runners.now c.rounds.runners c.ask_round.new.runners c.rounds.invariant.some c.ask_round.ensures.some;
    }
