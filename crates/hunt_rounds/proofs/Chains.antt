-- Chains of asks, and of rounds.
use Rattle.std.proofs.Common.{◌≡◌, ℕ, ◌+◌, ◌-◌, List, [], ◌∷◌, ◌++◌, length, get_or, Option, Some, None, inl, inr, refl, sym, ap, subst, ◌∙◌, arith, append_assoc, append-nil}
use Rattle.std.{specs.Prelude.{Contains, option_map}, proofs.lemmas.Bool.{cases_lt, le-ltb}, proofs.lemmas.List.Elements.{Contains-append_cases, All-append}}
use Rattle.std.proofs.lemmas.List.FromFn.{length-map-range_with_len, get_or-map-range_with_len}
use Rattle.track_outside.specs.{Asked.Ask, Counts.Rose, declared.runner.Runner.Ghosts}
use Rattle.wide_bisect.specs.{declared.outcome.WideOutcome.TheVariants.Asks, Searches.{Search, begun, asks, asked, place_in_round, after, after_all}}
use Rattle.wide_bisect.specs.Laws.{AreTaken}
use Rattle.hunt_rounds.specs.{Asked.{WasAsked, EachWasAsked, IsOf, WereAskedOf}, Hunts.{ask_in, asks_in, Goes}, Rounds.asks_at}

-- ---- one runner

no_more : (told : Option (List Ask)) → told ≡ option_map (λ (before : List Ask). before ++ []) told
no_more None = refl
no_more (Some asks) = ap Some (sym (append-nil asks))

told_twice : (told : Option (List Ask)) (one two : List Ask)
    → option_map (λ (before : List Ask). before ++ two) (option_map (λ (before : List Ask). before ++ one) told) ≡ option_map (λ (before : List Ask). before ++ (one ++ two)) told
told_twice None one two = refl
told_twice (Some asks) one two = ap Some (append_assoc asks one two)

none_among : (ask : Ask) → Contains [] ask → ⊥
none_among ask (k, within, is) = omega arith

pub unasked : {R : Type 0} (g : Ghosts R) (x : R) → WasAsked g [] x x
unasked g x = record { told = no_more (g.asked x); rose = λ ask among none. absurd (none_among ask among); counts = omega arith }

pub asked_twice : {R : Type 0} (g : Ghosts R) (one two : List Ask) (a b c : R) → WasAsked g one a b → WasAsked g two b c → WasAsked g (one ++ two) a c
asked_twice g one two a b c first then' = record {
  told = then'.told ∙ ap (option_map (λ (before : List Ask). before ++ two)) first.told ∙ told_twice (g.asked a) one two;
  rose = λ ask among none. elim (Contains-append_cases one two ask among) [
    | inl early ↦ let r : Rose (g.faults a) (g.faults b) = first.rose ask early none in omega (arith, r, then'.counts)
    | inr late ↦ let r : Rose (g.faults b) (g.faults c) = then'.rose ask late none in omega (arith, r, first.counts)
  ];
  counts = omega (arith, first.counts, then'.counts);
}

-- ---- all runners

pub each_unasked : {R : Type 0} (g : Ghosts R) (runners : List R) → EachWasAsked g (λ i. []) runners runners
each_unasked g runners = record { kept = refl; each = λ i d within. unasked g (get_or runners i d) }

pub each_twice : {R : Type 0} (g : Ghosts R) (one two : ℕ → List Ask) (old mid new : List R) → EachWasAsked g one old mid → EachWasAsked g two mid new
    → EachWasAsked g (λ i. one i ++ two i) old new
each_twice g one two old mid new first then' = record {
  kept = then'.kept ∙ first.kept;
  each = λ i d within. asked_twice g (one i) (two i) (get_or old i d) (get_or mid i d) (get_or new i d) (first.each i d within) (then'.each i d (omega (arith, within, first.kept)));
}

pub each_same : {R : Type 0} (g : Ghosts R) (one two : ℕ → List Ask) (old new : List R) → ((i : ℕ) → one i ≡ two i) → EachWasAsked g one old new → EachWasAsked g two old new
each_same g one two old new same each = record {
  kept = each.kept;
  each = λ i d within. subst (λ (asks : List Ask). WasAsked g asks (get_or old i d) (get_or new i d)) (same i) (each.each i d within);
}

pub none_of : {R : Type 0} (g : Ghosts R) (test : List ℕ) (names : List (List ℕ)) (runners : List R) → WereAskedOf g test names runners runners
none_of g test names runners = record { kept = refl; each = λ i d within. ([], λ k e less. absurd (omega arith), unasked g (get_or runners i d)) }

pub of_twice : {R : Type 0} (g : Ghosts R) (test : List ℕ) (names : List (List ℕ)) (old mid new : List R) → WereAskedOf g test names old mid → WereAskedOf g test names mid new
    → WereAskedOf g test names old new
of_twice g test names old mid new first then' = record {
  kept = then'.kept ∙ first.kept;
  each = λ i d within.
      let one = first.each i d within in
      let two = then'.each i d (omega (arith, within, first.kept)) in
      (one.0 ++ two.0, All-append (IsOf test names) one.0 two.0 one.1 two.1, asked_twice g one.0 two.0 (get_or old i d) (get_or mid i d) (get_or new i d) one.2 two.2);
}

-- ---- one round more

pub after-more : (s : Search) (rounds : List (List (Option ℕ))) (statuses : List (Option ℕ)) → after_all s (rounds ++ statuses ∷ []) ≡ after (after_all s rounds) statuses
after-more s [] statuses = refl
after-more s (first ∷ rounds) statuses = after-more (after s first) rounds statuses

taken-more : (s : Search) (rounds : List (List (Option ℕ))) (statuses : List (Option ℕ)) → AreTaken s rounds → (after_all s rounds).outcome ≡ Asks
    → length statuses ≡ asks (after_all s rounds) → AreTaken s (rounds ++ statuses ∷ [])
taken-more s [] statuses taken running count = (running, count, tt)
taken-more s (first ∷ rounds) statuses taken running count = (taken.0, taken.1, taken-more (after s first) rounds statuses taken.2 running count)

asks-more : (test : List ℕ) (names : List (List ℕ)) (s : Search) (rounds : List (List (Option ℕ))) (statuses : List (Option ℕ)) (i : ℕ)
    → asks_in test names s rounds i ++ ask_in test names i (after_all s rounds) statuses ≡ asks_in test names s (rounds ++ statuses ∷ []) i
asks-more test names s [] statuses i = sym (append-nil (ask_in test names i s statuses))
asks-more test names s (first ∷ rounds) statuses i =
    append_assoc (ask_in test names i s first) (asks_in test names (after s first) rounds i) (ask_in test names i (after_all (after s first) rounds) statuses)
    ∙ ap (λ (asks : List Ask). ask_in test names i s first ++ asks) (asks-more test names (after s first) rounds statuses i)

-- the places of a round, as they were asked
round_is : (test : List ℕ) (names : List (List ℕ)) (s : Search) (statuses : List (Option ℕ)) (i : ℕ) → asks_at test names (asked s) statuses i ≡ ask_in test names i s statuses
round_is test names s statuses i = elim (cases_lt i (asks s)) [
  | inl less ↦
      let count : length (asked s) ≡ asks s = length-map-range_with_len (place_in_round s) 1 (asks s) in
      let place : get_or (asked s) i 0 ≡ place_in_round s (i + 1) = get_or-map-range_with_len (place_in_round s) 1 (asks s) i (i + 1) 0 less (omega arith) in
      rw (count, place) refl
  | inr past ↦
      let count : length (asked s) ≡ asks s = length-map-range_with_len (place_in_round s) 1 (asks s) in
      rw (count, le-ltb i (asks s) past) refl
]

pub goes_begins : {R : Type 0} (g : Ghosts R) (test : List ℕ) (names : List (List ℕ)) (width : ℕ) (runners : List R) (s : Search)
    → s ≡ begun (length names - 1) width → Goes g test names width runners runners s
goes_begins g test names width runners s is = record { rounds = []; taken = tt; search = is; asked = each_unasked g runners }

pub goes_more : {R : Type 0} (g : Ghosts R) (test : List ℕ) (names : List (List ℕ)) (width : ℕ) (old mid new : List R) (s t : Search) (statuses : List (Option ℕ))
    → Goes g test names width old mid s → s.outcome ≡ Asks → length statuses ≡ asks s → EachWasAsked g (asks_at test names (asked s) statuses) mid new
    → t ≡ after s statuses → Goes g test names width old new t
goes_more g test names width old mid new s t statuses goes running count each is =
    let first : Search = begun (length names - 1) width in
    let same = goes.search in
    record {
      rounds = goes.rounds ++ statuses ∷ [];
      taken = taken-more (begun (length names - 1) width) goes.rounds statuses goes.taken (ap (λ (x : Search). x.outcome) (sym same) ∙ running) (count ∙ ap asks same);
      search = is ∙ ap (λ (x : Search). after x statuses) same ∙ sym (after-more (begun (length names - 1) width) goes.rounds statuses);
      asked = each_same g (λ i. asks_in test names (begun (length names - 1) width) goes.rounds i ++ asks_at test names (asked s) statuses i)
          (asks_in test names (begun (length names - 1) width) (goes.rounds ++ statuses ∷ [])) old new
          (λ i. ap (λ (asks : List Ask). asks_in test names (begun (length names - 1) width) goes.rounds i ++ asks)
          (round_is test names s statuses i ∙ ap (λ (x : Search). ask_in test names i x statuses) same)
          ∙ asks-more test names (begun (length names - 1) width) goes.rounds statuses i)
          (each_twice g (asks_in test names (begun (length names - 1) width) goes.rounds) (asks_at test names (asked s) statuses) old mid new goes.asked each);
    }
