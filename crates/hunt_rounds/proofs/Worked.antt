-- What workers were asked in a round.
use Rattle.std.proofs.Common.{◌≡◌, ℕ, zero, suc, ◌+◌, ◌-◌, ◌<◌, ◌≤◌, List, [], ◌∷◌, ◌++◌, length, get_or, take, drop, Option, Result, Ok, Err, inl, inr, refl, sym, ap, subst, ◌∙◌, arith, length-append, length-drop}
use Rattle.std.{specs.Prelude.{⊤, All, Contains, slice_index, zip}, proofs.lemmas.Bool.{cases_lt, lt-ltb, le-ltb}}
use Rattle.std.proofs.lemmas.List.{take_all, take-append-le, get_or_append_left, get_or-append_right, get_or-take, get_or-drop, length-take}
use Rattle.std.proofs.lemmas.{List.Elements.{All-get_or, AllZip-get_or, Contains-get_or}, Slice.Zip.{get_or-zip, length-zip}}
use Rattle.std.specs.{declared.alloc.AllocError.AllocError, List.AllByRecursion}
use Rattle.side_by_side.specs.Runs.{AllWorked}
use Rattle.track_outside.specs.declared.runner.Runner.{Ghosts}
use Rattle.hunt_rounds.specs.{declared.asking.Asking.Asking, Asked.{WasAsked, EachWasAsked, IsOf, WereAskedOf}, Hunts.name_at}
use Rattle.hunt_rounds.{specs.Rounds.{asks_of, asks_at, AreAskings, AreAnswers}, proofs.Chains.unasked}

-- what a worker gives
abbrev pub Gives : {R : Type 0} → Ghosts R → Asking → R → Asking → R → Type 0
Gives g old runner new runner' = WasAsked g (asks_of old.test.now old.commit.now new.answer) runner runner'

-- askers for these places worked with the first runners
pub record Works {R : Type 0} (g : Ghosts R) (test : List ℕ) (names : List (List ℕ)) (places : List ℕ) (before after : List Asking) (old tools new : List R) : Type 0 where
  pub enough : length places ≤ length old
  pub within : All (λ place. place < length names) places
  pub askings : AreAskings test names places before
  pub worked : AllWorked (Gives g) before (take (length places) old) after tools
  pub new_is : new ≡ tools ++ drop (length places) old

some_item : {X : Type 0} (xs : List X) (i : ℕ) → i < length xs → X
some_item [] i within = absurd (omega arith)
some_item (x ∷ xs) i within = x

module _ {R : Type 0} (g : Ghosts R) (test : List ℕ) (names : List (List ℕ)) (places : List ℕ) (before after : List Asking) (old tools new : List R) (w : Works g test names places before after old tools new) where
  taken : length (take (length places) old) ≡ length places
  taken = omega (arith, length-take (length places) old, w.enough)

  count_tools : length tools ≡ length places
  count_tools = w.worked.tools_kept ∙ taken

  count_after : length after ≡ length places
  count_after = w.worked.workers_kept ∙ w.askings.count

  count_new : length new ≡ length old
  count_new = omega (arith, ap length w.new_is, length-append tools (drop (length places) old), length-drop (length places) old, count_tools, w.enough)

  pub first : (i : ℕ) (d : R) (a : Asking) → i < length places
      → WasAsked g (asks_of test (name_at names (slice_index places i)) (get_or after i a).answer) (get_or old i d) (get_or new i d)
  first i d a within =
      let here : i < length before = omega (arith, within, w.askings.count) in
      let there : i < length (take (length places) old) = omega (arith, within, taken) in
      let both : i < length (zip before (take (length places) old)) = omega (arith, length-zip before (take (length places) old), here, there) in
      let zipped = AllZip-get_or (λ (x y : Asking × R). Gives g x.0 x.1 y.0 y.1) (zip before (take (length places) old)) (zip after tools) i (a, d) (a, d) w.worked.worked both in
      let e : get_or (zip before (take (length places) old)) i (a, d) ≡ (get_or before i a, get_or (take (length places) old) i d) = get_or-zip before (take (length places) old) i (a, d) here there in
      let f : get_or (zip after tools) i (a, d) ≡ (get_or after i a, get_or tools i d) = get_or-zip after tools i (a, d) (omega (arith, within, count_after)) (omega (arith, within, count_tools)) in
      let got : WasAsked g (asks_of (get_or before i a).test.now (get_or before i a).commit.now (get_or after i a).answer) (get_or (take (length places) old) i d) (get_or tools i d) =
      subst (λ (y : Asking × R). Gives g (get_or before i a) (get_or (take (length places) old) i d) y.0 y.1) f
      (subst (λ (x : Asking × R). Gives g x.0 x.1 (get_or (zip after tools) i (a, d)).0 (get_or (zip after tools) i (a, d)).1) e zipped) in
      let one = subst (λ (t : List ℕ). WasAsked g (asks_of t (get_or before i a).commit.now (get_or after i a).answer) (get_or (take (length places) old) i d) (get_or tools i d)) (w.askings.tests i a within) got in
      let two = subst (λ (c : List ℕ). WasAsked g (asks_of test c (get_or after i a).answer) (get_or (take (length places) old) i d) (get_or tools i d)) (w.askings.commits i a within) one in
      let old_is : get_or (take (length places) old) i d ≡ get_or old i d = get_or-take (length places) old i d within in
      let new_is : get_or tools i d ≡ get_or new i d =
      sym (ap (λ (xs : List R). get_or xs i d) w.new_is ∙ get_or_append_left tools (drop (length places) old) d i (omega (arith, within, count_tools))) in
      subst (λ (x : R). WasAsked g (asks_of test (name_at names (slice_index places i)) (get_or after i a).answer) x (get_or new i d)) old_is
      (subst (λ (y : R). WasAsked g (asks_of test (name_at names (slice_index places i)) (get_or after i a).answer) (get_or (take (length places) old) i d) y) new_is two)

  rest : (i : ℕ) (d : R) → length places ≤ i → get_or new i d ≡ get_or old i d
  rest i d past =
      let step : length places + (i - length places) ≡ i = omega arith in
      ap (λ (xs : List R). get_or xs i d) w.new_is
      ∙ get_or-append_right tools (drop (length places) old) (length places) i d count_tools past
      ∙ get_or-drop (length places) old (i - length places) d
      ∙ ap (λ (j : ℕ). get_or old j d) step

  -- what was answered is what was asked
  pub each_asked : (statuses : List (Option ℕ)) → AreAnswers after statuses → EachWasAsked g (asks_at test names places statuses) old new
  each_asked statuses are = record {
    kept = count_new;
    each = λ i d within. elim (cases_lt i (length places)) [
      | inl less ↦
          let few : i < length after = omega (arith, less, count_after) in
          rw (lt-ltb i (length places) less)
          (subst (λ (r : Result (Option ℕ) AllocError). WasAsked g (asks_of test (name_at names (slice_index places i)) r) (get_or old i d) (get_or new i d)) (are.each i (some_item after i few) few) (first i d (some_item after i few) less))
      | inr past ↦
          rw (le-ltb i (length places) past)
          (subst (λ (y : R). WasAsked g [] (get_or old i d) y) (sym (rest i d past)) (unasked g (get_or old i d)))
    ];
  }

  named : (i : ℕ) → i < length places → Contains names (name_at names (slice_index places i))
  named i within = Contains-get_or names (slice_index places i) [] (All-get_or (λ (place : ℕ). place < length names) places i 0 within w.within)

  all_of : (i : ℕ) (answer : Result (Option ℕ) AllocError) → i < length places → All (IsOf test names) (asks_of test (name_at names (slice_index places i)) answer)
  all_of i (Ok status) within zero d less = record { of_test = refl; of_names = named i within }
  all_of i (Ok status) within (suc k) d less = absurd (omega arith)
  all_of i (Err e) within k d less = absurd (omega arith)

  -- whatever was answered, each was asked of the names
  pub each_of : WereAskedOf g test names old new
  each_of = record {
    kept = count_new;
    each = λ i d within. elim (cases_lt i (length places)) [
      | inl less ↦
          let few : i < length after = omega (arith, less, count_after) in (
            asks_of test (name_at names (slice_index places i)) (get_or after i (some_item after i few)).answer,
            all_of i (get_or after i (some_item after i few)).answer less,
            first i d (some_item after i few) less,
          )
      | inr past ↦ ([], λ k e less. absurd (omega arith), subst (λ (y : R). WasAsked g [] (get_or old i d) y) (sym (rest i d past)) (unasked g (get_or old i d)))
    ];
  }

-- every asker can ask
pub all_can : {X : Type 0} (xs : List X) → AllByRecursion (λ x. ⊤) xs
all_can [] = tt
all_can (x ∷ xs) = (tt, all_can xs)

-- what is kept of a vector whose items were changed in place
pub kept_items : {X : Type 0} (n : ℕ) (new old : List X) → length new ≡ length old → n ≡ length old → take n (new ++ drop (length new) old) ≡ new
kept_items n new old same is =
    take-append-le n new (drop (length new) old) (omega (arith, same, is)) ∙ take_all n new (omega (arith, same, is))
