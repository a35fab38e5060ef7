-- Private: no public contract cites this. A runner whose asks are tied to what its worker found is one of a worker's.
use Rattle.std.proofs.Common.{◌≡◌, ◌<◌, ◌≤◌, ◌+◌, ℕ, suc, Bool, true, false, List, [], ◌∷◌, ◌++◌, map, refl, ap, ◌∙◌, Option, Some, None, arith}
use Rattle.std.specs.{Prelude.{◌&&◌, All, Contains, IfSome, bytes_eq, is_none, is_some, option_map, slice_get, sum_by}, List.AllByRecursion}
use Rattle.std.proofs.lemmas.{List.Sums.sum_by-cons, Grind.common_steps}
use Rattle.track_outside.specs.Asked.{Ask}
use Rattle.history_model.specs.declared.entries.Placed.{Placed}
use Rattle.bisect_workers.specs.Bisecting.{RoseBy}
use Rattle.play_fits.{specs.Workers.{AreAsksOf, Crew, IsBisector, IsDue, Use, all_give_ups, findings, found_for, give_ups, is_for}, proofs.Lists.same-bytes}
use Rattle.play_crew.proofs.Gathered.{at-contains}
use Rattle.worker_crew.{specs.Runs.{IsNew, Tally}, proofs.Late.{failed, one-if, length-one, ups-of}, proofs.Naming.{given, is_given}, proofs.Owning.all-to}

-- a runner's asks, and what its worker found in the journals
pub record Tied (n : ℕ) (word : List ℕ) (machines : List (List ℕ)) (journal : List ℕ → List Placed) (t u : Tally) : Type 0 where
  pub uses : List Use
  pub told : u.asks ≡ option_map (λ (before : List Ask). before ++ map (λ (x : Use). x.ask) uses) t.asks
  pub found : (m : List ℕ) → Contains machines m → findings n (journal m) ≡ found_for m uses
  pub due : All (IsDue word machines journal) (map (λ (x : Use). x.ask) uses)
  pub rose : RoseBy (given uses) t.faults u.faults

-- ---- sums over machines
abbrev pub Distinct : List (List ℕ) → Type 0
Distinct [] = Unit {0}
Distinct (a ∷ ms) = AllByRecursion (λ (b : List ℕ). bytes_eq a b ≡ false) ms × Distinct ms

sum-zero : (f : List ℕ → ℕ) (ms : List (List ℕ)) → AllByRecursion (λ (m : List ℕ). f m ≡ 0) ms → sum_by f ms ≡ 0
sum-zero f [] all = refl
sum-zero f (m ∷ ms) all = let step = sum_by-cons f m ms in let rest = sum-zero f ms all.1 in let here = all.0 in omega (arith, step, rest, here)

sum-same : (f g : List ℕ → ℕ) (ms : List (List ℕ)) → AllByRecursion (λ (m : List ℕ). f m ≡ g m) ms → sum_by f ms ≡ sum_by g ms
sum-same f g [] all = refl
sum-same f g (m ∷ ms) all = let one = sum_by-cons f m ms in let two = sum_by-cons g m ms in let rest = sum-same f g ms all.1 in let here = all.0 in omega (arith, one, two, rest, here)

sum-plus : (f g h : List ℕ → ℕ) (ms : List (List ℕ)) → ((m : List ℕ) → f m ≡ g m + h m) → sum_by f ms ≡ sum_by g ms + sum_by h ms
sum-plus f g h [] each = refl
sum-plus f g h (m ∷ ms) each = grind (arith, common_steps, sum-plus f g h ms each)

every : (P : List ℕ → Type 0) (ms : List (List ℕ)) → ((m : List ℕ) → P m) → AllByRecursion P ms
every P [] each = tt
every P (m ∷ ms) each = (each m, every P ms each)

-- a name is that of one machine at most
sum-names : (x : List ℕ) (ms : List (List ℕ)) → Distinct ms → sum_by (λ m. one-if (bytes_eq x m)) ms ≤ 1
sum-names x [] apart = omega arith
sum-names x (m ∷ ms) apart = by (sum-names x ms apart.1) (bytes_eq x m) refl
  where
    by : sum_by (λ k. one-if (bytes_eq x k)) ms ≤ 1 → (b : Bool) → bytes_eq x m ≡ b → sum_by (λ k. one-if (bytes_eq x k)) (m ∷ ms) ≤ 1
    by rest true is =
        let same : x ≡ m = same-bytes x m is in
        let none : sum_by (λ k. one-if (bytes_eq x k)) ms ≡ 0 = grind (arith, common_steps, sum-zero, one-if, all-to, same) in
        let step = sum_by-cons (λ k. one-if (bytes_eq x k)) m ms in
        let here : one-if (bytes_eq x m) ≡ 1 = ap one-if is in
        omega (arith, none, step, here)
    by rest false is =
        let step = sum_by-cons (λ k. one-if (bytes_eq x k)) m ms in
        let here : one-if (bytes_eq x m) ≡ 0 = ap one-if is in
        omega (arith, rest, step, here)

-- a use counts for one machine at most
sum-use : (u : Use) (ms : List (List ℕ)) → Distinct ms → sum_by (λ m. one-if (is_for m u && is_none u.ask.status)) ms ≤ one-if (is_given u)
sum-use u ms apart = by u.machine refl (is_none u.ask.status) refl
  where
    by : (o : Option (List ℕ)) → u.machine ≡ o → (b : Bool) → is_none u.ask.status ≡ b → sum_by (λ m. one-if (is_for m u && is_none u.ask.status)) ms ≤ one-if (is_given u)
    by None at b is =
        let none = sum-zero (λ m. one-if (is_for m u && is_none u.ask.status)) ms
        (every (λ m. one-if (is_for m u && is_none u.ask.status) ≡ 0) ms (λ m. ap (λ (o : Option (List ℕ)). one-if (is_for m (record { ask = u.ask; machine = o }) && is_none u.ask.status)) at)) in
        omega (arith, none)
    by (Some x) at false is =
        let none = sum-zero (λ m. one-if (is_for m u && is_none u.ask.status)) ms
        (every (λ m. one-if (is_for m u && is_none u.ask.status) ≡ 0) ms (λ m. ap (λ (b : Bool). one-if (is_for m u && b)) is ∙ and-false (is_for m u))) in
        omega (arith, none)
      where
        and-false : (c : Bool) → one-if (c && false) ≡ 0
        and-false true = refl
        and-false false = refl
    by (Some x) at true is =
        let same = sum-same (λ m. one-if (is_for m u && is_none u.ask.status)) (λ m. one-if (bytes_eq x m)) ms
        (every (λ m. one-if (is_for m u && is_none u.ask.status) ≡ one-if (bytes_eq x m)) ms (λ m.
        ap (λ (b : Bool). one-if (is_for m u && b)) is ∙ and-true (is_for m u) ∙ ap (λ (o : Option (List ℕ)). one-if (is_for m (record { ask = u.ask; machine = o }))) at)) in
        let few = sum-names x ms apart in
        let full : one-if (is_given u) ≡ 1 = ap (λ (b : Bool). one-if (is_some u.machine && b)) is ∙ ap (λ (o : Option (List ℕ)). one-if (is_some o && true)) at in
        omega (arith, same, few, full)
      where
        and-true : (c : Bool) → one-if (c && true) ≡ one-if c
        and-true true = refl
        and-true false = refl

failed-use : (m : List ℕ) (u : Use) (us : List Use) → failed (found_for m (u ∷ us)) ≡ one-if (is_for m u && is_none u.ask.status) + failed (found_for m us)
failed-use m u us = grind (arith, common_steps)

sum-uses : (us : List Use) (ms : List (List ℕ)) → Distinct ms → sum_by (λ m. failed (found_for m us)) ms ≤ given us
sum-uses [] ms apart = let none = sum-zero (λ m. failed (found_for m [])) ms (every (λ m. failed (found_for m []) ≡ 0) ms (λ m. refl)) in omega (arith, none)
sum-uses (u ∷ us) ms apart =
    let rest = sum-uses us ms apart in
    let one = sum-use u ms apart in
    let both = sum-plus (λ m. failed (found_for m (u ∷ us))) (λ m. one-if (is_for m u && is_none u.ask.status)) (λ m. failed (found_for m us)) ms (λ m. failed-use m u us) in
    let step = length-one is_given u us in
    omega (arith, rest, one, both, step)

-- what holds of those that are among some names holds of each of these
each-of : (P : List ℕ → Type 0) (ms : List (List ℕ)) → ((k : ℕ) (m : List ℕ) → slice_get ms k ≡ Some m → P m) → AllByRecursion P ms
each-of P [] each = tt
each-of P (m ∷ ms) each = (each 0 m refl, each-of P ms (λ k. each (suc k)))

module _ (n : ℕ) (crew : Crew) (word : List ℕ) (machines : List (List ℕ)) (journal : List ℕ → List Placed) (t u : Tally) (tied : Tied n word machines journal t u) (fresh : IsNew t)
    (few : crew.bisect < n → map (λ (x : Use). x.ask) tied.uses ≡ []) (apart : Distinct machines) where
  abbrev asks : List Ask
  asks = map (λ (x : Use). x.ask) tied.uses

  if-asks : IfSome u.asks (AreAsksOf n crew word machines journal)
  if-asks = grind (arith, common_steps)

  counted : all_give_ups n machines journal ≤ given tied.uses
  counted =
      let same : all_give_ups n machines journal ≡ sum_by (λ m. failed (found_for m tied.uses)) machines =
      sum-same (λ m. give_ups n (journal m)) (λ m. failed (found_for m tied.uses)) machines
      (each-of (λ m. give_ups n (journal m) ≡ failed (found_for m tied.uses)) machines
      (λ k m is. ups-of n [] (journal m) ∙ ap failed (tied.found m (at-contains machines k m is)))) in
      let few = sum-uses tied.uses machines apart in
      omega (arith, same, few)

  pub tied-bisector : IsBisector n crew word machines journal (record { asks = u.asks; before = t.faults; after = u.faults })
  tied-bisector = grind (arith, common_steps, if-asks, counted, tied.rose)
