-- How much runs of one sample each bring.
use Rattle.std.proofs.Common.{◌≡◌, ℕ, suc, ◌+◌, ◌<◌, ◌≤◌, Bool, true, false, not, List, [], ◌∷◌, length, filter, map, refl, ap, arith, length-append}
use Rattle.std.{specs.Prelude.{find, is_none, flat_map, if◌then◌else◌, nat_lt, ◌==◌}, specs.List.{AllByRecursion, list_any}, proofs.lemmas.List.length-map}
use Rattle.std.proofs.lemmas.List.{Sums.sum_by-cons, Concat.flat_map-cons}
use Rattle.sample_model.specs.Samples.{Measurement}
use Rattle.segment_model.specs.Brought.{Brought, in_place, rising, positions_of}
use Rattle.history_model.specs.{declared.entries.Acceptance.Acceptance, Positions.{brought_by, brought}}
use Rattle.history_model.specs.Runs.{Retraction, Series, is_of, same_series, distinct, series_of, sample_count, live_of, measured, takes_back}
use Rattle.trial_script.{specs.Requests.{sample, test, metric}, proofs.Lists.filter_few, proofs.Reached.IsTaken}

abbrev pub series : Series
series = record { test = test; metric = metric }

one_sample : (j : ℕ) (a : Acceptance) → IsTaken j a → length a.run.samples ≡ 1
one_sample j a is = ap (λ (ms : List Measurement). length ms) is.measured

-- ---- what a series is brought

by_one : (s : Series) (a : Acceptance) (j : ℕ) → IsTaken j a → length (brought_by s a) ≤ 1
by_one s a j is = simp length-map (omega (arith, filter_few (is_of s) a.run.samples, one_sample j a is))

pub brought_few : (s : Series) (rs : List Retraction) (j : ℕ) (xs : List Acceptance) → AllByRecursion (IsTaken j) xs
    → length (brought s (live_of rs xs)) ≤ length xs
brought_few s rs j [] all = omega arith
brought_few s rs j (a ∷ xs) all = step (is_none (find (takes_back a.run.run) rs)) (brought_few s rs j xs all.1)
  where
    step : (b : Bool) → length (brought s (live_of rs xs)) ≤ length xs → length (brought s (if b then a ∷ live_of rs xs else live_of rs xs)) ≤ suc (length xs)
    step true few = omega (
      arith,
      few,
      by_one s a j all.0,
      ap length (flat_map-cons (brought_by s) a (live_of rs xs)),
      length-append (brought_by s a)
          (brought s (live_of rs xs)),
    )
    step false few = omega (arith, few)

-- ---- positions

place_more : (c : ℕ) (ds : List ℕ) → length (in_place c ds) ≤ suc (length ds)
place_more c [] = omega arith
place_more c (d ∷ ds) = step (nat_lt c d) (d == c) (place_more c ds)
  where
    step : (b e : Bool) → length (in_place c ds) ≤ suc (length ds)
        → length (if b then c ∷ d ∷ ds else (if e then d ∷ ds else d ∷ in_place c ds)) ≤ suc (suc (length ds))
    step true e few = omega (arith, few)
    step false true few = omega (arith, few)
    step false false few = omega (arith, few)

rising_few : (cs : List ℕ) → length (rising cs) ≤ length cs
rising_few [] = omega arith
rising_few (c ∷ cs) = omega (arith, place_more c (rising cs), rising_few cs)

pub positions_few : (xs : List Brought) → length (positions_of xs) ≤ length xs
positions_few xs =
    let commits : List ℕ = map (λ (x : Brought). x.commit) xs in
    let few : length commits ≡ length xs = simp length-map in
    simp length-map (omega (arith, rising_few commits, few))

-- ---- samples and series

pub samples_few : (j : ℕ) (xs : List Acceptance) → AllByRecursion (IsTaken j) xs → sample_count xs ≡ length xs
samples_few j [] all = refl
samples_few j (a ∷ xs) all =
    let later = samples_few j xs all.1 in
    let split : sample_count (a ∷ xs) ≡ length a.run.samples + sample_count xs = sum_by-cons (λ (b : Acceptance). length b.run.samples) a xs in
    omega (arith, one_sample j a all.0, later, split)

distinct_few : (xs : List Series) → length (distinct same_series xs) ≤ length xs
distinct_few [] = omega arith
distinct_few (x ∷ xs) = omega (arith, filter_few (λ y. not (same_series x y)) (distinct same_series xs), distinct_few xs)

abbrev of_run : Acceptance → List Series
of_run a = map (λ (x : Measurement). record { test = x.test; metric = x.metric }) a.run.samples

all_few : (j : ℕ) (xs : List Acceptance) → AllByRecursion (IsTaken j) xs → length (flat_map of_run xs) ≤ length xs
all_few j [] all = omega arith
all_few j (a ∷ xs) all =
    let here : length (of_run a) ≡ length a.run.samples = simp length-map in
    omega (arith, all_few j xs all.1, ap length (flat_map-cons of_run a xs), length-append (of_run a) (flat_map of_run xs), here, one_sample j a all.0)

pub series_few : (j : ℕ) (xs : List Acceptance) → AllByRecursion (IsTaken j) xs → length (series_of xs) ≤ length xs
series_few j xs all = omega (arith, distinct_few (flat_map of_run xs), all_few j xs all)

pub new_few : (p : Series → Bool) (v : ℕ) → length (filter p (distinct same_series (map measured (sample v ∷ [])))) ≤ 1
new_few p v = omega (arith, filter_few p (distinct same_series (map measured (sample v ∷ []))))

-- ---- the series is known
pub known_there : (j : ℕ) (xs : List Acceptance) → AllByRecursion (IsTaken j) xs → 0 < length xs
    → list_any (λ (a : Acceptance). list_any (is_of series) a.run.samples) xs ≡ true
known_there j [] all some = absurd (omega (arith, some))
known_there j (a ∷ xs) all some = rw all.0.measured refl
