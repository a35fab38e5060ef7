-- The runs that a history accepts and retracts, and the series of their samples.
use Rattle.std.specs.Prelude.{ℕ, Bool, not, ◌&&◌, ◌==◌, List, [], ◌∷◌, map, length, sum_by, filter, flat_map, find, is_none, bytes_eq, Option, Some, None}
use Rattle.std.specs.{List.list_any, Ordering.int_eq}
use lib.Pointwise.{pointwise}
use Rattle.history_model.specs.{Entries.chosen, declared.entries.Acceptance.Acceptance, declared.entries.Entry.Entry}
use Rattle.history_model.specs.declared.{entries.Entry.TheVariants.{Accept, Retract}, run.Run.Run}
use Rattle.sample_model.specs.Samples.{Measurement}

-- a run, with the step at which it was accepted
abbrev pub acceptance : ℕ → Entry → Option Acceptance
acceptance step (Accept run) = Some (record { step = step; run = run })
acceptance step e = None

abbrev pub acceptances : List Entry → List Acceptance
acceptances h = chosen acceptance h

-- a run's name, with the step at which the run was retracted
pub record Retraction : Type 0 where
  pub step : ℕ
  pub run : List ℕ

abbrev pub retraction : ℕ → Entry → Option Retraction
retraction step (Retract run) = Some (record { step = step; run = run })
retraction step e = None

abbrev pub retractions : List Entry → List Retraction
retractions h = chosen retraction h

abbrev pub is_run : List ℕ → Acceptance → Bool
is_run run a = bytes_eq a.run.run run

abbrev pub takes_back : List ℕ → Retraction → Bool
takes_back run r = bytes_eq r.run run

-- the acceptance of the run of this name, and its retraction
abbrev pub accepted : List ℕ → List Entry → Option Acceptance
accepted run h = find (is_run run) (acceptances h)

abbrev pub retracted : List ℕ → List Entry → Option Retraction
retracted run h = find (takes_back run) (retractions h)

-- the runs that none of these retractions takes back
abbrev pub live_of : List Retraction → List Acceptance → List Acceptance
live_of taken runs = filter (λ (a : Acceptance). is_none (find (takes_back a.run.run) taken)) runs

-- a run is live where it was accepted and not retracted
abbrev pub live_runs : List Entry → List Acceptance
live_runs h = live_of (retractions h) (acceptances h)

-- a series is a test and a metric
pub record Series : Type 0 where
  pub test : List ℕ
  pub metric : List ℕ

abbrev pub is_of : Series → Measurement → Bool
is_of series x = bytes_eq x.test series.test && bytes_eq x.metric series.metric

abbrev pub same_series : Series → Series → Bool
same_series one other = bytes_eq one.test other.test && bytes_eq one.metric other.metric

-- the list without what the test finds equal to an earlier item
abbrev pub distinct : {A : Type 0} → (A → A → Bool) → List A → List A
distinct same [] = []
distinct same (x ∷ xs) = x ∷ filter (λ y. not (same x y)) (distinct same xs)

-- the series of some runs' samples, each once, in order of their first samples
abbrev pub series_of : List Acceptance → List Series
series_of runs =
    distinct same_series (flat_map (λ (a : Acceptance). map (λ (x : Measurement). record { test = x.test; metric = x.metric }) a.run.samples) runs)

-- a series is known once an accepted run had a sample of it
abbrev pub known_series : List Entry → List Series
known_series h = series_of (acceptances h)

abbrev pub is_known : Series → List Entry → Bool
is_known series h = list_any (λ (a : Acceptance). list_any (is_of series) a.run.samples) (acceptances h)

-- the series of a sample
abbrev pub measured : Measurement → Series
measured x = record { test = x.test; metric = x.metric }

-- the series of some samples that the history doesn't know, each once
abbrev pub new_series : List Entry → List Measurement → List Series
new_series h samples = filter (λ s. not (is_known s h)) (distinct same_series (map measured samples))

abbrev pub sample_count : List Acceptance → ℕ
sample_count runs = sum_by (λ (a : Acceptance). length a.run.samples) runs

-- two samples of one series and one value
abbrev pub same_sample : Measurement → Measurement → Bool
same_sample x y = bytes_eq x.test y.test && bytes_eq x.metric y.metric && int_eq x.value y.value

-- two runs of one commit with equal samples, one by one
abbrev pub same_run : Run → Run → Bool
same_run one other = one.commit == other.commit && pointwise same_sample one.samples other.samples
