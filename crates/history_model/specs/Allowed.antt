-- Which entry may come after a history, and which histories are legal.
use Rattle.std.specs.Prelude.{◌≡◌, ℕ, ◌≤◌, nat_lt, if◌then◌else◌, max, List, [], ◌∷◌, ◌++◌, map, length, Option, Some, None, IsSome}
use Rattle.metric_table.specs.{Limits.most, declared.limits.Limit.Limit}
use Rattle.metric_table.specs.declared.limits.Limit.TheVariants.{Commits, Runs, RunSamples, Samples, Series as KnownSeries, SeriesSamples, Positions, Steps, Cuts, Jobs}
use Rattle.segment_model.specs.Limits.{IsLength}
use Rattle.sample_model.specs.Samples.{AreSamples}
use Rattle.history_model.specs.declared.entries.{Acceptance.Acceptance, Entry.Entry}
use Rattle.history_model.specs.declared.entries.Entry.TheVariants.{Commit, Accept, Retract, Tune, Publish, Regression, Job}
use Rattle.history_model.specs.Commits.{declarations, number_of, name_of}
use Rattle.history_model.specs.{Runs.{Series, acceptances, accepted, retracted, live_runs, known_series, sample_count}, Positions.{brought, positions}}
use Rattle.metric_table.specs.Table.{IsPenalty}
use Rattle.history_model.specs.{Publications.{cut_count, MayPublish}, Regressions.MayBecome, Jobs.{jobs, open_count, MayHappen}}

-- the greatest of some numbers, or 0
abbrev pub greatest_of : List ℕ → ℕ
greatest_of [] = 0
greatest_of (n ∷ ns) = max n (greatest_of ns)

-- how many of a limited thing a history has; of what is limited for each run or series, how many where it has most
abbrev pub count_of : Limit → List Entry → ℕ
count_of Steps h = length h
count_of Commits h = length (declarations h)
count_of Runs h = length (acceptances h)
count_of RunSamples h = greatest_of (map (λ (a : Acceptance). length a.run.samples) (acceptances h))
count_of Samples h = sample_count (acceptances h)
count_of KnownSeries h = length (known_series h)
count_of SeriesSamples h = greatest_of (map (λ (s : Series). length (brought s (live_runs h))) (known_series h))
count_of Positions h = greatest_of (map (λ (s : Series). length (positions h s)) (known_series h))
count_of Cuts h = cut_count h
count_of Jobs h = open_count (jobs h)
count_of other h = 0

-- the history has no more of anything than there may be
abbrev pub KeepsLimits : List Entry → Type 0
KeepsLimits h = (limit : Limit) → count_of limit h ≤ most limit

-- the first of these limits that the history passes with the entry
abbrev pub first_passed : List Limit → List Entry → Entry → Option Limit
first_passed [] h e = None
first_passed (limit ∷ limits) h e = if nat_lt (most limit) (count_of limit (h ++ e ∷ [])) then Some limit else first_passed limits h e

-- what a run more may pass, in the order in which it is told
abbrev pub run_limits : List Limit
run_limits = Steps ∷ Runs ∷ Samples ∷ KnownSeries ∷ SeriesSamples ∷ Positions ∷ []

-- what an entry of each kind needs of the history before it
abbrev pub MayFollow : List Entry → Entry → Type 0
MayFollow h (Commit number name) = (name_of number h ≡ None) × (number_of name h ≡ None)
MayFollow h (Accept run) = (accepted run.run h ≡ None) × IsSome (name_of run.commit h) × AreSamples run.samples
MayFollow h (Retract run) = IsSome (accepted run h) × (retracted run h ≡ None)
MayFollow h (Tune metric penalty len) = (length metric ≤ 64) × IsPenalty penalty × IsLength len
MayFollow h (Publish p) = MayPublish h p
MayFollow h (Regression event) = MayBecome h event
MayFollow h (Job event) = MayHappen h event

-- the entry may follow, and the limits are kept with it
abbrev pub Allowed : List Entry → Entry → Type 0
Allowed h e = MayFollow h e × KeepsLimits (h ++ e ∷ [])

-- each of the entries is allowed after those before it
abbrev pub AllowedAfter : List Entry → List Entry → Type 0
AllowedAfter h [] = Unit {0}
AllowedAfter h (e ∷ es) = Allowed h e × AllowedAfter (h ++ e ∷ []) es

abbrev pub Legal : List Entry → Type 0
Legal h = AllowedAfter [] h
