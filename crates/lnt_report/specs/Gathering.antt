-- No public contract cites this. How far the samples of a run have been gathered.
use Rattle.std.specs.Prelude.{◌⊎◌, ◌≡◌, ℕ, ◌+◌, ◌-◌, ◌^◌, ◌<◌, ◌≤◌, Bool, true, false, ℤ, List, [], ◌++◌, length, min, All, Result, MatchResult}
use Rattle.metric_table.specs.{Limits.most, declared.limits.Limit.TheVariants.RunSamples}
use Rattle.sample_model.specs.Samples.{Measurement}
use Rattle.lnt_report.specs.{Numbers.{Reading, AreMeasured, IsOut}, Runs.IsGiven, declared.gathered.Gathered.Gathered, declared.fault.ReportFault.ReportFault}
use Rattle.lnt_report.specs.declared.fault.ReportFault.TheVariants.{OutOfRange, NoMemory}

-- these samples are beyond those that are kept, and `over` says whether there are any; there are none until as many
-- are kept as a run may have
abbrev pub AreBeyond : Bool → List Measurement → List Measurement → Type 0
AreBeyond false kept beyond = beyond ≡ []
AreBeyond true kept beyond = (most RunSamples ≤ length kept) × (0 < length beyond)

-- Of all these numbers the last ones are left, and of the members that are ignored in total so many. The others are
-- gathered: the samples that they are, as far as a run may have them.
pub record Leaves (all : List Reading) (total : ℕ) (left : List Reading) (more : ℕ) (g : Gathered) : Type 0 where
  pub past : List Reading
  pub beyond : List Measurement
  pub count : ℕ
  pub split : past ++ left ≡ all
  pub measured : AreMeasured past (g.samples ++ beyond)
  pub over : AreBeyond g.over g.samples beyond
  pub counted : count + more ≡ total
  pub ignored : g.ignored ≡ min count (2 ^ 64 - 1)
  pub given : All IsGiven g.samples

-- the fault names the first of the numbers that is no sample, unless memory ran out
abbrev pub IsRefusal : List Reading → ReportFault → Type 0
IsRefusal all (OutOfRange test metric) = IsOut all test metric
IsRefusal all NoMemory = Unit {0}
IsRefusal all fault = ⊥

-- What became of a part of the numbers, with so many members that are ignored: where they were left to gather, with
-- others behind them, only those others are left; or the fault names the first number that is no sample.
abbrev pub Gathers : List Reading → ℕ → Gathered → Gathered → Result Unit ReportFault → Type 0
Gathers here ignored old new result = (all left : List Reading) (total more : ℕ)
    → Leaves all total (here ++ left) (ignored + more) old
    → MatchResult result (λ _. Leaves all total left more new) (λ fault. IsRefusal all fault)

-- the sample of this test and metric, with this value
abbrev pub measurement : List ℕ → List ℕ → ℤ → Measurement
measurement test metric value = record { test = test; metric = metric; value = value }

-- the fault names this test and metric, unless memory ran out
abbrev pub IsNamed : List ℕ → List ℕ → ReportFault → Type 0
IsNamed test metric fault = (fault ≡ OutOfRange test metric) ⊎ (fault ≡ NoMemory)
