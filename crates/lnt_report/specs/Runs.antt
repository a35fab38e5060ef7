-- What contracts see of an LNT run, and which trees are one.
use Rattle.std.specs.Prelude.{◌≡◌, ◌≢◌, ℕ, ◌-◌, ◌≤◌, ◌^◌, List, length, min, Some, codes}
use Rattle.json_text.specs.Tree.{Tree}
use Rattle.metric_table.specs.{Limits.most, declared.limits.Limit.TheVariants.RunSamples}
use Rattle.sample_model.specs.Samples.{Measurement}
use Rattle.lnt_report.specs.{Look.fields, Rules.{machine_name, commit_name}, Numbers.{readings, ignored_in, AreMeasured}}

-- the machine, the commit, the samples, and how many members gave none
pub record Report : Type 0 where
  pub machine : List ℕ
  pub commit : List ℕ
  pub samples : List Measurement
  pub ignored : ℕ

-- A metric that an LNT run can give: the key `name` is that of the test's name.
abbrev pub IsGiven : Measurement → Type 0
IsGiven m = m.metric ≢ codes "name"

-- the run that a tree is, where none of the rules is broken; the count of ignored members stands still at 2^64 - 1
pub record IsRun (tree : Tree) (run : Report) : Type 0 where
  pub machine : machine_name (fields (Some tree)) ≡ Some run.machine
  pub commit : commit_name (fields (Some tree)) ≡ Some run.commit
  pub samples : AreMeasured (readings tree) run.samples
  pub few : length run.samples ≤ most RunSamples
  pub ignored : run.ignored ≡ min (ignored_in tree) (2 ^ 64 - 1)
