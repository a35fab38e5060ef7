-- The numbers that histories, series and runs keep to.
use Rattle.std.specs.Prelude.{ℕ, List, codes}
use Rattle.metric_table.specs.declared.limits.Limit.{Limit}
use Rattle.metric_table.specs.declared.limits.Limit.TheVariants.{Machines, Commits, Runs, RunSamples, Samples, Series, SeriesSamples, Positions, Steps, Cuts, Jobs}

-- the most that there may be of what a limit counts
abbrev pub most : Limit → ℕ
most Machines = 16
most Commits = 65_536
most Runs = 65_536
most RunSamples = 65_536
most Samples = 524_288
most Series = 16_384
most SeriesSamples = 65_536
most Positions = 16_384
most Steps = 1_048_576
most Cuts = 16_777_216
most Jobs = 256

-- the word that a reply names a limit by
abbrev pub word : Limit → List ℕ
word Machines = codes "machines"
word Commits = codes "commits"
word Runs = codes "runs"
word RunSamples = codes "run_samples"
word Samples = codes "samples"
word Series = codes "series"
word SeriesSamples = codes "series_samples"
word Positions = codes "positions"
word Steps = codes "steps"
word Cuts = codes "cuts"
word Jobs = codes "jobs"
