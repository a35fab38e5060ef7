-- No public contract cites this. What has become of the samples while a text is read.
use Rattle.std.specs.Prelude.{◌≡◌, ℕ, ◌<◌, ◌≤◌, ◌⊎◌, true, false, List, ◌++◌, length}
use Rattle.metric_table.specs.{Limits.most, declared.limits.Limit.TheVariants.RunSamples}
use Rattle.sample_model.specs.Samples.{Measurement}
use Rattle.go_bench_text.specs.{Readings.{LineGives, IsOver}, declared.gather.Gathered.Gathered}

-- all of the samples that were given, or the note that they are more than a run may have
pub record Keeps (gathered : Gathered) (given : List Measurement) : Type 0 where
  pub all : gathered.full ≡ false → gathered.samples ≡ given
  pub more : gathered.full ≡ true → most RunSamples < length given

-- these samples were given behind the others
abbrev pub Gains : Gathered → Gathered → List Measurement → Type 0
Gains before after new = (given : List Measurement) → Keeps before given → Keeps after (given ++ new)

-- there are as many samples as a run may have, or more
abbrev pub IsFull : Gathered → Type 0
IsFull gathered = (gathered.full ≡ true) ⊎ (most RunSamples ≤ length gathered.samples)

-- the line's samples, behind the lines before it, were given behind the others, and so many lines are ignored there
pub record AddsLine (old new : Gathered) (before : List (List ℕ)) (line : List ℕ) (ignored : ℕ) : Type 0 where
  pub samples : List Measurement
  pub gives : LineGives before line samples ignored
  pub gains : Gains old new samples
  pub in_range : ¬ IsOver before line
