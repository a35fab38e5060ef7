use Rattle.std.proofs.Common.{◌≡◌, ◌≤◌, length, drop}
use Rattle.history_model.specs.Entries.{entries_of}
use Rattle.journal_walk.specs.{Firsts.{first_from, place_of}, declared.firsts.SeriesVersion.SeriesVersion}
use Rattle.journal_walk.proofs.firsts.Firsts.of.Given as goal

abbrev pub invariant-loop-place : goal.invariant-loop-place
invariant-loop-place l = record {
  within : l.place ≤ length l.history;
  firsts : (key : SeriesVersion) → place_of key l.firsts ≡ first_from l.place key (drop l.place (entries_of l.history));
}

abbrev pub decreases-loop-place : goal.decreases-loop-place
decreases-loop-place l = l.place
