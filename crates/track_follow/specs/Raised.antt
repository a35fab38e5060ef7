-- No public contract cites this. The change that a finished segmentation shows.
use Rattle.std.specs.Prelude.{ℕ, ◌-◌, slice_index}
use Rattle.segment_model.specs.Limits.{commits_of}
use Rattle.segment_cost.specs.declared.done.Done.{Done}
use Rattle.history_model.specs.declared.events.Raised.{Raised}

-- the change of this number, from 1: between the commits of the positions beside its cut
abbrev pub raised_from : Done → ℕ → Raised
raised_from done change = record {
  test = done.test;
  metric = done.metric;
  before = slice_index (commits_of done.points) (slice_index done.cert.cuts (change - 1) - 1);
  after = slice_index (commits_of done.points) (slice_index done.cert.cuts (change - 1));
}
