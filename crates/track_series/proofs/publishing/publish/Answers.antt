use Rattle.std.proofs.Common.{sym, ◌∙◌}
use Rattle.history_model.specs.{Entries.entries_of, Publications.last_publication}
use Rattle.publication_index.specs.Kept.{series_of}
use Rattle.track_series.proofs.Beginning.{not-later}
use Rattle.track_series.proofs.publishing.publish.Goals as goal

pub put-requires-clause-latest : goal.put-requires-clause-latest
put-requires-clause-latest c = not-later c.args.done.version (last_publication (series_of c.args.done) (entries_of c.args.track.now.history)) (sym c.later.ensures ∙ c.in_default.is)
