use Rattle.track_entry.proofs.OlderTexts.{one-v1}
use Rattle.track_entry.proofs.versions.entries_v1_law.Goals as goal

pub returns : goal.returns
returns c = one-v1 c.entries_law.ensures
