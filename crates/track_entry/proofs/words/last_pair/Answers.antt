use Rattle.std.proofs.Common.{[]}
use Rattle.track_entry.proofs.Readers.{kept_err}
use Rattle.track_entry.proofs.words.last_pair.Goals as goal

pub returns-in_err-first : goal.returns-in_err-first
returns-in_err-first c first second is_first is_second are =
    kept_err c.in_err-first.field-0.0 c.from_residual.result _ _ c.from_residual.ensures (c.in_err-first.ensures.reads first second [] is_first is_second are)
