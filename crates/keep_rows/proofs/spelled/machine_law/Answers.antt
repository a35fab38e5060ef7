use Rattle.std.proofs.Common.{subst}
use Rattle.line_text.specs.Names.{IsName}
use Rattle.keep_rows.proofs.Fitting.{may_be}
use Rattle.keep_rows.proofs.spelled.machine_law.Goals as goal

pub returns : goal.returns
returns c =
    may_be c.args.machine.now (subst IsName c.machine.ensures c.bytes_law.ensures) c.legal_law.ensures c.kept_law.ensures c.history_law.ensures.legal c.entries_fit.ensures
