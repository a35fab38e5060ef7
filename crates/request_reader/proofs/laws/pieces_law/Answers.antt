use Rattle.std.proofs.Common.{◌++◌}
use Rattle.request_reader.proofs.PieceLists.{pieces_join, pieces_come_first}
use Rattle.request_reader.proofs.laws.pieces_law.Goals as goal

pub returns-clause-first : goal.returns-clause-first
returns-clause-first c = pieces_come_first

pub returns-clause-join : goal.returns-clause-join
returns-clause-join c = λ used more asked items one two. (one.0 ++ two.0, pieces_join one.0 two.0 used more asked items one.1 two.1)
