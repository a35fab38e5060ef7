use Rattle.std.proofs.Common.{refl}
use Rattle.commit_lines.proofs.ReaderSteps.{has_none}
use Rattle.commit_lines.proofs.reader.Reader.new.Goals as goal

pub returns-clause-read : goal.returns-clause-read
returns-clause-read c = has_none _ c.new.ensures.empty refl c.new-2.ensures.items
