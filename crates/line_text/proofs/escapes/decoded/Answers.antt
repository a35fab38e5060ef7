use Rattle.std.proofs.Common.{sym}
use Rattle.line_text.proofs.Plain.{stands-for-itself}
use Rattle.line_text.proofs.escapes.decoded.Goals as goal

pub returns-then-not-has_percent-clause-bytes : goal.returns-then-not-has_percent-clause-bytes
returns-then-not-has_percent-clause-bytes c = sym (stands-for-itself c.args.word.now (c.has_percent.ensures c.if-not-has_percent.true))
