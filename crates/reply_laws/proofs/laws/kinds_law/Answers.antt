use Rattle.reply_laws.proofs.Forms.{kinds_told}
use Rattle.reply_laws.proofs.laws.kinds_law.Goals as goal

pub returns : goal.returns
returns c = kinds_told
