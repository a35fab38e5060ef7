use Rattle.reply_laws.proofs.Named.{replies_named}
use Rattle.reply_laws.proofs.laws.texts_law.Goals as goal

pub returns : goal.returns
returns c = replies_named
