use Rattle.command_words.proofs.PlainWords.{plain_words_are}
use Rattle.command_words.proofs.command.plain_words_law.Goals as goal

pub returns : goal.returns
returns c = plain_words_are
