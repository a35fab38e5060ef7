use Rattle.command_words.proofs.Commands.{one_command}
use Rattle.command_words.proofs.command.one_command_law.Goals as goal

pub returns : goal.returns
returns c = one_command
