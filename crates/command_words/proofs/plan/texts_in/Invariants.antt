use Rattle.std.proofs.Common.{◌≡◌, take}
use Rattle.command_words.specs.Texts.{shown}
use Rattle.command_words.proofs.plan.texts_in.Given as goal

abbrev pub invariant-loop-name : goal.invariant-loop-name
invariant-loop-name l = shown l.texts.items ≡ take l.name-index l.names
