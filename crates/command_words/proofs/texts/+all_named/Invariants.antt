use Rattle.std.proofs.Common.{length}
use Rattle.command_words.proofs.texts.+all_named.Given as goal

abbrev pub decreases-all_named : goal.decreases-all_named
decreases-all_named l = length l.texts.now
