use Rattle.std.proofs.Common.{length}
use Rattle.command_words.proofs.audit.+are_others.Given as goal

abbrev pub decreases-are_others : goal.decreases-are_others
decreases-are_others l = length l.scripts.now
