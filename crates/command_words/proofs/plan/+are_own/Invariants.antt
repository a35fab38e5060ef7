use Rattle.std.proofs.Common.{length}
use Rattle.command_words.proofs.plan.+are_own.Given as goal

abbrev pub decreases-are_own : goal.decreases-are_own
decreases-are_own l = length l.scripts.now
