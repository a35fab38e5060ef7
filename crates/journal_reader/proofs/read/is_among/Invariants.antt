use Rattle.std.{proofs.Common.take, specs.List.AllByRecursion}
use Rattle.journal_reader.specs.Journals.{IsOther}
use Rattle.journal_reader.proofs.read.is_among.Given as goal

abbrev pub invariant-loop-journal : goal.invariant-loop-journal
invariant-loop-journal l = AllByRecursion (IsOther l.machine) (take l.journal-index l.journals)
