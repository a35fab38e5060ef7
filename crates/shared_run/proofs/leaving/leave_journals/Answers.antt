use Rattle.journal_text.specs.Journals.{journals_text}
use Rattle.shared_run.proofs.Taken.{written-part}
use Rattle.shared_run.proofs.leaving.leave_journals.Goals as goal

pub returns-then-not-full-clause-wrote : goal.returns-then-not-full-clause-wrote
returns-then-not-full-clause-wrote g c = written-part g.O.Sink c.args.out.now c.write_journals.new.out (journals_text c.args.journals.now) c.write_journals.result c.write_journals.ensures
