use Rattle.std.proofs.Common.{take}
use Rattle.track_outside.specs.Calls.{Took}
use Rattle.journal_text.specs.Journals.{journals_text}
use Rattle.journal_text.proofs.write.write_journals.Given as goal

abbrev pub invariant-loop-track : goal.invariant-loop-track
invariant-loop-track g l = Took g.O.Sink l.initial.out l.out (journals_text (take l.track-index l.tracks))
