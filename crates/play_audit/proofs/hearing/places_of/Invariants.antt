use Rattle.play_audit.proofs.Knowing.{AreKnownFirst}
use Rattle.play_audit.proofs.hearing.places_of.Given as goal

abbrev pub invariant-loop-journal : goal.invariant-loop-journal
invariant-loop-journal l = AreKnownFirst l.journals l.journal-index l.places.items
