use Rattle.track_room.proofs.Segments.{made-of-taken}
use Rattle.room_tests.proofs.of_track_state.made_of.Goals as goal

pub published-requires-clause-made : goal.published-requires-clause-made
published-requires-clause-made g c =
    made-of-taken c.publication_law.ensures.last_stands c.args.claim.machine c.args.pass.now (record { key = c.args.claim.key; snapshot = c.args.snapshot }) c.in-Ok.redone c.requires.taken c.in-Ok.ensures
