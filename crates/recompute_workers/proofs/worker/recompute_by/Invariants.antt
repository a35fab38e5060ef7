use Rattle.std.specs.List.{AllZip}
use Rattle.history_model.specs.declared.entries.Author.TheVariants.{Recompute}
use Rattle.track_room.specs.Rooms.{IsPassOf}
use Rattle.recompute_workers.specs.Works.{Works}
use Rattle.recompute_workers.proofs.worker.recompute_by.Given as goal

abbrev pub invariant-turns : goal.invariant-turns
invariant-turns g l = record {
  room : IsPassOf l.room l.pass;
  works : AllZip (Works (Recompute l.number)) l.fn.pass l.pass;
}
