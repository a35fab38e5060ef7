use Rattle.history_model.specs.declared.entries.Author.TheVariants.{Bisect}
use Rattle.track_room.specs.Rooms.{IsPassOf}
use Rattle.bisect_workers.specs.Beside.{IsBisectedIn}
use Rattle.bisect_workers.proofs.worker.bisect_by.Given as goal

abbrev pub invariant-turns : goal.invariant-turns
invariant-turns g l = record {
  room : IsPassOf l.room l.pass;
  bisected : IsBisectedIn (Bisect l.number) l.test l.fn.pass l.pass (g.A.Runner.asked l.fn.runner) (g.A.Runner.asked l.runner) (g.A.Runner.faults l.fn.runner) (g.A.Runner.faults l.runner);
}
