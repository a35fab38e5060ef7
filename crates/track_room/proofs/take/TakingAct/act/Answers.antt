use Rattle.std.proofs.Common.{inl}
use Rattle.track_room.proofs.take.TakingAct.act.Goals as goal

pub returns : goal.returns
returns g c = record { does = (c.take.ensures.taken, c.take.ensures.stays, c.take.ensures.known); grows = inl c.take.ensures.stays }
