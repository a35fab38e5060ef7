use Rattle.track_room.proofs.Outs.{join-comes-back, none-is-out, none-out-is-whole, split-back-stays, split-goes-out, work-stays-out}
use Rattle.track_room.proofs.laws.whole_law.Goals as goal

pub returns : goal.returns
returns c = record { new = none-is-out; split = split-goes-out; split_back = split-back-stays; work = work-stays-out; join = join-comes-back; whole = none-out-is-whole }
