use Rattle.std.proofs.{Common.{ℕ, ◌<◌, List, length, subst, ◌∙◌, sym, arith}, lemmas.Option.slice_get_within, lemmas.Grind.common_steps}
use Rattle.track_room.specs.{Claims.Claimed, Rooms.AreSame, Sights.Sight}
use Rattle.track_room.proofs.room.Room.publish.Goals as goal

still-there : (machine : ℕ) (old new : List Sight) → machine < length old → AreSame old new → machine < length new
still-there machine old new less same = grind (arith, common_steps)

pub end_claim-requires-clause-there : goal.end_claim-requires-clause-there
end_claim-requires-clause-there g c =
    subst (λ (x : Claimed). x.machine < length c.hand_in.new.pass) (sym c.claim.view_is)
    (still-there c.args.claim.machine c.args.pass.now c.hand_in.new.pass
    (slice_get_within c.args.pass.now c.args.claim.machine c.requires.made.0 c.requires.made.1) c.hand_in.ensures.same)

pub returns-clause-same : goal.returns-clause-same
returns-clause-same g c = c.end_claim.ensures.same ∙ c.hand_in.ensures.same
