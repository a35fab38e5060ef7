use Rattle.std.{proofs.Common.{◌≡◌, false, List, subst, arith}, specs.Prelude.{bytes_eq, slice_get}, specs.List.AllByRecursion}
use Rattle.std.proofs.lemmas.{List.take_all, Option.slice_get-get_or, Slice.Eq.bytes_eq-Decides, Grind.common_steps}
use Rattle.track_room.{specs.Sights.Home, proofs.Standing.not-named}
use Rattle.track_room.proofs.place.place_of.Goals as goal

pub returns-then-is_of-clause-some : goal.returns-then-is_of-clause-some
returns-then-is_of-clause-some c = grind (arith, common_steps, slice_get, slice_get-get_or, bytes_eq-Decides)

pub returns-clause-none : goal.returns-clause-none
returns-clause-none c =
    let others = subst (λ (hs : List Home). AllByRecursion (λ (h : Home). bytes_eq h.machine c.args.machine.now ≡ false) hs) (take_all c.loop-i.i c.args.machines.now (omega (arith, c.loop-i-test.false))) c.loop-i.invariant in
    not-named c.args.machines.now c.args.machine.now others
