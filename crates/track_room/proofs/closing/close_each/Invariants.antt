use Rattle.std.{proofs.Common.{◌≡◌, ◌≤◌, ◌++◌, length, map}, specs.Prelude.vec_capacity, specs.List.AllZip}
use Rattle.track_room.specs.{Rooms.IsWhole, Sights.{Sight, Ends, EndsWhole, tracks_of}}
use Rattle.track_room.proofs.closing.close_each.Given as goal

abbrev pub invariant-loop-pass : goal.invariant-loop-pass
invariant-loop-pass l =
    (goal.iterator-loop-pass).can_next l.pass-iterator
    × (goal.iterator-loop-pass).is_finite l.pass-iterator
    × (l.machine ≡ length l.yielded)
    × (map (λ (s : Sight). s.home) l.yielded ++ l.locks.rest.items ≡ l.fn.machines.items)
    × AllZip Ends l.yielded (tracks_of l.states.items)
    × (IsWhole l.fn.passes.items → AllZip EndsWhole l.yielded (tracks_of l.states.items))
    × (length l.fn.passes.items ≤ vec_capacity l.states)
