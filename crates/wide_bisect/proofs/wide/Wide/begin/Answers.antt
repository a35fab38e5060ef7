use Rattle.std.{proofs.Common.{◌≡◌, ◌-◌, arith}, specs.List.range_with_len}
use Rattle.wide_bisect.proofs.Rounds.{begun_sound}
use Rattle.wide_bisect.proofs.wide.Wide.begin.Goals as goal

pub invariant_of-result : goal.invariant_of-result
invariant_of-result c =
    let left : c.in-Ok.left.items ≡ range_with_len 1 (c.args.n - 1) = c.in-Ok.ensures in
    rw (c.outcome_between-outcome.ensures, c.deref.ensures.value, left) (begun_sound c.args.n c.args.k (omega arith) (omega arith) (omega arith) (omega arith))
