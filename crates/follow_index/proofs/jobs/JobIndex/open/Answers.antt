use Rattle.std.proofs.Common.{ℕ, List, length, ap, arith}
use Rattle.bisect_core.specs.Bisections.{Bisection}
use Rattle.history_model.specs.Jobs.{open_count}
use Rattle.follow_index.proofs.Counts.{counted_open}
use Rattle.follow_index.proofs.jobs.JobIndex.open.Goals as goal

pub returns : goal.returns
returns c =
    let size = ap (λ (ns : List ℕ). length ns) c.self.invariant in
    let count = counted_open 1 c.self.inside.items.items in
    let seen = ap (λ (xs : List Bisection). open_count xs) c.self.view_is in
    omega (arith, size, count, seen, c.len.ensures, c.self.inside.under_way.ok)
