use Rattle.std.{proofs.Common.{ℕ, List, length, arith}, specs.Ordering.nat_cmp, specs.Cmp.Lexicographic.slice_cmp, proofs.lemmas.Grind.common_steps}
use Rattle.history_model.proofs.Members.{sorted-nil}
use Rattle.series_index.{specs.declared.tracked.Tracked.Tracked, proofs.ByPlace.read-past}
use Rattle.series_index.proofs.series.SeriesIndex.put_at.Goals as goal

abbrev Metrics : Type 0
Metrics = List (List ℕ × Tracked)

abbrev Tests : Type 0
Tests = List (List ℕ × Metrics)

pub returns-then-place-len-clause-sorted : goal.returns-then-place-len-clause-sorted
returns-then-place-len-clause-sorted c = grind (arith, common_steps, length, read-past, slice_cmp, nat_cmp, sorted-nil)
