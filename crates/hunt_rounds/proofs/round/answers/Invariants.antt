use Rattle.std.{proofs.Common.{◌≡◌, ◌<◌, ℕ, length, get_or, Ok, None}, specs.Prelude.slice_index_or}
use Rattle.hunt_rounds.specs.declared.asking.Asking.{Asking}
use Rattle.hunt_rounds.proofs.round.answers.Given as goal

abbrev pub invariant-loop-asking : goal.invariant-loop-asking
invariant-loop-asking l = record {
  count : length l.statuses.items ≡ l.asking-index;
  each : (i : ℕ) (d : Asking) → i < l.asking-index → (get_or l.askings i d).answer ≡ Ok (slice_index_or l.statuses.items i None);
}
