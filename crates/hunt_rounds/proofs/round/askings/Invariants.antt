use Rattle.std.{proofs.Common.{◌≡◌, ◌<◌, ℕ, length, get_or}, specs.Prelude.slice_index}
use Rattle.hunt_rounds.specs.{declared.asking.Asking.Asking, Hunts.name_at}
use Rattle.hunt_rounds.proofs.round.askings.Given as goal

abbrev pub invariant-loop-place : goal.invariant-loop-place
invariant-loop-place l = record {
  count : length l.askings.items ≡ l.place-index;
  tests : (i : ℕ) (d : Asking) → i < l.place-index → (get_or l.askings.items i d).test.now ≡ l.test;
  commits : (i : ℕ) (d : Asking) → i < l.place-index → (get_or l.askings.items i d).commit.now ≡ name_at l.names (slice_index l.places i);
}
