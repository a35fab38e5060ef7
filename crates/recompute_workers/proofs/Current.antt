-- Private: no public contract cites this. A series that isn't stale is current.
use Rattle.std.proofs.{Common.{◌≡◌, inl, inr, true, false, List, ◌⊎◌, arith}, lemmas.Grind.common_steps}
use Rattle.history_model.specs.{declared.entries.Entry.Entry, Runs.{Series, is_known}}
use Rattle.touch_model.specs.Stale.{is_stale}
use Rattle.worker_model.specs.Quiet.{HasAllSteps, IsCurrent, WouldPassCuts}
use Rattle.recompute_workers.specs.Quiet.{IsQuiet}

true-false : true ≡ false → ⊥
true-false is = cc

is-current : (h : List Entry) (s : Series) → is_known s h ≡ true → is_stale h s ≡ false → IsCurrent h s
is-current h s known fresh = grind (arith, common_steps)

pub current-of : (h : List Entry) (s : Series) → is_known s h ≡ true → IsQuiet h s → IsCurrent h s ⊎ (HasAllSteps h ⊎ WouldPassCuts h s)
current-of h s known quiet = elim quiet [ inl fresh ↦ inl (is-current h s known fresh) | inr full ↦ inr full ]
