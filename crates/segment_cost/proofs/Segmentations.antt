-- Segmentations of which every part but what they stand for is the same.
use Rattle.std.proofs.{Common.{◌≡◌, ◌^◌, pos, ◌≤ℤ◌}, Math.Path.to_path_p, Math.Logic.∥∥₁_prop}
use Rattle.segment_model.specs.Limits.{IsLength}
use Rattle.segment_cost.specs.{Certificate.StandsFor, declared.done.Done.Done}

-- they are equal, since no fact has two proofs
pub same_segmentation : (one other : Done) → one.test ≡ other.test → one.metric ≡ other.metric → one.version ≡ other.version → one.base ≡ other.base → one.redone ≡ other.redone → one.cert ≡ other.cert → one.points ≡ other.points → one ≡ other
same_segmentation one other test metric version base redone cert points = λ i. record {
  test = test i;
  metric = metric i;
  version = version i;
  base = base i;
  redone = redone i;
  cert = cert i;
  points = points i;
  stands = to_path_p (λ j. ∥ (pos 0 ≤ℤ (cert j).penalty) × ((cert j).penalty ≤ℤ pos (10 ^ 36)) × IsLength (cert j).length × StandsFor (points j) (cert j).penalty (cert j).length (cert j) ∥₁) {a = one.stands} {b = other.stands} (∥∥₁_prop _ other.stands) i;
}
