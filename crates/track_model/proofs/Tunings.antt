-- A setting of which nothing is refused is in range, and its metric is short enough.
use Rattle.std.{proofs.Common.{◌≡◌, ℕ, ℤ, ◌≤◌, List, length, arith}, specs.Prelude.None, proofs.lemmas.Grind.common_steps}
use Rattle.metric_table.specs.Table.{IsPenalty}
use Rattle.segment_model.specs.Limits.{IsLength}
use Rattle.track_model.specs.Forms as forms

pub free-follows : (metric : List ℕ) (z : ℤ) (len : ℕ) → forms.tune_refusal metric z len ≡ None → (length metric ≤ 64) × IsPenalty z × IsLength len
free-follows metric z len free = grind (arith, common_steps)

pub follows-free : (metric : List ℕ) (z : ℤ) (len : ℕ) → (length metric ≤ 64) × IsPenalty z × IsLength len → forms.tune_refusal metric z len ≡ None
follows-free metric z len may = grind (arith, common_steps)
