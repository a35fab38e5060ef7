use Rattle.std.proofs.{Common.{◌≡◌, ◌||◌, nat_lt, Bool, true, false, length, refl, arith}, lemmas.Bool.{lt-ltb, cases_eq, eq-eqb}, lemmas.Grind.common_steps}
use Rattle.series_index.proofs.Placing.{size-placed}
use Rattle.series_index.proofs.log.PointLog.takes.Goals as goal

either : (a b : Bool) → b ≡ true → (a || b) ≡ true
either true b e = refl
either false b e = e

-- where any wait, there are fewer positions than may be
pub returns-then-not-is_empty : goal.returns-then-not-is_empty
returns-then-not-is_empty c = grind (arith, common_steps, length, cases_eq, eq-eqb, size-placed, either, nat_lt, lt-ltb)
