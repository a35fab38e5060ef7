use Rattle.std.proofs.{Common.{◌≡◌, List, ℤ, ℕ, ◌<◌, [], ◌∷◌, ◌++◌, ◌+◌, take, length, arith}, lemmas.Grind.common_steps}
use Rattle.segment_model.{specs.Values.values_by_position, proofs.Filling.{filled-next, filled-within}}
use Rattle.pelt_core.specs.Seen.{Tabled, table_of}
use Rattle.pelt_core.proofs.table.Table.of_points.Goals as goal

-- a table of more positions with the same penalty and length
tabled-more : (t t' : Tabled) (ps qs : List (List ℤ)) (v : List ℤ) (b : ℤ) (len : ℕ) → t' ≡ table_of (t.positions ++ v ∷ []) t.penalty t.length → t ≡ table_of ps b len → t.positions ++ v ∷ [] ≡ qs
    → t' ≡ table_of qs b len
tabled-more t t' ps qs v b len e are is = grind (arith, common_steps)

pub push-requires : goal.push-requires
push-requires g c =
    let lt : c.loop-i.i < length c.args.points.now = omega (arith, c.loop-i-test.true, c.len-i-end.ensures) in
    record {
      limits = grind (arith, common_steps, filled-within, lt, c.limits.ensures, c.loop-i.i, c.loop-i.table.positions);
    }

pub loop-i-preserved : goal.loop-i-preserved
loop-i-preserved g c = grind (arith, common_steps, length, filled-next, tabled-more, take, values_by_position)
