use Rattle.std.proofs.lemmas.Grind.{common_steps}
use Rattle.std.proofs.{Common.{◌≡◌, ◌+◌, ◌-◌, ◌∙◌, List, ◌∷◌, length, drop, sym, ap, pos, slice_index_or, arith}, lemmas.List.{drop_more, length-drop}}
use Rattle.segment_model.proofs.Inserted.{size-inserted}
use Rattle.series_index.{specs.declared.coming.Coming.Coming, specs.Log.{observed, all_placed, MayBePlaced}, proofs.Placing.room-first}
use Rattle.series_index.proofs.log.place_first.Goals as goal

pub place-requires : goal.place-requires
place-requires c =
    let coming : List Coming = c.args.coming.now in
    let x : Coming = slice_index_or coming c.loop-i.i (record { commit = 0; step = 0; value = pos 0 }) in
    let step : drop c.loop-i.i coming ≡ x ∷ drop (c.loop-i.i + 1) coming = drop_more coming c.loop-i.i (record { commit = 0; step = 0; value = pos 0 }) c.loop-i-test.true in
    let left : length (x ∷ drop (c.loop-i.i + 1) coming) ≡ length coming - c.loop-i.i = ap length (sym step) ∙ length-drop c.loop-i.i coming in
    let may : MayBePlaced (x ∷ drop (c.loop-i.i + 1) coming) c.loop-i.placed = grind (arith, common_steps) in
    room-first x (drop (c.loop-i.i + 1) coming) c.loop-i.placed may c.limits.ensures

pub loop-i-preserved : goal.loop-i-preserved
loop-i-preserved c =
    let coming : List Coming = c.args.coming.now in
    let x : Coming = slice_index_or coming c.loop-i.i (record { commit = 0; step = 0; value = pos 0 }) in
    let step : drop c.loop-i.i coming ≡ x ∷ drop (c.loop-i.i + 1) coming = drop_more coming c.loop-i.i (record { commit = 0; step = 0; value = pos 0 }) c.loop-i-test.true in
    let more = size-inserted x.commit (observed x) c.loop-i.placed in
    record {
      same = ap (all_placed (drop (c.loop-i.i + 1) coming)) c.in_default.ensures.ok ∙ sym (ap (λ ys. all_placed ys c.loop-i.placed) step) ∙ c.loop-i.invariant.same;
      fewer = omega (arith, ap length c.in_default.ensures.ok, more, c.loop-i.invariant.fewer);
    }
