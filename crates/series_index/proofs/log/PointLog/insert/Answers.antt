use Rattle.std.proofs.{Common.{◌≡◌, ◌∙◌, List, [], ◌∷◌, ◌++◌, length, sym, ap, subst, FitsSigned, w64, arith}, lemmas.Int.to_z-of_z, lemmas.Grind.common_steps}
use Rattle.segment_model.specs.{Segments.Position, Limits.WithinLimits, Edits.inserted}
use Rattle.series_index.specs.{declared.coming.Coming.Coming, Log.{all_placed, MayBePlaced, HaveRoom}}
use Rattle.series_index.proofs.Placing.{placed-push, may-more, within-more}
use Rattle.series_index.proofs.log.PointLog.insert.Goals as goal

pub invariant_of-self-then-len-lt-MOST_POSITIONS : goal.invariant_of-self-then-len-lt-MOST_POSITIONS
invariant_of-self-then-len-lt-MOST_POSITIONS c =
    let fits : FitsSigned w64 c.args.value = c.ranges.value in
    let x : Coming = record { commit = c.args.commit; step = c.args.step; value = c.args.value } in
    let pushed : c.push.new.self.items ≡ c.self.inside.coming.items ++ x ∷ [] = simp to_z-of_z at c.in_ok-push.ensures.items in
    let room : HaveRoom (all_placed c.self.inside.coming.items c.self.inside.placed) c.args.commit c.args.step c.args.value =
    let P : List Position → Type 0 = λ ps. HaveRoom ps c.args.commit c.args.step c.args.value in subst P (sym c.self.view_is) c.requires in
    let P : List Coming → Type 0 = λ xs. MayBePlaced xs c.self.inside.placed in
    subst P (sym pushed) (may-more c.self.inside.coming.items x c.self.inside.placed c.self.invariant room
    (omega (arith, c.if-len-lt-MOST_POSITIONS.true, c.len.ensures, c.len-2.ensures, c.self.inside.coming.ok.0)))

pub returns-then-len-lt-MOST_POSITIONS-clause-ok : goal.returns-then-len-lt-MOST_POSITIONS-clause-ok
returns-then-len-lt-MOST_POSITIONS-clause-ok c = grind (arith, common_steps, w64, to_z-of_z, placed-push)

pub invariant_of-self-2 : goal.invariant_of-self-2
invariant_of-self-2 c =
    let fits : FitsSigned w64 c.args.value = c.ranges.value in
    let none : c.place_all.new.coming.items ≡ [] = c.in_ok-place_all.ensures.ok in
    let now_is : c.place_all.new.placed ≡ c.args.self.now = sym (ap (λ xs. all_placed xs c.place_all.new.placed) none) ∙ c.place_all.ensures.same ∙ c.self.view_is in
    let put = simp to_z-of_z at c.in_ok-place.ensures.ok in
    let is : c.place.new.placed ≡ inserted c.args.commit (record { step = c.args.step; value = c.args.value }) c.args.self.now =
    put ∙ ap (inserted c.args.commit (record { step = c.args.step; value = c.args.value })) now_is in
    let limits : WithinLimits c.args.self.now = subst WithinLimits c.self.view_is c.self.invariant.within in
    record {
      within = subst WithinLimits (sym (ap (λ xs. all_placed xs c.place.new.placed) none ∙ is)) (within-more c.args.commit c.args.step c.args.value c.args.self.now limits c.requires);
      few = λ some. absurd (omega (arith, some, ap length none));
    }
