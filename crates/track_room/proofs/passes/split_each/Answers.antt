use Rattle.std.proofs.{Common.{◌≡◌, ℕ, ◌<◌, List, [], ◌∷◌, ◌++◌, length, map, take, get_or, set, sym, ap, subst, ◌∙◌, arith}, lemmas.List.map_more}
use Rattle.std.proofs.lemmas.List.Edits.{map_over_more}
use Rattle.track_room.{specs.Rooms.HasGivenMarks, specs.Sights.{Sight, splitting, split_off}, proofs.Places.{not-yet, all-more}}
use Rattle.track_room.proofs.passes.split_each.Goals as goal

pub loop-i-preserved : goal.loop-i-preserved
loop-i-preserved c =
    let old : List Sight = c.args.passes.now in
    let i : ℕ = c.loop-i.i in
    let p : Sight = c.index-passes-i.result in
    let in' : i < length old = omega (arith, c.loop-i-test.true) in
    let read : p ≡ get_or c.loop-i.passes i p = c.index-passes-i.is in
    let here : p ≡ get_or old i p = not-yet splitting old c.loop-i.passes i p in' c.loop-i.invariant.1 read in (
      c.push_reserved.ensures.items
          ∙ ap (λ (ss : List Sight). ss ++ c.in-Ok.other ∷ []) (c.reserve.ensures.items ∙ c.loop-i.invariant.0)
          ∙ ap (λ (s : Sight). map split_off (take i old) ++ s ∷ []) (c.in-Ok.ensures.ok.0 ∙ ap split_off (sym read ∙ here))
          ∙ sym (map_more split_off old i p in'),
      ap (λ (s : Sight). set c.loop-i.passes i s) (c.in-Ok.ensures.pass ∙ ap splitting (sym read)) ∙ map_over_more splitting old c.loop-i.passes i p in' c.loop-i.invariant.1 read,
      all-more HasGivenMarks old i p in' here c.loop-i.invariant.2 (subst HasGivenMarks (sym read) c.in-Ok.ensures.ok.1),
    )
