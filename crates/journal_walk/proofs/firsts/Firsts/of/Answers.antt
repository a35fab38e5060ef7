use Rattle.std.proofs.Common.{◌≡◌, ℕ, ◌+◌, ◌-◌, ◌<◌, Option, Some, length, drop, cond, ap, sym, ◌∙◌, arith}
use Rattle.history_model.specs.{declared.entries.Placed.Placed, Entries.entries_of}
use Rattle.journal_walk.{specs.Firsts.{first_from, place_of, publishes}, proofs.FirstPlaces.one-before}
use Rattle.journal_walk.proofs.firsts.Firsts.of.Goals as goal

pub loop-place-preserved : goal.loop-place-preserved
loop-place-preserved c =
    let le = c.loop-place.invariant.within in
    let some = c.loop-place-test.true in
    let inside : c.loop-place.place - 1 < length c.args.history.now = omega (arith, le, some) in
    let next : c.loop-place.place - 1 + 1 ≡ c.loop-place.place = omega (arith, some) in
    record {
      within = omega (arith, le);
      firsts = λ key.
          c.in_ok-put.ensures key
          ∙ ap (λ (x : Placed). cond (publishes key x.entry) (Some (c.loop-place.place - 1)) (place_of key c.loop-place.firsts)) (sym c.index-history-place.is)
          ∙ ap (λ (o : Option ℕ). cond (publishes key c.index-history-place.result.entry) (Some (c.loop-place.place - 1)) o)
          (c.loop-place.invariant.firsts key ∙ ap (λ (n : ℕ). first_from n key (drop n (entries_of c.args.history.now))) (sym next))
          ∙ sym (one-before c.args.history.now (c.loop-place.place - 1) c.index-history-place.result key inside c.index-history-place.is);
    }
