use Rattle.std.{proofs.Common.{refl, sym, subst, ◌++◌, ◌∷◌, [], length, ℕ, List, Option}, specs.BTreeMap.BTreeMap}
use Rattle.history_model.specs.declared.entries.Declaration.{Declaration}
use Rattle.order_index.{specs.Kept.{AreFound, ArePlaced, IsRising}, proofs.Additions.places-push, proofs.Halving.rising-push}
use Rattle.order_index.proofs.index.note.Goals as goal

pub returns-in-Some-clause-ok : goal.returns-in-Some-clause-ok
returns-in-Some-clause-ok c =
    let ds : List Declaration = c.args.commits.now in
    let P : Option (BTreeMap ℕ ℕ) → Type 0 = λ o. AreFound ds o in
    let placed : ArePlaced ds c.in-Some.places = subst P c.in-Some.is c.requires.found in
    places-push c.in-Some.places c.insert.new.self ds c.args.declaration.now (length ds) placed c.requires.new refl c.in_ok-insert.ensures.updates

pub returns-then-is_above_all-clause-ok : goal.returns-then-is_above_all-clause-ok
returns-then-is_above_all-clause-ok c =
    let ds : List Declaration = c.args.commits.now in
    let rises : IsRising ds = (let P : Option (BTreeMap ℕ ℕ) → Type 0 = λ o. AreFound ds o in subst P c.in_default.is c.requires.found) in
    let P : Option (BTreeMap ℕ ℕ) → Type 0 = λ o. AreFound (ds ++ c.args.declaration.now ∷ []) o in
    subst P (sym c.in_default.is) (rising-push ds c.args.declaration.now rises (c.is_above_all.ensures c.if-is_above_all.true))

pub returns-clause-ok : goal.returns-clause-ok
returns-clause-ok c =
    let ds : List Declaration = c.args.commits.now in
    places-push c.in_ok-places.places c.insert-2.new.self ds c.args.declaration.now (length ds) c.in_ok-places.ensures c.requires.new refl c.in_ok-insert-2.ensures.updates
