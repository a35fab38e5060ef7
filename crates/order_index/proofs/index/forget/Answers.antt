use Rattle.std.{proofs.Common.{◌++◌, ◌∷◌, [], sym, subst, List, ℕ, Option}, specs.BTreeMap.BTreeMap}
use Rattle.history_model.specs.declared.entries.Declaration.{Declaration}
use Rattle.order_index.{specs.Kept.AreFound, proofs.Additions.places-pop, proofs.Halving.rising-pop}
use Rattle.order_index.proofs.index.forget.Goals as goal

pub returns-in-Some : goal.returns-in-Some
returns-in-Some c =
    let ds : List Declaration = c.args.commits.now in
    let d : Declaration = c.args.declaration.now in
    let P : Option (BTreeMap ℕ ℕ) → Type 0 = λ o. AreFound (ds ++ d ∷ []) o in
    places-pop c.in-Some.places c.remove.new.self ds d (subst P c.in-Some.is c.requires.found) c.requires.new c.remove.ensures.updates

pub returns : goal.returns
returns c =
    let ds : List Declaration = c.args.commits.now in
    let d : Declaration = c.args.declaration.now in
    let P : Option (BTreeMap ℕ ℕ) → Type 0 = λ o. AreFound (ds ++ d ∷ []) o in
    let Q : Option (BTreeMap ℕ ℕ) → Type 0 = λ o. AreFound ds o in
    subst Q (sym c.in_default.is) (rising-pop ds d (subst P c.in_default.is c.requires.found))
