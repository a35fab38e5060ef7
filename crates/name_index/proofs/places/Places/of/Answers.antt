use Rattle.std.proofs.{Common.{◌≡◌, ◌<◌, ℕ, List, [], length, get_or, subst, ◌∙◌, arith, inl, inr}, lemmas.Bool.cases_lt, lemmas.List.get_or_read}
use Rattle.name_index.specs.Placed.{IsAt}
use Rattle.name_index.proofs.places.Places.of.Goals as goal

pub loop-place-preserved : goal.loop-place-preserved
loop-place-preserved c =
    let names : List (List ℕ) = c.args.names.now in
    let k : ℕ = c.loop-place.place in
    let some : 0 < length c.put.new.self.slots.items = omega (arith, c.put.ensures.slots, c.loop-place.invariant.1) in
    let is : c.index-names-place.result ≡ get_or names k [] = get_or_read names k c.index-names-place.result c.loop-place-test.true c.index-names-place.is [] in (
      (λ i lt. elim (cases_lt i k) [
        | inl less ↦
            c.put.ensures.others (get_or names i []) i (λ same. c.requires.distinct i k less c.loop-place-test.true (same ∙ is)) (c.loop-place.invariant.0 i less)
        | inr ge ↦
            let same : k ≡ i = omega (arith, lt, ge) in
            let P : List ℕ → Type 0 = λ n. IsAt c.put.new.self n k in
            let Q : ℕ → Type 0 = λ j. IsAt c.put.new.self (get_or names j []) j in
            subst Q same (subst P is c.in_ok-put.ensures.ok)
      ]),
      some,
    )
