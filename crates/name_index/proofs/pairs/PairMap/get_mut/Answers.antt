use Rattle.std.proofs.Common.{◌≡◌, List, [], ℕ, Option, Some, refl, sym, ap, ◌∙◌}
use Rattle.std.specs.{Prelude.unwrap_or, Ordering.nat_cmp, Cmp.Lexicographic.slice_cmp}
use Rattle.name_index.{specs.Found.found, specs.Pairs.{Named, Pairs, found_name, found_pair}, proofs.Written.{read-pair, same-pair}}
use Rattle.name_index.proofs.pairs.PairMap.get_mut.Goals as goal

pub returns-in-Some : goal.returns-in-Some
returns-in-Some g c =
    let first : List ℕ = c.args.first.now in
    let second : List ℕ = c.args.second.now in
    let v : Named g.row.T.Denot = c.in-Some.seconds.now in
    let here : unwrap_or (found (slice_cmp nat_cmp) first c.self.inside.0) [] ≡ v = ap (λ (o : Option (Named g.row.T.Denot)). unwrap_or o []) (sym c.in-Some.ensures.value) in
    let at : found_name second v ≡ found_pair first second c.args.self.now =
    ap (found_name second) (sym here) ∙ ap (λ (es : Pairs g.row.T.Denot). found_pair first second es) c.self.view_is in (
      (
        refl,
        (λ w x there.
            let new : Named g.row.T.Denot = c.get_mut-in-Some.follows.lender w in
            read-pair c.self.inside.0 c.args.self.now (c.get_mut.follows.lender new) c.self.view_is first v new here
            (c.get_mut.follows.holds new v c.in-Some.ensures.value) (λ o. o) (λ o. Some w) second (c.get_mut-in-Some.follows.holds w x (there ∙ sym at))),
        (let new : Named g.row.T.Denot = c.get_mut-in-Some.follows.lender-at-none in
            same-pair c.self.inside.0 c.args.self.now (c.get_mut.follows.lender new) c.self.view_is first v new here
            (c.get_mut.follows.holds new v c.in-Some.ensures.value) (λ o. o) (λ m. ap (found_name m) c.get_mut-in-Some.follows.holds-at-none)),
      ),
      record { writes_back = tt; value = c.get_mut-in-Some.ensures.value ∙ at },
    )
