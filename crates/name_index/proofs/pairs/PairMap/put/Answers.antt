use Rattle.std.proofs.{Common.{◌≡◌, [], ℕ, List, Option, Some, None, cond, sym, ap, ◌∙◌, arith}, lemmas.Grind.common_steps}
use Rattle.std.{specs.Prelude.unwrap_or, specs.Ordering.nat_cmp, specs.Cmp.Lexicographic.slice_cmp, proofs.lemmas.Result.{on_ok_weaker, on_err_weaker}}
use Rattle.name_index.{specs.Found.{found}, specs.Pairs.{Named, Pairs, is_same, found_name}, proofs.Written.{read-pair, same-pair}}
use Rattle.name_index.proofs.pairs.PairMap.put.Goals as goal

pub returns-in-Some-clause-ok : goal.returns-in-Some-clause-ok
returns-in-Some-clause-ok g c =
    let v : Named g.row.T.Denot = c.in-Some.seconds.now in
    on_ok_weaker c.put.result
    (read-pair c.self.inside.0 c.args.self.now (c.get_mut.follows.lender c.put.new.self) c.self.view_is c.args.first.now v c.put.new.self
    (ap (λ (o : Option (Named g.row.T.Denot)). unwrap_or o []) (sym c.in-Some.ensures.value)) (c.get_mut.follows.holds c.put.new.self v c.in-Some.ensures.value)
    (λ o. o) (λ o. Some c.args.value) c.args.second.now)
    c.put.ensures.ok

pub returns-in-Some-clause-err : goal.returns-in-Some-clause-err
returns-in-Some-clause-err g c =
    let v : Named g.row.T.Denot = c.in-Some.seconds.now in
    on_err_weaker c.put.result
    (λ same. same-pair c.self.inside.0 c.args.self.now (c.get_mut.follows.lender c.put.new.self) c.self.view_is c.args.first.now v c.put.new.self
    (ap (λ (o : Option (Named g.row.T.Denot)). unwrap_or o []) (sym c.in-Some.ensures.value)) (c.get_mut.follows.holds c.put.new.self v c.in-Some.ensures.value)
    (λ o. o) (λ m. ap (found_name m) same))
    c.put.ensures.err

pub returns-clause-ok : goal.returns-clause-ok
returns-clause-ok g c =
    let first : List ℕ = c.args.first.now in
    let second : List ℕ = c.args.second.now in
    let es : Pairs g.row.T.Denot = c.get_mut.follows.lender-at-none in
    let none : found (slice_cmp nat_cmp) first es ≡ None = grind (arith, common_steps) in
    on_ok_weaker c.put-3.result
    (λ written. read-pair es c.args.self.now c.put-3.new.self (c.get_mut.follows.holds-at-none ∙ c.self.view_is) first [] c.put-2.new.self
    (ap (λ (o : Option (Named g.row.T.Denot)). unwrap_or o []) none) written (λ o. o) (λ o. Some c.args.value) second
    (λ m. c.in_ok-put.ensures.ok m ∙ ap (λ (xs : Named g.row.T.Denot). cond (is_same second m) (Some c.args.value) (found_name m xs)) c.new-seconds.ensures))
    c.put-3.ensures.ok
