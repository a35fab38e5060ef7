use Rattle.std.{proofs.Common.{◌≡◌, ◌∙◌, ℕ, List, ◌∷◌, ◌++◌, sym, ap, subst, append-nil}, specs.Vec.Iter.into_iter_items}
use Rattle.audit_model.specs.declared.heard.Heard.{Heard}
use Rattle.audit_command.proofs.Gathered.{none_whole, odd_whole, two_whole, pairs_then}
use Rattle.audit_command.proofs.reading.+in_pairs.Goals as goal

pub returns-in_default : goal.returns-in_default
returns-in_default t c whole is =
    let empty = none_whole (into_iter_items c.args.texts) whole is (sym c.args.texts.rest.ok.0 ∙ c.in_default.ensures.cases.0) in
    subst (λ (w : List Heard). c.args.heard.now.items ≡ c.args.heard.now.items ++ w) (sym empty) (sym (append-nil c.args.heard.now.items))

pub returns-in_default-next : goal.returns-in_default-next
returns-in_default-next t c whole is =
    absurd (odd_whole c.in-Some.script (into_iter_items c.next.new.self) whole (sym c.in-Some.ensures.items ∙ is) (sym c.next.new.self.rest.ok.0 ∙ c.in_default-next.ensures.cases.0))

pub returns : goal.returns
returns t c whole is =
    let rest = into_iter_items c.next-2.new.self in
    let both : into_iter_items c.args.texts ≡ c.in-Some.script ∷ c.in-Some-next.transcript ∷ rest =
    c.in-Some.ensures.items ∙ ap (λ (l : List (List ℕ)). c.in-Some.script ∷ l) c.in-Some-next.ensures.items in
    let two = two_whole c.in-Some.script c.in-Some-next.transcript rest whole (sym both ∙ is) in
    pairs_then c.in_pairs.result c.args.heard.now.items c.push.new.self.items c.in_pairs.new.heard.items two.0 whole
    (record { script = c.in-Some.script; transcript = c.in-Some-next.transcript }) c.in_ok-push.ensures.items two.1 (c.in_pairs.ensures two.0 two.2)
