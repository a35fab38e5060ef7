use Rattle.std.proofs.{Common.{◌≡◌, ◌∙◌, ap, sym, subst, rules, arith, filter}, lemmas.Fn.filter_same}
use Rattle.wide_bisect.{specs.Searches.{Search, search_of, stays, moved}, specs.Sound.{IsSound, GoesOn}, proofs.Rounds.{goes_sound, goes_apart, made_is}}
use Rattle.wide_bisect.proofs.wide.Wide.move_on.Goals as goal

pub overflow_add-self : goal.overflow_add-self
overflow_add-self c =
    let on : GoesOn (search_of c.self.inside.width c.self.inside.low c.self.inside.high c.self.inside.left.items c.self.inside.rounds c.self.inside.outcome) c.args.said.now = subst (λ s. GoesOn s c.args.said.now) (sym c.self.view_is) c.requires in
    omega (arith, c.self.invariant.counted on.running)

pub outcome_between-self-inside-requires : goal.outcome_between-self-inside-requires
outcome_between-self-inside-requires c =
    let v : Search = search_of c.self.inside.width c.self.inside.low c.self.inside.high c.self.inside.left.items c.self.inside.rounds c.self.inside.outcome in
    let on : GoesOn v c.args.said.now = subst (λ s. GoesOn s c.args.said.now) (sym c.self.view_is) c.requires in
    rw (c.greatest_good-low.ensures, c.least_bad-high.ensures) (goes_apart v c.self.invariant c.args.said.now on)

pub invariant_of-self : goal.invariant_of-self
invariant_of-self c =
    let v : Search = search_of c.self.inside.width c.self.inside.low c.self.inside.high c.self.inside.left.items c.self.inside.rounds c.self.inside.outcome in
    let on : GoesOn v c.args.said.now = subst (λ s. GoesOn s c.args.said.now) (sym c.self.view_is) c.requires in
    let kept : c.retain.new.self.items ≡ filter (stays c.greatest_good-low.result c.least_bad-high.result c.args.said.now) c.self.inside.left.items = filter_same _ _ _ (λ x b f' k. search rules) _ _ c.retain.ensures.filtered in
    let made = made_is v c.args.said.now c.greatest_good-low.result c.least_bad-high.result c.retain.new.self.items c.outcome_between-self-inside.result c.least_bad-high.ensures c.greatest_good-low.ensures kept (rw (← c.deref.ensures.value) c.outcome_between-self-inside.ensures) in
    subst IsSound (sym made) (goes_sound v c.self.invariant c.args.said.now on)

pub returns : goal.returns
returns c =
    let v : Search = search_of c.self.inside.width c.self.inside.low c.self.inside.high c.self.inside.left.items c.self.inside.rounds c.self.inside.outcome in
    let kept : c.retain.new.self.items ≡ filter (stays c.greatest_good-low.result c.least_bad-high.result c.args.said.now) c.self.inside.left.items = filter_same _ _ _ (λ x b f' k. search rules) _ _ c.retain.ensures.filtered in
    made_is v c.args.said.now c.greatest_good-low.result c.least_bad-high.result c.retain.new.self.items c.outcome_between-self-inside.result c.least_bad-high.ensures c.greatest_good-low.ensures kept (rw (← c.deref.ensures.value) c.outcome_between-self-inside.ensures)
    ∙ ap (λ s. moved s c.args.said.now) c.self.view_is
