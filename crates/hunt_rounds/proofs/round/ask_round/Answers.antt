use Rattle.std.proofs.{Common.{◌≡◌, length, List, ◌++◌, take, drop, sym, ap, subst, ◌∙◌, refl, arith}, lemmas.List.length-take}
use Rattle.std.proofs.lemmas.Result.{MatchResult-weaker}
use Rattle.hunt_rounds.{specs.declared.asking.Asking.Asking, specs.Rounds.{AreAskings, AreAnswers}, proofs.Chains.none_of}
use Rattle.hunt_rounds.proofs.{Worked.{Works, each_asked, each_of, all_can, kept_items}, round.ask_round.Given.Over}
use Rattle.hunt_rounds.proofs.round.ask_round.Goals.{After-deref, After-work_at_once}
use Rattle.hunt_rounds.proofs.round.ask_round.Goals as goal

pub askings-requires : goal.askings-requires
askings-requires g c = record { places = c.requires.places }

pub returns-in_err-askings-clause-some : goal.returns-in_err-askings-clause-some
returns-in_err-askings-clause-some g c = none_of g.A.Runner c.args.test.now c.args.names.now c.args.runners.now

pub work_at_once-requires-after_bounds : goal.work_at_once-requires-after_bounds
work_at_once-requires-after_bounds g c κs within =
    let are : AreAskings c.args.test.now c.args.names.now c.args.places.now c.in_ok-askings.askings.items = c.in_ok-askings.ensures in
    let same : length c.deref_mut.result.now ≡ length c.in_ok-askings.askings.items = ap (λ (xs : List Asking). length xs) c.deref_mut.ensures.value in
    let paired : length (take (length c.args.places.now) c.args.runners.now) ≡ length c.deref_mut.result.now =
    omega (arith, length-take (length c.args.places.now) c.args.runners.now, c.requires.enough, are.count, same) in
    record { paired = paired; can = all_can _ }

-- the asks that were worked, as a slice
module _ (g : Over) (c : After-deref g) where
  pub count : length c.work_at_once.new.workers ≡ length c.in_ok-askings.askings.items
  count = c.work_at_once.ensures.workers_kept ∙ ap (λ (xs : List Asking). length xs) c.deref_mut.ensures.value

  pub same : c.deref.result.now ≡ c.work_at_once.new.workers
  same =
      c.deref.ensures.value ∙ kept_items c.in_ok-askings.askings.len c.work_at_once.new.workers c.in_ok-askings.askings.items count (omega (arith, c.in_ok-askings.askings.ok))

-- what became of them and of the runners
works : (g : Over) (c : After-work_at_once g)
    → Works g.A.Runner c.args.test.now c.args.names.now c.args.places.now c.deref_mut.result.now c.work_at_once.new.workers c.args.runners.now c.work_at_once.new.tools
    (c.work_at_once.new.tools ++ drop (length c.args.places.now) c.args.runners.now)
works g c = record {
  enough = c.requires.enough;
  within = c.requires.places;
  askings = subst (λ (xs : List Asking). AreAskings c.args.test.now c.args.names.now c.args.places.now xs) (sym c.deref_mut.ensures.value) c.in_ok-askings.ensures;
  worked = c.work_at_once.ensures;
  new_is = refl;
}

pub returns-clause-many : goal.returns-clause-many
returns-clause-many g c =
    let at = (goal.at.returns-clause-many g c).After-deref in
    let are : AreAskings c.args.test.now c.args.names.now c.args.places.now c.in_ok-askings.askings.items = c.in_ok-askings.ensures in
    MatchResult-weaker c.answers.result c.answers.ensures
    (λ statuses told. told.count ∙ ap (λ (xs : List Asking). length xs) (same g at) ∙ count g at ∙ are.count) (λ e told. told)

pub returns-clause-asked : goal.returns-clause-asked
returns-clause-asked g c =
    MatchResult-weaker c.answers.result c.answers.ensures
    (λ statuses told. each_asked g.A.Runner c.args.test.now c.args.names.now c.args.places.now c.deref_mut.result.now c.work_at_once.new.workers c.args.runners.now c.work_at_once.new.tools
    (c.work_at_once.new.tools ++ drop (length c.args.places.now) c.args.runners.now) (works g (goal.at.returns-clause-asked g c).After-work_at_once) statuses.items
    (subst (λ (xs : List Asking). AreAnswers xs statuses.items) (same g (goal.at.returns-clause-asked g c).After-deref) told))
    (λ e told. told)

pub returns-clause-some : goal.returns-clause-some
returns-clause-some g c =
    each_of g.A.Runner c.args.test.now c.args.names.now c.args.places.now c.deref_mut.result.now c.work_at_once.new.workers c.args.runners.now c.work_at_once.new.tools
    (c.work_at_once.new.tools ++ drop (length c.args.places.now) c.args.runners.now) (works g (goal.at.returns-clause-some g c).After-work_at_once)
