use Rattle.std.{proofs.Common.{◌≡◌, ◌≤◌, length, take, sym, ap, ◌∙◌, Option, Some}, specs.Prelude.slice_get, proofs.lemmas.Bool.false≢true}
use Rattle.history_model.specs.{Entries.entries_of, Publications.published}
use Rattle.journal_walk.{specs.Versions.IsOf, specs.declared.version.Version.Version, proofs.Making.{is-said, made-for}, proofs.Plans.many}
use Rattle.journal_walk.proofs.{Ready.{at-version, no-version, of-versions, slot-at}, made.made_next.Goals.{After-index, In-Some}}
use Rattle.journal_walk.proofs.made.made_next.Goals as goal

-- what stands at its place
slot : (c : After-index) → slice_get c.args.ahead.now.versions.items (length (entries_of c.args.track.now.history)) ≡ Some c.index.result.now
slot c =
    slot-at c.args.ahead.now.versions.items c.len.result (length (entries_of c.args.track.now.history)) c.index.result.now
    (c.len.ensures ∙ sym (many c.args.track.now.history))
    (of-versions (entries_of c.args.history.now) (entries_of c.args.track.now.history) c.args.ahead.now c.args.p.now c.requires)
    c.index.ensures

then-is : (c : In-Some) → slice_get c.args.ahead.now.versions.items (length (entries_of c.args.track.now.history)) ≡ Some c.index.result.now
    → (c.args.p.now.version ≤ length (entries_of c.args.track.now.history))
    × IsOf (take c.args.p.now.version (entries_of c.args.track.now.history)) (published c.args.p.now) c.in-Some.then
then-is c at =
    at-version (entries_of c.args.history.now) (entries_of c.args.track.now.history) c.args.ahead.now c.args.p.now c.requires c.in-Some.then
    (at ∙ ap (λ (o : Option Version). Some o) c.in-Some.is)

pub returns-in_default-clause-none : goal.returns-in_default-clause-none
returns-in_default-clause-none c =
    no-version (entries_of c.args.history.now) (entries_of c.args.track.now.history) c.args.ahead.now c.args.p.now c.requires
    (slot (goal.at.returns-in_default-clause-none c).After-index ∙ ap (λ (o : Option Version). Some o) c.in_default.is)

pub base_points-requires-clause-past : goal.base_points-requires-clause-past
base_points-requires-clause-past c = (then-is (goal.at.base_points-requires-clause-past c).In-Some (slot (goal.at.base_points-requires-clause-past c).After-index)).0

pub base_points-requires-clause-then : goal.base_points-requires-clause-then
base_points-requires-clause-then c = (then-is (goal.at.base_points-requires-clause-then c).In-Some (slot (goal.at.base_points-requires-clause-then c).After-index)).1

pub returns-then-not-is_said-clause-none : goal.returns-then-not-is_said-clause-none
returns-then-not-is_said-clause-none c stands =
    let then = then-is (goal.at.returns-then-not-is_said-clause-none c).In-Some (slot (goal.at.returns-then-not-is_said-clause-none c).After-index) in
    false≢true
    (sym c.if-not-is_said.true
    ∙ c.is_said.ensures.1
    (is-said (entries_of c.args.track.now.history) c.args.p.now c.in-Some.then c.in-Some-2.old c.in_ok-made.made then.0 then.1 c.in_ok-made.ensures
    c.cost_law.ensures.unique c.best_list_law.ensures.unique c.agreeing_costs_law.ensures.best stands))

pub returns-clause-some : goal.returns-clause-some
returns-clause-some c =
    let then = then-is (goal.at.returns-clause-some c).In-Some (slot (goal.at.returns-clause-some c).After-index) in
    let based = rw c.in-Some-2.is at c.in_ok-old.ensures.some in
    let said = c.is_said.ensures.0 c.if-not-is_said.false in
    made-for (entries_of c.args.track.now.history) c.args.p.now c.in-Some.then c.in-Some-2.old c.in_ok-made.made then.0 then.1 c.in_ok-made.ensures
    based.0 based.1 said.0 said.1
