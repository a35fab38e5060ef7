use Rattle.std.{proofs.Common.{◌≡◌, length, sym, ap, ◌∙◌, arith, Option, Some}, specs.Prelude.slice_get, proofs.lemmas.Bool.false≢true}
use Rattle.history_model.specs.Entries.{entries_of}
use Rattle.track_model.proofs.Settings.{setting-is}
use Rattle.journal_walk.{specs.declared.version.Version.Version, proofs.Making.one-setting, proofs.Plans.many}
use Rattle.journal_walk.proofs.{Ready.{another, has-base, no-base, not-named, of-bases, slot-at}, made.base_points.Goals.After-index}
use Rattle.journal_walk.proofs.made.base_points.Goals as goal

pub returns-then-not-branch-clause-none : goal.returns-then-not-branch-clause-none
returns-then-not-branch-clause-none c =
    let ne = c.if-p-eq0.false in
    not-named (entries_of c.args.history.now) (entries_of c.args.track.now.history) c.args.ahead.now c.args.p.now c.requires.ready c.requires.past
    (λ before. false≢true (sym c.if-not-branch.true ∙ c.in_ok-has_base.ensures.1 before)) (omega (arith, ne))

pub index-requires : goal.index-requires
index-requires c =
    let inside = of-bases (entries_of c.args.history.now) (entries_of c.args.track.now.history) c.args.ahead.now c.args.p.now c.requires.ready in
    let size = c.args.ahead.now.bases.ok.0 in
    omega (arith, inside, size, c.len.ensures, many c.args.track.now.history)

-- what stands at its place
slot : (c : After-index) → slice_get c.args.ahead.now.bases.items (length (entries_of c.args.track.now.history)) ≡ Some c.index.result.now
slot c =
    slot-at c.args.ahead.now.bases.items c.len.result (length (entries_of c.args.track.now.history)) c.index.result.now
    (c.len.ensures ∙ sym (many c.args.track.now.history))
    (of-bases (entries_of c.args.history.now) (entries_of c.args.track.now.history) c.args.ahead.now c.args.p.now c.requires.ready)
    c.index.ensures

pub returns-in_default-clause-none : goal.returns-in_default-clause-none
returns-in_default-clause-none c =
    let ne = c.if-p-eq0.false in
    no-base (entries_of c.args.history.now) (entries_of c.args.track.now.history) c.args.ahead.now c.args.p.now c.requires.ready c.history_law.ensures.legal c.requires.past
    (slot (goal.at.returns-in_default-clause-none c).After-index ∙ ap (λ (o : Option Version). Some o) c.in_default.is) (omega (arith, ne))

pub returns-then-not-is_same_setting-clause-none : goal.returns-then-not-is_same_setting-clause-none
returns-then-not-is_same_setting-clause-none c =
    let ne = c.if-p-eq0.false in
    another (entries_of c.args.history.now) (entries_of c.args.track.now.history) c.args.ahead.now c.args.p.now c.requires.ready c.history_law.ensures.legal c.requires.past
    c.args.then.now c.in-Some.base c.requires.then
    (slot (goal.at.returns-then-not-is_same_setting-clause-none c).After-index ∙ ap (λ (o : Option Version). Some o) c.in-Some.is)
    (λ same. false≢true (sym c.if-not-is_same_setting.true ∙ c.is_same_setting.ensures ∙ one-setting c.in-Some.base.setting c.args.then.now.setting same)) (omega (arith, ne))

pub returns-clause-some : goal.returns-clause-some
returns-clause-some c =
    let based = has-base (entries_of c.args.history.now) (entries_of c.args.track.now.history) c.args.ahead.now c.args.p.now c.requires.ready c.history_law.ensures.legal c.requires.past
    c.args.then.now c.in-Some.base c.requires.then
    (slot (goal.at.returns-clause-some c).After-index ∙ ap (λ (o : Option Version). Some o) c.in-Some.is)
    (setting-is c.in-Some.base.setting c.args.then.now.setting (sym c.is_same_setting.ensures ∙ c.if-not-is_same_setting.false))
    (c.in_ok-has_base.ensures.0 c.if-not-branch.false) in
    (based.0, c.in_ok-share.ensures ∙ based.1)
