use Rattle.std.proofs.lemmas.Grind.{common_steps}
use Rattle.std.{proofs.Common.{◌≡◌, ◌<◌, List, length, ap, arith, Some}, specs.Prelude.slice_get, proofs.lemmas.Option.slice_get_read}
use Rattle.history_model.specs.{declared.entries.Entry.Entry, Entries.entries_of}
use Rattle.track_model.specs.Tracks.{Track}
use Rattle.journal_walk.{specs.Ahead.Keeps, proofs.Keeping.{all-later, none-later}, proofs.Plans.{many, need-inside}}
use Rattle.journal_walk.proofs.ahead.meet_needs.Goals as goal
use Rattle.journal_walk.proofs.ahead.meet_needs.Goals.{After-index-need}

-- the next need
there : (c : After-index-need) → slice_get c.loop-ahead.ahead.needs.items c.loop-ahead.ahead.met ≡ Some c.index-need.result.now
there c = grind (arith, common_steps, slice_get_read, length)

pub returns-then-need-len-clause-met : goal.returns-then-need-len-clause-met
returns-then-need-len-clause-met c =
    let es : List Entry = entries_of c.args.history.now in
    let h : List Entry = entries_of c.args.track.now.history in
    let same : entries_of c.loop-ahead.track.history ≡ entries_of c.args.track.now.history = ap (λ (t : Track). entries_of t.history) c.loop-ahead.invariant.same in
    let at = c.loop-ahead.ahead in
    let keeps : Keeps es h at.needs.items at.met at.bases.items at.versions.items = grind (arith, common_steps) in
    let later : length (entries_of c.args.track.now.history) < c.index-need.result.now.at = grind (arith, common_steps) in
    all-later es h at.needs.items at.met at.bases.items at.versions.items keeps c.index-need.result.now
    (there (goal.at.returns-then-need-len-clause-met c).After-index-need) later

pub meet-requires-clause-next : goal.meet-requires-clause-next
meet-requires-clause-next c = there (goal.at.meet-requires-clause-next c).After-index-need

pub meet-requires-clause-now : goal.meet-requires-clause-now
meet-requires-clause-now c =
    let up = c.loop-ahead.invariant.keeps.keeps.to_come c.loop-ahead.ahead.met c.index-need.result.now
    (there (goal.at.meet-requires-clause-now c).After-index-need) (omega arith) in
    omega (arith, up, c.if-need-len.false, c.len-in-loop-ahead.ensures, many c.loop-ahead.track.history)

pub meet-requires-clause-inside : goal.meet-requires-clause-inside
meet-requires-clause-inside c =
    need-inside c.args.history.now c.loop-ahead.ahead.needs.items c.loop-ahead.invariant.keeps.keeps.plan c.loop-ahead.ahead.met c.index-need.result.now
    (there (goal.at.meet-requires-clause-inside c).After-index-need)

pub returns-clause-met : goal.returns-clause-met
returns-clause-met c = grind (arith, common_steps, none-later)
