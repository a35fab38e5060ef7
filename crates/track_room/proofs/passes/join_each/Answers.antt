use Rattle.std.proofs.{Common.{◌≡◌, ℕ, ◌<◌, List, length, sym, subst, ◌∙◌, arith}, lemmas.Iterator.Adapters.YieldsList-from_vec}
use Rattle.std.proofs.lemmas.{Iterator.Consumers.{YieldsList-turn, YieldsList-end}, List.length_push}
use Rattle.track_room.{specs.Sights.{Sight, Joins}, proofs.Places.{all-given, joined-more, rest-stays}, specs.Rooms.JoinsEach}
use Rattle.track_room.proofs.{Splits.{joins-first, joins-homes}, passes.join_each.Goals.In-None}
use Rattle.track_room.proofs.passes.join_each.Goals as goal

pub loop-other-preserved : goal.loop-other-preserved
loop-other-preserved c =
    let old : List Sight = c.args.passes.now in
    let now : List Sight = c.loop-other.passes in
    let given : List Sight = c.loop-other.yielded in
    let i : ℕ = c.loop-other.i in
    let p : Sight = c.index-passes-i.result in
    let q : Sight = c.join.new.pass in
    let o : Sight = c.in-Some.other in
    let at : i ≡ length given = c.loop-other.invariant.2 in
    let gives = c.into_iter-other-iterator.ensures.into_iter_gives in
    let turn = YieldsList-turn (YieldsList-from_vec c.args.others.items gives.0 (gives.1 ∙ c.args.others.ok.0)) given c.loop-other.other-iterator c.loop-other.yielded_by c.next.result c.next.new.self o c.in-Some.is c.next.ensures.steps in
    let few : i < length now = omega (arith, at, turn.0, c.requires.few, c.loop-other.auto.passes) in
    let joins : Joins p o q = subst (λ (s : Sight). Joins s o q) (sym c.index-passes-i.is) c.join.ensures in (
      tt,
      tt,
      omega (arith, at, length_push given o),
      joined-more Joins old now given i q o at p few c.index-passes-i.is joins c.loop-other.invariant.3 c.loop-other.invariant.4,
      rest-stays Joins old now given i q o at c.loop-other.invariant.4,
    )

joins : (c : In-None) → JoinsEach c.args.passes.now c.args.others.items c.loop-other.passes
joins c =
    let gives = c.into_iter-other-iterator.ensures.into_iter_gives in
    let ended = YieldsList-end (YieldsList-from_vec c.args.others.items gives.0 (gives.1 ∙ c.args.others.ok.0)) c.loop-other.yielded c.loop-other.other-iterator c.loop-other.yielded_by c.next.result c.next.new.self c.in-None.is c.next.ensures.steps in
    let all : c.loop-other.yielded ≡ c.args.others.items = all-given c.loop-other.yielded c.args.others.items ended.0 in
    record {
      long = c.loop-other.auto.passes;
      joined = rw all at c.loop-other.invariant.3;
      rest = rw all at c.loop-other.invariant.4;
    }

pub returns-clause-joined : goal.returns-clause-joined
returns-clause-joined c = joins (goal.at.returns-clause-joined c).In-None

pub returns-clause-locks : goal.returns-clause-locks
returns-clause-locks c =
    let all = joins (goal.at.returns-clause-locks c).In-None in
    (joins-homes c.args.passes.now c.args.others.items c.loop-other.passes all ∙ c.requires.locks, joins-first c.args.passes.now c.args.others.items c.loop-other.passes all c.requires.first)
