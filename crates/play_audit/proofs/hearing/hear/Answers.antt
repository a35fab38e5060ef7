use Rattle.std.proofs.{Common.{◌≡◌, ◌+◌, ◌<◌, ◌≤◌, ℕ, List, length, get_or, drop, Some, ap, sym, subst, ◌∙◌, arith}, lemmas.Grind.common_steps}
use Rattle.std.{specs.Prelude.slice_get, proofs.lemmas.Iterator.Adapters.YieldsList-from_vec}
use Rattle.std.proofs.{lemmas.Iterator.Consumers.{YieldsList-end, YieldsList-turn}, lemmas.List.{length_push, take_all}, Common.{◌-◌, length-drop, take}}
use Rattle.audit_model.specs.Hearing.{HearsNone}
use Rattle.play_audit.{specs.Known.tracks_of, specs.Marks.rows_of, specs.Heard.{HearsItem, RefusesAt}, proofs.Listed.read_at}
use Rattle.play_audit.proofs.{Going.{HasGone, more_gone, none_gone, past_gone, all_gone}, hearing.hear.Goals.{In-Some, In-Some-2, In-None}}
use Rattle.play_audit.proofs.hearing.hear.Goals as goal

pub places_of-requires : goal.places_of-requires
places_of-requires c = c.requires.sound

whole : (at : ℕ) (t : List ℕ) → take (length t - at) (drop at t) ≡ drop at t
whole at t = take_all (length t - at) (drop at t) (omega (arith, length-drop at t))

turn : (c : In-Some) → (length c.loop-item.yielded < length c.args.items.items) × (c.in-Some.item ≡ get_or c.args.items.items (length c.loop-item.yielded) c.in-Some.item)
turn c =
    let gives = c.into_iter-item-iterator.ensures.into_iter_gives in
    YieldsList-turn (YieldsList-from_vec c.args.items.items gives.0 (gives.1 ∙ c.args.items.ok.0)) c.loop-item.yielded c.loop-item.item-iterator c.loop-item.yielded_by c.next.result c.next.new.self c.in-Some.item c.in-Some.is c.next.ensures.steps

here : (c : In-Some) → slice_get c.args.items.items (length c.loop-item.yielded) ≡ Some c.in-Some.item
here c = read_at c.args.items.items (length c.loop-item.yielded) c.in-Some.item (turn c).0 (turn c).1

over : (c : In-None) → length c.loop-item.yielded ≡ length c.args.items.items
over c =
    let gives = c.into_iter-item-iterator.ensures.into_iter_gives in
    (YieldsList-end (YieldsList-from_vec c.args.items.items gives.0 (gives.1 ∙ c.args.items.ok.0)) c.loop-item.yielded c.loop-item.item-iterator c.loop-item.yielded_by c.next.result c.next.new.self c.in-None.is c.next.ensures.steps).1

pub overflow_add-request : goal.overflow_add-request
overflow_add-request c = omega (arith, (turn c).0, c.loop-item.invariant.2, c.args.items.ok.0, c.args.items.small)

pub slice_bounds-hear_item-count : goal.slice_bounds-hear_item-count
slice_bounds-hear_item-count c = let gone = c.loop-item.invariant.3 in gone.within

pub hear_item-requires : goal.hear_item-requires
hear_item-requires c = let gone = c.loop-item.invariant.3 in record { sound = c.requires.sound; known = (gone.xs, gone.known); rows = gone.marked.rows }

goes : (c : In-Some-2) → HasGone c.args.journals.now c.args.script c.args.items.items c.args.transcript.now (length c.loop-item.yielded + 1) (c.loop-item.at + c.in-Some-2.len)
    c.hear_item.new.places.items (rows_of c.args.marks.now.items) (rows_of c.hear_item.new.marks.items)
goes c =
    let gone = c.loop-item.invariant.3 in
    let each = rw c.in-Some-2.is at c.in_ok-len.ensures.some in
    more_gone c.args.journals.now c.args.script c.args.items.items c.args.transcript.now (length c.loop-item.yielded) c.loop-item.at c.in-Some-2.len c.in-Some.item
    c.loop-item.places.items c.hear_item.new.places.items (rows_of c.args.marks.now.items) (rows_of c.loop-item.marks.items) (rows_of c.hear_item.new.marks.items)
    (here (goal.at.loop-item-preserved c).In-Some) gone
    (subst (λ (t : List ℕ). HearsItem c.args.journals.now c.args.script gone.xs c.in-Some.item t c.in-Some-2.len c.hear_item.new.places.items (rows_of c.loop-item.marks.items) (rows_of c.hear_item.new.marks.items))
    (whole c.loop-item.at c.args.transcript.now) (each gone.xs gone.known))

pub overflow_add-at : goal.overflow_add-at
overflow_add-at c = let g = goes c in let within : c.loop-item.at + c.in-Some-2.len ≤ length c.args.transcript.now = g.within in omega (arith, within)

pub loop-item-preserved : goal.loop-item-preserved
loop-item-preserved c = grind (arith, common_steps, length, length_push, rows_of, goes)

pub returns-in-None-2-clause-refused : goal.returns-in-None-2-clause-refused
returns-in-None-2-clause-refused c = λ request is.
    let gone = c.loop-item.invariant.3 in
    let none = rw c.in-None-2.is at c.in_ok-len.ensures.none in
    let same : c.loop-item.request + 1 ≡ request = cc in
    subst (RefusesAt c.args.journals.now c.args.script c.args.items.items c.args.transcript.now) (ap (λ (k : ℕ). k + 1) (sym c.loop-item.invariant.2) ∙ same)
    (none_gone c.args.journals.now c.args.script c.args.items.items c.args.transcript.now (length c.loop-item.yielded) c.loop-item.at c.in-Some.item c.loop-item.places.items
    (rows_of c.args.marks.now.items) (rows_of c.loop-item.marks.items) (here (goal.at.returns-in-None-2-clause-refused c).In-Some) gone
    (subst (λ (t : List ℕ). HearsNone (tracks_of c.args.journals.now) c.args.script gone.xs c.in-Some.item t) (whole c.loop-item.at c.args.transcript.now) (none gone.xs gone.known)))

pub overflow_add-result : goal.overflow_add-result
overflow_add-result c = omega (arith, over (goal.at.overflow_add-result c).In-None, c.loop-item.invariant.2, c.args.items.ok.0, c.args.items.small)

pub returns-then-at-transcript-clause-refused : goal.returns-then-at-transcript-clause-refused
returns-then-at-transcript-clause-refused c = λ request is.
    let same : c.loop-item.request + 1 ≡ request = cc in
    subst (RefusesAt c.args.journals.now c.args.script c.args.items.items c.args.transcript.now) (ap (λ (k : ℕ). k + 1) (sym c.loop-item.invariant.2) ∙ same)
    (past_gone c.args.journals.now c.args.script c.args.items.items c.args.transcript.now (length c.loop-item.yielded) c.loop-item.at c.loop-item.places.items
    (rows_of c.args.marks.now.items) (rows_of c.loop-item.marks.items) (over (goal.at.returns-then-at-transcript-clause-refused c).In-None) c.if-at-transcript.true c.loop-item.invariant.3)

pub returns-clause-all : goal.returns-clause-all
returns-clause-all c = λ is.
    all_gone c.args.journals.now c.args.script c.args.items.items c.args.transcript.now (length c.loop-item.yielded) c.loop-item.at c.loop-item.places.items
    (rows_of c.args.marks.now.items) (rows_of c.loop-item.marks.items) (over (goal.at.returns-clause-all c).In-None) c.if-at-transcript.false c.loop-item.invariant.3
