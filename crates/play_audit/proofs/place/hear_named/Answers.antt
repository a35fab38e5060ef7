use Rattle.std.proofs.lemmas.Grind.{common_steps}
use Rattle.std.proofs.{Common.{◌≡◌, ◌-◌, ◌<◌, ◌^◌, ℕ, false, Bool, true, List, length, subst, refl, sym, ap, ◌∙◌, arith}, lemmas.List.length-set}
use Rattle.history_model.specs.declared.entries.Author.TheVariants.{Script}
use Rattle.play_model.specs.Replies.{Adds, Tells}
use Rattle.request_model.specs.Requests.{machine_of}
use Rattle.play_audit.specs.{Places.IsBehind, Replies.{HasNone, IsCompared, IsHeardNext, IsNext, IsUnheard}}
use Rattle.play_audit.proofs.Placing.{added_as, comes_next, has_gone, its_sound, line_at_place, may_ask, may_go, not_its_own, not_new, placed_at, stays_ok, told_as}
use Rattle.play_audit.proofs.Telling.{heard_added, heard_told, in_none, in_some, none_by, some_by, unheard_added, unheard_told}
use Rattle.play_audit.proofs.place.hear_named.Goals as goal
use Rattle.play_audit.proofs.place.hear_named.Goals.{After-added_here}

-- ---- a reply that tells of no new entry
pub go_to-requires-clause-sound : goal.go_to-requires-clause-sound
go_to-requires-clause-sound c = its_sound (machine_of c.args.request.now) c.args.history.now c.args.known c.args.walk.now c.requires.by c.requires.sound

pub go_to-requires-clause-by : goal.go_to-requires-clause-by
go_to-requires-clause-by c = may_go (machine_of c.args.request.now) c.args.history.now c.args.known c.args.named.step c.args.walk.now c.requires.by c.requires.since c.requires.within

pub returns-then-tells_of_none : goal.returns-then-tells_of_none
returns-then-tells_of_none c =
    let gone = has_gone (machine_of c.args.request.now) c.args.history.now c.args.known c.args.named.step c.args.walk.now c.go_to.new.walk c.requires.by c.in_ok-go_to.ensures in
    let told = told_as (machine_of c.args.request.now) c.args.history.now c.args.known c.args.named.step c.go_to.new.walk gone c.args.transcript.now c.args.request.now c.told_here.result c.told_here.ensures.compared in
    let few : length c.args.history.now < 2 ^ 64 = c.requires.few in
    let fits : c.args.named.step < 2 ^ 64 = omega (arith, c.requires.within, few) in
    let kind = sym c.tells_of_none.ensures ∙ c.if-tells_of_none.true in
    record {
      by = stays_ok (machine_of c.args.request.now) c.args.history.now c.args.known c.args.named.step c.go_to.new.walk gone c.args.transcript.now c.told_here.new.walk c.told_here.result c.told_here.ensures.same;
      some = some_by c.told_here.result (IsNext (Tells c.args.history.now c.args.known c.args.request.now) c.args.transcript.now c.args.named.step)
          (λ (len : ℕ). IsHeardNext (Script c.args.script) c.args.history.now c.args.known c.args.named.step c.args.request.now c.args.transcript.now len c.args.marks.now.items c.args.marks.now.items)
          (λ len next. heard_told c.kinds_law.ensures c.texts_law.ensures c.replies_law.ensures.names (Script c.args.script) c.args.history.now c.args.known c.args.request.now c.args.transcript.now
          c.args.named.step c.args.named.letter few fits c.requires.front kind len c.args.named.step c.args.marks.now.items refl next) told.some;
      none = none_by c.told_here.result (HasNone (Tells c.args.history.now c.args.known c.args.request.now) c.args.transcript.now c.args.named.step)
          (IsUnheard (Script c.args.script) c.args.history.now c.args.known c.args.request.now c.args.transcript.now)
          (λ none. unheard_told c.kinds_law.ensures c.texts_law.ensures c.replies_law.ensures.names (Script c.args.script) c.args.history.now c.args.known c.args.request.now c.args.transcript.now
          c.args.named.step c.args.named.letter few fits c.requires.front kind none) told.none;
      marks = refl;
    }

-- ---- one that tells of a new entry
pub returns-then-named-known-clause-none : goal.returns-then-named-known-clause-none
returns-then-named-known-clause-none c =
    unheard_added c.kinds_law.ensures c.texts_law.ensures c.replies_law.ensures.names (Script c.args.script) c.args.history.now c.args.known c.args.request.now c.args.transcript.now
    c.args.named.step c.args.named.letter c.requires.few (omega (arith, c.requires.within, c.requires.few)) c.requires.front
    (sym c.tells_of_none.ensures ∙ c.if-tells_of_none.false) (λ reply rest adds its is.
    not_new (Script c.args.script) c.args.history.now c.args.known c.args.named.step c.args.request.now reply c.if-named-known.true adds its)

pub returns-then-not-is_of_script-clause-none : goal.returns-then-not-is_of_script-clause-none
returns-then-not-is_of_script-clause-none c =
    unheard_added c.kinds_law.ensures c.texts_law.ensures c.replies_law.ensures.names (Script c.args.script) c.args.history.now c.args.known c.args.request.now c.args.transcript.now
    c.args.named.step c.args.named.letter c.requires.few (omega (arith, c.requires.within, c.requires.few)) c.requires.front
    (sym c.tells_of_none.ensures ∙ c.if-tells_of_none.false) (λ reply rest adds its is.
    let some : c.args.named.step - 1 < length c.args.history.now = omega (arith, c.requires.since, c.if-named-known.false, c.requires.within) in
    not_its_own (Script c.args.script) c.args.history.now c.args.known c.args.named.step c.args.request.now reply c.index-history-named.result
    (placed_at c.args.history.now (c.args.named.step - 1) c.index-history-named.result some c.index-history-named.is)
    (λ same. let yes : c.is_of_script.result ≡ true = c.is_of_script.ensures.1 same in let no : true ≡ false = sym yes ∙ c.if-not-is_of_script.true in absurd (cc))
    adds its)

pub go_to-requires-2-clause-sound : goal.go_to-requires-2-clause-sound
go_to-requires-2-clause-sound c = its_sound (machine_of c.args.request.now) c.args.history.now c.args.known c.args.walk.now c.requires.by c.requires.sound

pub added_here-requires : goal.added_here-requires
added_here-requires c = grind (arith, common_steps, may_ask, length, placed_at, comes_next, has_gone, line_at_place)

pub mark-requires-clause-some : goal.mark-requires-clause-some
mark-requires-clause-some c = omega (arith, c.requires.since, c.if-named-known.false)

pub mark-requires-clause-within : goal.mark-requires-clause-within
mark-requires-clause-within c = omega (arith, c.requires.within, c.requires.marks)

module _ (c : After-added_here) where
  gone : IsBehind (machine_of c.args.request.now) c.args.history.now (c.args.named.step - 1) c.go_to-2.new.walk
  gone = has_gone (machine_of c.args.request.now) c.args.history.now c.args.known (c.args.named.step - 1) c.args.walk.now c.go_to-2.new.walk c.requires.by c.in_ok-go_to-2.ensures

  added : IsCompared (Adds (Script c.args.script) c.args.history.now c.args.known c.args.request.now) c.args.transcript.now c.args.named.step c.added_here.result
  added =
      added_as (machine_of c.args.request.now) c.args.history.now c.args.known (c.args.named.step - 1) c.go_to-2.new.walk gone c.args.transcript.now (Script c.args.script)
      c.index-history-named.result.author c.args.request.now c.args.named.step c.added_here.result (c.is_of_script.ensures.0 c.if-not-is_of_script.false)
      (omega (arith, c.requires.since, c.if-named-known.false)) c.added_here.ensures.compared

pub returns-in-Ok-Some-clause-some : goal.returns-in-Ok-Some-clause-some
returns-in-Ok-Some-clause-some c =
    let told = added (goal.at.returns-in-Ok-Some-clause-some c).After-added_here in
    subst
    (λ (after : List Bool). IsHeardNext (Script c.args.script) c.args.history.now c.args.known c.args.named.step c.args.request.now c.args.transcript.now c.in-Ok-Some.len c.args.marks.now.items after)
    (sym c.mark.ensures.marked) (heard_added
    c.kinds_law.ensures c.texts_law.ensures c.replies_law.ensures.names (Script c.args.script) c.args.history.now c.args.known c.args.request.now c.args.transcript.now
    c.args.named.step c.args.named.letter c.requires.few (omega (arith, c.requires.within, c.requires.few)) c.requires.front
    (sym c.tells_of_none.ensures ∙ c.if-tells_of_none.false) c.in-Ok-Some.len c.args.named.step c.args.marks.now.items refl
    (in_some c.added_here.result c.in-Ok-Some.field-0 c.in-Ok-Some.len (IsNext (Adds (Script c.args.script) c.args.history.now c.args.known c.args.request.now) c.args.transcript.now c.args.named.step)
    c.in-Ok-Some.is c.in-Ok-Some.field-0-is told.some))

pub returns-in-Ok-Some-clause-marks : goal.returns-in-Ok-Some-clause-marks
returns-in-Ok-Some-clause-marks c = ap (λ (after : List Bool). length after) c.mark.ensures.marked ∙ length-set c.args.marks.now.items (c.args.named.step - 1) true

pub returns-in-Ok-None-clause-none : goal.returns-in-Ok-None-clause-none
returns-in-Ok-None-clause-none c =
    let told = added (goal.at.returns-in-Ok-None-clause-none c).After-added_here in
    unheard_added c.kinds_law.ensures c.texts_law.ensures c.replies_law.ensures.names (Script c.args.script) c.args.history.now c.args.known c.args.request.now c.args.transcript.now
    c.args.named.step c.args.named.letter c.requires.few (omega (arith, c.requires.within, c.requires.few)) c.requires.front
    (sym c.tells_of_none.ensures ∙ c.if-tells_of_none.false)
    (in_none c.added_here.result c.in-Ok-None.field-0 (HasNone (Adds (Script c.args.script) c.args.history.now c.args.known c.args.request.now) c.args.transcript.now c.args.named.step)
    c.in-Ok-None.is c.in-Ok-None.field-0-is told.none)
