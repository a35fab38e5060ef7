use Rattle.std.proofs.{Common.{◌+◌, ◌≤◌, ℕ, List, arith, Err, get_or, length, subst, sym}, lemmas.Grind.common_steps}
use Rattle.json_text.specs.{Machine.{step, colon, ended, close, own_level}, Places.most_levels, View.{tree_of, members_view}, Reached.Stands}
use Rattle.json_text.specs.{States.{frames_of, mode_of, StepGives}, declared.state.Awaits.Awaits}
use Rattle.json_text.proofs.Reach.{key_arrives, key_fails, given_goes, given_stops, black_closes, fault_handed}
use Rattle.json_text.proofs.machine.step.Goals as goal

pub returns-in_ok-read_quoted-in-NextKey-clause-arrives : goal.returns-in_ok-read_quoted-in-NextKey-clause-arrives
returns-in_ok-read_quoted-in-NextKey-clause-arrives c =
    let stack = c.args.stack.now.items in
    let stands = subst (λ (awaits : Awaits). Stands c.args.text.now c.args.place.now (mode_of awaits, frames_of stack)) c.in-NextKey.is c.requires.stands in
    let room = subst (λ (awaits : Awaits). own_level (mode_of awaits) + length stack ≤ most_levels) c.in-NextKey.is c.requires.room in
    let read = c.in_ok-read_quoted-in-NextKey.ensures.reads in (
      read.0,
      key_arrives c.args.text.now c.args.place.now c.read_quoted.new.place (members_view c.in-NextKey.members) c.in_ok-read_quoted-in-NextKey.field-0 stack stands c.requires.some (omega (arith, room)) read,
      omega (arith, room),
    )

pub returns-in_err-read_quoted-in-NextKey-clause-arrives : goal.returns-in_err-read_quoted-in-NextKey-clause-arrives
returns-in_err-read_quoted-in-NextKey-clause-arrives c =
    let stack = c.args.stack.now.items in
    let stands = subst (λ (awaits : Awaits). Stands c.args.text.now c.args.place.now (mode_of awaits, frames_of stack)) c.in-NextKey.is c.requires.stands in
    let room = subst (λ (awaits : Awaits). own_level (mode_of awaits) + length stack ≤ most_levels) c.in-NextKey.is c.requires.room in
    fault_handed _ _ c.args.text.now c.args.place.now _ stack c.from_residual.ensures.1
    (key_fails _ c.args.text.now c.args.place.now c.read_quoted.new.place (members_view c.in-NextKey.members) stack stands c.requires.some c.requires.black (omega (arith, room)) c.in_err-read_quoted-in-NextKey.ensures.place.1
    c.in_err-read_quoted-in-NextKey.ensures.stops)

pub returns-in_ok-next-in-Colon-clause-arrives : goal.returns-in_ok-next-in-Colon-clause-arrives
returns-in_ok-next-in-Colon-clause-arrives c = grind (arith, common_steps, given_goes, step, get_or)

pub returns-in_err-next-in-Colon-clause-arrives : goal.returns-in_err-next-in-Colon-clause-arrives
returns-in_err-next-in-Colon-clause-arrives c =
    let frames = frames_of c.args.stack.now.items in
    let stands = subst (λ (awaits : Awaits). Stands c.args.text.now c.args.place.now (mode_of awaits, frames)) c.in-Colon.is c.requires.stands in
    fault_handed _ _ c.args.text.now c.args.place.now c.args.place.now c.colon.new.stack.items c.from_residual-in_err-next-in-Colon.ensures.1
    (given_stops c.args.text.now c.args.place.now (colon (members_view c.in-Colon.members) c.in-Colon.key, frames) c.in_err-next-in-Colon.field-0.0 c.colon.new.stack.items stands c.requires.some
    (subst (λ (xs : List ℕ). StepGives (Err c.in_err-next-in-Colon.field-0.0) c.colon.new.stack.items (step (get_or xs c.args.place.now 0) (colon (members_view c.in-Colon.members) c.in-Colon.key) frames)) c.as_bytes.ensures.value c.in_err-next-in-Colon.ensures))

pub returns-in_ok-next-in-Ended-clause-arrives : goal.returns-in_ok-next-in-Ended-clause-arrives
returns-in_ok-next-in-Ended-clause-arrives c = grind (arith, common_steps, given_goes, black_closes, get_or)

pub returns-in_err-next-in-Ended-clause-arrives : goal.returns-in_err-next-in-Ended-clause-arrives
returns-in_err-next-in-Ended-clause-arrives c =
    let frames = frames_of c.args.stack.now.items in
    let stands = subst (λ (awaits : Awaits). Stands c.args.text.now c.args.place.now (mode_of awaits, frames)) c.in-Ended.is c.requires.stands in
    fault_handed _ _ c.args.text.now c.args.place.now c.args.place.now c.close.new.stack.items c.from_residual-in_err-next-in-Ended.ensures.1
    (given_stops c.args.text.now c.args.place.now (ended (tree_of c.in-Ended.value), frames) c.in_err-next-in-Ended.field-0.0 c.close.new.stack.items stands c.requires.some
    (subst (StepGives (Err c.in_err-next-in-Ended.field-0.0) c.close.new.stack.items) (sym (black_closes (get_or c.args.text.now c.args.place.now 0) (tree_of c.in-Ended.value) frames c.requires.black))
    (subst (λ (xs : List ℕ). StepGives (Err c.in_err-next-in-Ended.field-0.0) c.close.new.stack.items (close (get_or xs c.args.place.now 0) (tree_of c.in-Ended.value) frames)) c.as_bytes.ensures.value c.in_err-next-in-Ended.ensures)))
