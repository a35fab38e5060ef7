use Rattle.std.proofs.{Common.{◌≡◌, ℕ, List, arith, get_or, sym, subst}, lemmas.Grind.common_steps}
use Rattle.json_text.specs.{Machine.{first_key, next_key, colon}, Tree.{Members, no_members}, Reached.Stands, States.frames_of}
use Rattle.json_text.proofs.{Reach.{object_ends, closed_arrives, key_alike, key_arrives, key_fails, fault_handed}, Runs.stands_alike, Variants.tree_of-object}
use Rattle.json_text.proofs.machine.first_key.Goals as goal

pub returns-then-as_bytes-place-eq125-clause-arrives : goal.returns-then-as_bytes-place-eq125-clause-arrives
returns-then-as_bytes-place-eq125-clause-arrives c = grind (arith, common_steps, closed_arrives, tree_of-object, object_ends)

pub returns-clause-arrives : goal.returns-clause-arrives
returns-clause-arrives c =
    let stack = c.args.stack.now.items in
    let other : get_or c.args.text.now c.args.place.now 0 ≡ 125 → ⊥ = subst (λ (xs : List ℕ). get_or xs c.args.place.now 0 ≡ 125 → ⊥) c.as_bytes.ensures.value c.if-as_bytes-place-eq125.false in
    let stands = stands_alike c.args.text.now c.args.place.now (first_key, frames_of stack) (next_key no_members, frames_of stack) c.requires.stands (key_alike c.args.text.now c.args.place.now (frames_of stack) c.requires.black other) in
    let read = c.in_ok-read_quoted.ensures.reads in (
      read.0,
      subst (λ (listed : Members). Stands c.args.text.now c.read_quoted.new.place (colon listed c.in_ok-read_quoted.field-0, frames_of stack)) (sym c.new-members.ensures)
          (key_arrives c.args.text.now c.args.place.now c.read_quoted.new.place no_members c.in_ok-read_quoted.field-0 stack stands c.requires.some c.requires.room read),
      omega (arith, c.requires.room),
    )

pub returns-in_err-read_quoted-clause-arrives : goal.returns-in_err-read_quoted-clause-arrives
returns-in_err-read_quoted-clause-arrives c =
    let stack = c.args.stack.now.items in
    let other : get_or c.args.text.now c.args.place.now 0 ≡ 125 → ⊥ = subst (λ (xs : List ℕ). get_or xs c.args.place.now 0 ≡ 125 → ⊥) c.as_bytes.ensures.value c.if-as_bytes-place-eq125.false in
    let stands = stands_alike c.args.text.now c.args.place.now (first_key, frames_of stack) (next_key no_members, frames_of stack) c.requires.stands (key_alike c.args.text.now c.args.place.now (frames_of stack) c.requires.black other) in
    fault_handed _ _ c.args.text.now c.args.place.now _ stack c.from_residual.ensures.1
    (key_fails _ c.args.text.now c.args.place.now c.read_quoted.new.place no_members stack stands c.requires.some c.requires.black c.requires.room c.in_err-read_quoted.ensures.place.1 c.in_err-read_quoted.ensures.stops)
