use Rattle.std.proofs.{Common.{◌≡◌, ◌∷◌, [], ℕ, List, inl, inr, arith, rules, refl, subst, get_or, option_map, true, false}, lemmas.Grind.common_steps}
use Rattle.json_text.specs.{Machine.{begin, digits, first_digit}, States.frames_of, Tree.{null, boolean}}
use Rattle.json_text.{proofs.Variants.{tree_of-null, tree_of-boolean}, specs.declared.state.Digits.Digits}
use Rattle.json_text.specs.declared.state.Awaits.TheVariants.{FirstItem, FirstKey}
use Rattle.json_text.specs.declared.tree.Json as json
use Rattle.json_text.proofs.Reach.{bracket_turn, word_turn, text_arrives, quoted_fails, number_arrives, number_fails, number_other, fault_handed}
use Rattle.json_text.proofs.machine.begin.Goals as goal

pub returns-in-91-clause-arrives : goal.returns-in-91-clause-arrives
returns-in-91-clause-arrives c =
    let here : get_or c.args.text.now c.args.place.now 0 ≡ 91 = subst (λ (xs : List ℕ). get_or xs c.args.place.now 0 ≡ 91) c.as_bytes-bytes.ensures.value c.in-91.is in
    bracket_turn c.args.text.now c.args.place.now _ 91 FirstItem c.args.stack.now.items _ c.requires.stands c.requires.some here (inl refl) refl refl c.open.ensures.opens c.open.ensures.full

pub returns-in-123-clause-arrives : goal.returns-in-123-clause-arrives
returns-in-123-clause-arrives c =
    let here : get_or c.args.text.now c.args.place.now 0 ≡ 123 = subst (λ (xs : List ℕ). get_or xs c.args.place.now 0 ≡ 123) c.as_bytes-bytes.ensures.value c.in-123.is in
    bracket_turn c.args.text.now c.args.place.now _ 123 FirstKey c.args.stack.now.items _ c.requires.stands c.requires.some here (inr refl) refl refl c.open-in-123.ensures.opens c.open-in-123.ensures.full

pub returns-in-110-clause-arrives : goal.returns-in-110-clause-arrives
returns-in-110-clause-arrives c =
    let here : get_or c.args.text.now c.args.place.now 0 ≡ 110 = subst (λ (xs : List ℕ). get_or xs c.args.place.now 0 ≡ 110) c.as_bytes-bytes.ensures.value c.in-110.is in
    word_turn c.as_bytes-bytes.result.now c.args.text.now c.args.place.now _ 110 117 (108 ∷ 108 ∷ []) json.Null null c.args.stack.now.items _ tree_of-null c.as_bytes-bytes.ensures.value c.requires.stands c.requires.some here refl c.requires.room
    c.word.ensures.place c.word.ensures.reads c.word.ensures.stops

pub returns-in-116-clause-arrives : goal.returns-in-116-clause-arrives
returns-in-116-clause-arrives c =
    let here : get_or c.args.text.now c.args.place.now 0 ≡ 116 = subst (λ (xs : List ℕ). get_or xs c.args.place.now 0 ≡ 116) c.as_bytes-bytes.ensures.value c.in-116.is in
    word_turn c.as_bytes-bytes.result.now c.args.text.now c.args.place.now _ 116 114 (117 ∷ 101 ∷ []) (json.Bool true) (boolean true) c.args.stack.now.items _ (tree_of-boolean true) c.as_bytes-bytes.ensures.value c.requires.stands c.requires.some here refl c.requires.room
    c.word-in-116.ensures.place c.word-in-116.ensures.reads c.word-in-116.ensures.stops

pub returns-in-102-clause-arrives : goal.returns-in-102-clause-arrives
returns-in-102-clause-arrives c =
    let here : get_or c.args.text.now c.args.place.now 0 ≡ 102 = subst (λ (xs : List ℕ). get_or xs c.args.place.now 0 ≡ 102) c.as_bytes-bytes.ensures.value c.in-102.is in
    word_turn c.as_bytes-bytes.result.now c.args.text.now c.args.place.now _ 102 97 (108 ∷ 115 ∷ 101 ∷ []) (json.Bool false) (boolean false) c.args.stack.now.items _ (tree_of-boolean false) c.as_bytes-bytes.ensures.value c.requires.stands c.requires.some here refl c.requires.room
    c.word-in-102.ensures.place c.word-in-102.ensures.reads c.word-in-102.ensures.stops

pub returns-in_ok-read_quoted-in-34-clause-arrives : goal.returns-in_ok-read_quoted-in-34-clause-arrives
returns-in_ok-read_quoted-in-34-clause-arrives c =
    let here : get_or c.args.text.now c.args.place.now 0 ≡ 34 = subst (λ (xs : List ℕ). get_or xs c.args.place.now 0 ≡ 34) c.as_bytes-bytes.ensures.value c.in-34.is in
    let read = c.in_ok-read_quoted-in-34.ensures.reads in
    (read.0, text_arrives c.args.text.now c.args.place.now _ c.in_ok-read_quoted-in-34.field-0 c.args.stack.now.items c.requires.stands c.requires.some here c.requires.room read.2, omega (arith, c.requires.room))

pub returns-in_err-read_quoted-in-34-clause-arrives : goal.returns-in_err-read_quoted-in-34-clause-arrives
returns-in_err-read_quoted-in-34-clause-arrives c = grind (arith, common_steps, get_or, fault_handed, quoted_fails)

pub returns-in_ok-read_number-in_default-clause-arrives : goal.returns-in_ok-read_number-in_default-clause-arrives
returns-in_ok-read_number-in_default-clause-arrives c =
    let read = c.in_ok-read_number-in_default.ensures.reads in
    (read.0, number_arrives c.args.text.now c.args.place.now _ c.in_ok-read_number-in_default.field-0 c.args.stack.now.items c.requires.stands c.requires.some c.requires.black c.requires.room read, omega (arith, c.requires.room))

pub returns-in_err-read_number-in_default-clause-arrives : goal.returns-in_err-read_number-in_default-clause-arrives
returns-in_err-read_number-in_default-clause-arrives c =
    let frames = frames_of c.args.stack.now.items in
    let other : begin (get_or c.as_bytes-bytes.result.now c.args.place.now 0) frames ≡ option_map (λ (at : Digits). (digits at (get_or c.as_bytes-bytes.result.now c.args.place.now 0 ∷ []), frames)) (first_digit (get_or c.as_bytes-bytes.result.now c.args.place.now 0)) =
    number_other (get_or c.as_bytes-bytes.result.now c.args.place.now 0) frames (search rules) (search rules) (search rules) (search rules) (search rules) (search rules) in
    fault_handed _ _ c.args.text.now c.args.place.now _ c.args.stack.now.items c.from_residual-in_err-read_number-in_default.ensures.1
    (number_fails _ c.args.text.now c.args.place.now c.read_number.new.place c.args.stack.now.items c.requires.stands c.requires.some c.requires.black c.requires.room c.in_err-read_number-in_default.ensures.place.1
    (subst (λ (xs : List ℕ). begin (get_or xs c.args.place.now 0) frames ≡ option_map (λ (at : Digits). (digits at (get_or xs c.args.place.now 0 ∷ []), frames)) (first_digit (get_or xs c.args.place.now 0))) c.as_bytes-bytes.ensures.value other)
    c.in_err-read_number-in_default.ensures.stops)
