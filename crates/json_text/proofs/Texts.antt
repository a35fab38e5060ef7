-- Whole texts, from what one byte does: the machine reads exactly what texts begin with, and ends exactly where they do.
use Rattle.std.proofs.lemmas.Grind.{common_steps}
use Rattle.std.proofs.Common.{◌≡◌, ℕ, ◌≤◌, List, [], ◌∷◌, ◌++◌, Option, Some, None, option_and_then, refl, arith, sym, subst, ◌∙◌, ap, append-nil}
use Rattle.json_text.{specs.Tree.{Tree, nesting}, specs.Grammar.IsText, specs.Places.Begins, proofs.Ends.{grammar_ends, machine_ends}}
use Rattle.json_text.specs.Machine.{Mode, Frame, State, value, first_item, first_key, next_key, colon, letters, digits, content, ended, step, run, start, finish, own_level, levels, as_value, as_key}
use Rattle.json_text.{specs.Depth.{inner_depth, depth}, specs.Reached.ended_tree, proofs.Completion.{Completes, Leads}}
use Rattle.json_text.proofs.{Steps.{IsSoundMode, Keeps, forth, back, step_keeps, around_least}, Endings.{ending, completes_deep}}

-- a text is what completes the first state
text_completes : (bytes : List ℕ) (tree : Tree) → IsText bytes tree → Completes value [] bytes tree
text_completes bytes tree (before, inside, after, e, blank, v, blank') = (before, inside, after, tree, e, blank, v, (blank', refl))

completes_text : (bytes : List ℕ) (tree : Tree) → Completes value [] bytes tree → IsText bytes tree
completes_text bytes tree (before, inside, after, other, e, blank, v, (blank', same)) = subst (IsText bytes) same (before, inside, after, e, blank, v, blank')

-- many bytes
run_next : (bytes more : List ℕ) (whole : Tree) (next : Option State) → ((state : State) → Completes state.0 state.1 (bytes ++ more) whole → Leads (run bytes state) more whole)
    → Leads next (bytes ++ more) whole → Leads (option_and_then (run bytes) next) more whole
run_next bytes more whole next on l = grind (arith, common_steps)

run_forth : (bytes more : List ℕ) (whole : Tree) (state : State) → Completes state.0 state.1 (bytes ++ more) whole → Leads (run bytes state) more whole
run_forth [] more whole state h = h
run_forth (b ∷ bytes) more whole state h = run_next bytes more whole (step b state.0 state.1) (run_forth bytes more whole) (forth state.0 state.1 b (bytes ++ more) whole h)

run_before : (bytes more : List ℕ) (whole : Tree) (before : ℕ) (next : Option State) → ((state : State) → IsSoundMode state.0 → Leads (run bytes state) more whole → Completes state.0 state.1 (bytes ++ more) whole)
    → Keeps before next → Leads (option_and_then (run bytes) next) more whole → Leads next (bytes ++ more) whole
run_before bytes more whole before next on keeps l = grind (arith, common_steps)

run_back : (bytes more : List ℕ) (whole : Tree) (state : State) → IsSoundMode state.0 → Leads (run bytes state) more whole → Completes state.0 state.1 (bytes ++ more) whole
run_back [] more whole state sound l = l
run_back (b ∷ bytes) more whole state sound l =
    let keeps = step_keeps state.0 b state.1 sound in
    back state.0 state.1 b (bytes ++ more) whole sound (run_before bytes more whole (depth state) (step b state.0 state.1) (run_back bytes more whole) keeps l)

-- a run leads from a sound state to a sound one
abbrev pub RunsSoundly : Option State → Type 0
RunsSoundly None = Unit {0}
RunsSoundly (Some state) = IsSoundMode state.0

run_sound_next : (bytes : List ℕ) (before : ℕ) (next : Option State) → ((state : State) → IsSoundMode state.0 → RunsSoundly (run bytes state)) → Keeps before next → RunsSoundly (option_and_then (run bytes) next)
run_sound_next bytes before next on keeps = grind (arith, common_steps)

run_sound : (bytes : List ℕ) (state : State) → IsSoundMode state.0 → RunsSoundly (run bytes state)
run_sound [] state sound = sound
run_sound (b ∷ bytes) state sound = run_sound_next bytes (depth state) (step b state.0 state.1) (run_sound bytes) (step_keeps state.0 b state.1 sound)

-- what the machine reaches is sound
pub reached_sound : (bytes : List ℕ) (state : State) → run bytes start ≡ Some state → IsSoundMode state.0
reached_sound bytes state e = subst RunsSoundly e (run_sound bytes start tt)

-- a text that begins with these bytes goes on from the state after them
pub goes_on : (bytes more : List ℕ) (tree : Tree) → IsText (bytes ++ more) tree → Leads (run bytes start) more tree
goes_on bytes more tree text = run_forth bytes more tree start (text_completes (bytes ++ more) tree text)

-- bytes that begin a text are read to their end
pub begins_runs : (bytes : List ℕ) → Begins bytes → run bytes start ≡ None → ⊥
begins_runs bytes (more, tree, text) stops = subst (λ (o : Option State). Leads o more tree) stops (goes_on bytes more tree text)

-- such a text is as deep as the state at least
pub begins_deep : (bytes more : List ℕ) (tree : Tree) (state : State) → IsText (bytes ++ more) tree → run bytes start ≡ Some state → depth state ≤ nesting tree
begins_deep bytes more tree state text e = completes_deep state.0 state.1 more tree (subst (λ (o : Option State). Leads o more tree) e (goes_on bytes more tree text))

-- bytes that are read begin a text, which is no deeper than the state
pub reached_begins : (bytes : List ℕ) (state : State) → run bytes start ≡ Some state → (more : List ℕ) × (tree : Tree) × IsText (bytes ++ more) tree × (nesting tree ≤ depth state)
reached_begins bytes state e =
    let (more, tree, k, less) = ending state.0 state.1 (reached_sound bytes state e) in
    (more, tree, completes_text (bytes ++ more) tree (run_back bytes more tree start tt (subst (λ (o : Option State). Leads o more tree) (sym e) k)), less)

-- a text is read to its end, where its tree is at hand
text_read : (next : Option State) (tree : Tree) → Leads next [] tree → (state : State) × (next ≡ Some state) × (ended_tree state ≡ Some tree)
text_read next tree l = grind (arith, common_steps, grammar_ends)

pub text_ends : (bytes : List ℕ) (tree : Tree) → IsText bytes tree → (state : State) × (run bytes start ≡ Some state) × (ended_tree state ≡ Some tree)
text_ends bytes tree text = text_read (run bytes start) tree (goes_on bytes [] tree (subst (λ all. IsText all tree) (sym (append-nil bytes)) text))

-- what is read to an end is a text
pub ends_text : (bytes : List ℕ) (state : State) (tree : Tree) → run bytes start ≡ Some state → ended_tree state ≡ Some tree → IsText bytes tree
ends_text bytes state tree e done =
    let k = machine_ends state.0 state.1 tree done in
    let all = run_back bytes [] tree start tt (subst (λ (o : Option State). Leads o [] tree) (sym e) k) in
    subst (λ all. IsText all tree) (append-nil bytes) (completes_text (bytes ++ []) tree all)

-- where a text ends in a state, the state has no level more than its tree
pub finish_deep : (mode : Mode) (frames : List Frame) (tree : Tree) → finish mode frames ≡ Some tree → nesting tree ≤ depth (mode, frames)
finish_deep = grind (arith, common_steps)

-- A text has one tree.
pub one_tree : (bytes : List ℕ) (one other : Tree) → IsText bytes one → IsText bytes other → one ≡ other
one_tree bytes one other first second =
    let (state, reach, done) = text_ends bytes one first in
    let (state', reach', done') = text_ends bytes other second in
    let same : state ≡ state' = cc (reach, reach') in
    let both : Some one ≡ Some other = sym done ∙ ap ended_tree same ∙ done' in
    cc both

own_least : (mode : Mode) → own_level mode ≤ inner_depth mode
own_least value = omega arith
own_least first_item = omega arith
own_least first_key = omega arith
own_least (next_key listed) = omega arith
own_least (colon listed key) = omega arith
own_least (letters left tree) = omega arith
own_least (digits place spelling) = omega arith
own_least (content as_value place bytes) = omega arith
own_least (content (as_key listed) place bytes) = omega arith
own_least (ended tree) = omega arith

-- levels that are open lie in one another
pub levels_deep : (state : State) → levels state ≤ depth state
levels_deep state = let own = own_least state.0 in let all = around_least state.1 (inner_depth state.0) in omega (arith, own, all)
