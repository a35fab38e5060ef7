-- Where the grammar may end, the machine may, and the other way round.
use Rattle.std.proofs.{Common.{◌≡◌, ℕ, true, false, List, [], ◌∷◌, ◌++◌, Some, ap, refl, sym, subst, ◌∙◌, append-nil, arith}, lemmas.Grind.common_steps}
use Rattle.json_text.specs.{declared.state.Digits.Digits, Tree.{Tree, null, boolean, number, text, list, object}}
use Rattle.json_text.specs.{Bytes.{null_letters, true_letters, false_letters}, Grammar.IsValue}
use Rattle.json_text.specs.Machine.{Frame, in_list, in_member, Mode, value, first_item, first_key, next_key, colon, letters, digits, content, ended, finish, may_end}
use Rattle.json_text.proofs.{Completion.{Closes, EndsNumber, Completes}, Numbers.ends_here}

-- a bracket is missing
something : (after inside : List ℕ) (b : ℕ) (more : List ℕ) → [] ≡ after ++ (inside ++ b ∷ more) → ⊥
something [] [] b more e = absurd (cc e)
something [] (x ∷ inside) b more e = absurd (cc e)
something (x ∷ after) inside b more e = absurd (cc e)

one_thing : (inside : List ℕ) (b : ℕ) (more : List ℕ) → [] ≡ inside ++ b ∷ more → ⊥
one_thing inside b more e = something [] inside b more e

ended_ends : (frames : List Frame) (tree whole : Tree) → Closes frames tree [] whole → finish (ended tree) frames ≡ Some whole
ended_ends frames tree whole x3 = grind (arith, common_steps, something)

-- a value that begins no byte
no_value : (tree : Tree) (before inside more : List ℕ) → [] ≡ before ++ (inside ++ more) → (inside ≡ [] → ⊥) → ⊥
no_value tree [] [] more e some = some refl
no_value tree [] (x ∷ inside) more e some = absurd (cc e)
no_value tree (x ∷ before) inside more e some = absurd (cc e)

-- a value has a byte
value_some : (tree : Tree) (inside : List ℕ) → IsValue inside tree → inside ≡ [] → ⊥
value_some null inside v e = let none : [] ≡ null_letters = sym e ∙ v in cc none
value_some (boolean true) inside v e = let none : [] ≡ true_letters = sym e ∙ v in cc none
value_some (boolean false) inside v e = let none : [] ≡ false_letters = sym e ∙ v in cc none
value_some (number []) inside (is, ([], [], fraction, exponent, same, m, w, f, x)) e = absurd w
value_some (number []) inside (is, ([], d ∷ ds, fraction, exponent, same, m, w, f, x)) e = absurd (cc same)
value_some (number []) inside (is, (s ∷ sign, whole, fraction, exponent, same, m, w, f, x)) e = absurd (cc same)
value_some (number (d ∷ spelling)) inside (is, n) e = let none : [] ≡ d ∷ spelling = sym e ∙ is in cc none
value_some (text spelled) inside (between, is, s) e = let none : [] ≡ 34 ∷ (between ++ 34 ∷ []) = sym e ∙ is in cc none
value_some (list items) inside (between, is, all) e = let none : [] ≡ 91 ∷ (between ++ 93 ∷ []) = sym e ∙ is in cc none
value_some (object members) inside (between, is, all) e = let none : [] ≡ 123 ∷ (between ++ 125 ∷ []) = sym e ∙ is in cc none

digits_ends : (place : Digits) (spelling tail more : List ℕ) (frames : List Frame) (whole : Tree) → [] ≡ tail ++ more → EndsNumber place tail → Closes frames (number (spelling ++ tail)) more whole
    → finish (digits place spelling) frames ≡ Some whole
digits_ends place spelling [] [] [] whole e ends (blank, same) = grind (arith, common_steps)
digits_ends place spelling [] [] (in_list items ∷ frames) whole e ends (after, inside, more, others, e', blank, all, k) = absurd (something after inside 93 more e')
digits_ends place spelling [] [] (in_member so_far key ∷ frames) whole e ends (after, inside, more, others, e', blank, all, k) = absurd (something after inside 125 more e')
digits_ends place spelling [] (x ∷ more) frames whole e ends k = absurd (cc e)
digits_ends place spelling (x ∷ tail) more frames whole e ends k = absurd (cc e)

-- the machine has the whole tree where a text ends
pub grammar_ends : (mode : Mode) (frames : List Frame) (whole : Tree) → Completes mode frames [] whole → finish mode frames ≡ Some whole
grammar_ends value frames whole (before, inside, more, tree, e, blank, v, k) = absurd (no_value tree before inside more e (value_some tree inside v))
grammar_ends first_item frames whole (inside, more, items, e, all, k) = absurd (one_thing inside 93 more e)
grammar_ends first_key frames whole (inside, more, every, e, all, k) = absurd (one_thing inside 125 more e)
grammar_ends (next_key listed) frames whole (one, inside, more, key, tree, behind, e, entry, all, k) = absurd (something one inside 125 more e)
grammar_ends (colon listed key) frames whole (after, inside, others, more, tree, behind, e, blank, v, all, k) = absurd (one_thing after 58 (inside ++ (others ++ 125 ∷ more)) e)
grammar_ends (letters [] tree) frames whole h = absurd h
grammar_ends (letters (letter ∷ left) tree) frames whole (more, e, k) = absurd (cc e)
grammar_ends (digits place spelling) frames whole (tail, more, e, ends, k) = digits_ends place spelling tail more frames whole e ends k
grammar_ends (content role place bytes) frames whole (inside, more, spelled, e, ends, k) = absurd (one_thing inside 34 more e)
grammar_ends (ended tree) frames whole k = ended_ends frames tree whole k

-- where a text may end, what holds behind a number that may end and behind a value holds
pub finished : (P : Mode → List Frame → Tree → Type 0) → ((place : Digits) (spelling : List ℕ) → may_end place ≡ true → P (digits place spelling) [] (number spelling))
    → ((tree : Tree) → P (ended tree) [] tree) → (mode : Mode) (frames : List Frame) (whole : Tree) → finish mode frames ≡ Some whole → P mode frames whole
finished P number_ends value_ends value frames whole e = absurd (cc e)
finished P number_ends value_ends first_item frames whole e = absurd (cc e)
finished P number_ends value_ends first_key frames whole e = absurd (cc e)
finished P number_ends value_ends (next_key listed) frames whole e = absurd (cc e)
finished P number_ends value_ends (colon listed key) frames whole e = absurd (cc e)
finished P number_ends value_ends (letters left tree) frames whole e = absurd (cc e)
finished P number_ends value_ends (digits place spelling) [] whole e = grind (arith, common_steps)
finished P number_ends value_ends (digits place spelling) (frame ∷ frames) whole e = absurd (cc e)
finished P number_ends value_ends (content role place bytes) frames whole e = absurd (cc e)
finished P number_ends value_ends (ended tree) [] whole e = let is : tree ≡ whole = cc e in subst (P (ended tree) []) is (value_ends tree)
finished P number_ends value_ends (ended tree) (frame ∷ frames) whole e = absurd (cc e)

-- a text that ends in this state is complete
pub machine_ends : (mode : Mode) (frames : List Frame) (whole : Tree) → finish mode frames ≡ Some whole → Completes mode frames [] whole
machine_ends = finished (λ mode frames whole. Completes mode frames [] whole) (λ place spelling may. ([], [], refl, ends_here place may, (tt, ap number (append-nil spelling)))) (λ tree. (tt, refl))
