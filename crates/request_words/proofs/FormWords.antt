-- A form is what its words say: the words of a line tell the one form that it can have.
use Rattle.std.proofs.{Common.{◌≡◌, ℕ, ◌+◌, ◌*◌, ◌<◌, ◌^◌, eqb, List, [], ◌∷◌, refl, sym, ap, ◌∙◌, arith}, lemmas.Grind.common_steps}
use Rattle.std.specs.{Prelude.{if◌then◌else◌, Bool, true, false, codes, decimal, Option, Some, None}, List.AllByRecursion, Str.Parse.digits_value}
use Rattle.std.proofs.lemmas.Fmt.{decimal_is_IsNumeral_wide}
use Rattle.line_text.specs.Lines.{words_of}
use Rattle.regression_state.specs.{Moves.word, declared.states.State.State}
use Rattle.regression_state.specs.declared.states.State.TheVariants as state
use Rattle.request_words.specs.Forms.{Form, machine, commit, submit_go, submit_lnt, retract, tune, of_number, of_series, set_state, bisect, answer, of_job, runs, report, words_in, numbers_in, IsOfForm}
use Rattle.request_words.specs.declared.verb.{NumberVerb.TheVariants.{Calibrate, Regress}, SeriesVerb.TheVariants.{Segment, Changes, Verify}, JobVerb.TheVariants.{Resume, Job}}

pub first_of : {one other : List ℕ} {words others : List (List ℕ)} → one ∷ words ≡ other ∷ others → one ≡ other
first_of same = cc

pub behind : {one other : List ℕ} {words others : List (List ℕ)} → one ∷ words ≡ other ∷ others → words ≡ others
behind same = cc

-- ---- the words at the places from 0

abbrev pub first : List (List ℕ) → List ℕ
first [] = []
first (w ∷ words) = w

abbrev pub rest : List (List ℕ) → List (List ℕ)
rest [] = []
rest (w ∷ words) = words

abbrev pub second : List (List ℕ) → List ℕ
second words = first (rest words)

abbrev pub third : List (List ℕ) → List ℕ
third words = first (rest (rest words))

abbrev pub fourth : List (List ℕ) → List ℕ
fourth words = first (rest (rest (rest words)))

-- the number that a word is
abbrev pub value : List ℕ → ℕ
value w = digits_value 10 w

-- ---- the form of the words

-- a number for the first three bytes, in which the first words of all forms differ, and the words of all states
abbrev mark : List ℕ → ℕ
mark [] = 0
mark (a ∷ []) = a
mark (a ∷ b ∷ []) = a + 256 * b
mark (a ∷ b ∷ c ∷ w) = a + 256 * b + 65_536 * c

abbrev begins : List ℕ → List ℕ → Bool
begins w text = eqb (mark w) (mark text)

abbrev state_of : List ℕ → State
state_of w =
    if begins w (codes "detected") then state.Detected else if begins w (codes "staged") then state.Staged
    else if begins w (codes "active") then state.Active else if begins w (codes "not_to_be_fixed") then state.NotToBeFixed
    else if begins w (codes "ignored") then state.Ignored else if begins w (codes "verify") then state.Verify else state.Fixed

-- a number, if there is a word for it
abbrev pub given_in : List (List ℕ) → Option ℕ
given_in [] = None
given_in (w ∷ words) = Some (value w)

-- a submission, by the words behind the first
abbrev pub submission_of : Bool → List (List ℕ) → Form
submission_of go more =
    if go then submit_go (second more) (third more) (fourth more) (value (fourth (rest more)))
    else submit_lnt (second more) (third more) (value (fourth more))

-- the form, by the first word and those behind it
abbrev form_by : List ℕ → List (List ℕ) → Form
form_by w more =
    if begins w (codes "machine") then machine (first more)
    else if begins w (codes "commit") then commit (first more) (value (second more)) (third more)
    else if begins w (codes "submit") then submission_of (begins (first more) (codes "go")) more
    else if begins w (codes "retract") then retract (first more) (second more)
    else if begins w (codes "tune") then tune (first more) (second more) (third more) (given_in (rest (rest (rest more))))
    else if begins w (codes "calibrate") then of_number Calibrate (first more) (second more) (third more) (value (fourth more))
    else if begins w (codes "segment") then of_series Segment (first more) (second more) (third more)
    else if begins w (codes "changes") then of_series Changes (first more) (second more) (third more)
    else if begins w (codes "verify") then of_series Verify (first more) (second more) (third more)
    else if begins w (codes "regress") then of_number Regress (first more) (second more) (third more) (value (fourth more))
    else if begins w (codes "state") then set_state (first more) (value (second more)) (state_of (third more))
    else if begins w (codes "bisect") then bisect (first more) (second more) (third more)
    else if begins w (codes "answer") then answer (first more) (value (second more)) (third more) (value (fourth more))
    else if begins w (codes "resume") then of_job Resume (first more) (value (second more))
    else if begins w (codes "job") then of_job Job (first more) (value (second more))
    else if begins w (codes "runs") then runs (first more)
    else report (first more) (begins (second more) (codes "json"))

abbrev pub form_in : List (List ℕ) → Form
form_in words = form_by (first words) (rest words)

number_back : (n : ℕ) → n < 2 ^ 64 → value (decimal n) ≡ n
number_back n small = (decimal_is_IsNumeral_wide n (omega (arith, small))).1

state_back : (s : State) → state_of (word s) ≡ s
state_back s = grind (arith, common_steps)

-- a form is that of its words
form_back : (f : Form) → AllByRecursion (λ n. n < 2 ^ 64) (numbers_in f) → form_in (words_in f) ≡ f
form_back (machine m) small = refl
form_back (commit m number name) small = ap (λ n. commit m n name) (number_back number small.0)
form_back (submit_go m c r len) small = ap (submit_go m c r) (number_back len small.0)
form_back (submit_lnt m r len) small = ap (submit_lnt m r) (number_back len small.0)
form_back (retract m r) small = refl
form_back (tune m metric penalty None) small = refl
form_back (tune m metric penalty (Some len)) small = ap (λ n. tune m metric penalty (Some n)) (number_back len small.0)
form_back (of_number Calibrate m test metric factor) small = ap (of_number Calibrate m test metric) (number_back factor small.0)
form_back (of_series Segment m test metric) small = refl
form_back (of_series Changes m test metric) small = refl
form_back (of_series Verify m test metric) small = refl
form_back (of_number Regress m test metric change) small = ap (of_number Regress m test metric) (number_back change small.0)
form_back (set_state m regression s) small = grind (arith, common_steps, state_of, number_back, state_back)
form_back (bisect m lo hi) small = refl
form_back (answer m job c status) small = grind (arith, common_steps, value, number_back)
form_back (of_job Resume m job) small = ap (of_job Resume m) (number_back job small.0)
form_back (of_job Job m job) small = ap (of_job Job m) (number_back job small.0)
form_back (runs m) small = refl
form_back (report m true) small = refl
form_back (report m false) small = refl

-- forms with the same words are the same
pub one_words : (f g : Form) → words_in f ≡ words_in g → AllByRecursion (λ n. n < 2 ^ 64) (numbers_in f) → AllByRecursion (λ n. n < 2 ^ 64) (numbers_in g) → f ≡ g
one_words f g is small few = sym (form_back f small) ∙ ap form_in is ∙ form_back g few

-- whatever form a line has, it is that of its words
pub the_form : {line : List ℕ} {words : List (List ℕ)} (f : Form) → words_of line ≡ words → IsOfForm line f → IsOfForm line (form_in words)
the_form {line} {words} f is of_form = grind (arith, common_steps, form_back, form_in)
