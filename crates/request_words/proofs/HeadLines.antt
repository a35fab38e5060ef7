-- What a line of a form asks before its body is read.
use Rattle.std.proofs.lemmas.Grind.{common_steps}
use Rattle.std.proofs.Common.{◌≡◌, ◌≢◌, ℕ, ◌<◌, ◌≤◌, inl, inr, List, [], ◌∷◌, length, Option, None, refl, sym, ap, ◌∙◌, arith, codes}
use Rattle.request_words.specs.declared.head.LineFault.TheVariants.{BadRequest, BadName, BadPenalty, BadLength, BodyTooLong}
use Rattle.request_words.specs.declared.{head.Head.TheVariants.{Refused, Asked}, verb.JobVerb.TheVariants.{Resume, Job}}
use Rattle.request_words.specs.Forms.{Form, machine, commit, submit_go, submit_lnt, retract, tune, of_number, of_series, set_state, bisect, answer, of_job, runs, report, machine_word, machine_form, number_verb, job_word, name_of, IsOfForm, HasNoForm, names_in, body_length, HasShortMetric, IsNamed, IsInRange, HasLength}
use Rattle.request_words.specs.{Bodies.{Item, AsksNamed, machine_request}, Items.{long, unnamed, wide, off, named, formless, formed, Counts, body_limit}}
use Rattle.line_text.specs.Lines.{words_of}
use Rattle.request_words.specs.{Verbs.word_of, declared.verb.Verb.Verb, Heads.{IsHeadOf, IsHead, AreNames, IsFoundIf}, declared.verb.MachineVerb.MachineVerb}
use Rattle.request_words.specs.declared.verb.Verb.TheVariants as verb
use Rattle.request_words.specs.declared.verb.MachineVerb.TheVariants as of_machine
use Rattle.request_words.specs.declared.verb.{NumberVerb.NumberVerb, NumberVerb.TheVariants.{Calibrate, Regress}, JobVerb.JobVerb}
use Rattle.request_words.proofs.FormWords.{first_of, first, second, third, fourth, value, form_in, the_form}

pub counts_form : (line : List ℕ) (form : Form) (count : ℕ) → IsOfForm line form → count ≡ body_length form → Counts line count
counts_form line form count is counted = inl (form, is, counted)

pub formless_head : (line : List ℕ) → HasNoForm line → IsHead line (Refused BadRequest 0)
formless_head line none = record { counted = inr (none, refl); asks = λ body item is. formless none is }

pub long_head : (line : List ℕ) (form : Form) (count : ℕ) → IsOfForm line form → count ≡ body_length form
    → body_limit < count → IsHead line (Refused BodyTooLong count)
long_head line form count is counted above =
    record { counted = counts_form line form count is counted; asks = λ body item told. formed form is (long (omega (arith, above, counted)) told) }

refused_head : (line : List ℕ) (form : Form) (count : ℕ) → IsOfForm line form → count ≡ body_length form
    → count ≤ body_limit → (¬ IsNamed form) → IsHead line (Refused BadName count)
refused_head line form count is counted within bad =
    record { counted = counts_form line form count is counted; asks = λ body item told. formed form is (unnamed (omega (arith, within, counted)) bad told) }

-- a word that must be a name is none, or that of a metric a longer one
pub unnamed_head : {A : Type 0} {found : Option A} (line : List ℕ) (form : Form) (count : ℕ) → IsOfForm line form → count ≡ body_length form
    → count ≤ body_limit → found ≡ None → IsFoundIf found (AreNames (names_in form) × HasShortMetric form) → IsHead line (Refused BadName count)
unnamed_head line form count is counted within none told =
    refused_head line form count is counted within (λ are. (rw none at told) (are.names, are.metric))

-- the one word that must be a name is none
pub unnamed_machine : {A : Type 0} {found : Option A} (line : List ℕ) (form : Form) (count : ℕ) → IsOfForm line form → count ≡ body_length form
    → count ≤ body_limit → found ≡ None → IsFoundIf found (AreNames (names_in form)) → IsHead line (Refused BadName count)
unnamed_machine line form count is counted within none told =
    refused_head line form count is counted within (λ are. (rw none at told) are.names)

pub named_head : (line : List ℕ) (form : Form) (count : ℕ) (OfBody : List ℕ → Item → Type 0) → IsOfForm line form → IsInRange form → HasLength form → count ≡ body_length form
    → count ≤ body_limit → AreNames (names_in form) × HasShortMetric form → ((body : List ℕ) (item : Item) → OfBody body item → AsksNamed form body item)
    → IsHeadOf line count OfBody
named_head line form count OfBody is range fits counted within are asks =
    record { counted = counts_form line form count is counted; asks = λ body item told. formed form is (named (omega (arith, within, counted)) (record { names = are.0; metric = are.1 }) range fits (asks body item told)) }

pub wide_head : (line : List ℕ) (form : Form) (count : ℕ) → IsOfForm line form → count ≡ body_length form
    → count ≤ body_limit → AreNames (names_in form) × HasShortMetric form → (¬ IsInRange form) → IsHead line (Refused BadPenalty count)
wide_head line form count is counted within are out =
    record { counted = counts_form line form count is counted; asks = λ body item told. formed form is (wide (omega (arith, within, counted)) (record { names = are.0; metric = are.1 }) out told) }

pub off_head : (line : List ℕ) (form : Form) (count : ℕ) → IsOfForm line form → count ≡ body_length form
    → count ≤ body_limit → AreNames (names_in form) × HasShortMetric form → IsInRange form → (¬ HasLength form) → IsHead line (Refused BadLength count)
off_head line form count is counted within are range out =
    record { counted = counts_form line form count is counted; asks = λ body item told. formed form is (off (omega (arith, within, counted)) (record { names = are.0; metric = are.1 }) range out told) }

-- a line has no form where it hasn't that of its words
pub formless_behind : {line : List ℕ} {words : List (List ℕ)} → words_of line ≡ words → (¬ IsOfForm line (form_in words)) → IsHead line (Refused BadRequest 0)
formless_behind {line} is none = formless_head line (λ form of_form. none (the_form form is of_form))

-- the word alone is no submission
pub no_more : {line : List ℕ} → words_of line ≡ codes "submit" ∷ [] → IsHead line (Refused BadRequest 0)
no_more {line} is = formless_behind is (λ of_form. absurd (omega (arith, ap length (sym is ∙ of_form.words))))

-- what is asked of a machine, by each of its words
pub machine_behind : {line m : List ℕ} {words : List (List ℕ)} (asked : MachineVerb) → words_of line ≡ machine_word asked ∷ words → words ≡ m ∷ [] → IsOfForm line (machine_form asked m)
machine_behind asked verb is = grind (arith, common_steps)

pub machine_formless : {line : List ℕ} {words : List (List ℕ)} (asked : MachineVerb) → words_of line ≡ machine_word asked ∷ words → ((m : List ℕ) → words ≢ m ∷ []) → IsHead line (Refused BadRequest 0)
machine_formless asked verb none = grind (arith, common_steps)

pub machine_unnamed : {A : Type 0} {found : Option A} (asked : MachineVerb) (line m : List ℕ) → IsOfForm line (machine_form asked m) → found ≡ None → IsFoundIf found (AreNames (m ∷ []))
    → IsHead line (Refused BadName 0)
machine_unnamed of_machine.Machine line m is none told = unnamed_machine line (machine m) 0 is refl (omega arith) none told
machine_unnamed of_machine.Runs line m is none told = unnamed_machine line (runs m) 0 is refl (omega arith) none told

pub machine_asks : (asked : MachineVerb) (line m : List ℕ) → IsOfForm line (machine_form asked m) → AreNames (m ∷ []) → IsHead line (Asked (machine_request asked (name_of m)))
machine_asks of_machine.Machine line m is are = named_head line (machine m) 0 _ is tt tt refl (omega arith) (are, tt) (λ body item told. told)
machine_asks of_machine.Runs line m is are = named_head line (runs m) 0 _ is tt tt refl (omega arith) (are, tt) (λ body item told. told)

pub number_form : {line : List ℕ} {words : List (List ℕ)} (asked : NumberVerb) (form : Form) → words_of line ≡ number_verb asked ∷ words → IsOfForm line form
    → IsOfForm line (of_number asked (first words) (second words) (third words) (value (fourth words)))
number_form Calibrate form is of_form = the_form form is of_form
number_form Regress form is of_form = the_form form is of_form

pub job_form : {line : List ℕ} {words : List (List ℕ)} (asked : JobVerb) (form : Form) → words_of line ≡ job_word asked ∷ words → IsOfForm line form
    → IsOfForm line (of_job asked (first words) (value (second words)))
job_form Resume form is of_form = the_form form is of_form
job_form Job form is of_form = the_form form is of_form

-- a line whose first word is no verb has no form
pub no_verb : (line word : List ℕ) (words : List (List ℕ)) → words_of line ≡ word ∷ words → ((verb : Verb) → word ≢ word_of verb) → HasNoForm line
no_verb line word words is none (machine m) of_form = none verb.Machine (first_of (sym is ∙ of_form.words))
no_verb line word words is none (commit m number name) of_form = none verb.Commit (first_of (sym is ∙ of_form.words))
no_verb line word words is none (submit_go m c r len) of_form = none verb.Submit (first_of (sym is ∙ of_form.words))
no_verb line word words is none (submit_lnt m r len) of_form = none verb.Submit (first_of (sym is ∙ of_form.words))
no_verb line word words is none (retract m r) of_form = none verb.Retract (first_of (sym is ∙ of_form.words))
no_verb line word words is none (tune m metric penalty given) of_form = none verb.Tune (first_of (sym is ∙ of_form.words))
no_verb line word words is none (of_number asked m test metric number) of_form = none (verb.Number asked) (first_of (sym is ∙ of_form.words))
no_verb line word words is none (of_series asked m test metric) of_form = none (verb.Series asked) (first_of (sym is ∙ of_form.words))
no_verb line word words is none (set_state m regression state) of_form = none verb.State (first_of (sym is ∙ of_form.words))
no_verb line word words is none (bisect m lo hi) of_form = none verb.Bisect (first_of (sym is ∙ of_form.words))
no_verb line word words is none (answer m job c status) of_form = none verb.Answer (first_of (sym is ∙ of_form.words))
no_verb line word words is none (of_job asked m job) of_form = none (verb.Job asked) (first_of (sym is ∙ of_form.words))
no_verb line word words is none (runs m) of_form = none verb.Runs (first_of (sym is ∙ of_form.words))
no_verb line word words is none (report m json) of_form = none verb.Report (first_of (sym is ∙ of_form.words))
