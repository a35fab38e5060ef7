-- One answer at most is due.
use Rattle.std.proofs.lemmas.Grind.{common_steps}
use Rattle.std.proofs.Common.{◌≡◌, ℕ, ◌≤◌, ◌⊎◌, inl, inr, List, [], ◌∷◌, ◌++◌, Option, Some, None, Result, Ok, Err, length, refl, sym, ap, ◌∙◌, subst, arith}
use Rattle.json_text.specs.{Tree.Tree, Places.Reads, Answers.{IsDue as IsTextDue, IsFault as IsTextFault}, declared.reading.JsonFault.JsonFault}
use Rattle.json_text.specs.declared.reading.JsonFault.TheVariants as json
use Rattle.metric_table.specs.{Limits.most, declared.limits.Limit.Limit, declared.limits.Limit.TheVariants.RunSamples}
use Rattle.sample_model.specs.Samples.{Measurement}
use Rattle.lnt_report.specs.{Rules.{Break, break, first_break}, Numbers.{Reading, readings, AreMeasured, none, one, IsMeasured, IsOut}, Runs.{Report, IsRun}}
use Rattle.metric_value.specs.Values.{HasNoneInRange, ValueIsOne}
use Rattle.lnt_report.specs.{Checks.IsOfText, Outcomes.{IsOver, IsDue, IsDueOf}, declared.fault.ReportFault.ReportFault}
use Rattle.lnt_report.specs.declared.fault.ReportFault.TheVariants.{NotText, NotJson, TooDeep, NotReport, OutOfRange, Full, NoMemory}

-- a number that is a sample has a value in range
in_range_not_none : {r : Reading} {m : Measurement} → IsMeasured r m → HasNoneInRange r.metric r.spelling → ⊥
in_range_not_none {m = m} h never = omega (arith, never m.value h.value, h.in_range)

-- a number among those that are measured has a value
no_out : (front : List Reading) (out : Reading) (back : List Reading) (ms : List Measurement) → AreMeasured (front ++ (out ∷ back)) ms
    → HasNoneInRange out.metric out.spelling → ⊥
no_out [] out back ms (one h more) never = in_range_not_none h never
no_out (r ∷ front) out back ms (one {ms = rest} h more) never = no_out front out back rest more never

unmeasured : (rs : List Reading) (test metric : List ℕ) (ms : List Measurement) → IsOut rs test metric → AreMeasured rs ms → ⊥
unmeasured rs test metric ms h all = no_out h.front h.out h.back ms (subst (λ (xs : List Reading). AreMeasured xs ms) h.split all) h.none

-- two numbers that are the first with no value are one
same_out : (front : List Reading) (out : Reading) (back : List Reading) (other_front : List Reading) (other : Reading) (other_back : List Reading) (ms ns : List Measurement)
    → front ++ (out ∷ back) ≡ other_front ++ (other ∷ other_back) → AreMeasured front ms → AreMeasured other_front ns
    → HasNoneInRange out.metric out.spelling → HasNoneInRange other.metric other.spelling → out ≡ other
same_out [] out back [] other other_back ms ns e h k never nor = cc
same_out [] out back (r ∷ front) other other_back ms ns e h (one {m = m} k more) never nor = grind (arith, common_steps)
same_out (r ∷ front) out back [] other other_back ms ns e (one {m = m} h more) k never nor = grind (arith, common_steps)
same_out (r ∷ front) out back (s ∷ other_front) other other_back ms ns e (one {ms = rest} h more) (one {ms = others} k most_of) never nor =
    let tails : front ++ (out ∷ back) ≡ other_front ++ (other ∷ other_back) = cc in
    same_out front out back other_front other other_back rest others tails more most_of never nor

out_is_one : (rs : List Reading) (test metric other_test other_metric : List ℕ) → IsOut rs test metric → IsOut rs other_test other_metric
    → OutOfRange test metric ≡ OutOfRange other_test other_metric
out_is_one rs test metric other_test other_metric h k = grind (arith, common_steps, same_out)

same_sample : (m n : Measurement) → m.test ≡ n.test → m.metric ≡ n.metric → m.value ≡ n.value → m ≡ n
same_sample m n e f g = grind (arith, common_steps)

-- numbers are one list of samples
samples_are_one : ValueIsOne → {rs : List Reading} {ms ns : List Measurement} → AreMeasured rs ms → AreMeasured rs ns → ms ≡ ns
samples_are_one law none none = refl
samples_are_one law (one {r = r} {m = m} {ms = ms} first more) (one {m = n} {ms = ns} other others) =
    ap (λ (x : Measurement). x ∷ ms)
    (same_sample m n (first.test ∙ sym other.test) (first.metric ∙ sym other.metric) (law r.metric r.spelling m.value n.value first.value other.value))
    ∙ ap (λ xs. n ∷ xs) (samples_are_one law more others)

lengths : {rs : List Reading} {ms : List Measurement} → AreMeasured rs ms → length ms ≡ length rs
lengths none = refl
lengths (one h more) = let e = lengths more in omega arith

abbrev report : List ℕ → List ℕ → List Measurement → ℕ → Report
report machine commit samples ignored = record { machine = machine; commit = commit; samples = samples; ignored = ignored }

inside : {A : Type 0} (a b : A) → Some a ≡ Some b → a ≡ b
inside a b e = cc

run_is_one : (tree : Tree) (a b : Report) → ValueIsOne → IsRun tree a → IsRun tree b → a ≡ b
run_is_one tree a b law h k = grind (arith, common_steps, inside, report, samples_are_one)

clash : {A : Type 0} (o : Option A) (a : A) → o ≡ None → o ≡ Some a → ⊥
clash o a e f = let g : None ≡ Some a = sym e ∙ f in cc

too_many : (rs : List Reading) (ms : List Measurement) (limit : Limit) → AreMeasured rs ms → length ms ≤ most RunSamples → IsOver rs limit → ⊥
too_many rs ms limit h few over = omega (arith, lengths h, lengths over.measured, over.over)

due_is_one : (tree : Tree) (a b : Result Report ReportFault) → ValueIsOne → IsDueOf tree a → IsDueOf tree b → a ≡ b
due_is_one tree (Ok x) (Ok y) law h k = ap Ok (run_is_one tree x y law h.1 k.1)
due_is_one tree (Ok x) (Err (NotReport other_rule other_path)) law h k = absurd (clash (first_break tree) (break other_rule other_path) h.0 k)
due_is_one tree (Ok x) (Err (OutOfRange other_test other_metric)) law h k = absurd (unmeasured (readings tree) other_test other_metric x.samples k.1 h.1.samples)
due_is_one tree (Ok x) (Err (Full other_limit)) law h k = absurd (too_many (readings tree) x.samples other_limit h.1.samples h.1.few k.1)
due_is_one tree (Ok x) (Err (NotText j)) law h k = absurd k
due_is_one tree (Ok x) (Err (NotJson j)) law h k = absurd k
due_is_one tree (Ok x) (Err (TooDeep j)) law h k = absurd k
due_is_one tree (Ok x) (Err NoMemory) law h k = absurd k
due_is_one tree (Err (NotReport rule path)) (Ok y) law h k = absurd (clash (first_break tree) (break rule path) k.0 h)
due_is_one tree (Err (NotReport rule path)) (Err (NotReport other_rule other_path)) law h k = ap (λ (b : Break). Err (NotReport b.rule b.member)) (inside (break rule path) (break other_rule other_path) (sym h ∙ k))
due_is_one tree (Err (NotReport rule path)) (Err (OutOfRange other_test other_metric)) law h k = absurd (clash (first_break tree) (break rule path) k.0 h)
due_is_one tree (Err (NotReport rule path)) (Err (Full other_limit)) law h k = absurd (clash (first_break tree) (break rule path) k.0 h)
due_is_one tree (Err (NotReport rule path)) (Err (NotText j)) law h k = absurd k
due_is_one tree (Err (NotReport rule path)) (Err (NotJson j)) law h k = absurd k
due_is_one tree (Err (NotReport rule path)) (Err (TooDeep j)) law h k = absurd k
due_is_one tree (Err (NotReport rule path)) (Err NoMemory) law h k = absurd k
due_is_one tree (Err (OutOfRange test metric)) (Ok y) law h k = absurd (unmeasured (readings tree) test metric y.samples h.1 k.1.samples)
due_is_one tree (Err (OutOfRange test metric)) (Err (NotReport other_rule other_path)) law h k = absurd (clash (first_break tree) (break other_rule other_path) h.0 k)
due_is_one tree (Err (OutOfRange test metric)) (Err (OutOfRange other_test other_metric)) law h k = ap Err (out_is_one (readings tree) test metric other_test other_metric h.1 k.1)
due_is_one tree (Err (OutOfRange test metric)) (Err (Full other_limit)) law h k = absurd (unmeasured (readings tree) test metric k.1.samples h.1 k.1.measured)
due_is_one tree (Err (OutOfRange test metric)) (Err (NotText j)) law h k = absurd k
due_is_one tree (Err (OutOfRange test metric)) (Err (NotJson j)) law h k = absurd k
due_is_one tree (Err (OutOfRange test metric)) (Err (TooDeep j)) law h k = absurd k
due_is_one tree (Err (OutOfRange test metric)) (Err NoMemory) law h k = absurd k
due_is_one tree (Err (Full limit)) (Ok y) law h k = absurd (too_many (readings tree) y.samples limit k.1.samples k.1.few h.1)
due_is_one tree (Err (Full limit)) (Err (NotReport other_rule other_path)) law h k = absurd (clash (first_break tree) (break other_rule other_path) h.0 k)
due_is_one tree (Err (Full limit)) (Err (OutOfRange other_test other_metric)) law h k = absurd (unmeasured (readings tree) other_test other_metric h.1.samples k.1 h.1.measured)
due_is_one tree (Err (Full limit)) (Err (Full other_limit)) law h k = ap (λ (l : Limit). Err (Full l)) (h.1.of_samples ∙ sym k.1.of_samples)
due_is_one tree (Err (Full limit)) (Err (NotText j)) law h k = absurd k
due_is_one tree (Err (Full limit)) (Err (NotJson j)) law h k = absurd k
due_is_one tree (Err (Full limit)) (Err (TooDeep j)) law h k = absurd k
due_is_one tree (Err (Full limit)) (Err NoMemory) law h k = absurd k
due_is_one tree (Err (NotText j)) b law h k = absurd h
due_is_one tree (Err (NotJson j)) b law h k = absurd h
due_is_one tree (Err (TooDeep j)) b law h k = absurd h
due_is_one tree (Err NoMemory) b law h k = absurd h

-- what a text's answer says of the answer of a run
abbrev From : Result Tree JsonFault → Result Report ReportFault → Type 0
From (Ok tree) due = IsDueOf tree due
From (Err (json.NotText j)) due = due ≡ Err (NotText j)
From (Err (json.NotJson j)) due = due ≡ Err (NotJson j)
From (Err (json.TooDeep j)) due = due ≡ Err (TooDeep j)
From (Err json.NoMemory) due = ⊥

-- an answer that is due comes from a text's
of_text : (bytes : List ℕ) (due : Result Report ReportFault) → IsDue bytes due → (answer : Result Tree JsonFault) × (IsTextDue bytes answer × From answer due)
of_text bytes (Err (NotText j)) d = (Err (json.NotText j), (d, refl))
of_text bytes (Err (NotJson j)) d = (Err (json.NotJson j), (d, refl))
of_text bytes (Err (TooDeep j)) d = (Err (json.TooDeep j), (d, refl))
of_text bytes (Ok y) d = (Ok d.0, (d.1, d.2))
of_text bytes (Err (NotReport rule path)) d = (Ok d.0, (d.1, d.2))
of_text bytes (Err (OutOfRange test metric)) d = (Ok d.0, (d.1, d.2))
of_text bytes (Err (Full limit)) d = (Ok d.0, (d.1, d.2))
of_text bytes (Err NoMemory) d = (Ok d.0, (d.1, d.2))

abbrev pub OneText : List ℕ → Type 0
OneText bytes = (one other : Result Tree JsonFault) → IsTextDue bytes one → IsTextDue bytes other → one ≡ other

-- what a tree is due is what its bytes are due
pub same_answer : (bytes : List ℕ) → OneText bytes → (tree : Tree) (answer : Result Report ReportFault) → ValueIsOne → Reads bytes tree → IsDueOf tree answer
    → (due : Result Report ReportFault) → IsDue bytes due → answer ≡ due
same_answer bytes law tree answer values reads h due d =
    let f = of_text bytes due d in
    due_is_one tree answer due values h (subst (λ (t : Result Tree JsonFault). From t due) (sym (law (Ok tree) f.0 reads f.1.0)) f.1.1)

abbrev pub failed : ReportFault → Result Report ReportFault
failed fault = Err fault

-- a fault of the text is what its bytes are due
pub same_fault : (bytes : List ℕ) → OneText bytes → (fault : JsonFault) (said : ReportFault) → IsOfText fault said → IsTextFault bytes fault
    → (due : Result Report ReportFault) → IsDue bytes due → (failed said ≡ due) ⊎ (failed said ≡ failed NoMemory)
same_fault bytes law json.NoMemory said e h due d = inr (ap failed e)
same_fault bytes law (json.NotText j) said e h due d =
    let f = of_text bytes due d in
    let g : due ≡ Err (NotText j) = subst (λ (t : Result Tree JsonFault). From t due) (sym (law (Err (json.NotText j)) f.0 h f.1.0)) f.1.1 in
    inl (ap failed e ∙ sym g)
same_fault bytes law (json.NotJson j) said e h due d =
    let f = of_text bytes due d in
    let g : due ≡ Err (NotJson j) = subst (λ (t : Result Tree JsonFault). From t due) (sym (law (Err (json.NotJson j)) f.0 h f.1.0)) f.1.1 in
    inl (ap failed e ∙ sym g)
same_fault bytes law (json.TooDeep j) said e h due d =
    let f = of_text bytes due d in
    let g : due ≡ Err (TooDeep j) = subst (λ (t : Result Tree JsonFault). From t due) (sym (law (Err (json.TooDeep j)) f.0 h f.1.0)) f.1.1 in
    inl (ap failed e ∙ sym g)

-- two answers that come from one answer of the text are one
one_from : (answer : Result Tree JsonFault) (a b : Result Report ReportFault) → ValueIsOne → From answer a → From answer b → a ≡ b
one_from answer a b law h k = grind (arith, common_steps, due_is_one)

pub one_due : (bytes : List ℕ) → OneText bytes → ValueIsOne → (a b : Result Report ReportFault) → IsDue bytes a → IsDue bytes b → a ≡ b
one_due bytes law values a b h k =
    let f = of_text bytes a h in
    let g = of_text bytes b k in
    one_from f.0 a b values f.1.1 (subst (λ (t : Result Tree JsonFault). From t b) (sym (law f.0 g.0 f.1.0 g.1.0)) g.1.1)
