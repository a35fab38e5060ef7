-- From what was checked and gathered to the answer.
use Rattle.std.proofs.Common.{◌≡◌, ℕ, ◌≤◌, inl, inr, List, [], ◌++◌, Bool, true, false, Option, Some, None, Result, Ok, Err, IfOk, IfErr, is_some, length, refl, sym, ap, ◌∙◌, subst, append-nil, length-append, codes, arith}
use Rattle.std.specs.{Option.option_or, List.{flat_map, sum_by}}
use Rattle.json_text.specs.{Tree.{Tree, object}, View.members_of}
use Rattle.metric_table.specs.{Limits.most, declared.limits.Limit.TheVariants.RunSamples}
use Rattle.sample_model.specs.Samples.{Measurement}
use Rattle.lnt_report.specs.Look.{Entry, fields, items_in, value_at, is_object, is_list}
use Rattle.lnt_report.specs.Rules.{Break, unless, machine_name, commit_name, tests_in, tests_break, run_break, head_break, first_break, IsSound}
use Rattle.lnt_report.specs.{Numbers.{Reading, readings, ignored_in, test_readings, test_ignored, AreMeasured, IsOut}, Runs.{Report, IsRun}}
use Rattle.lnt_report.specs.{Gathering.{Leaves, AreBeyond, IsRefusal}, Checks.IsAnswerOf, Outcomes.IsOver, declared.gathered.Gathered.Gathered}
use Rattle.lnt_report.specs.declared.fault.ReportFault.{ReportFault, TheVariants.{NotText, NotJson, TooDeep, NotReport, OutOfRange, Full, NoMemory}}
use Rattle.lnt_report.proofs.Walks.{fields_of}

pub after : (first later : Option Break) → option_or first later ≡ None → later ≡ None
after None later h = h
after (Some b) later h = cc

past : (holds : Bool) (rule : ℕ) (path : List ℕ) (later : Option Break) → option_or (unless holds rule path) later ≡ None → (holds ≡ true) × (later ≡ None)
past true rule path later h = (refl, h)
past false rule path later h = cc

from_tests : List Entry → Option Break
from_tests top = option_or (unless (is_list (tests_in top)) 9 (codes "tests")) (tests_break 0 (items_in (tests_in top)))

from_commit : List Entry → Option Break
from_commit top = option_or (unless (is_some (commit_name top)) 8 (codes "run.llvm_project_revision")) (from_tests top)

run_sound : (top : List Entry) → run_break top ≡ None → (is_some (commit_name top) ≡ true) × (is_list (tests_in top) ≡ true)
unfolding from_tests from_commit
run_sound top h =
    let a = past (is_object (value_at (codes "run") top)) 7 (codes "run") (from_commit top) h in
    let b = past (is_some (commit_name top)) 8 (codes "run.llvm_project_revision") (from_tests top) a.1 in
    let d = past (is_list (tests_in top)) 9 (codes "tests") (tests_break 0 (items_in (tests_in top))) b.1 in
    (b.0, d.0)

from_name : List Entry → Option Break
from_name top = option_or (unless (is_some (machine_name top)) 5 (codes "machine.name")) (run_break top)

from_machine : List Entry → Option Break
from_machine top = option_or (unless (is_object (value_at (codes "machine") top)) 4 (codes "machine")) (from_name top)

head_sound : (top : List Entry) → head_break top ≡ None → IsSound top
unfolding from_name from_machine
head_sound top h =
    let a : from_machine top ≡ None = after _ (from_machine top) h in
    let b = past (is_object (value_at (codes "machine") top)) 4 (codes "machine") (from_name top) a in
    let d = past (is_some (machine_name top)) 5 (codes "machine.name") (run_break top) b.1 in
    let e = run_sound top d.1 in
    record { machine = d.0; commit = e.0; tests = e.1 }

-- where no rule is broken, the members at the top have what the rules demand
pub sound : (tree : Tree) (top : List Entry) → tree ≡ object (members_of top) → first_break tree ≡ None → IsSound top
sound tree top e h = head_sound top (ap head_break (sym (fields_of tree top e)) ∙ after _ (head_break (fields (Some tree))) (after _ _ h))

readings_are : (tree : Tree) (top : List Entry) (tests : List Tree) → tree ≡ object (members_of top) → items_in (tests_in top) ≡ tests → readings tree ≡ flat_map test_readings tests
readings_are tree top tests e f = ap (λ es. flat_map test_readings (items_in (tests_in es))) (fields_of tree top e) ∙ ap (λ ts. flat_map test_readings ts) f

ignored_are : (tree : Tree) (top : List Entry) (tests : List Tree) → tree ≡ object (members_of top) → items_in (tests_in top) ≡ tests → ignored_in tree ≡ sum_by test_ignored tests
ignored_are tree top tests e f = ap (λ es. sum_by test_ignored (items_in (tests_in es))) (fields_of tree top e) ∙ ap (λ ts. sum_by test_ignored ts) f

-- a number that is no sample
pub refused : (tree : Tree) (top : List Entry) (tests : List Tree) (fault : ReportFault) → tree ≡ object (members_of top) → first_break tree ≡ None → items_in (tests_in top) ≡ tests
    → IsRefusal (flat_map test_readings tests) fault → IsAnswerOf tree (Err fault)
refused tree top tests (OutOfRange test metric) e clean f h = inr (clean, subst (λ (rs : List Reading). IsOut rs test metric) (sym (readings_are tree top tests e f)) h)
refused tree top tests NoMemory e clean f h = inl refl
refused tree top tests (NotText k) e clean f h = absurd h
refused tree top tests (NotJson k) e clean f h = absurd h
refused tree top tests (TooDeep k) e clean f h = absurd h
refused tree top tests (NotReport rule path) e clean f h = absurd h
refused tree top tests (Full limit) e clean f h = absurd h

all_past : (rs : List Reading) (total : ℕ) (g : Gathered) (h : Leaves rs total [] 0 g) → h.past ≡ rs
all_past rs total g h = sym (append-nil h.past) ∙ h.split

-- the run, or that it has too many samples
pub answered : (tree : Tree) (top : List Entry) (tests : List Tree) (machine commit : List ℕ) (g : Gathered) (answer : Result Report ReportFault)
    → tree ≡ object (members_of top) → first_break tree ≡ None → machine_name top ≡ Some machine → commit_name top ≡ Some commit → items_in (tests_in top) ≡ tests
    → Leaves (flat_map test_readings tests) (sum_by test_ignored tests) [] 0 g
    → IfOk answer (λ run. run ≡ record { machine = machine; commit = commit; samples = g.samples; ignored = g.ignored }) → IfOk answer (λ _. g.over ≡ false)
    → IfOk answer (λ _. length g.samples ≤ most RunSamples) → IfErr answer (λ fault. fault ≡ Full RunSamples) → IfErr answer (λ _. g.over ≡ true)
    → IsAnswerOf tree answer
answered tree top tests machine commit g (Ok run) e clean m n f h is all few full over =
    let beyond : AreBeyond false g.samples h.beyond = subst (λ (o : Bool). AreBeyond o g.samples h.beyond) all h.over in
    let listed : g.samples ++ h.beyond ≡ g.samples = ap (λ (ms : List Measurement). g.samples ++ ms) beyond ∙ append-nil g.samples in
    let same = all_past (flat_map test_readings tests) (sum_by test_ignored tests) g h ∙ sym (readings_are tree top tests e f) in
    let measured : AreMeasured (readings tree) g.samples =
    subst (λ (rs : List Reading). AreMeasured rs g.samples) same (subst (λ (ms : List Measurement). AreMeasured h.past ms) listed h.measured) in
    let made : IsRun tree (record { machine = machine; commit = commit; samples = g.samples; ignored = g.ignored }) = record {
      machine = ap machine_name (fields_of tree top e) ∙ m;
      commit = ap commit_name (fields_of tree top e) ∙ n;
      samples = measured;
      few = few;
      ignored = omega (arith, h.ignored, h.counted, ignored_are tree top tests e f);
    } in
    inr (clean, subst (λ (r : Report). IsRun tree r) (sym is) made)
answered tree top tests machine commit g (Err fault) e clean m n f h is all few full over =
    let beyond : AreBeyond true g.samples h.beyond = subst (λ (o : Bool). AreBeyond o g.samples h.beyond) over h.over in
    let same = all_past (flat_map test_readings tests) (sum_by test_ignored tests) g h ∙ sym (readings_are tree top tests e f) in
    let full_of : IsOver (readings tree) RunSamples = record {
      samples = g.samples ++ h.beyond;
      measured = subst (λ (rs : List Reading). AreMeasured rs (g.samples ++ h.beyond)) same h.measured;
      over = omega (arith, beyond, length-append g.samples h.beyond);
      of_samples = refl;
    } in
    subst (λ (fault : ReportFault). IsAnswerOf tree (Err fault)) (sym full) (inr (clean, full_of))
