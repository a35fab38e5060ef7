use Rattle.std.proofs.lemmas.Grind.{common_steps}
use Rattle.std.{proofs.Common.{◌≡◌, ◌+◌, ◌<◌, ◌≤◌, ℕ, Bool, List, [], ap, sym, subst, ◌∙◌, arith, length, get_or}, specs.Prelude.{slice_get, Some}}
use Rattle.history_model.specs.declared.entries.Placed.{Placed}
use Rattle.journal_reader.specs.Journals.{Journal}
use Rattle.audit_model.specs.Verdicts.{track_of}
use Rattle.play_audit.{specs.Known.{lines_in, tracks_of}, specs.Marks.{IsFirstIn, NoneIn, rows_of}, proofs.Listed.{read_at, track_at, tracks_many}}
use Rattle.play_audit.proofs.Opened.{AreShut, first_open, lines_fit, none_open, place_fits, shut_next}
use Rattle.play_audit.proofs.marks.first_unasked.Goals as goal
use Rattle.play_audit.proofs.marks.first_unasked.Goals.{After-deref-in-loop-i, In-Some}

here : (c : After-deref-in-loop-i) → slice_get (tracks_of c.args.journals.now) c.loop-i.i ≡ Some (track_of c.index-journals-i.result)
here c = track_at c.args.journals.now c.loop-i.i c.index-journals-i.result (read_at c.args.journals.now c.loop-i.i c.index-journals-i.result c.loop-i-test.true c.index-journals-i.is)

history : (c : After-deref-in-loop-i) → c.deref.result.now ≡ c.index-journals-i.result.history
history c = c.deref.ensures.value ∙ ap (λ (j : Journal). j.history) c.journal.view_is

row : (c : After-deref-in-loop-i) → c.deref-in-loop-i.result.now ≡ get_or (rows_of c.args.marks.now) c.loop-i.i []
row c = grind (arith, common_steps)

pub unasked_in-requires : goal.unasked_in-requires
unasked_in-requires c =
    ap length (row c) ∙ c.requires.rows.each c.loop-i.i (track_of c.index-journals-i.result) (here c) ∙ sym (ap length (history c))

first-in : (c : In-Some) → IsFirstIn c.index-journals-i.result.history (get_or (rows_of c.args.marks.now) c.loop-i.i []) c.in-Some.place
first-in c = grind (arith, common_steps)

fits-in : (c : In-Some) → c.loop-i.before + c.in-Some.place + 2 ≤ lines_in (tracks_of c.args.journals.now) + 1
fits-in c =
    let d = (goal.at.returns-in-Some-clause-some c).After-deref-in-loop-i in
    let all : c.loop-i.before + (1 + length c.index-journals-i.result.history) ≤ lines_in (tracks_of c.args.journals.now) =
    lines_fit (tracks_of c.args.journals.now) (rows_of c.args.marks.now) c.loop-i.i c.loop-i.before (track_of c.index-journals-i.result) c.loop-i.invariant (here d) in
    let within : c.in-Some.place < length c.index-journals-i.result.history =
    place_fits c.index-journals-i.result.history (get_or (rows_of c.args.marks.now) c.loop-i.i []) c.in-Some.place (first-in c) in
    omega (arith, all, within)

pub overflow_add-result : goal.overflow_add-result
overflow_add-result c = omega (arith, fits-in c, c.requires.fits)

pub overflow_add-result-in-Some : goal.overflow_add-result-in-Some
overflow_add-result-in-Some c = omega (arith, fits-in c, c.requires.fits)

pub returns-in-Some-clause-some : goal.returns-in-Some-clause-some
returns-in-Some-clause-some c =
    let d = (goal.at.returns-in-Some-clause-some c).After-deref-in-loop-i in
    first_open (tracks_of c.args.journals.now) (rows_of c.args.marks.now) c.loop-i.i c.loop-i.before c.in-Some.place (track_of c.index-journals-i.result) c.loop-i.invariant (here d) (first-in c)

pub overflow_add-before-in-loop-i : goal.overflow_add-before-in-loop-i
overflow_add-before-in-loop-i c =
    let d = (goal.at.loop-i-preserved c).After-deref-in-loop-i in
    let all : c.loop-i.before + (1 + length c.index-journals-i.result.history) ≤ lines_in (tracks_of c.args.journals.now) =
    lines_fit (tracks_of c.args.journals.now) (rows_of c.args.marks.now) c.loop-i.i c.loop-i.before (track_of c.index-journals-i.result) c.loop-i.invariant (here d) in
    omega (arith, all, c.count_of.ensures, c.requires.fits)

pub loop-i-preserved : goal.loop-i-preserved
loop-i-preserved c =
    let d = (goal.at.loop-i-preserved c).After-deref-in-loop-i in
    let ts = tracks_of c.args.journals.now in
    let none : NoneIn c.index-journals-i.result.history (get_or (rows_of c.args.marks.now) c.loop-i.i []) =
    subst (λ (h : List Placed). NoneIn h (get_or (rows_of c.args.marks.now) c.loop-i.i [])) (history d)
    (subst (λ (r : List Bool). NoneIn c.deref.result.now r) (row d) c.in_default.ensures.none) in
    subst (λ (k : ℕ). AreShut ts (rows_of c.args.marks.now) (c.loop-i.i + 1) (c.loop-i.before + (1 + k))) (sym c.count_of.ensures)
    (shut_next ts (rows_of c.args.marks.now) c.loop-i.i c.loop-i.before (track_of c.index-journals-i.result) c.loop-i.invariant (here d) none)

pub returns-clause-none : goal.returns-clause-none
returns-clause-none c =
    none_open (tracks_of c.args.journals.now) (rows_of c.args.marks.now) c.loop-i.i c.loop-i.before (omega (arith, c.loop-i-test.false, tracks_many c.args.journals.now)) c.loop-i.invariant
