use Rattle.std.proofs.lemmas.Grind.{common_steps}
use Rattle.std.{proofs.Common.{◌≡◌, ◌+◌, ◌-◌, ◌≤◌, ℕ, List, length, drop, Some, Ok, sym, ap, subst, ◌∙◌, arith}, specs.Prelude.slice_get}
use Rattle.request_reader.specs.Scripts.{IsScript, end}
use Rattle.play_audit.specs.{Known.tracks_of, Marks.{IsFirstOpen, NoneOpen, rows_of}, Heard.{HearsAll, IsRefusedBy, RefusesAt}}
use Rattle.play_audit.specs.declared.hearing.Told.TheVariants as told
use Rattle.play_audit.proofs.{Listed.{read_at, tracks_many}, Scripts.{left_some, script_short}, auditing.hear_all.Goals.{After-deref, In-Some}}
use Rattle.play_audit.proofs.Judging.{AreFirstHeard, next_heard, none_heard, none_shown, open_unasked, refused_next}
use Rattle.play_audit.proofs.auditing.hear_all.Goals as goal

pub loop-one-init : goal.loop-one-init
loop-one-init c = grind (arith, common_steps, none_heard)

pub overflow_add-script : goal.overflow_add-script
overflow_add-script c = omega (arith, c.loop-one.invariant.1, c.loop-one-test.true, c.requires.few)

here : (c : In-Some) → slice_get c.args.heard.now c.loop-one.one-index ≡ Some c.one-item.result
here c = read_at c.args.heard.now c.loop-one.one-index c.one-item.result c.loop-one-test.true c.one-item.is

left : (c : In-Some) → (slice_get c.args.asked.items c.loop-one.one-index ≡ Some c.in-Some.items) × (c.next.new.self.rest.items ≡ drop (c.loop-one.one-index + 1) c.args.asked.items)
left c = left_some c.args.asked.items c.loop-one.one-index c.in-Some.items c.next.new.self.rest.items (sym c.in-Some.ensures.items ∙ c.loop-one.invariant.2)

reads : (c : In-Some) → IsScript c.one-item.result.script c.in-Some.items.items end
reads c = c.requires.asked.each c.loop-one.one-index c.one-item.result c.in-Some.items (here c) (left c).0

count : (c : In-Some) → c.in-Some.items.len ≡ length c.in-Some.items.items
count c = c.in-Some.items.ok.0

pub hear-requires-clause-rows : goal.hear-requires-clause-rows
hear-requires-clause-rows c = let so = c.loop-one.invariant.0 in so.marks.rows_are

pub returns-in-Not : goal.returns-in-Not
returns-in-Not c =
    let d = (goal.at.returns-in-Not c).In-Some in
    let is : c.hear.result ≡ Ok (told.Not c.in-Not.request) = c.in_ok-hear.was ∙ ap Ok c.in-Not.is in
    let number : c.loop-one.script + 1 ≡ c.loop-one.one-index + 1 = ap (λ (k : ℕ). k + 1) c.loop-one.invariant.1 in
    let refuses = c.hear.ensures.refused c.in-Not.request is in
    let here-refuses : RefusesAt c.args.journals.now (c.loop-one.one-index + 1) c.in-Some.items.items c.one-item.result.transcript c.in-Not.request =
    subst (λ (t : List ℕ). RefusesAt c.args.journals.now (c.loop-one.one-index + 1) c.in-Some.items.items t c.in-Not.request) c.as_slice-transcript.ensures
    (subst (λ (k : ℕ). RefusesAt c.args.journals.now k c.in-Some.items.items c.as_slice-transcript.result.now c.in-Not.request) number refuses) in
    let by : IsRefusedBy c.args.journals.now c.args.heard.now (c.loop-one.one-index + 1) c.in-Not.request =
    refused_next c.reading_law.ensures.one c.args.journals.now c.args.heard.now c.loop-one.one-index c.loop-one.requests (rows_of c.loop-one.marks.items) c.one-item.result c.in-Some.items.items c.in-Not.request
    c.loop-one.invariant.0 (here d) (reads d) here-refuses in
    subst (λ (k : ℕ). IsRefusedBy c.args.journals.now c.args.heard.now k c.in-Not.request) (sym (c.from.ensures ∙ number)) by

pub loop-one-preserved : goal.loop-one-preserved
loop-one-preserved c =
    let d = (goal.at.loop-one-preserved c).In-Some in
    let is : c.hear.result ≡ Ok told.All = c.in_ok-hear.was ∙ ap Ok c.in-All.is in
    let all = c.hear.ensures.all is in
    let number : c.loop-one.script + 1 ≡ c.loop-one.one-index + 1 = ap (λ (k : ℕ). k + 1) c.loop-one.invariant.1 in
    let hears : HearsAll c.args.journals.now (c.loop-one.one-index + 1) c.in-Some.items.items c.one-item.result.transcript (rows_of c.loop-one.marks.items) (rows_of c.hear.new.marks.items) =
    subst (λ (t : List ℕ). HearsAll c.args.journals.now (c.loop-one.one-index + 1) c.in-Some.items.items t (rows_of c.loop-one.marks.items) (rows_of c.hear.new.marks.items)) c.as_slice-transcript.ensures
    (subst (λ (k : ℕ). HearsAll c.args.journals.now k c.in-Some.items.items c.as_slice-transcript.result.now (rows_of c.loop-one.marks.items) (rows_of c.hear.new.marks.items)) number all) in
    let size : c.len-count.result ≡ length c.in-Some.items.items = c.len-count.ensures ∙ count d in
    let short : length c.in-Some.items.items ≤ 1_073_741_825 = script_short c.one-item.result.script c.in-Some.items.items (reads d) in (
      subst (λ (k : ℕ). AreFirstHeard c.args.journals.now c.args.heard.now (c.loop-one.one-index + 1) (c.loop-one.requests + k) (rows_of c.hear.new.marks.items)) (sym size)
          (next_heard c.args.journals.now c.args.heard.now c.loop-one.one-index c.loop-one.requests (rows_of c.loop-one.marks.items) (rows_of c.hear.new.marks.items) c.one-item.result
          c.in-Some.items.items c.loop-one.invariant.0 (here d) (reads d) hears),
      number,
      (left d).1,
      omega (arith, short, size, c.loop-one.invariant.3),
    )

shape : (c : After-deref) → c.deref.result.now ≡ c.loop-one.marks.items
shape c = c.deref.ensures.value

pub returns-in-Some-first_unasked : goal.returns-in-Some-first_unasked
returns-in-Some-first_unasked c =
    let first : IsFirstOpen (tracks_of c.args.journals.now) (rows_of c.loop-one.marks.items) c.in-Some-first_unasked.line =
    subst (λ (m : List _). IsFirstOpen (tracks_of c.args.journals.now) (rows_of m) c.in-Some-first_unasked.line) (shape (goal.at.returns-in-Some-first_unasked c).After-deref) c.in-Some-first_unasked.ensures.some in
    open_unasked c.args.journals.now c.requires.sound c.args.heard.now c.loop-one.one-index c.loop-one.requests (rows_of c.loop-one.marks.items) c.in-Some-first_unasked.line
    (omega (arith, c.loop-one-test.false)) c.loop-one.invariant.0 first

pub returns : goal.returns
returns c =
    let none : NoneOpen (tracks_of c.args.journals.now) (rows_of c.loop-one.marks.items) =
    subst (λ (m : List _). NoneOpen (tracks_of c.args.journals.now) (rows_of m)) (shape (goal.at.returns c).After-deref) c.in-None.ensures.none in
    none_shown c.args.journals.now c.requires.sound c.args.heard.now c.loop-one.one-index c.loop-one.requests (rows_of c.loop-one.marks.items) (length c.args.journals.now) c.steps_in.result
    (omega (arith, c.loop-one-test.false)) c.loop-one.invariant.0 none (sym (tracks_many c.args.journals.now)) c.steps_in.ensures
