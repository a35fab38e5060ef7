use Rattle.std.proofs.Common.{◌≡◌, ℕ, zero, suc, [], ◌∷◌, refl, ◌+◌, ◌-◌, ◌<◌, ◌≤◌, List, length, ap, ◌∙◌, Option, Some, None, arith}
use Rattle.std.specs.{Prelude.{OnErr, OnOk, Result, Ok, Err, option_copied, option_map, slice_get}, declared.alloc.AllocError.AllocError}
use Rattle.std.proofs.lemmas.{List.length-map, Option.slice_get-map, Grind.common_steps}
use Rattle.metric_table.specs.declared.limits.Limit.TheVariants as limit
use Rattle.history_model.specs.{declared.entries.Entry.Entry, declared.entries.Placed.Placed, Entries.entries_of}
use Rattle.track_state.{specs.Covering.IsTest, specs.Touching.touched_by, proofs.Covering.{covers-step, covers-part, claims-part}, proofs.Tests.is-test}
use Rattle.track_state.proofs.catching.note.Goals.{After-touch_entry}
use Rattle.track_state.proofs.catching.note.Goals as goal

entry-at : (history : List Placed) (k : ℕ) (p : Placed) → slice_get history k ≡ Some p → slice_get (entries_of history) k ≡ Some p.entry
entry-at history k p there = slice_get-map (λ (x : Placed). x.entry) history k ∙ ap (λ (o : Option Placed). option_map (λ (x : Placed). x.entry) o) there

pub overflow_add-place : goal.overflow_add-place
overflow_add-place c =
    let few : length (entries_of c.args.track.now.history) ≤ 1_048_576 = c.history_law.ensures.limits limit.Steps in
    record { fits = omega (arith, few, c.requires.there) }

pub overflow_add-place-2 : goal.overflow_add-place-2
overflow_add-place-2 c =
    let few : length (entries_of c.args.track.now.history) ≤ 1_048_576 = c.history_law.ensures.limits limit.Steps in
    record { fits = omega (arith, few, c.requires.there) }

pub unreachable-requires : goal.unreachable-requires
unreachable-requires c =
    let place : c.args.place + 1 - 1 ≡ c.args.place = omega arith in
    let none : slice_get c.args.track.now.history c.args.place ≡ None = grind (arith, common_steps) in
    let size : length (entries_of c.args.track.now.history) ≡ length c.args.track.now.history = length-map c.args.track.now.history (λ (p : Placed). p.entry) in
    none-past c.args.track.now.history c.args.place none (omega (arith, size, c.requires.there))
  where
    none-past : (history : List Placed) (k : ℕ) → slice_get history k ≡ None → k < length history → ⊥
    none-past [] k none lt = absurd (omega (arith, lt))
    none-past (p ∷ ps) zero none lt = absurd (cc)
    none-past (p ∷ ps) (suc k) none lt = none-past ps k none (omega (arith, lt))

found : (history : List Placed) (k step : ℕ) (p : Placed) (o : Option Placed) → k + 1 ≡ step → (0 < step → o ≡ slice_get history (step - 1)) → o ≡ Some p
    → slice_get (entries_of history) k ≡ Some p.entry
found history k step p o is there some = grind (arith, common_steps, entry-at, there)

-- an answer that all went well, or that it didn't
if-ok : (r : Result (Unit {0}) AllocError) {P Q : Type 0} → (P → Q) → OnOk r P → OnOk r Q
if-ok (Ok u) f p = f p
if-ok (Err e) f p = tt

if-err : (r : Result (Unit {0}) AllocError) {Q : Type 0} → Q → OnErr r Q
if-err (Ok u) q = tt
if-err (Err e) q = q

-- the entry at the place, and what it touches
module _ (c : After-touch_entry) where
  abbrev h : List Entry
  h = entries_of c.args.track.now.history

  abbrev e : Entry
  e = c.in-Some.placed.now.entry

  there : slice_get h c.args.place ≡ Some e
  there = found c.args.track.now.history c.args.place (c.args.place + 1) c.in-Some.placed.now (option_copied c.entry.result) refl c.entry.ensures.there (ap option_copied c.in-Some.is)

  test : IsTest h c.args.place e (touched_by h e)
  test = is-test c.touch_law.ensures.known c.publication_law.ensures.known c.touch_law.ensures.retracted h c.history_law.ensures.legal c.args.place e there

pub returns-clause-all : goal.returns-clause-all
returns-clause-all c =
    let at = (goal.at.returns-clause-all c).After-touch_entry in
    if-ok c.touch_entry.result
    (covers-step c.touch_law.ensures.last c.touch_law.ensures.past c.touch_law.ensures.known c.publication_law.ensures.known (h at) c.args.place (e at) (there at) (touched_by (h at) (e at)) (test at) c.args.touched.now c.touch_entry.new.touched c.requires.covers)
    c.touch_entry.ensures.all

pub returns-clause-part : goal.returns-clause-part
returns-clause-part c =
    let at = (goal.at.returns-clause-part c).After-touch_entry in
    if-err c.touch_entry.result
    (covers-part c.touch_law.ensures.last c.touch_law.ensures.past c.touch_law.ensures.known c.publication_law.ensures.known (h at) c.args.place (e at) (there at) (touched_by (h at) (e at)) (test at) c.args.touched.now c.touch_entry.new.touched c.requires.covers c.touch_entry.ensures.some)

pub returns-clause-claims : goal.returns-clause-claims
returns-clause-claims c = grind (arith, common_steps, goal.at.returns-clause-claims, claims-part, h, e, there, touched_by, test)
