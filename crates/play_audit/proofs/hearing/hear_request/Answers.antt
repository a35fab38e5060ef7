use Rattle.std.proofs.lemmas.Grind.{common_steps}
use Rattle.std.{proofs.Common.{◌≡◌, ℕ, List, [], Ok, length, get_or, sym, ap, subst, ◌∙◌, arith}, specs.Prelude.slice_get, specs.Prelude.Some}
use Rattle.request_model.specs.declared.replies.Refusal.TheVariants as refusal
use Rattle.track_model.specs.{Outcomes.refuses, Replies.apart}
use Rattle.request_model.specs.Requests.{machine_of}
use Rattle.std.{specs.List.AllByRecursion, proofs.lemmas.Option.slice_get_within, specs.Prelude.{IfOk, IfSome, IfNone}, proofs.Common.{Bool, Vec, Global, set}}
use Rattle.history_model.specs.declared.entries.Placed.{Placed}
use Rattle.journal_reader.specs.Journals.{Journal, IsOther}
use Rattle.audit_model.specs.Verdicts.{track_of}
use Rattle.play_audit.{specs.Places.{IsPlace, IsSound}, proofs.Listed.{map_set, read_at, row_at, rows_many, same_at, track_at, tracks_many}}
use Rattle.play_fits.specs.Scripts.{Exchange}
use Rattle.play_audit.{specs.Known.AreKnown, specs.Heard.HearsItem, specs.Replies.{IsHeardNext, IsUnheard}, proofs.Named.{named_none, named_some}}
use Rattle.history_model.specs.declared.entries.Author.TheVariants as author
use Rattle.play_audit.{specs.Marks.rows_of, proofs.Apart.{alone_apart, made_some, unknown_apart}, proofs.hearing.hear_request.Goals.After-deref}
use Rattle.play_audit.proofs.hearing.hear_request.Goals as goal

pub returns-then-is_alone : goal.returns-then-is_alone
returns-then-is_alone c =
    let told = alone_apart c.args.journals.now c.args.script c.args.request.now (sym c.is_alone.ensures ∙ c.if-is_alone.true) in
    record {
      some = made_some c.args.journals.now c.args.script (Ok c.args.request.now) (apart (refuses refusal.OnlyAlone)) told c.args.transcript.now
          c.args.places.now.items (rows_of c.args.marks.now.items) c.apart.result c.apart.ensures c.requires.rows c.begins_with.result c.begins_with.ensures.some;
      none = grind (arith, common_steps);
    }

pub returns-in_default : goal.returns-in_default
returns-in_default c =
    let others = subst (λ (m : List ℕ). AllByRecursion (IsOther m) c.args.journals.now) c.machine.ensures c.in_default.ensures.none in
    let told = unknown_apart c.args.journals.now c.args.script c.args.request.now (sym c.is_alone.ensures ∙ c.if-is_alone.false) others in
    record {
      some = made_some c.args.journals.now c.args.script (Ok c.args.request.now) (apart (refuses refusal.UnknownMachine)) told c.args.transcript.now
          c.args.places.now.items (rows_of c.args.marks.now.items) c.apart-in_default.result c.apart-in_default.ensures c.requires.rows c.begins_with-in_default.result c.begins_with-in_default.ensures.some;
      none = grind (arith, common_steps);
    }

pub bounds-journals-i : goal.bounds-journals-i
bounds-journals-i c = let s = c.in-Some.ensures.some in slice_get_within c.args.journals.now c.in-Some.i s.0 s.1

pub index_mut-place-requires : goal.index_mut-place-requires
index_mut-place-requires c = grind (arith, common_steps, slice_get_within)

pub index_mut-row-requires : goal.index_mut-row-requires
index_mut-row-requires c = grind (arith, common_steps, slice_get_within, rows_many, tracks_many)

here : (c : After-deref) → slice_get c.args.journals.now c.in-Some.i ≡ Some c.index-journals-i.result
here c = grind (arith, common_steps, read_at, slice_get_within)

about : (c : After-deref) → c.index-journals-i.result.machine ≡ machine_of c.args.request.now
about c = grind (arith, common_steps, same_at, here)

history : (c : After-deref) → c.deref.result.now ≡ c.index-journals-i.result.history
history c = c.deref.ensures.value ∙ ap (λ (j : Journal). j.history) c.journal.view_is

way : (c : After-deref) → slice_get c.args.places.now.items c.in-Some.i ≡ Some c.index_mut-place.result.now
way c =
    let s = c.in-Some.ensures.some in
    let known = c.requires.known.1 in
    read_at c.args.places.now.items c.in-Some.i c.index_mut-place.result.now (omega (arith, slice_get_within c.args.journals.now c.in-Some.i s.0 s.1, known.many)) c.index_mut-place.ensures.value

row : (c : After-deref) → get_or (rows_of c.args.marks.now.items) c.in-Some.i [] ≡ c.index_mut-row.result.now.items
row c = grind (arith, common_steps, row_at, slice_get_within, rows_many, tracks_many)

pub hear-requires-clause-place : goal.hear-requires-clause-place
hear-requires-clause-place c =
    let known = c.requires.known.1 in
    let place = (known.each c.in-Some.i c.index-journals-i.result c.index_mut-place.result.now (here c) (way c)).place in
    subst (λ (h : List Placed). IsPlace (machine_of c.args.request.now) h c.index_mut-place.result.now) (sym (history c))
    (subst (λ (m : List ℕ). IsPlace m c.index-journals-i.result.history c.index_mut-place.result.now) (about c) place)

pub hear-requires-clause-shared : goal.hear-requires-clause-shared
hear-requires-clause-shared c = sym c.is_alone.ensures ∙ c.if-is_alone.false

pub hear-requires-clause-sound : goal.hear-requires-clause-sound
hear-requires-clause-sound c = subst IsSound (sym (history c)) (c.requires.sound.each c.in-Some.i c.index-journals-i.result (here c))

pub hear-requires-clause-marks : goal.hear-requires-clause-marks
hear-requires-clause-marks c = sym (ap length (row c)) ∙ c.requires.rows.each c.in-Some.i (track_of c.index-journals-i.result) (track_at c.args.journals.now c.in-Some.i c.index-journals-i.result (here c)) ∙ sym (ap length (history c))

pub returns : goal.returns
returns c =
    let d = (goal.at.returns c).After-deref in
    let js = c.args.journals.now in
    let i : ℕ = c.in-Some.i in
    let rows = rows_of c.args.marks.now.items in
    record {
      some = subst (λ (new : List (List Bool)). IfOk c.hear.result (λ o. IfSome o (λ len. (xs : List Exchange) → AreKnown js xs c.args.places.now.items
          → HearsItem js c.args.script xs (Ok c.args.request.now) c.args.transcript.now len (set c.args.places.now.items i c.hear.new.self) rows new)))
          (sym (map_set (λ (v : Vec Bool Global). v.items) c.args.marks.now.items i c.hear.new.marks))
          (named_some js c.requires.sound c.args.script c.args.request.now c.args.transcript.now i c.index-journals-i.result (here d) (about d) (sym c.is_alone.ensures ∙ c.if-is_alone.false)
          c.args.places.now.items c.index_mut-place.result.now c.hear.new.self rows c.index_mut-row.result.now.items c.hear.new.marks.items (way d) c.requires.rows (sym (row d)) c.hear.result
          (subst (λ (h : List Placed). IfOk c.hear.result (λ o. IfSome o (λ len. IsPlace (machine_of c.args.request.now) h c.hear.new.self))) (history d) c.hear.ensures.place)
          (subst (λ (h : List Placed). IfOk c.hear.result (λ o. IfSome o (λ len. IsHeardNext (author.Script c.args.script) h c.index_mut-place.result.now.known c.hear.new.self.known c.args.request.now c.args.transcript.now len
          c.index_mut-row.result.now.items c.hear.new.marks.items))) (history d) c.hear.ensures.some));
      none = named_none c.args.journals.now c.requires.sound c.args.script c.args.request.now c.args.transcript.now c.in-Some.i c.index-journals-i.result (here d) (about d) (sym c.is_alone.ensures ∙ c.if-is_alone.false)
          c.args.places.now.items c.index_mut-place.result.now (way d) c.hear.result
          (subst (λ (h : List Placed). IfOk c.hear.result (λ o. IfNone o (IsUnheard (author.Script c.args.script) h c.index_mut-place.result.now.known c.args.request.now c.args.transcript.now))) (history d) c.hear.ensures.none);
    }
