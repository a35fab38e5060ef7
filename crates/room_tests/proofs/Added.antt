-- A publication adds to a history, or leaves it as it was; and a snapshot that was taken before was taken before then, too.
use Rattle.std.{proofs.Common.{◌≡◌, ℕ, List, [], ◌∷◌, ◌++◌, sym, ap, subst, ◌∙◌, append_assoc, Option, Some, None}, specs.Prelude.IfSome}
use Rattle.std.proofs.lemmas.List.{append-nil}
use Rattle.metric_table.specs.declared.limits.Limit.{Limit}
use Rattle.segment_cost.specs.declared.done.Done.{Done}
use Rattle.history_model.specs.{declared.entries.Author.Author, declared.entries.Entry.Entry, Allowed.Legal, Entries.entries_of}
use Rattle.history_model.{specs.Laws.{LastStands, VersionsStay}, specs.Publications.last_publication, specs.Runs.Series, proofs.Chosen.entries-push}
use Rattle.publication_index.specs.Kept.{series_of}
use Rattle.track_model.specs.Tracks.{Track, with_taken}
use Rattle.track_series.specs.{Publications.{IsAdded, IsPublished, IsTaken, later, passed}, Snapshots.{IsRedone, IsSnapshot, IsTakenAt}}
use Rattle.track_series.specs.declared.{publishing.Published.Published, redone.Redone.Redone, snapshot.Snapshot.Snapshot}
use Rattle.track_series.proofs.Segmenting.{made-from, taken-history}
use Rattle.machine_state.{specs.Made.{IsMadeFrom, entry_of}, proofs.Publishing.made-later}
use Rattle.room_tests.specs.Growth.{Grows, IsTakenBefore}

-- ---- what a publication makes of a history
none : (old new : Track) → entries_of new.history ≡ entries_of old.history → Grows old new
none old new is = ([], is ∙ sym (append-nil (entries_of old.history)))

pub same : (old new : Track) → new ≡ old → Grows old new
same old new is = none old new (ap (λ (t : Track). entries_of t.history) is)

added : (l : Option Limit) (old : Track) (author : Author) (done : Done) (told : Published) (new : Track) → IsAdded l old author done told new → Grows old new
added None old author done told new is =
    (entry_of done ∷ [], ap (λ (t : Track). entries_of t.history) is.1 ∙ entries-push old.history (record { author = author; entry = entry_of done }))
added (Some limit) old author done told new is = same old new is.1

taken : (o : Option ℕ) (old : Track) (author : Author) (done : Done) (told : Published) (new : Track) → IsTaken o old author done told new → Grows old new
taken None old author done told new is = added (passed (entries_of old.history) done) old author done told new is
taken (Some version) old author done told new is = same old new is.1

pub published-grows : (old : Track) (author : Author) (done : Done) (told : Published) (new : Track) → IsPublished old author done told new → Grows old new
published-grows old author done told new is = taken (later done.version (last_publication (series_of done) (entries_of old.history))) old author done told new is

-- ---- what becomes of snapshots
pub grows : (t old new : Track) → Grows t old → Grows old new → Grows t new
grows t old new a b =
    let e : entries_of new.history ≡ (entries_of t.history ++ a.0) ++ b.0 = b.1 ∙ ap (λ (h : List Entry). h ++ b.0) a.1 in
    (a.0 ++ b.0, e ∙ append_assoc (entries_of t.history) a.0 b.0)

pub taken-later : (old new : Track) (x : Snapshot) → Grows old new → IsTakenBefore old x → IsTakenBefore new x
taken-later old new x more before =
    record { at = before.at; series = before.series; taken = before.taken; legal = before.legal; grown = grows before.at old new before.grown more }

pub taken-grows : (t : Track) (s : Series) (new : Track) → new ≡ with_taken s t → Grows t new
taken-grows t s new is = none t new (ap (λ (u : Track). entries_of u.history) is ∙ ap entries_of (taken-history t s))

pub taken-now : (t : Track) (s : Series) (new : Track) (x : Snapshot) → Legal (entries_of t.history) → IsTakenAt t s x → new ≡ with_taken s t → IsTakenBefore new x
taken-now t s new x legal is after = record { at = t; series = s; taken = is; legal = legal; grown = taken-grows t s new after }

-- what is made of one was made from what its history grew to
pub made-before : LastStands → VersionsStay → (new : Track) (x : Snapshot) (made : Redone) → IsTakenBefore new x → IsRedone x made → IsMadeFrom (entries_of new.history) made.done
made-before last stay new x made before is =
    let then : List Entry = entries_of before.at.history in
    subst (λ (h : List Entry). IsMadeFrom h made.done) (sym before.grown.1)
    (made-later stay then before.grown.0 made.done (made-from before.at before.series x made before.taken is last before.legal))

pub found-later : (old new : Track) (o : Option Snapshot) → Grows old new → IfSome o (IsTakenBefore old) → IfSome o (IsTakenBefore new)
found-later old new None more before = tt
found-later old new (Some x) more before = taken-later old new x more before

pub taken-found : (t : Track) (s : Series) (new : Track) (o : Option Snapshot) → Legal (entries_of t.history) → IsSnapshot t s o → new ≡ with_taken s t → IfSome o (IsTakenBefore new)
taken-found t s new None legal is after = tt
taken-found t s new (Some x) legal is after = taken-now t s new x legal is after
