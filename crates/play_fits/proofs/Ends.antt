-- Private: no public contract cites this. What a shared run comes to at its end.
use Rattle.std.{proofs.Common.{◌≡◌, ◌≢◌, ◌+◌, ℕ, List, [], ◌∷◌, ◌++◌, sym, ap, subst, ◌∙◌, Some, append_assoc}, specs.Prelude.slice_get}
use Rattle.std.proofs.Math.Path.{fun_ext}
use Rattle.history_lock.specs.declared.view.Marked.{Marked}
use Rattle.history_model.specs.declared.entries.{Author.Author, Placed.Placed}
use Rattle.history_model.specs.declared.entries.Author.TheVariants as author
use Rattle.track_model.specs.Tracks.{Track}
use Rattle.play_fits.specs.{Journals.{machines_of, history_in, IsJournalOf, AreJournalsOf}, Workers.{Crew, MayAdd}}
use Rattle.play_fits.specs.{Whole.{Joined, AreAll, AreByCrew, FitsIn, journals_of, longer}, Fits.{Play, crew_of, kept_in, Fits}}
use Rattle.play_fits.{specs.Ends.{IsOfWorker, IsLate, IsEndOf, AreEndsOf, HasPlayed, Ends}, proofs.Lists.{all-places, all-append}}
use Rattle.play_fits.proofs.Whole.{seen-parts-fit, all-by-crew, parts-stay}

-- ---- journals

journal-of : (crew : Crew) (log : List ℕ → List (Marked Placed)) (kept more : List ℕ → List Placed) (parts : List Joined) → AreAll crew kept log parts
    → ((m : List ℕ) (place : ℕ) (p : Placed) → slice_get (more m) place ≡ Some p → IsLate crew p) → (before after : Track) → IsEndOf log kept more before after → IsJournalOf crew before after
journal-of crew log kept more parts all late before after end =
    let m : List ℕ = before.machine in
    let grown : AreByCrew crew (kept m) (journals_of log m) = all-by-crew crew kept log parts all m in
    record {
      machine = end.machine;
      kept = end.same;
      legal = end.legal;
      added = grown.added ++ more m;
      goes_on = end.ends ∙ ap (λ (l : List Placed). l ++ more m) (grown.goes_on ∙ ap (λ (l : List Placed). l ++ grown.added) end.begins) ∙ append_assoc before.history grown.added (more m);
      may_add = all-append (MayAdd crew) grown.added (more m) grown.may_add (all-places (MayAdd crew) (more m) (λ place p is. (late m place p is).may_add));
    }

journals-of : (crew : Crew) (log : List ℕ → List (Marked Placed)) (kept more : List ℕ → List Placed) (parts : List Joined) → AreAll crew kept log parts
    → ((m : List ℕ) (place : ℕ) (p : Placed) → slice_get (more m) place ≡ Some p → IsLate crew p) → (befores afters : List Track) → AreEndsOf log kept more befores afters → AreJournalsOf crew befores afters
journals-of crew log kept more parts all late [] [] ends = tt
journals-of crew log kept more parts all late [] (after ∷ afters) ends = absurd ends
journals-of crew log kept more parts all late (before ∷ befores) [] ends = absurd ends
journals-of crew log kept more parts all late (before ∷ befores) (after ∷ afters) ends =
    (journal-of crew log kept more parts all late before after ends.0, journals-of crew log kept more parts all late befores afters ends.1)

-- ---- scripts

not-kept : (a : Author) (i : ℕ) → a ≡ author.Script i → a ≢ author.Kept
not-kept a i is kept = cc

not-script : (a : Author) (i : ℕ) → IsOfWorker a → a ≢ author.Script i
not-script a i of is = subst IsOfWorker is of

pub ends-fit : (play : Play) (journals : List Track) → Ends play journals → Fits play journals
ends-fit play journals e = record {
  go_on = journals-of (crew_of play) e.log (history_in play.tracks) e.more e.parts e.all e.late play.tracks journals e.tracks;
  scripts = λ i s is.
      let p : HasPlayed play.tracks (machines_of journals) e.parts (i + 1) s = e.scripts i s is in
      let seen : FitsIn p.joined.author (machines_of journals) (journals_of e.log) (kept_in play.tracks) p.exchanges =
      seen-parts-fit (crew_of play) (machines_of journals) (history_in play.tracks) e.log e.parts p.joined p.before p.exchanges e.all p.one (not-kept p.joined.author (i + 1) p.author) p.counts p.part in
      let later : FitsIn p.joined.author (machines_of journals) (longer (journals_of e.log) e.more) (kept_in play.tracks) p.exchanges =
      parts-stay p.joined.author (machines_of journals) (journals_of e.log) e.more (kept_in play.tracks) p.exchanges
      (λ m place q at. λ same. not-script q.author (i + 1) (e.late m place q at).of_worker (same ∙ p.author)) seen in
      let here : FitsIn (author.Script (i + 1)) (machines_of journals) (history_in journals) (kept_in play.tracks) p.exchanges =
      subst (λ (a : Author). FitsIn a (machines_of journals) (history_in journals) (kept_in play.tracks) p.exchanges) p.author
      (subst (λ (j : List ℕ → List Placed). FitsIn p.joined.author (machines_of journals) j (kept_in play.tracks) p.exchanges) (sym (fun_ext e.whole)) later) in
      record { exchanges = p.exchanges; written = p.written; answered = here.answered; own = here.own };
  bisectors = e.bisectors;
}
