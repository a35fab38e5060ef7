-- Private: no public contract cites this. What is shown where files fit together.
use Rattle.std.{proofs.Common.{◌≡◌, ℕ, List, [], ◌∷◌, ◌++◌, length, map, filter, true, false, refl, sym, ap, ◌∙◌, subst}, specs.List.AllByRecursion}
use Rattle.history_model.specs.declared.entries.{Author.Author, Entry.Entry, Placed.Placed}
use Rattle.history_model.specs.declared.entries.Author.TheVariants as author
use Rattle.track_model.specs.Tracks.{Track}
use Rattle.request_reader.specs.Scripts.{end}
use Rattle.journal_lines.specs.Authors.{Crew, MayAdd}
use Rattle.play_fits.specs.Journals.{AreJournalsOf}
use Rattle.journal_reader.specs.Journals.{Journal, IsJournal, WasKept, crew_with}
use Rattle.audit_model.specs.{Heard.{found, is_of_store}, Fitting.ShownFits, Verdicts.track_of}

-- whoever may add an entry is no store
no_store : (crew : Crew) (a : Author) (e : Entry) → MayAdd crew (record { author = a; entry = e }) → is_of_store (record { author = a; entry = e }) ≡ false
no_store crew author.Kept e may = absurd may
no_store crew (author.Script i) e may = refl
no_store crew (author.Recompute i) e may = refl
no_store crew (author.Bisect i) e may = refl

a_store : (a : Author) (e : Entry) → a ≡ author.Kept → is_of_store (record { author = a; entry = e }) ≡ true
a_store a e same = rw same refl

none_kept : (crew : Crew) (made : List Placed) → AllByRecursion (MayAdd crew) made → filter is_of_store made ≡ []
none_kept crew [] each = refl
none_kept crew (p ∷ made) each = rw (no_store crew p.author p.entry each.0) (none_kept crew made each.1)

first_kept : (crew : Crew) (kept made : List Placed) → AllByRecursion WasKept kept → AllByRecursion (MayAdd crew) made
    → filter is_of_store (kept ++ made) ≡ kept
first_kept crew [] made each others = none_kept crew made others
first_kept crew (p ∷ kept) made each others =
    rw (a_store p.author p.entry each.0.author) (ap (λ (l : List Placed). p ∷ l) (first_kept crew kept made each.1 others))

go_on : (scripts : ℕ) (js : List Journal) → AllByRecursion (IsJournal scripts) js
    → AreJournalsOf (crew_with scripts) (map found (map track_of js)) (map track_of js)
go_on scripts [] each = tt
go_on scripts (j ∷ js) each = (
  record {
    machine = refl;
    kept = refl;
    legal = each.0.legal;
    added = each.0.made;
    goes_on = each.0.parts ∙ ap (λ (l : List Placed). l ++ each.0.made)
        (sym (ap (filter is_of_store) each.0.parts ∙ first_kept (crew_with scripts) each.0.kept each.0.made each.0.of_store each.0.of_run));
    may_add = each.0.of_run;
  },
  go_on scripts js each.1,
)

pub shown_fits : ShownFits
shown_fits bytes heard journals are told = record {
  go_on = subst (λ (ts : List Track). AreJournalsOf (crew_with (length heard)) (map found ts) ts) (sym are.tracks)
      (go_on (length heard) are.read are.text.are.each);
  scripts = λ i x here.
      let is = told i x here in
      record {
        exchanges = is.exchanges;
        written = record { ending = end; script_is = is.told.script; transcript_is = is.told.replies };
        answered = is.told.given;
        own = is.asked;
      };
}
