-- Private: no public contract cites this. Entries that may come behind one another are kept ones, and then those of a run.
use Rattle.std.{proofs.Common.{◌≡◌, inl, inr, ℕ, List, [], ◌∷◌, ◌++◌, refl, ap}, specs.List.AllByRecursion}
use Rattle.history_model.specs.declared.entries.{Author.Author, Entry.Entry, Placed.Placed}
use Rattle.history_model.specs.declared.entries.Author.TheVariants as author
use Rattle.journal_lines.{specs.Authors.{Crew, MayAdd}, specs.Coming.{MayComeAfter, WasKept, crew_with}, proofs.OneMore.{all_more, all_fewer}}

not_kept : (crew : Crew) (a : Author) (e : Entry) → MayAdd crew (record { author = a; entry = e }) → a ≡ author.Kept → ⊥
not_kept crew author.Kept e may same = may
not_kept crew (author.Script i) e may same = cc
not_kept crew (author.Recompute i) e may same = cc
not_kept crew (author.Bisect i) e may same = cc

pub record KeptFirst (scripts : ℕ) (h : List Placed) : Type 0 where
  pub kept : List Placed
  pub made : List Placed
  pub parts : h ≡ kept ++ made
  pub of_store : AllByRecursion WasKept kept
  pub of_run : AllByRecursion (MayAdd (crew_with scripts)) made

-- behind one of the run none was kept
all_of_run : (scripts : ℕ) (before h : List Placed) → (AllByRecursion WasKept before → ⊥) → MayComeAfter scripts before h → AllByRecursion (MayAdd (crew_with scripts)) h
all_of_run scripts before [] made come = tt
all_of_run scripts before (p ∷ h) made (inl kept, more) = absurd (made kept.0)
all_of_run scripts before (p ∷ h) made (inr may, more) =
    (may, all_of_run scripts (before ++ p ∷ []) h (λ each. made (all_fewer WasKept before p each).0) more)

pub kept_first : (scripts : ℕ) (before h : List Placed) → AllByRecursion WasKept before → MayComeAfter scripts before h → KeptFirst scripts h
kept_first scripts before [] each come = record { kept = []; made = []; parts = refl; of_store = tt; of_run = tt }
kept_first scripts before (p ∷ h) each (inl kept, more) =
    let rest : KeptFirst scripts h = kept_first scripts (before ++ p ∷ []) h (all_more WasKept before p each kept.1) more in
    record {
      kept = p ∷ rest.kept;
      made = rest.made;
      parts = ap (λ (l : List Placed). p ∷ l) rest.parts;
      of_store = (kept.1, rest.of_store);
      of_run = rest.of_run;
    }
kept_first scripts before (p ∷ h) each (inr may, more) = record {
  kept = [];
  made = p ∷ h;
  parts = refl;
  of_store = tt;
  of_run = (
    may,
    all_of_run scripts (before ++ p ∷ []) h
        (λ all. not_kept (crew_with scripts) p.author p.entry may (all_fewer WasKept before p all).1.author) more,
  );
}
