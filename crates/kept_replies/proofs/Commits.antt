-- A commit is declared on the kept history as on the history.
use Rattle.std.{proofs.Common.{◌≡◌, ℕ, inl, inr, List, [], ◌∷◌, map, Option, None, Some, refl, sym, ap, ◌∙◌}, specs.Prelude.{find, option_map, bytes_eq}}
use Rattle.std.proofs.lemmas.Bool.{cases_Bool}
use Rattle.metric_table.specs.declared.limits.Limit.TheVariants.{Commits, Steps}
use Rattle.history_model.specs.{declared.entries.Declaration.Declaration, declared.entries.Entry.Entry, Commits.{declarations, has_number, has_name}}
use Rattle.history_model.specs.declared.entries.Entry.TheVariants as entry
use Rattle.request_model.specs.declared.replies.Answer.{Answer}
use Rattle.request_model.specs.declared.replies.Answer.TheVariants as answer
use Rattle.track_model.specs.{Forms.{told_of, taken_by, commit}, Outcomes.first}
use Rattle.keep_rows.{specs.Kept.kept_entries, proofs.Choices.find_map}
use Rattle.kept_replies.{specs.Replies.{kept_step, kept_answer, kept_outcome, HasRoom}, proofs.Outcomes.{next, form_so, form_kept, IsKept}}
use Rattle.kept_replies.proofs.Steps.{declared_at, kept_declarations}

module _ (h : List Entry) (number : ℕ) (name : List ℕ) where
  -- the refusals by some commits
  abbrev row : List Declaration → List (Option Answer)
  row commits = option_map (told_of name) (find (has_number number) commits) ∷ option_map taken_by (find (has_name name) commits) ∷ []

  told_so : (x : Option Declaration)
      → option_map (kept_answer h) (option_map (told_of name) x) ≡ option_map (told_of name) (option_map (declared_at (kept_step h)) x)
  told_so None = refl
  told_so (Some d) = elim (cases_Bool (bytes_eq d.name name)) [ inl hit ↦ rw hit refl | inr past ↦ rw past refl ]

  taken_so : (x : Option Declaration) → option_map (kept_answer h) (option_map taken_by x) ≡ option_map taken_by (option_map (declared_at (kept_step h)) x)
  taken_so None = refl
  taken_so (Some d) = refl

  row_so : (ds : List Declaration) → map (option_map (kept_answer h)) (row ds) ≡ row (map (declared_at (kept_step h)) ds)
  row_so ds =
      let numbered : Declaration → Declaration = declared_at (kept_step h) in
      next (told_so (find (has_number number) ds) ∙ ap (option_map (told_of name)) (find_map numbered (has_number number) ds))
      (next (taken_so (find (has_name name) ds) ∙ ap (option_map taken_by) (find_map numbered (has_name name) ds)) refl)

  pub commit_so : HasRoom (commit h number name) → kept_outcome h (commit h number name) ≡ commit (kept_entries h) number name
  commit_so room =
      form_so h (Commits ∷ Steps ∷ []) (entry.Commit number name) (answer.Commit number name) (row (declarations h)) (row (declarations (kept_entries h)))
      (answer.Commit number name) tt refl (row_so (declarations h) ∙ ap row (sym (kept_declarations h))) refl room

  pub commit_kept : IsKept (commit h number name)
  commit_kept = form_kept h (Commits ∷ Steps ∷ []) (first (row (declarations h))) (entry.Commit number name) (answer.Commit number name) refl (λ g. refl)
