-- What is chosen of a kept history: what is chosen of the history, with each step counted without publications.
use Rattle.std.proofs.Common.{◌≡◌, ℕ, ◌+◌, inl, inr, Bool, true, false, cond, List, [], ◌∷◌, ◌++◌, length, map, Option, None, refl, sym, ap, ap₂, ◌∙◌, append-nil, append_assoc}
use Rattle.std.{specs.Prelude.option_map, specs.List.cons_option, proofs.Math.Seq.take-append_seam, proofs.lemmas.Bool.cases_Bool}
use Rattle.std.proofs.lemmas.List.{length-append, Elements.filter-append}
use Rattle.history_model.specs.declared.entries.{Acceptance.Acceptance, Declaration.Declaration, Entry.Entry}
use Rattle.history_model.specs.declared.entries.Entry.TheVariants as entry
use Rattle.history_model.specs.{Commits.{declaration, declarations}, Entries.{chosen_from, chosen, entries_of}}
use Rattle.history_model.specs.Runs.{Retraction, acceptance, acceptances, retraction, retractions}
use Rattle.keep_rows.{specs.Kept.{is_kept, kept, kept_entries}, proofs.Choices.{map_cons, declared_none}, proofs.Unpublished.{accepted_none, taken_none}}
use Rattle.kept_replies.specs.Replies.{StoreKeepsEntries, kept_step}

-- a store keeps the kept entries
entries_kept : (es : List Entry) → entries_of (map kept es) ≡ es
entries_kept [] = refl
entries_kept (e ∷ es) = ap (λ (rest : List Entry). e ∷ rest) (entries_kept es)

pub store_keeps : StoreKeepsEntries
store_keeps t = entries_kept (kept_entries (entries_of t.history))

-- the steps up to the end of a first part
pub step_of : (g h : List Entry) → kept_step (g ++ h) (length g) ≡ length (kept_entries g)
step_of g h = ap (λ v. length (kept_entries v)) (take-append_seam g h)

-- an entry more is one step more where it is kept, and none where it isn't
with_kept : (g : List Entry) (e : Entry) → is_kept e ≡ true → length (kept_entries (g ++ e ∷ [])) ≡ length (kept_entries g) + 1
with_kept g e is =
    ap length (filter-append is_kept g (e ∷ []) ∙ ap (λ (b : Bool). kept_entries g ++ cond b (e ∷ []) []) is) ∙ length-append (kept_entries g) (e ∷ [])

with_left_out : (g : List Entry) (e : Entry) → is_kept e ≡ false → length (kept_entries (g ++ e ∷ [])) ≡ length (kept_entries g)
with_left_out g e is =
    ap length (filter-append is_kept g (e ∷ []) ∙ ap (λ (b : Bool). kept_entries g ++ cond b (e ∷ []) []) is ∙ append-nil (kept_entries g))

-- what is chosen with steps, with these renumbered
module _ {A : Type 0} (numbered : (ℕ → ℕ) → A → A) (choice : ℕ → Entry → Option A)
    (same : (f : ℕ → ℕ) (s : ℕ) (e : Entry) → choice (f s) e ≡ option_map (numbered f) (choice s e))
    (none : (s : ℕ) (e : Entry) → is_kept e ≡ false → choice s e ≡ None) where
  -- behind a first part of n entries, of which k are kept
  numbered_from : (h g rest : List Entry) (k n : ℕ) → h ≡ g ++ rest → k ≡ length (kept_entries g) → n ≡ length g
      → chosen_from (k + 1) choice (kept_entries rest) ≡ map (numbered (kept_step h)) (chosen_from (n + 1) choice rest)
  numbered_from h g [] k n whole kept all = refl
  numbered_from h g (e ∷ rest) k n whole kept all =
      let next : h ≡ (g ++ e ∷ []) ++ rest = whole ∙ sym (append_assoc g (e ∷ []) rest) in
      let more : n + 1 ≡ length (g ++ e ∷ []) = ap (λ (m : ℕ). m + 1) all ∙ sym (length-append g (e ∷ [])) in
      elim (cases_Bool (is_kept e)) [
        | inl hit ↦
            let one : k + 1 ≡ length (kept_entries (g ++ e ∷ [])) = ap (λ (m : ℕ). m + 1) kept ∙ sym (with_kept g e hit) in
            let here : k + 1 ≡ kept_step h (n + 1) = one ∙ sym (ap₂ kept_step next more ∙ step_of (g ++ e ∷ []) rest) in
            rw hit (
            ap₂ cons_option (ap (λ s. choice s e) here ∙ same (kept_step h) (n + 1) e) (numbered_from h (g ++ e ∷ []) rest (k + 1) (n + 1) next one more)
            ∙ sym (map_cons (numbered (kept_step h)) (choice (n + 1) e) (chosen_from (n + 1 + 1) choice rest))
            )
        | inr past ↦
            let same_count : k ≡ length (kept_entries (g ++ e ∷ [])) = kept ∙ sym (with_left_out g e past) in
            rw (past, none (n + 1) e past) (numbered_from h (g ++ e ∷ []) rest k (n + 1) next same_count more)
      ]

  chosen_numbered : (h : List Entry) → chosen choice (kept_entries h) ≡ map (numbered (kept_step h)) (chosen choice h)
  chosen_numbered h = numbered_from h [] h 0 0 refl refl refl

-- ---- commits, runs and retractions
abbrev pub declared_at : (ℕ → ℕ) → Declaration → Declaration
declared_at f d = record { step = f d.step; number = d.number; name = d.name }

abbrev pub accepted_at : (ℕ → ℕ) → Acceptance → Acceptance
accepted_at f a = record { step = f a.step; run = a.run }

abbrev pub retracted_at : (ℕ → ℕ) → Retraction → Retraction
retracted_at f r = record { step = f r.step; run = r.run }

declared_so : (f : ℕ → ℕ) (s : ℕ) (e : Entry) → declaration (f s) e ≡ option_map (declared_at f) (declaration s e)
declared_so f s (entry.Commit number name) = refl
declared_so f s e = refl

accepted_numbered : (f : ℕ → ℕ) (s : ℕ) (e : Entry) → acceptance (f s) e ≡ option_map (accepted_at f) (acceptance s e)
accepted_numbered f s (entry.Accept run) = refl
accepted_numbered f s e = refl

retracted_numbered : (f : ℕ → ℕ) (s : ℕ) (e : Entry) → retraction (f s) e ≡ option_map (retracted_at f) (retraction s e)
retracted_numbered f s (entry.Retract run) = refl
retracted_numbered f s e = refl

module _ (h : List Entry) where
  pub kept_declarations : declarations (kept_entries h) ≡ map (declared_at (kept_step h)) (declarations h)
  kept_declarations = chosen_numbered declared_at declaration declared_so declared_none h

  pub kept_acceptances : acceptances (kept_entries h) ≡ map (accepted_at (kept_step h)) (acceptances h)
  kept_acceptances = chosen_numbered accepted_at acceptance accepted_numbered accepted_none h

  pub kept_retractions : retractions (kept_entries h) ≡ map (retracted_at (kept_step h)) (retractions h)
  kept_retractions = chosen_numbered retracted_at retraction retracted_numbered taken_none h
