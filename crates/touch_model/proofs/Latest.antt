-- What isn't behind the last publication of a series isn't behind a later one.
use Rattle.std.proofs.Common.{◌≡◌, ℕ, ◌+◌, true, false, cond, ◌&&◌, List, [], ◌∷◌, ◌++◌, length, refl, ap, subst, ◌∙◌, inl, inr, Option, Some, None, arith}
use Rattle.std.{specs.Prelude.bytes_eq, proofs.lemmas.Bool.cases_Bool, proofs.lemmas.Bool.Decides.nat_tests}
use Rattle.history_model.specs.{declared.entries.Entry.Entry, declared.publication.Publication.Publication, Allowed.Allowed}
use Rattle.history_model.specs.declared.entries.Entry.TheVariants as entry
use Rattle.history_model.specs.{Laws.{PublicationIsLast, PublicationStays}, Publications.{IsUpTo, last_publication, publication_of}, Runs.Series}
use Rattle.history_model.proofs.OfKind.{by-kind, published-of}
use Rattle.touch_model.specs.Stale.{is_behind}

module _ (last : PublicationIsLast) (stays : PublicationStays) where
  above : (step : ℕ) (before : Option Publication) (p : Publication) → is_behind step before ≡ false → IsUpTo p.version before → is_behind step (Some p) ≡ false
  above step None p past up = absurd (let no : true ≡ false = past in cc)
  above step (Some q) p past up = grind (arith, nat_tests)

  skipped : (h : List Entry) (e : Entry) (s : Series) (step : ℕ) → publication_of s (length h + 1) e ≡ None → is_behind step (last_publication s h) ≡ false
      → is_behind step (last_publication s (h ++ e ∷ [])) ≡ false
  skipped h e s step none past = ap (is_behind step) (stays h e s none) ∙ past

  pub latest-stays : (h : List Entry) (e : Entry) (s : Series) (step : ℕ) → Allowed h e → is_behind step (last_publication s h) ≡ false
      → is_behind step (last_publication s (h ++ e ∷ [])) ≡ false
  latest-stays h e s step = by-kind (λ (e : Entry). Allowed h e → is_behind step (last_publication s h) ≡ false → is_behind step (last_publication s (h ++ e ∷ [])) ≡ false)
      (λ e plain allowed past. skipped h e s step (plain.publishes_of s (length h + 1)) past) of-publication
      (λ e allowed past. skipped h (entry.Regression e) s step refl past) (λ e allowed past. skipped h (entry.Job e) s step refl past) e
    where
      of-publication : (p : Publication) → Allowed h (entry.Publish p) → is_behind step (last_publication s h) ≡ false
          → is_behind step (last_publication s (h ++ entry.Publish p ∷ [])) ≡ false
      of-publication p allowed past = elim (cases_Bool (bytes_eq p.test s.test && bytes_eq p.metric s.metric)) [
        | inl hit ↦
            let up : IsUpTo p.version (last_publication s h) =
            subst (λ (t : Series). IsUpTo p.version (last_publication t h)) (published-of s p hit) allowed.0.1 in
            ap (is_behind step) (last h (entry.Publish p) s p (ap (λ b. cond b (Some p) None) hit))
            ∙ above step (last_publication s h) p past up
        | inr miss ↦ skipped h (entry.Publish p) s step (ap (λ b. cond b (Some p) None) miss) past
      ]
