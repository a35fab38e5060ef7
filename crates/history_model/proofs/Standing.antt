-- The publications of a legal history stand in it, since each version of it stays.
use Rattle.std.proofs.Common.{◌≡◌, ℕ, ◌+◌, ◌≤◌, true, ◌&&◌, cond, List, [], ◌∷◌, ◌++◌, length, All, refl, sym, ap, ◌∙◌, subst, arith, inl, inr}
use Rattle.std.{specs.Prelude.{Some, None, take, drop, bytes_eq, option_to_list}, specs.List.list_any, proofs.lemmas.Bool.cases_Bool}
use Rattle.std.proofs.lemmas.List.{append-nil, append_assoc, take-append-le, take-append-drop, Elements.{All-nil, All-push, All-weaker}}
use Rattle.std.proofs.lemmas.{List.Folds.list_any-append, Grind.common_steps}
use Rattle.history_model.specs.{declared.entries.Entry.Entry, declared.publication.Publication.Publication, Allowed.{Allowed, Legal}}
use Rattle.history_model.specs.declared.entries.Entry.TheVariants as entry
use Rattle.history_model.specs.Publications.{publication, publications, publication_of, published, last_publication, Stands}
use Rattle.history_model.{specs.Runs.{Series, acceptance, acceptances, is_known, is_of}, proofs.Chosen.{chosen-push, chosen-skip}, proofs.Growth.legal-each}
use Rattle.history_model.proofs.{OfKind.{by-kind, published-of}, Publishing.{published-last, published-stays}}

pub versions-stay : (h more : List Entry) (version : ℕ) → version ≤ length h → take version (h ++ more) ≡ take version h
versions-stay h more version le = take-append-le version h more le

-- ---- what is known stays known
known-push : (s : Series) (h : List Entry) (e : Entry) → is_known s h ≡ true → is_known s (h ++ e ∷ []) ≡ true
known-push s h e known = grind (arith, common_steps, list_any, is_of, option_to_list, acceptance, length, chosen-push, list_any-append, acceptances)

known-more : (s : Series) (h more : List Entry) → is_known s h ≡ true → is_known s (h ++ more) ≡ true
known-more s h [] known = ap (is_known s) (append-nil h) ∙ known
known-more s h (e ∷ more) known = ap (is_known s) (sym (append_assoc h (e ∷ []) more)) ∙ known-more s (h ++ e ∷ []) more (known-push s h e known)

pub known-stays : (h : List Entry) (s : Series) (version : ℕ) → is_known s (take version h) ≡ true → is_known s h ≡ true
known-stays h s version known = ap (is_known s) (sym (take-append-drop version h)) ∙ known-more s (take version h) (drop version h) known

-- ---- publications
stands-later : (h : List Entry) (e : Entry) (p : Publication) → Stands h p → Stands (h ++ e ∷ []) p
stands-later h e p stands = grind (arith, common_steps)

AllStand : List Entry → Type 0
AllStand h = All (Stands h) (publications h)

pub publications-stand : (h : List Entry) → Legal h → All (Stands h) (publications h)
unfolding AllStand
publications-stand h legal = legal-each AllStand (All-nil (Stands [])) grown h legal
  where
    weaker : (h : List Entry) (e : Entry) → AllStand h → All (Stands (h ++ e ∷ [])) (publications h)
    weaker h e all = All-weaker (Stands h) (Stands (h ++ e ∷ [])) (stands-later h e) (publications h) all

    skipped : (h : List Entry) (e : Entry) → publication (length h + 1) e ≡ None → AllStand h → AllStand (h ++ e ∷ [])
    skipped h e none all =
        let P : List Publication → Type 0 = λ ps. All (Stands (h ++ e ∷ [])) ps in
        subst P (sym (chosen-skip publication h e none)) (weaker h e all)

    published-too : (h : List Entry) (p : Publication) → Allowed h (entry.Publish p) → AllStand h → AllStand (h ++ entry.Publish p ∷ [])
    published-too h p allowed all =
        let e : Entry = entry.Publish p in
        let P : List Publication → Type 0 = λ ps. All (Stands (h ++ e ∷ [])) ps in
        subst P (sym (chosen-push publication h e)) (All-push (Stands (h ++ e ∷ [])) (publications h) p (weaker h e all) (stands-later h e p allowed.0.0))

    grown : (h : List Entry) (e : Entry) → Allowed h e → AllStand h → AllStand (h ++ e ∷ [])
    grown h = by-kind (λ (e : Entry). Allowed h e → AllStand h → AllStand (h ++ e ∷ [])) (λ e plain allowed all. skipped h e (plain.publishes (length h + 1)) all)
        (published-too h) (λ e allowed all. skipped h (entry.Regression e) refl all) (λ e allowed all. skipped h (entry.Job e) refl all)

-- ---- the last one of a series
module _ (s : Series) where
  LastOne : List Entry → Type 0
  LastOne h = (p : Publication) → last_publication s h ≡ Some p → (published p ≡ s) × Stands h p

  skips : (h : List Entry) (e : Entry) → publication_of s (length h + 1) e ≡ None → LastOne h → LastOne (h ++ e ∷ [])
  unfolding LastOne
  skips h e none last p is =
      let two = last p (sym (published-stays h e s none) ∙ is) in
      (two.0, stands-later h e p two.1)

  publishes : (h : List Entry) (q : Publication) → Stands h q → LastOne h → LastOne (h ++ entry.Publish q ∷ [])
  unfolding LastOne
  publishes h q stands last = elim (cases_Bool (bytes_eq q.test s.test && bytes_eq q.metric s.metric)) [
    | inl hit ↦ (λ p is.
        let e : Entry = entry.Publish q in
        let last_is : Some q ≡ Some p = sym (published-last h e s q (ap (λ b. cond b (Some q) None) hit)) ∙ is in
        let same : q ≡ p = cc in
        let P : Publication → Type 0 = λ p. (published p ≡ s) × Stands (h ++ e ∷ []) p in
        subst P same (published-of s q hit, stands-later h e q stands))
    | inr miss ↦ skips h (entry.Publish q) (ap (λ b. cond b (Some q) None) miss) last
  ]

  last-stands-of : (h : List Entry) → Legal h → LastOne h
  unfolding LastOne
  last-stands-of h legal = legal-each LastOne (λ p is. absurd (let no : None ≡ Some p = is in cc)) grown h legal
    where
      grown : (h : List Entry) (e : Entry) → Allowed h e → LastOne h → LastOne (h ++ e ∷ [])
      grown h = by-kind (λ (e : Entry). Allowed h e → LastOne h → LastOne (h ++ e ∷ [])) (λ e plain allowed last. skips h e (plain.publishes_of s (length h + 1)) last)
          (λ p allowed last. publishes h p allowed.0.0 last) (λ e allowed last. skips h (entry.Regression e) refl last) (λ e allowed last. skips h (entry.Job e) refl last)

pub last-stands : (h : List Entry) (s : Series) (p : Publication) → Legal h → last_publication s h ≡ Some p → (published p ≡ s) × Stands h p
unfolding LastOne
last-stands h s p legal is = last-stands-of s h legal p is
