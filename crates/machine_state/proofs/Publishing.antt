-- The settings and the publications of a state after an entry.
use Rattle.std.proofs.Common.{◌≡◌, ℕ, ◌+◌, cond, List, [], ◌∷◌, ◌++◌, take, refl, sym, ap, subst, ◌∙◌, Option, Some, None, inl, inr, arith}
use Rattle.std.proofs.lemmas.{Bool.cases_Bool, Grind.common_steps}
use Rattle.history_model.specs.{declared.entries.Entry.Entry, declared.publication.Publication.Publication, Allowed.MayFollow, Runs.{Series, same_series}}
use Rattle.history_model.specs.Laws.{PublicationIsLast, PublicationStays, CutsGrow, VersionsStay}
use Rattle.history_model.specs.{Penalties.{setting_of, penalty_of, length_of, IsSetting, SettingIsSet, SettingStays}, Positions.positions}
use Rattle.segment_cost.specs.{Certificate.StandsFor, declared.done.Done.Done}
use Rattle.history_model.specs.Publications.{last_publication, cut_count, cuts_in, IsUpTo, MayPublish}
use Rattle.machine_state.specs.{Made.entry_of, Indexes.given_after, Made.{Segmentations, publication_from, IsMadeFrom, IsPlain}, State.IsKept}
use Rattle.publication_index.specs.Kept.{kept, series_of}

-- ---- settings
pub setting-after : SettingIsSet → SettingStays → (h : List Entry) (e : Entry) (metric : List ℕ) → setting_of metric (h ++ e ∷ []) ≡ given_after e metric (setting_of metric h)
setting-after set stay h e metric = grind (arith, common_steps)

pub fits-after : (h : List Entry) (e : Entry) (metric : List ℕ) → MayFollow h e → IsSetting (setting_of metric h) → IsSetting (given_after e metric (setting_of metric h))
fits-after h e metric may fits = grind (arith, common_steps)

-- ---- what was made from a history was made from what it grows to
pub made-later : VersionsStay → (h more : List Entry) (done : Done) → IsMadeFrom h done → IsMadeFrom (h ++ more) done
made-later stay h more done made = grind (arith, common_steps)

kept-later : VersionsStay → (h : List Entry) (e : Entry) (o : Option Publication) (d : Option Done) → IsKept h o d → IsKept (h ++ e ∷ []) o d
kept-later stay h e o d is = grind (arith, common_steps)

-- ---- after an entry that publishes nothing

plain-cuts : (e : Entry) → IsPlain e → cuts_in e ≡ 0
plain-cuts e plain = grind (arith, common_steps)

pub plain-kept : PublicationStays → VersionsStay → (h : List Entry) (e : Entry) (published : Segmentations) → IsPlain e → ((s : Series) → IsKept h (last_publication s h) (kept s published))
    → (s : Series) → IsKept (h ++ e ∷ []) (last_publication s (h ++ e ∷ [])) (kept s published)
plain-kept stays stay h e published plain are s = grind (arith, common_steps)

pub plain-counted : CutsGrow → (h : List Entry) (e : Entry) (cuts : ℕ) → IsPlain e → cuts ≡ cut_count h → cuts ≡ cut_count (h ++ e ∷ [])
plain-counted grow h e cuts plain are = let more = grow h e in let none = plain-cuts e plain in omega (arith, are, more, none)

-- ---- after a publication
pub just-kept : PublicationIsLast → PublicationStays → VersionsStay → (h : List Entry) (done : Done) (published published' : Segmentations) → IsMadeFrom h done
    → ((s : Series) → IsKept h (last_publication s h) (kept s published))
    → ((s : Series) → kept s published' ≡ cond (same_series (series_of done) s) (Some done) (kept s published))
    → (s : Series) → IsKept (h ++ entry_of done ∷ []) (last_publication s (h ++ entry_of done ∷ [])) (kept s published')
just-kept last stays stay h done published published' made are written s =
    let e : Entry = entry_of done in
    let P : Option Publication → Option Done → Type 0 = λ o d. IsKept (h ++ e ∷ []) o d in
    elim (cases_Bool (same_series (series_of done) s)) [
      | inl hit ↦
          let last_is : last_publication s (h ++ e ∷ []) ≡ Some (publication_from done) = last h e s (publication_from done) (ap (λ b. cond b (Some (publication_from done)) None) hit) in
          let kept_is : kept s published' ≡ Some done = written s ∙ ap (λ b. cond b (Some done) (kept s published)) hit in
          subst (λ (o : Option Publication). P o (kept s published')) (sym last_is)
          (subst (λ (d : Option Done). P (Some (publication_from done)) d) (sym kept_is) (refl, made-later stay h (e ∷ []) done made))
      | inr miss ↦
          let last_is : last_publication s (h ++ e ∷ []) ≡ last_publication s h = stays h e s (ap (λ b. cond b (Some (publication_from done)) None) miss) in
          let kept_is : kept s published' ≡ kept s published = written s ∙ ap (λ b. cond b (Some done) (kept s published)) miss in
          subst (λ (o : Option Publication). P o (kept s published')) (sym last_is)
          (subst (λ (d : Option Done). P (last_publication s h) d) (sym kept_is) (kept-later stay h e (last_publication s h) (kept s published) (are s)))
    ]

-- what was made from a history stands there, and may follow it where no later version was published
pub made-stands : (h : List Entry) (done : Done) → IsMadeFrom h done
    → StandsFor (positions (take done.version h) (series_of done)) (penalty_of done.metric (take done.version h)) (length_of done.metric (take done.version h)) done.cert
made-stands h done made = grind (arith, common_steps)

pub may-publish : (h : List Entry) (done : Done) → IsMadeFrom h done → IsUpTo done.version (last_publication (series_of done) h) → MayPublish h (publication_from done)
may-publish h done made latest = grind (arith, common_steps)
