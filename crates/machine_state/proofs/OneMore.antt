-- The indexes after any entry that is allowed.
use Rattle.std.proofs.{Common.{◌≡◌, ℕ, ◌+◌, List, [], ◌∷◌, ◌++◌, length, refl, sym, ap, subst, ◌∙◌, Option, cond, arith}, lemmas.Grind.common_steps}
use Rattle.std.{specs.Prelude.{option_to_list, option_map, find, Some}, proofs.lemmas.List.{map-append, append-nil}}
use Rattle.history_model.specs.{declared.entries.Declaration.Declaration, declared.entries.Entry.Entry, Allowed.{Allowed, MayFollow, Legal}}
use Rattle.history_model.specs.{Commits.declaration, Runs.{Series, known_series, same_series}, Followed.{RegressionsGrow, StateStays, JobsStay}}
use Rattle.history_model.specs.Laws.{LegalGrows, PositionsAfterAccept, PositionsAfterRetract, PositionsUntouched, OnlyAcceptedAreRetracted}
use Rattle.history_model.{proofs.Chosen.{chosen-push, chosen-skip}, specs.Penalties.{IsSetting, SettingIsSet, SettingStays}}
use Rattle.sample_store.specs.declared.store.Stored.{Stored}
use Rattle.history_model.specs.{Publications.{last_publication, cut_count}, Laws.{PublicationIsLast, PublicationStays, VersionsStay, CutsGrow}}
use Rattle.segment_cost.specs.declared.done.Done.{Done}
use Rattle.publication_index.specs.{Given.given, Kept.kept, Kept.series_of}
use Rattle.machine_state.specs.{Indexes.{Kept, Settings, stored_runs, runs_after, seen_after, given_after}, Made.entry_of}
use Rattle.machine_state.specs.{Made.{Segmentations, IsMadeFrom}, declared.following.Following.Following, Following.AreFollowed}
use Rattle.machine_state.{proofs.Followed.quiet, specs.State.{IsTracked, IsKept, StandsFor}, proofs.Publishing.{setting-after, fits-after, just-kept}}
use Rattle.machine_state.proofs.{Series.{tracked-after, no-more}, Marks.all-marked}
use Rattle.series_index.specs.{Seen.seen, declared.tracked.Tracked.Tracked}

stored_runs-push : OnlyAcceptedAreRetracted → (h : List Entry) (e : Entry) → Legal h → MayFollow h e → stored_runs (h ++ e ∷ []) ≡ runs_after (length h + 1) e (stored_runs h)
stored_runs-push only h e legal may = grind (arith, common_steps, chosen-skip, chosen-push, all-marked, length, find, map-append, option_map)

module _ (grows : LegalGrows) (accept : PositionsAfterAccept) (retract : PositionsAfterRetract) (untouched : PositionsUntouched) (only : OnlyAcceptedAreRetracted) (set : SettingIsSet) (stay : SettingStays) where
  pub follows : (h : List Entry) (e : Entry) (commits : List Declaration) (runs : List Stored) (series series' : Kept) (known more : ℕ) (settings settings' : Settings) (published published' : Segmentations) (cuts cuts' : ℕ) (f f' : Following)
      → StandsFor h commits runs series known settings published cuts f → Allowed h e
      → length (known_series (h ++ e ∷ [])) ≡ length (known_series h) + more
      → ((s : Series) → seen s series' ≡ seen_after (length h + 1) e runs s (seen s series))
      → ((metric : List ℕ) → given metric settings' ≡ given_after e metric (given metric settings))
      → ((s : Series) → IsKept (h ++ e ∷ []) (last_publication s (h ++ e ∷ [])) (kept s published'))
      → cuts' ≡ cut_count (h ++ e ∷ []) → AreFollowed (h ++ e ∷ []) f'
      → StandsFor (h ++ e ∷ []) (commits ++ option_to_list (declaration (length h + 1) e)) (runs_after (length h + 1) e runs) series' (known + more) settings' published' cuts' f'
  follows h e commits runs series series' known more settings settings' published published' cuts cuts' f f' stands allowed grown followed given_are kept_are counted after = record {
    legal = grows h e stands.legal allowed;
    limits = allowed.1;
    commits_are = ap (λ ds. ds ++ option_to_list (declaration (length h + 1) e)) stands.commits_are ∙ sym (chosen-push declaration h e);
    runs_are = ap (runs_after (length h + 1) e) stands.runs_are ∙ sym (stored_runs-push only h e stands.legal allowed.0);
    series_are = grind (arith, common_steps, length, tracked-after, accept, retract, untouched, only);
    known_are = ap (λ n. n + more) stands.known_are ∙ sym grown;
    settings_are = λ metric. given_are metric ∙ ap (given_after e metric) (stands.settings_are metric) ∙ sym (setting-after set stay h e metric);
    settings_fit = λ metric. subst IsSetting (sym (setting-after set stay h e metric)) (fits-after h e metric allowed.0 (stands.settings_fit metric));
    published_are = kept_are;
    cuts_are = counted;
    followed_are = after;
  }

  -- the indexes after a publication
  pub publishes : PublicationIsLast → PublicationStays → VersionsStay → CutsGrow → RegressionsGrow → StateStays → JobsStay → (h : List Entry) (done : Done) (commits : List Declaration) (runs : List Stored) (series : Kept) (known : ℕ) (settings : Settings) (published published' : Segmentations) (cuts : ℕ) (f : Following)
      → StandsFor h commits runs series known settings published cuts f → Allowed h (entry_of done) → IsMadeFrom h done
      → ((s : Series) → kept s published' ≡ cond (same_series (series_of done) s) (Some done) (kept s published))
      → StandsFor (h ++ entry_of done ∷ []) commits runs series known settings published' (cuts + length done.cert.cuts) f
  publishes last publications_stay versions grow grown still stay h done commits runs series known settings published published' cuts f stands allowed made written =
      let e : Entry = entry_of done in
      let all = follows h e commits runs series series known 0 settings settings published published' cuts (cuts + length done.cert.cuts) f f stands allowed (no-more h e refl) (λ s. refl) (λ metric. refl)
      (just-kept last publications_stay versions h done published published' made stands.published_are written)
      (ap (λ n. n + length done.cert.cuts) stands.cuts_are ∙ sym (grow h e))
      (quiet grown still stay h e f f refl (λ n. refl) tt stands.followed_are refl) in
      let none : known + 0 ≡ known = omega arith in
      subst (λ (n : ℕ). StandsFor (h ++ e ∷ []) commits runs series n settings published' (cuts + length done.cert.cuts) f) none
      (subst (λ (ds : List Declaration). StandsFor (h ++ e ∷ []) ds runs series (known + 0) settings published' (cuts + length done.cert.cuts) f) (append-nil commits) all)

-- the indexes as they are, where what is seen of the series, the settings and the publications stays
pub stays : (h : List Entry) (commits : List Declaration) (runs : List Stored) (series series' : Kept) (known : ℕ) (settings settings' : Settings) (published published' : Segmentations) (cuts : ℕ) (f f' : Following)
    → StandsFor h commits runs series known settings published cuts f
    → ((s : Series) → seen s series' ≡ seen s series) → ((metric : List ℕ) → given metric settings' ≡ given metric settings)
    → ((s : Series) → kept s published' ≡ kept s published) → f' ≡ f → StandsFor h commits runs series' known settings' published' cuts f'
stays h commits runs series series' known settings settings' published published' cuts f f' stands same given_same kept_same same_followed = record {
  legal = stands.legal;
  limits = stands.limits;
  commits_are = stands.commits_are;
  runs_are = stands.runs_are;
  series_are = λ s. let P : Tracked → Type 0 = λ t. IsTracked h s t in subst P (sym (same s)) (stands.series_are s);
  known_are = stands.known_are;
  settings_are = λ metric. given_same metric ∙ stands.settings_are metric;
  settings_fit = stands.settings_fit;
  published_are = λ s. let P : Option Done → Type 0 = λ o. IsKept h (last_publication s h) o in subst P (sym (kept_same s)) (stands.published_are s);
  cuts_are = stands.cuts_are;
  followed_are = subst (λ (x : Following). AreFollowed h x) (sym same_followed) stands.followed_are;
}
