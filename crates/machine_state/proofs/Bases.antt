-- What the next segmentation of a series begins with, by what is kept and by what is home.
use Rattle.std.proofs.Common.{◌≡◌, ℕ, ◌<◌, Bool, true, false, cond, List, take, sym, ap, ap₂, subst, ◌∙◌, Option, Some, None, inl, inr, arith}
use Rattle.std.{specs.Prelude.{is_some, nat_eq}, proofs.lemmas.Bool.cases_Bool, proofs.lemmas.Grind.common_steps}
use Rattle.std.specs.FinSet as set
use Rattle.segment_model.specs.{Segments.Position, Values.values_by_position}
use Rattle.pelt_core.specs.Seen.{table_of}
use Rattle.history_model.specs.{Allowed.Legal, Laws.LastStands, Positions.positions, declared.entries.Entry.Entry, declared.publication.Publication.Publication}
use Rattle.publication_index.specs.{Standing.{IsKeptTable, table_for}, Homes.homes, Kept.{home, kept, kept_at_home, series_of}}
use Rattle.machine_state.specs.{declared.base.Base.Base, Made.{Segmentations, publication_from, setting_in, IsMadeFrom}, State.{BeginsWith, IsKept}}
use Rattle.segment_cost.specs.declared.done.Done.{Done}
use Rattle.history_model.specs.{declared.setting.Setting.Setting, Entries.entries_of, Penalties.setting_of, Publications.last_publication, Runs.Series}
use Rattle.publication_index.proofs.Homes.{contains-homes}
use Rattle.track_model.{specs.Tracks.{Track, is_setting, base_of, version_at, with_home, with_taken}, proofs.Settings.setting-is}
use Rattle.machine_state.proofs.Published.{nothing, something, of-series}

same-either : (b : Bool) (n : ℕ) → cond b n n ≡ n
same-either b n = grind (arith, common_steps)

-- nothing is made from the first entries, none at all
pub some-version : (h : List Entry) (done : Done) → IsMadeFrom h done → 0 < done.version
some-version h done made = grind (arith, common_steps)

module _ (t : Track) (s : Series) (tests : Segmentations) (are : homes tests ≡ t.home) where
  there : set.contains t.home s ≡ is_some (home s tests)
  there = ap (λ (hs : _). set.contains hs s) (sym are) ∙ contains-homes tests s

  pub base-none : IsKept (entries_of t.history) (last_publication s (entries_of t.history)) (kept s tests) → kept_at_home s tests ≡ None → base_of t s ≡ 0
  base-none is none = elim (cases_Bool (is_some (home s tests))) [
    | inl hit ↦
        let kept-none : kept s tests ≡ None = ap (λ b. cond b (kept s tests) None) (sym hit) ∙ none in
        let last-none = nothing (entries_of t.history) (last_publication s (entries_of t.history)) (kept s tests) is kept-none in
        ap (λ (o : Option Publication). cond (set.contains t.home s) (version_at (entries_of t.history) o) 0) last-none ∙ same-either (set.contains t.home s) 0
    | inr miss ↦ ap (λ b. cond b (version_at (entries_of t.history) (last_publication s (entries_of t.history))) 0) (there ∙ miss)
  ]

  module _ (done : Done) (is : IsKept (entries_of t.history) (last_publication s (entries_of t.history)) (kept s tests)) (some : kept_at_home s tests ≡ Some done) where
    pub home-some : is_some (home s tests) ≡ true
    home-some = elim (cases_Bool (is_some (home s tests))) [
      | inl hit ↦ hit
      | inr miss ↦ absurd (let no : None ≡ Some done = sym (ap (λ b. cond b (kept s tests) None) miss) ∙ some in cc)
    ]

    pub kept-some : kept s tests ≡ Some done
    kept-some = ap (λ b. cond b (kept s tests) None) (sym home-some) ∙ some

    pub last-some : (last_publication s (entries_of t.history) ≡ Some (publication_from done)) × IsMadeFrom (entries_of t.history) done
    last-some =
        something (entries_of t.history) (last_publication s (entries_of t.history)) done
        (subst (λ (d : Option Done). IsKept (entries_of t.history) (last_publication s (entries_of t.history)) d) kept-some is)

    pub base-by : base_of t s ≡ cond (is_setting (setting_in done) (setting_of done.metric (entries_of t.history))) done.version 0
    base-by =
        ap₂ (λ b (o : Option Publication). cond b (version_at (entries_of t.history) o) 0) (there ∙ home-some) last-some.0
        ∙ ap (λ (x : Setting). cond (is_setting x (setting_of done.metric (entries_of t.history))) done.version 0) (sym last-some.1.setting)

    series-is : LastStands → Legal (entries_of t.history) → series_of done ≡ s
    series-is last legal = of-series last (entries_of t.history) s done legal last-some.0

    pub base-other : LastStands → Legal (entries_of t.history) → (z : Setting) → setting_of s.metric (entries_of t.history) ≡ z → is_setting (setting_in done) z ≡ false → base_of t s ≡ 0
    base-other last legal z is differs =
        let z_is = ap (λ (u : Series). setting_of u.metric (entries_of t.history)) (series-is last legal) ∙ is in
        base-by ∙ ap (λ (y : Setting). cond (is_setting (setting_in done) y) done.version 0) z_is ∙ ap (λ b. cond b done.version 0) differs

    pub begins : LastStands → Legal (entries_of t.history) → (z : Setting) → setting_of s.metric (entries_of t.history) ≡ z → is_setting (setting_in done) z ≡ true
        → (b : Base) → b.version ≡ done.version → b.points ≡ done.points → IsKeptTable b.table (kept s tests) → BeginsWith t s b
    begins last legal z is same b version points stands =
        let h : List Entry = entries_of t.history in
        let z_is = ap (λ (u : Series). setting_of u.metric h) (series-is last legal) ∙ is in
        let base-is : base_of t s ≡ done.version = base-by ∙ ap (λ (y : Setting). cond (is_setting (setting_in done) y) done.version 0) z_is ∙ ap (λ b. cond b done.version 0) same in
        let tabled : b.table ≡ table_for done = subst (λ (d : Option Done). IsKeptTable b.table d) kept-some stands in
        let setting : setting_in done ≡ setting_of s.metric h = setting-is (setting_in done) z same ∙ sym is in
        record {
          some = subst (λ (v : ℕ). 0 < v) (sym version) (some-version h done last-some.1);
          version = version ∙ sym base-is;
          points = points ∙ last-some.1.points ∙ ap (positions (take done.version h)) (series-is last legal) ∙ ap (λ (v : ℕ). positions (take v h) s) (sym version);
          table = tabled ∙ ap₂ (λ (ps : List Position) (x : Setting). table_of (values_by_position ps) x.penalty x.length) (sym points) setting;
        }

-- where there is no base, nothing is taken
pub taken-none : (t : Track) (s : Series) → base_of t s ≡ 0 → t ≡ with_taken s t
taken-none t s none = sym (ap (λ (n : ℕ). cond (nat_eq n 0) t (with_home (set.remove t.home s) t)) none)

pub taken-some : (t : Track) (s : Series) → 0 < base_of t s → with_home (set.remove t.home s) t ≡ with_taken s t
taken-some t s some = grind (arith, common_steps)
