-- The segmentation that is made for the publication that comes next.
use Rattle.std.proofs.{Common.{◌≡◌, ℕ, ℤ, ◌-◌, ◌≤◌, true, List, length, take, sym, ap, ap₂, ◌∙◌, subst, FitsSigned, arith}, lemmas.Grind.common_steps}
use Rattle.std.specs.Int.{w128}
use Rattle.segment_model.specs.{Segments.Position, Cuts.{Agree, total}, Laws.{AgreeingCostsHaveOneBest, BestIsUnique, CostIsUnique}}
use Rattle.segment_cost.specs.{Certificate.StandsFor, declared.done.Done.Done}
use Rattle.history_model.specs.declared.{entries.Entry.Entry, publication.Publication.Publication, setting.Setting.Setting}
use Rattle.history_model.specs.{Penalties.{penalty_of, length_of, IsSetting}, Positions.positions}
use Rattle.history_model.specs.{Publications.{AreBest, IsBaseAt, Stands, published}, Runs.Series}
use Rattle.publication_index.specs.Kept.{series_of}
use Rattle.track_model.specs.Tracks.{is_setting}
use Rattle.track_step.specs.Redone.{Redone}
use Rattle.machine_state.specs.Made.{publication_from, setting_in}
use Rattle.journal_walk.specs.{Made.{IsMadeFor, IsSegmented}, Versions.IsOf, declared.version.Version.Version}

-- a setting's penalty fits 128 bits
pub fits : (x : Setting) → IsSetting x → FitsSigned w128 x.penalty
fits x is = grind (arith, common_steps)

-- settings that are one are said to be
pub one-setting : (a b : Setting) → a ≡ b → is_setting a b ≡ true
one-setting a b same = grind (arith, common_steps)

-- what a publication says is its segmentation
said : (p : Publication) (done : Done) → done.test ≡ p.test → done.metric ≡ p.metric → done.version ≡ p.version → done.base ≡ p.base
    → done.cert.total ≡ p.total → done.cert.cuts ≡ p.cuts → publication_from done ≡ p
said p done t m v b s c = grind (arith, common_steps)

module _ (h : List Entry) (p : Publication) (then : Version) (old : List Position) (made : Redone) (past : p.version ≤ length h)
    (of : IsOf (take p.version h) (published p) then) (is : IsSegmented p then old made) where
  series : series_of made.done ≡ published p
  series = ap₂ (λ (t m : List ℕ). let s : Series = record { test = t; metric = m } in s) is.test is.metric

  version-is : take made.done.version h ≡ take p.version h
  version-is = ap (λ (n : ℕ). take n h) is.version

  setting-is : setting_in made.done ≡ then.setting
  setting-is = ap₂ (λ (z : ℤ) (len : ℕ). let x : Setting = record { penalty = z; length = len } in x) is.stands.same_penalty is.stands.same_length

  -- where it is said, and its base is one
  pub made-for : IsBaseAt (take p.version h) p → old ≡ positions (take p.base (take p.version h)) (published p) → made.done.cert.total ≡ p.total
      → made.done.cert.cuts ≡ p.cuts → IsMadeFor h p made
  made-for based base total-is cuts-are = grind (arith, common_steps)

  -- where it stands behind the history it is said
  pub is-said : CostIsUnique → BestIsUnique → AgreeingCostsHaveOneBest → Stands h p → (made.done.cert.total ≡ p.total) × (made.done.cert.cuts ≡ p.cuts)
  is-said unique one agreeing stands =
      let mine : StandsFor (positions (take p.version h) (published p)) (penalty_of p.metric (take p.version h)) (length_of p.metric (take p.version h)) made.done.cert =
      subst (λ (ps : List Position). StandsFor ps (penalty_of p.metric (take p.version h)) (length_of p.metric (take p.version h)) made.done.cert) of.points
      (subst (λ (x : Setting). StandsFor then.points x.penalty x.length made.done.cert) of.setting is.stands) in
      let its : AreBest (positions (take p.version h) (published p)) (penalty_of p.metric (take p.version h)) (length_of p.metric (take p.version h)) p.cuts p.total = stands.best in
      let n : ℕ = length (positions (take p.version h) (published p)) in
      let z : ℤ = penalty_of p.metric (take p.version h) in
      let len : ℕ = length_of p.metric (take p.version h) in
      let agree : Agree its.cost mine.cost n =
      λ s t le fits. unique (positions (take p.version h) (published p)) mine.cost its.cost mine.is_cost its.is_cost s t le fits in
      let other = agreeing its.cost mine.cost z len n p.cuts agree its.best in
      let cuts : made.done.cert.cuts ≡ p.cuts = one mine.cost z len n made.done.cert.cuts p.cuts mine.best other.0 in
      (mine.totalled ∙ ap (total mine.cost z n) cuts ∙ other.1 ∙ sym its.totalled, cuts)
