-- A metric is calibrated on the kept history as on the history, and a segmentation finds the same cuts.
use Rattle.std.proofs.Common.{◌≡◌, ℕ, ℤ, pos, ◌*◌, Bool, true, false, List, [], ◌∷◌, length, Option, None, Some, refl, sym, ap, subst, ◌∙◌}
use Rattle.std.specs.{Prelude.{max, nat_lt, unwrap_or}, List.last_or}
use Rattle.metric_table.specs.declared.limits.Limit.{Limit, TheVariants.{Cuts, Steps}}
use Rattle.segment_cost.specs.{Certificate.{StandsFor, OneCertificate}, declared.cert.Cert.Cert}
use Rattle.segment_model.specs.Values.{ValuesOfPoints, values_by_position}
use Rattle.series_noise.specs.Noise.{IsNoise}
use Rattle.history_model.specs.{declared.entries.Entry.Entry, Allowed.first_passed, Penalties.{default_setting, setting_of, penalty_of, length_of, set_for}}
use Rattle.history_model.specs.declared.entries.Entry.TheVariants as entry
use Rattle.history_model.specs.{declared.setting.Setting.Setting, Positions.positions, Runs.{Series, is_known}}
use Rattle.track_model.specs.{Forms.tune, Outcomes.{Outcome, added_unless}}
use Rattle.track_model.specs.Publishing.{OfKnown, publication, publish, redone_since, segmented, IsPublished, SegmentComesTo, is_factor, OfFactor, OfMany, IsCalibrated, CalibrateComesTo}
use Rattle.keep_rows.{specs.Kept.{is_kept, kept_entries}, proofs.Choices.same_plain, proofs.Unpublished.known_so}
use Rattle.kept_replies.{specs.Replies.{kept_outcome, HasRoom, is_refused, TellSameCuts, PublishSameCuts}, proofs.Outcomes.IsKept}
use Rattle.kept_replies.proofs.{Positions.{same_values, same_length}, Runs.{tune_so, tune_kept}, Values.{same_noise, same_stands}}

-- what holds of an outcome that has room holds of one that is the same
pub along : (P : Outcome → Type 0) (o x : Outcome) → o ≡ x → (HasRoom x → P x) → HasRoom o → P o
along P o x same holds = subst (λ (y : Outcome). HasRoom y → P y) (sym same) holds

-- ---- the setting of a metric
set_same : (metric : List ℕ) (s t : ℕ) (e : Entry) → set_for metric s e ≡ set_for metric t e
set_same metric s t e = refl

set_none : (metric : List ℕ) (s : ℕ) (e : Entry) → is_kept e ≡ false → set_for metric s e ≡ None
set_none metric s (entry.Publish p) past = refl
set_none metric s e past = absurd cc

pub setting_so : (metric : List ℕ) (h : List Entry) → setting_of metric (kept_entries h) ≡ setting_of metric h
setting_so metric h = ap (λ xs. unwrap_or (last_or None xs) (default_setting metric)) (same_plain (set_for metric) (set_same metric) (set_none metric) h)

module _ (by_values : ValuesOfPoints) (h : List Entry) (s : Series) where
  same_points : values_by_position (positions h s) ≡ values_by_position (positions (kept_entries h) s)
  same_points = sym (same_values h s)

  -- ---- calibrate

  -- what a history with so many positions comes to, where the factor is allowed and where the series is known
  abbrev IfMany : List Entry → ℕ → ℕ → Outcome → Type 0
  IfMany g factor n o = OfMany (nat_lt n 3) n (IsCalibrated g s factor) o

  abbrev IfKnown : List Entry → ℕ → Bool → Outcome → Type 0
  IfKnown g factor known o = OfKnown known (IfMany g factor (length (positions g s))) o

  of_many : (factor : ℕ) (few : Bool) (n : ℕ) (o : Outcome) → OfMany few n (IsCalibrated h s factor) o → HasRoom o
      → OfMany few n (IsCalibrated (kept_entries h) s factor) (kept_outcome h o) × IsKept o
  of_many factor true n o comes room = (ap (kept_outcome h) comes, subst IsKept (sym comes) tt)
  of_many factor false n o comes room =
      let noise : IsNoise (positions (kept_entries h) s) comes.0 =
      same_noise by_values (positions h s) (positions (kept_entries h) s) same_points comes.0 comes.1 in
      let penalty : ℤ = pos (factor * max 1 (comes.0 * comes.0)) in
      let len : ℕ = length_of s.metric h in
      let long : tune (kept_entries h) s.metric penalty len ≡ tune (kept_entries h) s.metric penalty (length_of s.metric (kept_entries h)) =
      ap (λ (x : Setting). tune (kept_entries h) s.metric penalty x.length) (sym (setting_so s.metric h)) in
      along (λ (x : Outcome). IsCalibrated (kept_entries h) s factor (kept_outcome h x) × IsKept x) o (tune h s.metric penalty len) comes.2
      (λ free. ((comes.0, noise, tune_so h s.metric penalty len free ∙ long), tune_kept h s.metric penalty len)) room

  of_known : (factor : ℕ) (known : Bool) (o : Outcome) → IfKnown h factor known o → HasRoom o
      → IfKnown (kept_entries h) factor known (kept_outcome h o) × IsKept o
  of_known factor false o comes room = (ap (kept_outcome h) comes, subst IsKept (sym comes) tt)
  of_known factor true o comes room =
      subst (λ (n : ℕ). IfMany (kept_entries h) factor n (kept_outcome h o) × IsKept o) (same_length (positions h s) (positions (kept_entries h) s) same_points)
      (of_many factor (nat_lt (length (positions h s)) 3) (length (positions h s)) o comes room)

  of_factor : (factor : ℕ) (allowed : Bool) (o : Outcome) → OfFactor allowed (IfKnown h factor (is_known s h)) o → HasRoom o
      → OfFactor allowed (IfKnown (kept_entries h) factor (is_known s (kept_entries h))) (kept_outcome h o) × IsKept o
  of_factor factor false o comes room = (ap (kept_outcome h) comes, subst IsKept (sym comes) tt)
  of_factor factor true o comes room =
      subst (λ (known : Bool). IfKnown (kept_entries h) factor known (kept_outcome h o) × IsKept o) (sym (known_so s h))
      (of_known factor (is_known s h) o comes room)

  pub calibrate_so : (factor : ℕ) (o : Outcome) → CalibrateComesTo h s factor o → HasRoom o
      → CalibrateComesTo (kept_entries h) s factor (kept_outcome h o) × IsKept o
  calibrate_so factor o comes room = of_factor factor (is_factor factor) o comes room

  -- ---- segment

  -- one that isn't refused is published
  found_in : (g : List Entry) (base : ℕ) (known : Bool) (o : Outcome) → OfKnown known (IsPublished g base s) o → is_refused o.answer ≡ false → IsPublished g base s o
  found_in g base false o comes told = absurd cc
  found_in g base true o comes told = comes

  -- the certificate is told, and published, at a version and from a base
  abbrev Finds : Cert → Outcome → Type 0
  Finds cert o =
      (version : ℕ) × (base : ℕ) × (redone : ℕ) × ((o.answer ≡ segmented version base redone cert) × (o.adds ≡ Some (entry.Publish (publication s version base cert))))

  abbrev published_unless : Option Limit → ℕ → ℕ → ℕ → Cert → Outcome
  published_unless passed version base redone cert = added_unless passed (entry.Publish (publication s version base cert)) (segmented version base redone cert)

  added : (passed : Option Limit) (version base redone : ℕ) (cert : Cert) → is_refused (published_unless passed version base redone cert).answer ≡ false
      → Finds cert (published_unless passed version base redone cert)
  added None version base redone cert told = (version, base, redone, (refl, refl))
  added (Some l) version base redone cert told = absurd cc

  finds : (g : List Entry) (base redone : ℕ) (o : Outcome) (cert : Cert) → o ≡ publish g (publication s (length g) base cert) (segmented (length g) base redone cert)
      → is_refused o.answer ≡ false → Finds cert o
  finds g base redone o cert same told =
      subst (λ (x : Outcome). is_refused x.answer ≡ false → Finds cert x) (sym same)
      (added (first_passed (Steps ∷ Cuts ∷ []) g (entry.Publish (publication s (length g) base cert))) (length g) base redone cert) told

  same_cuts : (one other : Outcome) (cert : Cert) → Finds cert one → Finds cert other
      → TellSameCuts one.answer other.answer × PublishSameCuts one.adds other.adds
  same_cuts one other cert first last =
      let told : TellSameCuts (segmented first.0 first.1 first.2 cert) (segmented last.0 last.1 last.2 cert) = (refl, refl, refl) in
      (rw (first.3.0, last.3.0) told, rw (first.3.1, last.3.1) (refl, refl))

  pub segment_so : OneCertificate → (base kept_base : ℕ) (o kept : Outcome) → SegmentComesTo h base s o → SegmentComesTo (kept_entries h) kept_base s kept
      → is_refused o.answer ≡ false → is_refused kept.answer ≡ false → TellSameCuts o.answer kept.answer × PublishSameCuts o.adds kept.adds
  segment_so unique base kept_base o kept comes kept_comes told kept_told =
      let k : List Entry = kept_entries h in
      let one : IsPublished h base s o = found_in h base (is_known s h) o comes told in
      let other : IsPublished k kept_base s kept = found_in k kept_base (is_known s k) kept kept_comes kept_told in
      let stands : StandsFor (positions k s) (penalty_of s.metric k) (length_of s.metric k) one.0 =
      subst (λ (x : Setting). StandsFor (positions k s) x.penalty x.length one.0) (sym (setting_so s.metric h))
      (same_stands by_values (positions h s) (positions k s) same_points (penalty_of s.metric h) (length_of s.metric h) one.0 one.1) in
      let same : other.0 ≡ one.0 = unique (positions k s) (penalty_of s.metric k) (length_of s.metric k) other.0 one.0 other.1 stands in
      let redone : ℕ = redone_since k kept_base s in
      let told_again : kept ≡ publish k (publication s (length k) kept_base one.0) (segmented (length k) kept_base redone one.0) =
      other.2 ∙ ap (λ (c : Cert). publish k (publication s (length k) kept_base c) (segmented (length k) kept_base redone c)) same in
      same_cuts o kept one.0 (finds h base (redone_since h base s) o one.0 one.2 told) (finds k kept_base redone kept one.0 told_again kept_told)
