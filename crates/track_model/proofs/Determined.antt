-- A request comes to one outcome.
use Rattle.std.proofs.{Common.{◌≡◌, ℕ, pos, ◌*◌, Bool, List, map, length, get_or, sym, ap, ◌∙◌, Option, arith}, lemmas.Grind.common_steps}
use Rattle.std.specs.Prelude.{max, nat_lt}
use Rattle.segment_model.specs.{Segments.Position, Laws.CentreIsUnique}
use Rattle.change_list.specs.{Certificate.OneCertificate, Cert.Cert, Changes.{IsChange, AreChanges}, declared.change.Change.Change}
use Rattle.series_noise.specs.Noise.{OneNoise}
use Rattle.history_model.specs.{declared.entries.Entry.Entry, declared.publication.Publication.Publication, Penalties.{penalty_of, length_of}}
use Rattle.history_model.specs.{Positions.positions, Publications.{last_publication, spoken_of}, Runs.{Series, is_known}}
use Rattle.request_model.specs.declared.requests.Request.{Request}
use Rattle.request_model.specs.declared.requests.Request.TheVariants as request
use Rattle.request_model.specs.declared.replies.Answer.TheVariants as answer
use Rattle.track_model.{specs.Outcomes.{Outcome, tells}, specs.Tracks.ComesTo, proofs.Orders.same-items, proofs.Reports.one-report}
use Rattle.track_model.specs.Forms as forms
use Rattle.track_model.specs.Publishing.{OfKnown, OfPublished, OfFactor, OfMany, publication, publish, redone_since, segmented, IsPublished, named, TellsChanges, TellsCertificate, is_factor, IsCalibrated}
use Rattle.report_model.specs.declared.pages.Pages.{Pages}

-- what comes to one outcome
abbrev IsOne : (Outcome → Type 0) → Type 0
IsOne Comes = (one other : Outcome) → Comes one → Comes other → one ≡ other

one-known : (Comes : Outcome → Type 0) → IsOne Comes → (b : Bool) → IsOne (OfKnown b Comes)
one-known Comes once b one other p q = grind (arith, common_steps)

one-published : (Comes : Publication → Outcome → Type 0) → ((p : Publication) → IsOne (Comes p)) → (o : Option Publication) → IsOne (OfPublished o Comes)
one-published Comes once o one other p q = grind (arith, common_steps)

one-factor : (Comes : Outcome → Type 0) → IsOne Comes → (b : Bool) → IsOne (OfFactor b Comes)
one-factor Comes once b one other p q = grind (arith, common_steps)

one-of-many : (Comes : Outcome → Type 0) → IsOne Comes → (b : Bool) (n : ℕ) → IsOne (OfMany b n Comes)
one-of-many Comes once b n one other p q = grind (arith, common_steps)

-- ---- changes

one-change : CentreIsUnique → (points : List Position) (larger : Bool) (low cut high : ℕ) (x y : Change) → IsChange points larger low cut high x → IsChange points larger low cut high y → x ≡ y
one-change unique points larger low cut high x y p q = grind (arith, common_steps)

one-list : CentreIsUnique → (points : List Position) (metric cuts : List ℕ) (xs ys : List Change) → AreChanges points metric cuts xs → AreChanges points metric cuts ys → xs ≡ ys
one-list unique points metric cuts xs ys p q = grind (arith, common_steps, same-items, length, one-change, get_or)

-- ---- the forms
module _ (unique : CentreIsUnique) (certificate : OneCertificate) (noise : OneNoise) (h : List Entry) where
  one-segment : (base : ℕ) (s : Series) → IsOne (IsPublished h base s)
  one-segment base s one other p q =
      let same = certificate (positions h s) (penalty_of s.metric h) (length_of s.metric h) p.0 q.0 p.1 q.1 in
      p.2 ∙ ap (λ (cert : Cert). publish h (publication s (length h) base cert) (segmented (length h) base (redone_since h base s) cert)) same ∙ sym q.2

  one-changes : (s : Series) (x : Publication) → IsOne (TellsChanges h s x)
  one-changes s x one other p q =
      let same = one-list unique (positions (spoken_of h x) s) s.metric x.cuts p.0 q.0 p.1 q.1 in
      p.2 ∙ ap (λ (items : List Change). tells (answer.Changes x.version s.metric (map (named h) items))) same ∙ sym q.2

  one-verified : (s : Series) (x : Publication) → IsOne (TellsCertificate h s x)
  one-verified s x one other p q =
      let same = certificate (positions (spoken_of h x) s) (penalty_of s.metric (spoken_of h x)) (length_of s.metric (spoken_of h x)) p.0 q.0 p.1 q.1 in
      p.2 ∙ ap (λ (cert : Cert). tells (answer.Verified x.version cert)) same ∙ sym q.2

  one-calibrated : (s : Series) (factor : ℕ) → IsOne (IsCalibrated h s factor)
  one-calibrated s factor one other p q =
      let same = noise (positions h s) p.0 q.0 p.1 q.1 in
      p.2 ∙ ap (λ (n : ℕ). forms.tune h s.metric (pos (factor * max 1 (n * n))) (length_of s.metric h)) same ∙ sym q.2

  pub one-outcome : (base : ℕ) (q : Request) → IsOne (ComesTo h base q)
  one-outcome base (request.Machine machine) one other p q = p ∙ sym q
  one-outcome base (request.Commit machine number name) one other p q = p ∙ sym q
  one-outcome base (request.Submit machine commit run samples ignored stated) one other p q = p ∙ sym q
  one-outcome base (request.Retract machine run) one other p q = p ∙ sym q
  one-outcome base (request.Tune machine metric penalty given) one other p q = p ∙ sym q
  one-outcome base (request.Calibrate machine test metric factor) one other p q =
      let s : Series = record { test = test; metric = metric } in
      let few : Bool = nat_lt (length (positions h s)) 3 in
      one-factor (OfKnown (is_known s h) (OfMany few (length (positions h s)) (IsCalibrated h s factor)))
      (one-known (OfMany few (length (positions h s)) (IsCalibrated h s factor))
      (one-of-many (IsCalibrated h s factor) (one-calibrated s factor) few (length (positions h s))) (is_known s h)) (is_factor factor) one other p q
  one-outcome base (request.Segment machine test metric) one other p q =
      let s : Series = record { test = test; metric = metric } in
      one-known (IsPublished h base s) (one-segment base s) (is_known s h) one other p q
  one-outcome base (request.Changes machine test metric) one other p q =
      let s : Series = record { test = test; metric = metric } in
      one-known (OfPublished (last_publication s h) (TellsChanges h s)) (one-published (TellsChanges h s) (one-changes s) (last_publication s h)) (is_known s h) one other p q
  one-outcome base (request.Verify machine test metric) one other p q =
      let s : Series = record { test = test; metric = metric } in
      one-known (OfPublished (last_publication s h) (TellsCertificate h s)) (one-published (TellsCertificate h s) (one-verified s) (last_publication s h)) (is_known s h) one other p q
  one-outcome base (request.Regress machine test metric change) one other p q = grind (arith, common_steps, h, one-known, one-published)
  one-outcome base (request.SetState machine number state) one other p q = p ∙ sym q
  one-outcome base (request.Bisect machine lo hi) one other p q = p ∙ sym q
  one-outcome base (request.Answer machine number commit status) one other p q = p ∙ sym q
  one-outcome base (request.Resume machine number) one other p q = p ∙ sym q
  one-outcome base (request.Job machine number) one other p q = p ∙ sym q
  one-outcome base (request.Runs machine) one other p q = p ∙ sym q
  one-outcome base (request.Report machine json) one other p q =
      p.2 ∙ ap (λ (pages : Pages). tells (answer.Report pages)) (one-report unique h machine json p.0 q.0 p.1 q.1) ∙ sym q.2
