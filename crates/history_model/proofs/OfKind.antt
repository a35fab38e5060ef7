-- Entries by their kinds: most tell of commits, runs and settings, and others of publications, regressions or bisections.
use Rattle.std.{proofs.Common.{◌≡◌, ℕ, Bool, true, false, ◌&&◌, List, refl, ap, ◌∙◌, arith}, specs.Prelude.{None, bytes_eq}, proofs.lemmas.Grind.common_steps}
use Rattle.history_model.specs.declared.{entries.Entry.Entry, events.JobEvent.JobEvent, events.RegressionEvent.RegressionEvent}
use Rattle.history_model.specs.declared.entries.Entry.TheVariants as entry
use Rattle.history_model.specs.{declared.publication.Publication.Publication, Jobs.{begun, said}, Publications.{publication, publication_of, published}}
use Rattle.history_model.{specs.Regressions.{raised, moved}, specs.Runs.Series, proofs.Lists.same-bytes}

-- it publishes nothing, and tells of no regression and no bisection
pub record IsPlain (e : Entry) : Type 0 where
  pub publishes : (step : ℕ) → publication step e ≡ None
  pub publishes_of : (s : Series) (step : ℕ) → publication_of s step e ≡ None
  pub raises : (step : ℕ) → raised step e ≡ None
  pub moves : (number step : ℕ) → moved number step e ≡ None
  pub begins : (step : ℕ) → begun step e ≡ None
  pub says : (number step : ℕ) → said number step e ≡ None

pub by-kind : (P : Entry → Type 0) → ((e : Entry) → IsPlain e → P e) → ((p : Publication) → P (entry.Publish p)) → ((e : RegressionEvent) → P (entry.Regression e))
    → ((e : JobEvent) → P (entry.Job e)) → (e : Entry) → P e
by-kind P plain publish regression job (entry.Publish p) = publish p
by-kind P plain publish regression job (entry.Regression e) = regression e
by-kind P plain publish regression job (entry.Job e) = job e
by-kind P plain publish regression job (entry.Commit number name) = grind (arith, common_steps)
by-kind P plain publish regression job (entry.Accept run) = grind (arith, common_steps)
by-kind P plain publish regression job (entry.Retract run) = grind (arith, common_steps)
by-kind P plain publish regression job (entry.Tune metric penalty len) = grind (arith, common_steps)

-- a publication of the test and the metric of a series is one of the series
pub published-of : (s : Series) (p : Publication) → (bytes_eq p.test s.test && bytes_eq p.metric s.metric) ≡ true → published p ≡ s
published-of s p both =
    let halves = split (bytes_eq p.test s.test) (bytes_eq p.metric s.metric) both in
    ap (λ (t : List ℕ). let k : Series = record { test = t; metric = p.metric } in k) (same-bytes p.test s.test halves.0)
    ∙ ap (λ (m : List ℕ). let k : Series = record { test = s.test; metric = m } in k) (same-bytes p.metric s.metric halves.1)
  where
    split : (a b : Bool) → (a && b) ≡ true → (a ≡ true) × (b ≡ true)
    split true true both = (refl, refl)
    split true false both = absurd (cc)
    split false b both = absurd (cc)
