-- Entries with the same parts are the same.
use Rattle.std.proofs.{Common.{◌≡◌, ℕ, ℤ, List, arith}, lemmas.Grind.common_steps}
use Rattle.sample_model.specs.Samples.{Measurement}
use Rattle.history_model.specs.declared.{entries.Entry.TheVariants.{Accept, Tune, Publish, Regression}, events.Raised.Raised}
use Rattle.history_model.specs.declared.{events.RegressionEvent.TheVariants.Raise, publication.Publication.Publication, run.Run.Run}

pub same_tune : {metric other : List ℕ} {penalty penalty' : ℤ} {len len' : ℕ} → metric ≡ other → penalty ≡ penalty' → len ≡ len' → Tune metric penalty len ≡ Tune other penalty' len'
same_tune names penalties lengths = λ i. Tune (names i) (penalties i) (lengths i)

pub same_run : (run : List ℕ) (commit : ℕ) (samples : List Measurement) (r : Run) → run ≡ r.run → commit ≡ r.commit → samples ≡ r.samples
    → Accept (record { run = run; commit = commit; samples = samples }) ≡ Accept r
same_run run commit samples r same_name same_commit same_samples = grind (arith, common_steps)

pub same_publication : {test metric : List ℕ} {version base : ℕ} {total : ℤ} {cuts : List ℕ} (p : Publication)
    → test ≡ p.test → metric ≡ p.metric → version ≡ p.version → base ≡ p.base → total ≡ p.total → cuts ≡ p.cuts
    → Publish (record { test = test; metric = metric; version = version; base = base; total = total; cuts = cuts }) ≡ Publish p
same_publication p test metric version base total cuts = grind (arith, common_steps)

pub same_change : {test metric : List ℕ} {before after : ℕ} (r : Raised) → test ≡ r.test → metric ≡ r.metric → before ≡ r.before → after ≡ r.after
    → Regression (Raise (record { test = test; metric = metric; before = before; after = after })) ≡ Regression (Raise r)
same_change r test metric before after = λ i. Regression (Raise (record { test = test i; metric = metric i; before = before i; after = after i }))

pub same_measurement : (test metric : List ℕ) (value : ℤ) (m : Measurement) → test ≡ m.test → metric ≡ m.metric → value ≡ m.value
    → record { test = test; metric = metric; value = value } ≡ m
same_measurement test metric value m same_test same_metric same_value = λ i. record { test = same_test i; metric = same_metric i; value = same_value i }
