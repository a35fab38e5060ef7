use Rattle.std.proofs.{Common.{◌≡◌, ℕ, ◌+◌, ◌||◌, Bool, List, take, sym, ap, subst, ◌∙◌, arith}, lemmas.Grind.common_steps}
use Rattle.sample_model.specs.Samples.{Measurement}
use Rattle.history_model.specs.Runs.{Series, is_of}
use Rattle.touch_index.specs.{Marks.Entries, declared.key.SeriesKey.SeriesKey}
use Rattle.track_state.{specs.Covering.SomeAreTouched, specs.Touching.sampled, proofs.Touching.{is_key, one-touch, push, same, some, one-more, all-of}}
use Rattle.track_state.proofs.catching.touch_samples.Goals as goal

abbrev has : Measurement → Series → Bool
has x s = is_of s x

pub loop-sample-preserved : goal.loop-sample-preserved
loop-sample-preserved c =
    let xs : List Measurement = c.args.samples.now in
    let i : ℕ = c.loop-sample.sample-index in
    let x : Measurement = c.sample-item.result in
    let key : SeriesKey = c.in_ok-key.key in
    let step : ℕ = c.args.step in
    let named : key ≡ record { test = x.test; metric = x.metric } = grind (arith, common_steps) in
    same (λ s. sampled (take i xs) s || is_key key s) (sampled (take (i + 1) xs)) step c.args.touched.now c.touch.new.self
    (λ s. ap (λ (k : SeriesKey). sampled (take i xs) s || is_key k s) named
    ∙ ap (λ (y : Measurement). sampled (take i xs) s || is_of s y) c.sample-item.is
    ∙ one-more has xs i x c.loop-sample-test.true s)
    (push (sampled (take i xs)) (is_key key) step c.args.touched.now c.loop-sample.touched c.touch.new.self c.loop-sample.invariant
    (one-touch key step c.loop-sample.touched c.touch.new.self c.in_ok-touch.ensures.ok))

pub returns-in_err-key-clause-some : goal.returns-in_err-key-clause-some
returns-in_err-key-clause-some c =
    let xs : List Measurement = c.args.samples.now in
    let i : ℕ = c.loop-sample.sample-index in
    some (sampled (take i xs)) (sampled xs) c.args.step c.args.touched.now c.loop-sample.touched (all-of has xs i) c.loop-sample.invariant

pub returns-in_err-touch-clause-some : goal.returns-in_err-touch-clause-some
returns-in_err-touch-clause-some c =
    let xs : List Measurement = c.args.samples.now in
    let i : ℕ = c.loop-sample.sample-index in
    subst (λ (b : Entries). SomeAreTouched (sampled xs) c.args.step c.args.touched.now b) (sym c.in_err-touch.ensures.err)
    (some (sampled (take i xs)) (sampled xs) c.args.step c.args.touched.now c.loop-sample.touched (all-of has xs i) c.loop-sample.invariant)
