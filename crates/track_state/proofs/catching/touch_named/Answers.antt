use Rattle.std.proofs.lemmas.Grind.{common_steps}
use Rattle.std.{proofs.Common.{◌≡◌, ℕ, ◌+◌, Bool, true, false, ◌&&◌, ◌||◌, List, take, refl, sym, ap, subst, ◌∙◌, arith}, specs.Prelude.bytes_eq}
use Rattle.history_model.specs.Runs.{Series, same_series}
use Rattle.touch_index.specs.{Marks.Entries, declared.key.SeriesKey.SeriesKey}
use Rattle.track_state.specs.{Covering.{AreTouched, SomeAreTouched}, Touching.named}
use Rattle.track_state.proofs.Touching.{is_key, one-touch, push, same, some, one-more, all-of}
use Rattle.track_state.proofs.catching.touch_named.Goals as goal
use Rattle.track_state.proofs.catching.touch_named.Goals.{then-eq+in_ok-key+in_ok-touch, else-eq}

pub loop-name-preserved : goal.loop-name-preserved
loop-name-preserved c =
    let xs : List Series = c.args.names.now in
    let metric : List ℕ = c.args.metric.now in
    let i : ℕ = c.loop-name.name-index in
    let x : Series = c.name-item.result in
    let step : ℕ = c.args.step in
    let start : Entries = c.args.touched.now in
    let has : Series → Series → Bool = λ n s. same_series n s && bytes_eq n.metric metric in
    let of_metric : c.eq.result ≡ bytes_eq x.metric metric = c.eq.ensures ∙ ap (λ (m : List ℕ). bytes_eq m metric) c.metric.ensures in
    elim c.if-eq.branch [
      | then-eq+in_ok-key+in_ok-touch w ↦
          let key : SeriesKey = w.in_ok-key.key in
          let hit : bytes_eq x.metric metric ≡ true = sym of_metric ∙ w.if-eq.true in
          let key_is : key ≡ record { test = x.test; metric = x.metric } = grind (arith, common_steps) in
          subst (λ (b : Entries). AreTouched (named metric (take (i + 1) xs)) step start b) (sym w.touched-is)
          (same (λ s. named metric (take i xs) s || is_key key s) (named metric (take (i + 1) xs)) step start w.touch.new.self
          (λ s. ap (λ (k : SeriesKey). named metric (take i xs) s || is_key k s) key_is
          ∙ ap (λ b. named metric (take i xs) s || b) (sym (ap (λ b. same_series x s && b) hit ∙ and-true (same_series x s)))
          ∙ ap (λ (y : Series). named metric (take i xs) s || has y s) c.name-item.is
          ∙ one-more has xs i x c.loop-name-test.true s)
          (push (named metric (take i xs)) (is_key key) step start c.loop-name.touched w.touch.new.self c.loop-name.invariant
          (one-touch key step c.loop-name.touched w.touch.new.self w.in_ok-touch.ensures.ok)))
      | else-eq w ↦
          let miss : bytes_eq x.metric metric ≡ false = sym of_metric ∙ w.if-eq.false in
          subst (λ (b : Entries). AreTouched (named metric (take (i + 1) xs)) step start b) (sym w.touched-is)
          (same (named metric (take i xs)) (named metric (take (i + 1) xs)) step start c.loop-name.touched
          (λ s. sym (ap (λ b. named metric (take i xs) s || b) (ap (λ b. same_series x s && b) miss ∙ and-false (same_series x s)) ∙ or-false (named metric (take i xs) s))
          ∙ ap (λ (y : Series). named metric (take i xs) s || has y s) c.name-item.is
          ∙ one-more has xs i x c.loop-name-test.true s)
          c.loop-name.invariant)
    ]
  where
    and-true : (b : Bool) → (b && true) ≡ b
    and-true true = refl
    and-true false = refl

    and-false : (b : Bool) → (b && false) ≡ false
    and-false true = refl
    and-false false = refl

    or-false : (b : Bool) → (b || false) ≡ b
    or-false true = refl
    or-false false = refl

pub returns-in_err-key-clause-some : goal.returns-in_err-key-clause-some
returns-in_err-key-clause-some c =
    let xs : List Series = c.args.names.now in
    let i : ℕ = c.loop-name.name-index in
    let has : Series → Series → Bool = λ n s. same_series n s && bytes_eq n.metric c.args.metric.now in
    some (named c.args.metric.now (take i xs)) (named c.args.metric.now xs) c.args.step c.args.touched.now c.loop-name.touched (all-of has xs i) c.loop-name.invariant

pub returns-in_err-touch-clause-some : goal.returns-in_err-touch-clause-some
returns-in_err-touch-clause-some c =
    let xs : List Series = c.args.names.now in
    let i : ℕ = c.loop-name.name-index in
    let has : Series → Series → Bool = λ n s. same_series n s && bytes_eq n.metric c.args.metric.now in
    subst (λ (b : Entries). SomeAreTouched (named c.args.metric.now xs) c.args.step c.args.touched.now b) (sym c.in_err-touch.ensures.err)
    (some (named c.args.metric.now (take i xs)) (named c.args.metric.now xs) c.args.step c.args.touched.now c.loop-name.touched (all-of has xs i) c.loop-name.invariant)
