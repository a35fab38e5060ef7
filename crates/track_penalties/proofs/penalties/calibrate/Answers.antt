use Rattle.std.proofs.Common.{◌≡◌, ℕ, ◌≤◌, ◌<◌, ◌&&◌, Bool, true, false, List, length, refl, sym, ap, subst, ◌∙◌, Option, Some, None, arith, nat_lt}
use Rattle.std.{specs.Prelude.nat_le, proofs.lemmas.Bool.{lt-ltb, le-leb, lt-leb}}
use Rattle.segment_model.specs.Segments.{Position}
use Rattle.history_model.specs.{declared.entries.Entry.Entry, Entries.entries_of, Positions.positions, Runs.{Series, is_known}}
use Rattle.request_model.specs.declared.replies.Answer.TheVariants as answer
use Rattle.request_model.specs.declared.replies.Refusal.TheVariants as refusal
use Rattle.track_model.specs.{Outcomes.Outcome, Publishing.{CalibrateComesTo, OfKnown, OfMany, IsCalibrated, is_factor}}
use Rattle.track_replay.{specs.State.IsFound, proofs.Told.{tells-it, factor-out, factor-in, unknown, known, few}}
use Rattle.track_penalties.proofs.penalties.calibrate.Goals as goal
use Rattle.track_penalties.proofs.penalties.calibrate.Goals.{then-factor-lt1-via-then-factor-lt1, then-factor-lt1-via-else-factor-lt1+then-factor-gt1000}

and-false : (a b : Bool) → b ≡ false → (a && b) ≡ false
and-false true b is = is
and-false false b is = refl

low : (n : ℕ) → n < 1 → is_factor n ≡ false
low n lt = ap (λ b. b && nat_le n 1_000) (lt-leb 1 n lt)

high : (n : ℕ) → 1_000 < n → is_factor n ≡ false
high n gt = and-false (nat_le 1 n) (nat_le n 1_000) (lt-leb n 1_000 gt)

within : (n : ℕ) → 1 ≤ n → n ≤ 1_000 → is_factor n ≡ true
within n ge le = ap (λ b. b && nat_le n 1_000) (le-leb 1 n ge) ∙ le-leb n 1_000 le

pub returns-then-factor-lt1-clause-step : goal.returns-then-factor-lt1-clause-step
returns-then-factor-lt1-clause-step c =
    let h : List Entry = entries_of c.args.track.now.history in
    let s : Series = record { test = c.args.test.now; metric = c.args.metric.now } in
    let factor : ℕ = c.args.factor in
    let out : is_factor factor ≡ false = elim c.then-factor-lt1.branch [
      | then-factor-lt1-via-then-factor-lt1 w ↦ low factor w.if-factor-lt1.true
      | then-factor-lt1-via-else-factor-lt1+then-factor-gt1000 w ↦ high factor w.if-factor-gt1000.true
    ] in
    tells-it (CalibrateComesTo h s factor) c.args.track.now c.args.author (answer.Refused refusal.BadPenalty) c.told.result
    (factor-out (OfKnown (is_known s h) (OfMany (nat_lt (length (positions h s)) 3) (length (positions h s)) (IsCalibrated h s factor))) (is_factor factor) out)
    c.told.ensures

pub returns-in_default-clause-step : goal.returns-in_default-clause-step
returns-in_default-clause-step c =
    let h : List Entry = entries_of c.args.track.now.history in
    let s : Series = record { test = c.args.test.now; metric = c.args.metric.now } in
    let factor : ℕ = c.args.factor in
    let found : IsFound h s None = let P : Option (List Position) → Type 0 = λ o. IsFound h s o in subst P c.in_default.is c.in_ok-points.ensures.found in
    let then : Outcome → Type 0 = OfMany (nat_lt (length (positions h s)) 3) (length (positions h s)) (IsCalibrated h s factor) in
    rw c.in_ok-points.ensures.same (tells-it (CalibrateComesTo h s factor) c.args.track.now c.args.author (answer.Refused refusal.UnknownSeries) c.told-in_default.result
    (factor-in (OfKnown (is_known s h) then) _ (is_factor factor) (within factor c.if-factor-lt1.false c.if-factor-gt1000.false)
    (unknown then (is_known s h) found))
    (rw c.in_ok-points.ensures.same at c.told-in_default.ensures))

pub returns-then-n-lt3-clause-step : goal.returns-then-n-lt3-clause-step
returns-then-n-lt3-clause-step c =
    let h : List Entry = entries_of c.args.track.now.history in
    let s : Series = record { test = c.args.test.now; metric = c.args.metric.now } in
    let factor : ℕ = c.args.factor in
    let found : IsFound h s (Some c.in-Some.points) = let P : Option (List Position) → Type 0 = λ o. IsFound h s o in subst P c.in-Some.is c.in_ok-points.ensures.found in
    let n_is : c.len-n.result ≡ length (positions h s) = c.len-n.ensures ∙ ap length found.1 in
    let then : Outcome → Type 0 = OfMany (nat_lt (length (positions h s)) 3) (length (positions h s)) (IsCalibrated h s factor) in
    rw c.in_ok-points.ensures.same (tells-it (CalibrateComesTo h s factor) c.args.track.now c.args.author (answer.Refused (refusal.TooFewPoints c.len-n.result)) c.told-then-n-lt3.result
    (factor-in (OfKnown (is_known s h) then) _ (is_factor factor) (within factor c.if-factor-lt1.false c.if-factor-gt1000.false)
    (known then _ (is_known s h) found.0
    (let P : ℕ → Type 0 = λ n. then (record { answer = answer.Refused (refusal.TooFewPoints n); adds = None }) in
    subst P (sym n_is) (few (IsCalibrated h s factor) (length (positions h s)) (nat_lt (length (positions h s)) 3) (lt-ltb (length (positions h s)) 3 (omega (arith, n_is, c.if-n-lt3.true)))))))
    (rw c.in_ok-points.ensures.same at c.told-then-n-lt3.ensures))
