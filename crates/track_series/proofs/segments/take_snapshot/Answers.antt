use Rattle.std.{proofs.Common.{◌≡◌, ℤ, pos, ◌≤ℤ◌, ◌<◌, ◌^◌, ap, sym, subst, ◌∙◌, Option, FitsSigned, unsigned_abs, arith}, specs.Int.w128}
use Rattle.std.proofs.lemmas.Int.{to_z-of_z, ints, fits_signed_from_abs}
use Rattle.segment_model.specs.Values.{values_by_position}
use Rattle.pelt_core.specs.Seen.{table_of}
use Rattle.machine_state.{specs.declared.base.Base.Base, specs.State.{BeginsWith, IsBegun, IsFound}, proofs.Bases.taken-none}
use Rattle.history_model.specs.{declared.setting.Setting.Setting, Entries.entries_of, Runs.{Series, is_known}}
use Rattle.track_model.specs.Tracks.{Track}
use Rattle.track_series.proofs.Beginning.{unknown-base}
use Rattle.track_series.proofs.segments.take_snapshot.Goals as goal

pub returns-in_default-clause-taken : goal.returns-in_default-clause-taken
returns-in_default-clause-taken c =
    let t : Track = c.args.track.now in
    let s : Series = record { test = c.args.test.now; metric = c.args.metric.now } in
    let none : is_known s (entries_of t.history) ≡ _ = subst (λ (o : _). IsFound (entries_of t.history) s o) c.in_default.is c.in_ok-points.ensures.found in
    c.in_ok-points.ensures.same
    ∙ taken-none t s (unknown-base c.publication_law.ensures.last_stands c.publication_law.ensures.known t s c.history_law.ensures.legal none)

fits : (z : ℤ) → pos 0 ≤ℤ z → z ≤ℤ pos (10 ^ 36) → FitsSigned w128 z
fits z low high = let small : unsigned_abs z < 2 ^ 127 = omega (arith, ints, low, high) in fits_signed_from_abs w128 z small

pub invariant_of-result-clause-low : goal.invariant_of-result-clause-low
invariant_of-result-clause-low c =
    let z : ℤ = c.setting-setting.result.penalty in
    let penalty = c.setting-setting.ensures.fits.0 in
    rw (to_z-of_z w128 z (fits z penalty.0 penalty.1)) penalty.0

pub invariant_of-result-clause-high : goal.invariant_of-result-clause-high
invariant_of-result-clause-high c =
    let z : ℤ = c.setting-setting.result.penalty in
    let penalty = c.setting-setting.ensures.fits.0 in
    rw (to_z-of_z w128 z (fits z penalty.0 penalty.1)) penalty.1

pub invariant_of-result-clause-long : goal.invariant_of-result-clause-long
invariant_of-result-clause-long c = c.setting-setting.ensures.fits.1

pub invariant_of-result-clause-begins : goal.invariant_of-result-clause-begins
invariant_of-result-clause-begins c =
    let t : Track = c.points_of.new.self in
    let s : Series = record { test = c.args.test.now; metric = c.args.metric.now } in
    let x : Setting = c.setting-setting.result in
    let penalty = c.setting-setting.ensures.fits.0 in
    let begun : BeginsWith t s c.in-Some-2.base = subst (λ (o : Option Base). IsBegun t s o) c.in-Some-2.is c.in_ok-base.ensures.begun in
    let table : c.in-Some-2.base.table ≡ table_of (values_by_position c.in-Some-2.base.points) x.penalty x.length =
    begun.table ∙ ap (λ (y : Setting). table_of (values_by_position c.in-Some-2.base.points) y.penalty y.length) (sym c.setting-setting.ensures.given) in
    rw (to_z-of_z w128 x.penalty (fits x.penalty penalty.0 penalty.1)) (∣ table ∣₁)
