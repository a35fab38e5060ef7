use Rattle.std.{proofs.Common.{◌≡◌, ℕ, ◌-◌, ℤ, length, refl, pos, ◌≤ℤ◌, ◌^◌, ◌<◌, sym, ap, ap₂, subst, ◌∙◌, FitsSigned, unsigned_abs, arith}, specs.Int.w128}
use Rattle.std.proofs.lemmas.{Int.{to_z-of_z, ints, fits_signed_from_abs}, List.length-map}
use Rattle.segment_model.specs.{Segments.position_values, Limits.IsLength, Values.values_by_position}
use Rattle.segment_cost.specs.Certificate.{StandsFor}
use Rattle.pelt_core.specs.Seen.{Tabled, table_of}
use Rattle.checkpoint_redo.proofs.Fronts.{common-within, front-first}
use Rattle.track_series.proofs.{Computed.of-points, computing.compute.Goals.In_ok-cert}
use Rattle.track_series.proofs.computing.compute.Goals as goal

fits : (z : ℤ) → pos 0 ≤ℤ z → z ≤ℤ pos (10 ^ 36) → FitsSigned w128 z
fits z low high =
    let small : unsigned_abs z < 2 ^ 127 = omega (arith, ints, low, high) in
    fits_signed_from_abs w128 z small

pub begun-requires-clause-begins : goal.begun-requires-clause-begins
begun-requires-clause-begins g c =
    let z : ℤ = c.args.snapshot.penalty in
    simp (to_z-of_z w128 z (fits z c.args.snapshot.low c.args.snapshot.high)) c.args.snapshot.begins

pub redo_from-requires : goal.redo_from-requires
redo_from-requires g c =
    let z : ℤ = c.args.snapshot.penalty in
    let table : c.in_ok-table.table ≡ table_of (values_by_position c.args.snapshot.old) z c.args.snapshot.length = simp (to_z-of_z w128 z (fits z c.args.snapshot.low c.args.snapshot.high)) at c.in_ok-table.ensures in
    let first = ap (λ (t : Tabled). t.positions) table in
    let within = common-within c.args.snapshot.old c.args.snapshot.points in
    let size : length c.in_ok-table.table.positions ≡ length c.args.snapshot.old = ap length first ∙ length-map c.args.snapshot.old position_values in
    record {
      there = omega (arith, c.common_prefix-front.ensures, within.0, size);
      within = omega (arith, c.common_prefix-front.ensures, within.1);
      first = front-first c.args.snapshot.old c.args.snapshot.points c.common_prefix-front.result c.in_ok-table.table.positions c.common_prefix-front.ensures first;
    }

pub overflow_sub-redone : goal.overflow_sub-redone
overflow_sub-redone g c =
    let within = common-within c.args.snapshot.old c.args.snapshot.points in
    omega (arith, c.len.ensures, c.common_prefix-front.ensures, within.1)

table-is : (g : _) (c : In_ok-cert g) → c.redo_from.new.table ≡ table_of (values_by_position c.args.snapshot.points) c.args.snapshot.penalty c.args.snapshot.length
table-is g c =
    let z : ℤ = c.args.snapshot.penalty in
    let first : c.in_ok-table.table ≡ table_of (values_by_position c.args.snapshot.old) z c.args.snapshot.length = simp (to_z-of_z w128 z (fits z c.args.snapshot.low c.args.snapshot.high)) at c.in_ok-table.ensures in
    c.in_ok-redo_from.ensures.ok ∙ ap₂ (table_of (values_by_position c.args.snapshot.points)) (ap (λ (t : Tabled). t.penalty) first) (ap (λ (t : Tabled). t.length) first)

stands : (g : _) (c : In_ok-cert g) → StandsFor c.args.snapshot.points c.args.snapshot.penalty c.args.snapshot.length c.in_ok-cert.cert
stands g c =
    c.certificate_law.ensures.stands c.args.snapshot.points c.args.snapshot.penalty c.args.snapshot.length c.in_ok-cert.cert
    (of-points c.args.snapshot.points c.args.snapshot.penalty c.args.snapshot.length c.in_ok-cert.cert c.redo_from.new.table (table-is g c) c.in_ok-cert.ensures)

pub invariant_of-done : goal.invariant_of-done
invariant_of-done g c =
    let k = (goal.at.invariant_of-done g c).In_ok-cert in
    let x = stands g k in
    record {
      stands = ∣ (
        subst (λ (z : ℤ). pos 0 ≤ℤ z) (sym x.same_penalty) c.args.snapshot.low,
        subst (λ (z : ℤ). z ≤ℤ pos (10 ^ 36)) (sym x.same_penalty) c.args.snapshot.high,
        subst (λ (len : ℕ). IsLength len) (sym x.same_length) c.args.snapshot.long,
        subst (λ (len : ℕ). StandsFor c.args.snapshot.points c.in_ok-cert.cert.penalty len c.in_ok-cert.cert) (sym x.same_length)
            (subst (λ (z : ℤ). StandsFor c.args.snapshot.points z c.args.snapshot.length c.in_ok-cert.cert) (sym x.same_penalty) x),
      ) ∣₁;
    }

pub returns-clause-made : goal.returns-clause-made
returns-clause-made g c =
    let k = (goal.at.returns-clause-made g c).In_ok-cert in
    let x = stands g k in
    record {
      test = refl;
      metric = refl;
      version = refl;
      base = refl;
      redone = ap₂ (λ (a b : ℕ). a - b) c.len.ensures c.common_prefix-front.ensures;
      points = refl;
      stands = x;
      tabled = table-is g k ∙ ap₂ (table_of (values_by_position c.args.snapshot.points)) (sym x.same_penalty) (sym x.same_length);
    }
