use Rattle.std.{proofs.Common.{◌≡◌, ℕ, suc, ◌+◌, true, false, List, Some, ap, sym, ◌∙◌, arith}, specs.Prelude.{slice_get, bytes_eq}}
use Rattle.std.proofs.lemmas.{Option.slice_get-get_or, Slice.Eq.bytes_eq-Decides}
use Rattle.track_model.specs.Tracks.{Track}
use Rattle.keep_rows.{specs.Machines.is_track, proofs.Placing.{found_at, changed_at, none_before, none_found}}
use Rattle.keep_rows.proofs.place.place_of.Goals as goal

pub loop-i-init : goal.loop-i-init
loop-i-init c = (omega arith, tt)

pub returns-then-eq-clause-some : goal.returns-then-eq-clause-some
returns-then-eq-clause-some c =
    let t : Track = c.index-machines-i.result in
    let at : slice_get c.args.machines.now c.loop-i.i ≡ Some t =
    slice_get-get_or c.args.machines.now c.loop-i.i t (omega (arith, c.loop-i-test.true)) ∙ ap Some (sym c.index-machines-i.is) in
    let is : is_track c.args.machine.now t ≡ true =
    ap (λ (n : List ℕ). bytes_eq n c.args.machine.now) (sym c.machine.ensures) ∙ sym c.eq.ensures ∙ c.if-eq.true in (
      t,
      record {
        place = at;
        found = found_at c.args.machine.now c.args.machines.now c.loop-i.i t c.loop-i.invariant.1 at is;
        named = (bytes_eq-Decides t.machine c.args.machine.now).0 is;
        change = λ f. changed_at c.args.machine.now c.args.machines.now c.loop-i.i t f c.loop-i.invariant.1 at is;
      },
    )

pub loop-i-preserved : goal.loop-i-preserved
loop-i-preserved c =
    let t : Track = c.index-machines-i.result in
    let at : slice_get c.args.machines.now c.loop-i.i ≡ Some t =
    slice_get-get_or c.args.machines.now c.loop-i.i t (omega (arith, c.loop-i-test.true)) ∙ ap Some (sym c.index-machines-i.is) in
    let is : is_track c.args.machine.now t ≡ false =
    ap (λ (n : List ℕ). bytes_eq n c.args.machine.now) (sym c.machine.ensures) ∙ sym c.eq.ensures ∙ c.if-eq.false in
    let next : c.loop-i.i + 1 ≡ suc c.loop-i.i = omega arith in
    (omega (arith, c.loop-i-test.true), rw next (none_before c.args.machine.now c.args.machines.now c.loop-i.i t c.loop-i.invariant.1 at is))

pub returns-clause-none : goal.returns-clause-none
returns-clause-none c = none_found c.args.machine.now c.args.machines.now c.loop-i.i c.loop-i.invariant.1 (omega (arith, c.loop-i-test.false))
