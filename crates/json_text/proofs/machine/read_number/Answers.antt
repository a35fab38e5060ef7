use Rattle.std.proofs.{Common.{inr, arith, sym, subst, slice_range}, lemmas.Grind.common_steps}
use Rattle.json_text.{specs.States.ReadsNumber, proofs.Reach.{number_boundary, spells_number}}
use Rattle.json_text.proofs.machine.read_number.Goals as goal

pub part-requires-clause-end_boundary : goal.part-requires-clause-end_boundary
part-requires-clause-end_boundary c = grind (arith, common_steps, number_boundary)

pub returns-in_ok-part-clause-reads : goal.returns-in_ok-part-clause-reads
returns-in_ok-part-clause-reads c =
    let digits = c.read_digits-last in
    subst (ReadsNumber c.args.text.now c.args.place.now digits.new.place) (sym c.in_ok-part.ensures) (
      omega (arith, digits.ensures.place.0),
      (
        digits.result,
        spells_number c.args.text.now c.as_bytes-bytes.result.now c.args.place.now digits.new.place c.in-Some.first digits.result c.as_bytes-bytes.ensures.value (sym c.in-Some.ensures.same) digits.ensures.reads digits.ensures.stops
            digits.ensures.place.0 digits.ensures.place.1,
        sym c.if-may_end.ensures,
      ),
    )

pub returns-else-may_end-clause-stops : goal.returns-else-may_end-clause-stops
returns-else-may_end-clause-stops c =
    let digits = c.read_digits-last in
    inr (
      digits.result,
      slice_range c.args.text.now c.args.place.now digits.new.place,
      spells_number c.args.text.now c.as_bytes-bytes.result.now c.args.place.now digits.new.place c.in-Some.first digits.result c.as_bytes-bytes.ensures.value (sym c.in-Some.ensures.same) digits.ensures.reads digits.ensures.stops
          digits.ensures.place.0 digits.ensures.place.1,
      sym c.if-may_end.ensures,
    )
