use Rattle.std.proofs.Common.{◌≡◌, false, ℕ, List, arith, ap, get_or, length, sym, subst}
use Rattle.json_text.specs.{Classes.is_blank, Machine.value, Reached.Stands, States.frames_of, declared.state.Open.Open}
use Rattle.json_text.{specs.declared.state.Awaits.TheVariants.Value, proofs.Reach.{blank_passed_in, start_stands}}
use Rattle.json_text.proofs.reading.read_source.Goals as goal

pub loop-place-init : goal.loop-place-init
loop-place-init c =
    let same = c.as_bytes-bytes.ensures.value in
    let size : length c.as_bytes-bytes.result.now ≡ length c.args.text.now = ap (λ (xs : List ℕ). length xs) same in
    let empty = c.new-open.ensures.items in
    let none : length c.new-open.result.items ≡ 0 = ap (λ (xs : List Open). length xs) empty in
    let begins = subst (λ (stack : List Open). Stands c.args.text.now 0 (value, frames_of stack)) (sym empty) (start_stands c.args.text.now) in
    record {
      stands = blank_passed_in c.as_bytes-bytes.result.now c.args.text.now 0 c.run_end-place.result Value c.new-open.result.items same begins c.run_end-place.ensures.within.0 c.run_end-place.ensures.within.1 c.run_end-place.ensures.run
          (omega (arith, none));
      room = omega (arith, none);
      high = omega (arith, size, c.run_end-place.ensures.within.1);
      black = λ short. subst (λ (xs : List ℕ). is_blank (get_or xs c.run_end-place.result 0) ≡ false) same (c.run_end-place.ensures.stops (omega (arith, short, size)));
    }

pub loop-place-preserved : goal.loop-place-preserved
loop-place-preserved c =
    let same = c.as_bytes-bytes.ensures.value in
    let size : length c.as_bytes-bytes.result.now ≡ length c.args.text.now = ap (λ (xs : List ℕ). length xs) same in
    let blank = c.run_end-place-in-loop-place in
    let arrived = c.in-Ok.ensures.arrives in
    record {
      stands = blank_passed_in c.as_bytes-bytes.result.now c.args.text.now c.step.new.place blank.result c.in-Ok.next c.step.new.stack.items same arrived.1 blank.ensures.within.0 blank.ensures.within.1 blank.ensures.run arrived.2;
      room = arrived.2;
      high = omega (arith, size, blank.ensures.within.1);
      black = λ short. subst (λ (xs : List ℕ). is_blank (get_or xs blank.result 0) ≡ false) same (blank.ensures.stops (omega (arith, short, size)));
    }
