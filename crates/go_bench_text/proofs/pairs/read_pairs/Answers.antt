use Rattle.std.proofs.{Common.{◌≡◌, ◌<◌, ◌∷◌, ◌∙◌, ℕ, List, length, ap, subst, arith}, lemmas.Bool.Decides.nat_tests, lemmas.List.nil_from_length}
use Rattle.go_bench_text.{specs.Fields.fields_of, proofs.Taken.{Taken, taken_more, taken_all, taken_no}}
use Rattle.go_bench_text.proofs.pairs.read_pairs.Goals as goal

pub loop-value-preserved : goal.loop-value-preserved
loop-value-preserved c =
    let split : fields_of c.loop-value.rest.now ≡ c.in-Some.value.now ∷ c.in-Some-next_field.unit.now ∷ fields_of c.in-Some-next_field.more.now =
    c.in-Some.ensures.some ∙ ap (λ (fields : List (List ℕ)). c.in-Some.value.now ∷ fields) c.in-Some-next_field.ensures.some in
    let before = subst (λ (rest : List (List ℕ)). Taken (fields_of c.args.text.now) rest c.loop-value.pairs.items) split c.loop-value.invariant.taken in
    record {
      text = c.in-Some-next_field.ensures.more;
      taken = taken_more (fields_of c.args.text.now) (fields_of c.in-Some-next_field.more.now) c.in-Some.value.now c.in-Some-next_field.unit.now c.loop-value.pairs.items c.push.new.self.items c.in-InRange.pair before c.in-InRange.ensures c.in-Ok.ensures.ok;
    }

pub returns-clause-read : goal.returns-clause-read
returns-clause-read c any =
    let some : 0 < length c.loop-value.pairs.items = grind (arith, nat_tests) in
    taken_all (fields_of c.args.text.now) (fields_of c.loop-value.rest.now) c.loop-value.pairs.items c.loop-value.invariant.taken c.in_default.ensures.none some

pub returns-clause-none : goal.returns-clause-none
returns-clause-none c none some paired =
    let empty : length c.loop-value.pairs.items ≡ 0 = grind (arith, nat_tests) in
    taken_no (fields_of c.args.text.now) (fields_of c.loop-value.rest.now) c.loop-value.pairs.items c.loop-value.invariant.taken c.in_default.ensures.none (nil_from_length c.loop-value.pairs.items empty) some
