use Rattle.std.proofs.{Common.{◌≢◌, ◌<◌, length, arith, ap, eqb, length-append}, lemmas.Bool.Decides.nat_tests, lemmas.Grind.common_steps}
use Rattle.go_bench_text.proofs.Cutting.{IsNext, next_is, none_is}
use Rattle.go_bench_text.proofs.fields.next_field.Goals as goal

pub returns-then-is_empty-clause-none : goal.returns-then-is_empty-clause-none
returns-then-is_empty-clause-none c = grind (arith, common_steps, eqb, length, none_is)

next : (c : goal.After-split_black) → IsNext c.args.text.now c.split_black.result.0.now c.split_black.result.1.now
next c =
    let there : length c.without_white-from.result.now ≢ 0 = λ h. grind (arith, nat_tests) in
    next_is c.args.text.now c.without_white-from.result.now c.split_black.result.0.now c.split_black.result.1.now c.utf8.text c.without_white-from.ensures.trim there
    c.split_black.ensures.joined c.split_black.ensures.front c.split_black.ensures.back c.split_black.ensures.black c.split_black.ensures.stopped

pub returns-clause-some : goal.returns-clause-some
returns-clause-some c = (next c).fields

pub returns-clause-some_bytes : goal.returns-clause-some_bytes
returns-clause-some_bytes c = (next c).some

pub returns-clause-shorter : goal.returns-clause-shorter
returns-clause-shorter c =
    let some : 0 < length c.split_black.result.0.now = (next c).some in
    omega (arith, ap length c.split_black.ensures.joined, length-append c.split_black.result.0.now c.split_black.result.1.now)
