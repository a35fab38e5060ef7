use Rattle.std.proofs.Common.{◌<◌, ◌^◌, map, decimal, refl, ◌∙◌, sym, ap, ◌++◌, ◌∷◌, [], arith}
use Rattle.track_entry.proofs.{Readers.kept_err, OneByOne.{some_next, none_next}}
use Rattle.track_entry.proofs.read.read_cuts.Goals as goal

pub returns-in_err-cut : goal.returns-in_err-cut
returns-in_err-cut c all are words =
    let n = some_next (λ n. n < 2 ^ 64) (map decimal) _ _ _ all _ _ refl are c.loop-cuts-test.ensures c.next_word.ensures.some (c.loop-cuts.invariant.1 all are words) in
    kept_err c.in_err-cut.field-0.0 c.from_residual.result _ _ c.from_residual.ensures (c.in_err-cut.ensures.reads n.m _ n.item n.are)

pub loop-cuts-preserved : goal.loop-cuts-preserved
loop-cuts-preserved c = (
  c.in_ok-cut.ensures.placed.1,
  λ all are words.
      let n = some_next (λ n. n < 2 ^ 64) (map decimal) _ _ _ all _ _ refl are c.loop-cuts-test.ensures c.next_word.ensures.some (c.loop-cuts.invariant.1 all are words) in
      let read = c.in_ok-cut.ensures.reads n.m _ n.item n.are in
      (n.rest, n.is ∙ ap (λ xs. xs ++ n.rest) (sym (c.in_ok-push.ensures.ok ∙ ap (λ m. c.loop-cuts.cuts ++ m ∷ []) read.0)), read.1),
)

pub returns : goal.returns
returns c all are words =
    none_next (map decimal) _ all _ _ (λ m rest. omega arith) c.loop-cuts-test.ensures c.next_word.ensures.none (c.loop-cuts.invariant.1 all are words)
