use Rattle.std.proofs.{Common.{arith, [], ◌++◌, length-append}, lemmas.Result.err_from_is_err_and}
use Rattle.request_reader.proofs.{Moving.{moves_none, moves_join, few_moved}, Passing.{passing_stops, passes_gain}}
use Rattle.request_reader.proofs.pass.pass_bytes.Goals as goal

pub loop-rest-init : goal.loop-rest-init
loop-rest-init g c = (([], moves_none _ _ c.limits.ensures, omega arith), omega arith)

pub returns-in_err-pass_turn-clause-err : goal.returns-in_err-pass_turn-clause-err
returns-in_err-pass_turn-clause-err g c =
    let p = err_from_is_err_and c.from_residual.result c.from_residual.ensures.1 in
    let inv = c.loop-rest.invariant.0 in
    rw (p.1, p.2) (passing_stops _ _ _ _ _ inv.0 _ _ _ _ _ _ inv.1 inv.2 c.in_err-pass_turn.ensures.short c.loop-rest.invariant.1 c.in_err-pass_turn.ensures.err)

pub returns-in_err-pass_turn-clause-few : goal.returns-in_err-pass_turn-clause-few
returns-in_err-pass_turn-clause-few g c =
    let p = err_from_is_err_and c.from_residual.result c.from_residual.ensures.1 in
    let inv = c.loop-rest.invariant.0 in
    rw p.1 (few_moved _ _ _ _ _ inv.0 inv.1 c.in_err-pass_turn.ensures.few)

pub returns-in-All-clause-ok : goal.returns-in-All-clause-ok
returns-in-All-clause-ok g c =
    let inv = c.loop-rest.invariant.0 in
    let passes = rw c.in-All.is at c.in_ok-pass_turn.ensures.ok in
    passes_gain _ _ _ _ _ _ inv.0 _ _ _ inv.1 inv.2 passes

pub returns-in-Short-clause-ok : goal.returns-in-Short-clause-ok
returns-in-Short-clause-ok g c =
    let inv = c.loop-rest.invariant.0 in
    let passes = rw c.in-Short.is at c.in_ok-pass_turn.ensures.ok in
    passes_gain _ _ _ _ _ _ inv.0 _ _ _ inv.1 inv.2 passes

pub loop-rest-preserved : goal.loop-rest-preserved
loop-rest-preserved g c =
    let inv = c.loop-rest.invariant.0 in
    let turn = rw c.in-Left.is at c.in_ok-pass_turn.ensures.ok in (
      (inv.0 ++ turn.0.0, moves_join _ _ _ _ _ _ inv.0 turn.0.0 inv.1 turn.0.1, omega (arith, inv.2, turn.0.2, length-append inv.0 turn.0.0)),
      omega (arith, c.loop-rest.invariant.1, c.pass_turn.ensures.counts),
    )
