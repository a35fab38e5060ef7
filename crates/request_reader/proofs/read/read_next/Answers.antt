use Rattle.std.proofs.{Common.{arith, [], ◌++◌, ◌∙◌}, lemmas.Result.err_from_is_err_and}
use Rattle.request_reader.proofs.Moving.{moves_none, moves_join, no_pieces, pieces_pass, fails_moved, takes_moved}
use Rattle.request_reader.proofs.read.read_next.Goals as goal

pub loop-asked-init : goal.loop-asked-init
loop-asked-init g c = (([], no_pieces, moves_none _ _ c.limits.ensures), omega arith)

pub read_piece-requires : goal.read_piece-requires
read_piece-requires g c = record { goes_on = c.loop-asked.invariant.0.2.ended ∙ c.requires.goes_on }

pub returns-in_err-asked-clause-stops : goal.returns-in_err-asked-clause-stops
returns-in_err-asked-clause-stops g c =
    let p = err_from_is_err_and c.from_residual.result c.from_residual.ensures.1 in
    let inv = c.loop-asked.invariant.0 in
    rw (p.1, p.2) (fails_moved g.S.Source _ _ _ _ _ inv.0 _ inv.2 inv.1 c.loop-asked.invariant.1 c.in_err-asked.ensures.stops)

pub returns-in_err-asked-clause-counts : goal.returns-in_err-asked-clause-counts
returns-in_err-asked-clause-counts g c = omega (arith, c.loop-asked.invariant.1, c.read_piece.ensures.counts)

pub returns-in-Some-clause-next : goal.returns-in-Some-clause-next
returns-in-Some-clause-next g c =
    let inv = c.loop-asked.invariant.0 in
    let takes = rw c.in-Some.is at c.in_ok-asked.ensures.next in
    takes_moved _ _ c.read_piece.new.lines _ _ _ inv.0 _ inv.2 inv.1 takes

pub returns-in-Some-clause-counts : goal.returns-in-Some-clause-counts
returns-in-Some-clause-counts g c = omega (arith, c.loop-asked.invariant.1, c.read_piece.ensures.counts)

pub loop-asked-preserved : goal.loop-asked-preserved
loop-asked-preserved g c =
    let inv = c.loop-asked.invariant.0 in
    let passes = rw c.in_default.is at c.in_ok-asked.ensures.next in (
      (inv.0 ++ passes.passed, pieces_pass _ _ inv.1 passes.pieces, moves_join _ _ _ _ _ _ _ _ inv.2 passes.moves),
      omega (arith, c.loop-asked.invariant.1, c.read_piece.ensures.counts),
    )
