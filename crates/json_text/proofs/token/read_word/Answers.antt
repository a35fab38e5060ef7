use Rattle.std.proofs.Common.{arith, refl}
use Rattle.json_text.proofs.Reach.{word_next, word_stops, word_ends}
use Rattle.json_text.proofs.token.read_word.Goals as goal
use Rattle.json_text.proofs.token.read_word.Goals.{else-place-bytes-via-then-place-bytes+else-bytes-place, else-place-bytes-via-else-place-bytes}

pub loop-letter-preserved : goal.loop-letter-preserved
loop-letter-preserved c = record {
  low = omega arith;
  high = omega arith;
  reads = word_next c.args.bytes.now c.args.place.now c.loop-letter.place c.args.left.now c.loop-letter.letter-index c.loop-letter.invariant.reads c.loop-letter-test.true c.if-place-bytes.true c.if-bytes-place.true;
}

pub returns-else-place-bytes-clause-stops : goal.returns-else-place-bytes-clause-stops
returns-else-place-bytes-clause-stops c =
    let here = c.loop-letter in (
      refl,
      word_stops c.args.bytes.now c.args.place.now here.place c.args.left.now here.letter-index here.invariant.reads c.loop-letter-test.true
          (elim c.else-place-bytes.branch [
            | else-place-bytes-via-then-place-bytes+else-bytes-place w ↦ λ short same. w.if-bytes-place.false same
            | else-place-bytes-via-else-place-bytes w ↦ λ short same. absurd (omega (arith, short, w.if-place-bytes.false))
          ]),
    )

pub returns-clause-reads : goal.returns-clause-reads
returns-clause-reads c = word_ends c.args.bytes.now c.args.place.now c.loop-letter.place c.args.left.now c.loop-letter.letter-index c.loop-letter.invariant.reads c.loop-letter-test.false
