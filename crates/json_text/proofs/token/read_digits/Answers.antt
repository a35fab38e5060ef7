use Rattle.std.proofs.Common.{◌<◌, arith, sym, get_or}
use Rattle.json_text.proofs.Reach.{digit_read, all_more}
use Rattle.json_text.proofs.token.read_digits.Goals as goal

pub loop-place-preserved : goal.loop-place-preserved
loop-place-preserved c =
    let bytes = c.args.bytes.now in
    let here = c.loop-place in
    record {
      low = omega arith;
      high = omega arith;
      reads = digit_read bytes c.args.place.now here.place c.args.first here.last c.in-Some.next here.invariant.low here.invariant.reads c.loop-place-test.true (sym c.in-Some.ensures.same);
      ascii = all_more (λ k. get_or bytes k 0 < 128) c.args.place.now here.place here.invariant.ascii c.in-Some.ensures.ascii;
    }
