use Rattle.std.proofs.Common.{◌+◌, arith}
use Rattle.lnt_report.proofs.gather.ignore.Goals as goal

pub returns : goal.returns
returns c all left total more h = record {
  past = h.past;
  beyond = h.beyond;
  count = h.count + 1;
  split = h.split;
  measured = h.measured;
  over = h.over;
  counted = omega (arith, h.counted);
  ignored = omega (arith, h.ignored, c.saturating_add-gathered.ensures);
  given = h.given;
}
