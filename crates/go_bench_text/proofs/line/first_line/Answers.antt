use Rattle.go_bench_text.proofs.FirstLine.{behind_feed, first_line_ends, one_line}
use Rattle.go_bench_text.proofs.line.first_line.Goals as goal

pub range_from-requires : goal.range_from-requires
range_from-requires c some = behind_feed c.args.text.now c.as_bytes.result.now c.in-Some.end c.utf8.text c.as_bytes.ensures.value c.in-Some.ensures

pub returns-in-Some-clause-more : goal.returns-in-Some-clause-more
returns-in-Some-clause-more c =
    first_line_ends c.args.text.now c.as_bytes.result.now c.range.result.now c.range_from.result.now c.in-Some.end c.as_bytes.ensures.value c.in-Some.ensures c.range.ensures.value c.range_from.ensures.value

pub returns-in-None-clause-last : goal.returns-in-None-clause-last
returns-in-None-clause-last c = one_line c.args.text.now c.as_bytes.result.now c.as_bytes.ensures.value c.in-None.ensures
