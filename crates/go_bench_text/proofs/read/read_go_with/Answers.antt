use Rattle.go_bench_text.proofs.OneAnswer.{one_answer}
use Rattle.go_bench_text.proofs.read.read_go_with.Goals as goal

pub returns-clause-only : goal.returns-clause-only
returns-clause-only c = one_answer c.args.bytes.now c.read_text.result c.one_reading_law.ensures c.read_text.ensures.ok c.read_text.ensures.fault
