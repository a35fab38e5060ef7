use Rattle.go_bench_text.proofs.OneReading.{one_reading}
use Rattle.go_bench_text.proofs.read.one_reading_law.Goals as goal

pub returns : goal.returns
returns c = one_reading c.value_law.ensures.one
