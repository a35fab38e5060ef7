use Rattle.go_bench_text.proofs.Settings.{split_none}
use Rattle.go_bench_text.proofs.config.split_key.Goals as goal

pub returns-clause-none : goal.returns-clause-none
returns-clause-none c = split_none c.args.text.now c.split_once.result c.split_once.ensures.cases
