use Rattle.std.proofs.Common.{take}
use Rattle.go_bench_text.specs.{Gathering.Gains, Pairs.samples_of}
use Rattle.go_bench_text.proofs.gather.Gathered.add_all.Given as goal

abbrev pub invariant-loop-pair : goal.invariant-loop-pair
invariant-loop-pair l = Gains l.initial.self l.self (samples_of l.test (take l.pair-index l.pairs))
