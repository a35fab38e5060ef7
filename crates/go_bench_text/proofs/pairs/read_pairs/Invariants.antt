use Rattle.std.{proofs.Common.length, specs.Str.IsUtf8}
use Rattle.go_bench_text.{specs.Fields.fields_of, proofs.Taken.Taken}
use Rattle.go_bench_text.proofs.pairs.read_pairs.Given as goal

abbrev pub invariant-loop-value : goal.invariant-loop-value
invariant-loop-value l = record { text : IsUtf8 l.rest; taken : Taken (fields_of l.text) (fields_of l.rest) l.pairs.items }

abbrev pub decreases-loop-value : goal.decreases-loop-value
decreases-loop-value l = length l.rest
