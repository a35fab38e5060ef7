use Rattle.std.{proofs.Common.length, specs.Str.IsUtf8}
use Rattle.go_bench_text.specs.{Fields.fields_of, Lines.ArePairs}
use Rattle.go_bench_text.proofs.fields.are_pairs.Given as goal

abbrev pub invariant-loop-value : goal.invariant-loop-value
invariant-loop-value l = record { text : IsUtf8 l.rest; on : ArePairs (fields_of l.rest) → ArePairs (fields_of l.text); back : ArePairs (fields_of l.text) → ArePairs (fields_of l.rest) }

abbrev pub decreases-loop-value : goal.decreases-loop-value
decreases-loop-value l = length l.rest
