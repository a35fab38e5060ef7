use Rattle.std.{proofs.Common.{◌≡◌, length}, specs.Str.IsUtf8}
use Rattle.go_bench_text.specs.Lines.{without_returns}
use Rattle.go_bench_text.proofs.config.without_returns.Given as goal

abbrev pub invariant-loop-front : goal.invariant-loop-front
invariant-loop-front l = record { text : IsUtf8 l.rest; same : without_returns l.rest ≡ without_returns l.line }

abbrev pub decreases-loop-front : goal.decreases-loop-front
decreases-loop-front l = length l.rest
