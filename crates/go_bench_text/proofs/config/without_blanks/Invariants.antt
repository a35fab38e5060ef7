use Rattle.std.{proofs.Common.{◌≡◌, length}, specs.Str.IsUtf8}
use Rattle.go_bench_text.specs.Lines.{without_blanks}
use Rattle.go_bench_text.proofs.config.without_blanks.Given as goal

abbrev pub invariant-loop-more : goal.invariant-loop-more
invariant-loop-more l = record { text : IsUtf8 l.rest; same : without_blanks l.rest ≡ without_blanks l.text }

abbrev pub decreases-loop-more : goal.decreases-loop-more
decreases-loop-more l = length l.rest
