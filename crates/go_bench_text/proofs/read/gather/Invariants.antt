use Rattle.std.{proofs.Common.{◌≡◌, ◌≤◌, ◌+◌, length, drop}, specs.Str.IsUtf8}
use Rattle.line_text.specs.Lines.{lines_of}
use Rattle.go_bench_text.proofs.Progress.{Progress}
use Rattle.go_bench_text.proofs.read.gather.Given as goal

abbrev pub invariant-loop-value : goal.invariant-loop-value
invariant-loop-value l = record {
  pkg : IsUtf8 l.pkg;
  rest : IsUtf8 l.rest;
  counted : l.number + length l.rest ≤ length l.text;
  left : drop l.number (lines_of l.text) ≡ lines_of l.rest;
  progress : Progress (lines_of l.text) l.number l.gathered l.pkg l.ignored;
}

abbrev pub decreases-loop-value : goal.decreases-loop-value
decreases-loop-value l = length l.rest
