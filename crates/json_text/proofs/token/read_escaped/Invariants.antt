use Rattle.std.{proofs.Common.{◌-◌, ◌≤◌, length}, specs.Prelude.string_bytes, specs.Str.IsCharBoundary}
use Rattle.json_text.specs.{declared.state.Within.TheVariants.Plain, Reached.ReadsContent}
use Rattle.json_text.proofs.token.read_escaped.Given as goal

abbrev pub invariant-loop-content : goal.invariant-loop-content
invariant-loop-content l = record {
  low : l.fn.place ≤ l.place;
  boundary : IsCharBoundary l.text l.place;
  reads : ReadsContent l.text l.fn.place l.place Plain Plain (string_bytes l.content);
}

abbrev pub decreases-loop-content : goal.decreases-loop-content
decreases-loop-content l = length l.text - l.place
