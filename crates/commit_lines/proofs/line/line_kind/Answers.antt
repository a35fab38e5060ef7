use Rattle.std.proofs.Common.{inl, inr}
use Rattle.commit_lines.proofs.line.line_kind.Goals as goal

pub returns-then-begins_with_hash : goal.returns-then-begins_with_hash
returns-then-begins_with_hash c = inl (c.begins_with_hash.ensures.0 c.if-begins_with_hash.true)

pub returns-in_default : goal.returns-in_default
returns-in_default c = inr c.in_default.ensures.none
