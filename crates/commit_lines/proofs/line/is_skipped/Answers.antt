use Rattle.std.proofs.Common.{inl}
use Rattle.commit_lines.proofs.line.is_skipped.Goals as goal

pub returns-then-begins_with_hash : goal.returns-then-begins_with_hash
returns-then-begins_with_hash c = (λ is. inl (c.begins_with_hash.ensures.0 c.if-begins_with_hash.true), λ skipped. c.if-begins_with_hash.true)
