use Rattle.std.proofs.{Common.{inl, inr, refl}, lemmas.Bool.both_ways, lemmas.Result.MatchResult-weaker}
use Rattle.commit_lines.{specs.Ends.end_at, proofs.LineEnds.line_tried}
use Rattle.commit_lines.proofs.line.may_become_name.Goals as goal

pub returns-then-is_skipped : goal.returns-then-is_skipped
returns-then-is_skipped c = (λ is. inl (c.is_skipped.ensures.0 c.if-is_skipped.true), λ may. refl)

pub returns : goal.returns
returns c =
    MatchResult-weaker c.is_tried.result c.is_tried.ensures (λ says told. (
      λ is. let tried = told.0 is in inr (end_at tried.0, tried.2.0, tried.2.1),
      λ may. told.1 (line_tried c.args.line.now c.requires (λ skipped. both_ways c.is_skipped.result c.if-is_skipped.false (c.is_skipped.ensures.1 skipped)) may),
    )) (λ e told. told)
