use Rattle.std.proofs.lemmas.{Bool.both_ways, Result.MatchResult-weaker}
use Rattle.commit_lines.proofs.Words.{good_may}
use Rattle.commit_lines.proofs.line.may_go.Goals as goal

pub returns-then-ends_with_space : goal.returns-then-ends_with_space
returns-then-ends_with_space c =
    MatchResult-weaker c.is_good.result c.is_good.ensures (λ good told. (
      λ is. good_may c.args.names.now.keys c.args.line.now (told.0 is),
      λ may. told.1 (may.ended (c.ends_with_space.ensures.0 c.if-ends_with_space.true)),
    )) (λ e told. told)

pub may_become_name-requires : goal.may_become_name-requires
may_become_name-requires c ends = both_ways c.ends_with_space.result c.if-ends_with_space.false (c.ends_with_space.ensures.1 ends)
