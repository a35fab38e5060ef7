use Rattle.track_model.proofs.Forms.{commits-full, commit-steps-full, commit-added}
use Rattle.track_model.proofs.laws.commit_law.Goals as goal

pub returns-clause-commits_full : goal.returns-clause-commits_full
returns-clause-commits_full c = commits-full c.within_law.ensures.passed c.within_law.ensures.kept c.growth_law.ensures.declarations

pub returns-clause-steps_full : goal.returns-clause-steps_full
returns-clause-steps_full c = commit-steps-full c.within_law.ensures.passed c.within_law.ensures.kept c.growth_law.ensures.declarations

pub returns-clause-added : goal.returns-clause-added
returns-clause-added c = commit-added c.within_law.ensures.passed c.within_law.ensures.kept c.growth_law.ensures.declarations
