use Rattle.history_model.{specs.Commits.declaration, specs.Runs.{acceptance, retraction}, proofs.Chosen.chosen-push, proofs.Growth.legal-push}
use Rattle.history_model.proofs.laws.growth_law.Goals as goal

pub returns-clause-declarations : goal.returns-clause-declarations
returns-clause-declarations c = chosen-push declaration

pub returns-clause-acceptances : goal.returns-clause-acceptances
returns-clause-acceptances c = chosen-push acceptance

pub returns-clause-retractions : goal.returns-clause-retractions
returns-clause-retractions c = chosen-push retraction

pub returns-clause-legal : goal.returns-clause-legal
returns-clause-legal c = legal-push
