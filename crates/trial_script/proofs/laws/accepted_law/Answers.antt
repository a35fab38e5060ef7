use Rattle.trial_script.{specs.Accepted.EachIsAccepted, proofs.AllAccepted.{each_is_accepted, none_is_refused}}
use Rattle.trial_script.proofs.laws.accepted_law.Goals.{After-publish_law}
use Rattle.trial_script.proofs.laws.accepted_law.Goals as goal

each : (c : After-publish_law) → EachIsAccepted
each c =
    each_is_accepted
    c.growth_law.ensures.declarations c.growth_law.ensures.acceptances c.growth_law.ensures.retractions c.publication_law.ensures.cuts
    c.setting_law.ensures.stays
    c.limits_law.ensures.commit c.commit_law.ensures.added c.limits_law.ensures.tune c.tune_law.ensures.added c.tune_law.ensures.follows c.setting_law.ensures.set c.limits_law.ensures.retract c.retract_law.ensures.added
    c.positions_law.ensures.values c.accept_law.ensures.counts c.accept_law.ensures.samples c.accept_law.ensures.positions c.within_law.ensures.kept c.within_law.ensures.run
    c.limits_law.ensures.publish c.publish_law.ensures.added c.limits_law.ensures.series c.publication_law.ensures.last

pub returns-clause-requests : goal.returns-clause-requests
returns-clause-requests c = each (goal.at.returns-clause-requests c).After-publish_law

pub returns-clause-output : goal.returns-clause-output
returns-clause-output c = none_is_refused (each (goal.at.returns-clause-output c).After-publish_law) c.script_law.ensures.whole
