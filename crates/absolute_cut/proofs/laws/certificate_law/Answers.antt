use Rattle.absolute_cut.{specs.Certificate.distances_between, proofs.Certificates.{cost-unique, computed, standing}}
use Rattle.absolute_cut.proofs.laws.certificate_law.Goals as goal

pub returns-clause-unique : goal.returns-clause-unique
returns-clause-unique c = cost-unique

pub returns-clause-stands : goal.returns-clause-stands
returns-clause-stands c points penalty len cert is = record {
  cost = distances_between points;
  is_cost = computed c.absolute_law.ensures.least c.values_law.ensures.of_points points;
  certificate = is;
}

pub returns-clause-standing : goal.returns-clause-standing
returns-clause-standing c =
    standing c.absolute_law.ensures.least c.values_law.ensures.of_points c.agreeing_costs_law.ensures.best c.agreeing_costs_law.ensures.table
