use Rattle.std.{proofs.Common.{rules, subst, List}, specs.List.Sorted.IsPermutation, proofs.lemmas.List.Sorted.IsNonDecreasingBy-from_sort_by_key}
use Rattle.journal_walk.specs.declared.needs.Need.{Need}
use Rattle.journal_walk.proofs.needs.plan_of.Goals as goal

pub returns : goal.returns
returns c = record {
  same = subst (λ (l : List Need). IsPermutation l c.sort_by_key.new.self.items) c.in_ok-needs.ensures c.in_ok-sort_by_key.ensures.permutation;
  sorted = IsNonDecreasingBy-from_sort_by_key (λ (n : Need). n.at) c.sort_by_key.new.self.items c.in_ok-sort_by_key.ensures.sorted (λ a r q k. search rules);
}
