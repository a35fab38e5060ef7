use Rattle.std.proofs.{Common.rules, lemmas.List.Sorted.answers_always}
use Rattle.series_index.proofs.Sorting.{placed-sorted}
use Rattle.series_index.proofs.log.sort.Goals as goal

pub returns-clause-same : goal.returns-clause-same
returns-clause-same c = placed-sorted _ _ (c.sort_by_key.ensures.stable (λ x. x.commit) (answers_always _ _ _ (λ f a r g h. search rules)))
