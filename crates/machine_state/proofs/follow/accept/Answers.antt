use Rattle.std.{proofs.Common.{cond, arith}, specs.List.list_any, proofs.lemmas.Bool.cases_Bool, proofs.lemmas.Grind.common_steps}
use Rattle.history_model.{specs.Runs.is_of, proofs.Lists.filter-none}
use Rattle.machine_state.proofs.follow.accept.Goals as goal

pub returns-in-Err-clause-same_series : goal.returns-in-Err-clause-same_series
returns-in-Err-clause-same_series c s = grind (arith, common_steps, cases_Bool, list_any, is_of, cond, filter-none)
