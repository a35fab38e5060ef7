use Rattle.std.proofs.{Common.{length, arith}, lemmas.Result.err_from_is_err_and, lemmas.Grind.common_steps}
use Rattle.request_reader.proofs.Stops.{needs_now, stops_filling}
use Rattle.request_reader.proofs.need.need_turn.Goals as goal

pub returns-in_err-fill-clause-err : goal.returns-in_err-fill-clause-err
returns-in_err-fill-clause-err g c = grind (arith, common_steps, err_from_is_err_and, length, stops_filling, needs_now)
