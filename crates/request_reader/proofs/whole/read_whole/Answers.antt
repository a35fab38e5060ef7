use Rattle.std.proofs.{Common.{take, arith}, lemmas.Result.err_from_is_err_and, lemmas.Grind.common_steps}
use Rattle.request_reader.proofs.{Stops.few_none, Passing.{skips_piece, line_taken}}
use Rattle.request_reader.proofs.whole.read_whole.Goals as goal

pub returns-then-is_skipped-clause-next : goal.returns-then-is_skipped-clause-next
returns-then-is_skipped-clause-next g c = grind (arith, common_steps, line_taken, take, skips_piece)

pub returns-in_err-head-clause-stops : goal.returns-in_err-head-clause-stops
returns-in_err-head-clause-stops g c = grind (arith, common_steps, err_from_is_err_and, few_none)
