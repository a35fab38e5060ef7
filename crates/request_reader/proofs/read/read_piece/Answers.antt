use Rattle.std.proofs.{Common.arith, lemmas.Grind.common_steps}
use Rattle.request_reader.proofs.{Stops.fails_gain, Moving.piece_gain}
use Rattle.request_reader.proofs.read.read_piece.Goals as goal

pub returns-in-Feed-clause-next : goal.returns-in-Feed-clause-next
returns-in-Feed-clause-next g c = grind (arith, common_steps, piece_gain)

pub returns-in-Feed-clause-stops : goal.returns-in-Feed-clause-stops
returns-in-Feed-clause-stops g c = grind (arith, common_steps, fails_gain)
