use Rattle.std.{proofs.Common.take, specs.List.AllZip}
use Rattle.line_text.specs.Names.{Spells}
use Rattle.command_words.specs.Texts.{shown}
use Rattle.command_words.proofs.plan.names_in.Given as goal

abbrev pub invariant-loop-piece : goal.invariant-loop-piece
invariant-loop-piece l = AllZip Spells (take l.piece-index (shown l.pieces)) l.names.items
