use Rattle.std.{proofs.Common.{◌≡◌, ◌++◌, length}, specs.List.slice_split}
use denote.Shadow.{shadow}
use denote.Text.{Utf8}
use Rattle.command_words.specs.{Plans.is_comma, Texts.shown}
use Rattle.command_words.proofs.texts.pieces_of.Given as goal

abbrev pub decreases-loop-piece : goal.decreases-loop-piece
decreases-loop-piece l = length l.rest

abbrev pub invariant-loop-piece : goal.invariant-loop-piece
invariant-loop-piece l = shadow (Utf8 l.rest) × (slice_split is_comma l.list ≡ shown l.pieces.items ++ slice_split is_comma l.rest)
