use Rattle.std.proofs.Common.{◌≡◌, ◌+◌, ◌-◌, ◌<◌, ◌≤◌, false, get_or, length}
use Rattle.json_text.specs.{Classes.is_blank, Machine.own_level, Places.most_levels, Reached.Stands, States.{mode_of, frames_of}}
use Rattle.json_text.proofs.reading.read_source.Given as goal

-- the machine stands where the next token begins
abbrev pub invariant-loop-place : goal.invariant-loop-place
invariant-loop-place l = record {
  stands : Stands l.text l.place (mode_of l.awaits, frames_of l.open.items);
  room : own_level (mode_of l.awaits) + length l.open.items ≤ most_levels;
  high : l.place ≤ length l.text;
  black : l.place < length l.text → is_blank (get_or l.text l.place 0) ≡ false;
}

abbrev pub decreases-loop-place : goal.decreases-loop-place
decreases-loop-place l = length l.text - l.place
