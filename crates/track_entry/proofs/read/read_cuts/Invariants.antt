use Rattle.std.proofs.Common.{◌≡◌, ℕ, ◌≤◌, ◌<◌, ◌-◌, ◌^◌, List, All, length, drop, map, decimal}
use Rattle.line_text.specs.Lines.{words_of}
use Rattle.track_entry.proofs.OneByOne.{Rest}
use Rattle.track_entry.proofs.read.read_cuts.Given as goal

-- what is read so far are the first of the cuts that the words spell
abbrev pub invariant-loop-cuts : goal.invariant-loop-cuts
invariant-loop-cuts l =
    (l.place ≤ length l.text)
    × ((all : List ℕ) → All (λ c. c < 2 ^ 64) all → words_of (drop l.fn.at l.text) ≡ map decimal all
    → Rest (map decimal) all l.cuts (words_of (drop l.place l.text)))

abbrev pub decreases-loop-cuts : goal.decreases-loop-cuts
decreases-loop-cuts l = length l.text - l.place
