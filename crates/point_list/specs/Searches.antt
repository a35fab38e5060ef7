-- No public contract cites this. Where a commit stands among positions whose commits rise.
use Rattle.std.specs.Prelude.{◌≡◌, ℕ, zero, suc, ◌<◌, ◌≤◌, List, [], ◌∷◌}
use Rattle.segment_model.specs.Segments.{Position}

-- the commits before the place are below this one, and the first from it on is not
abbrev pub StandsAt : ℕ → List Position → ℕ → Type 0
StandsAt commit [] place = place ≡ 0
StandsAt commit (p ∷ points) zero = commit ≤ p.commit
StandsAt commit (p ∷ points) (suc place) = (p.commit < commit) × StandsAt commit points place
