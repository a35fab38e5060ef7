-- No public contract cites this. The journals that scripts are heard by, and a script's ways along them.
use Rattle.std.specs.Prelude.{◌≡◌, ◌+◌, ℕ, List, length, map, slice_get, sum_by, Some}
use Rattle.track_model.specs.Tracks.{Track}
use Rattle.journal_reader.specs.Journals.{Journal, AreDifferent}
use Rattle.play_fits.specs.Scripts.{Exchange, known_after}
use Rattle.audit_model.specs.{Heard.kept_count, Verdicts.track_of}
use Rattle.play_audit.specs.{Places.{IsPlace, IsSound}, declared.place.Place.Place}

abbrev pub tracks_of : List Journal → List Track
tracks_of js = map track_of js

-- journals of different machines, each allowed entry by entry
pub record AreSound (js : List Journal) : Type 0 where
  pub different : AreDifferent js
  pub each : (a : ℕ) (j : Journal) → slice_get js a ≡ Some j → IsSound j.history

-- how many lines they have
abbrev pub lines_in : List Track → ℕ
lines_in ts = sum_by (λ (t : Track). 1 + length t.history) ts

-- a way along the journal of a machine, which knows what these exchanges told of it
pub record IsKnown (js : List Journal) (xs : List Exchange) (j : Journal) (p : Place) : Type 0 where
  pub place : IsPlace j.machine j.history p
  pub known : p.known ≡ known_after (kept_count (tracks_of js) j.machine) j.machine xs

-- and so along each
pub record AreKnown (js : List Journal) (xs : List Exchange) (places : List Place) : Type 0 where
  pub many : length places ≡ length js
  pub each : (a : ℕ) (j : Journal) (p : Place) → slice_get js a ≡ Some j → slice_get places a ≡ Some p → IsKnown js xs j p
