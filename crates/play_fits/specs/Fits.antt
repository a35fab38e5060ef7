-- A whole shared run: what it leaves fits what it began with and what it was given.
use Rattle.std.specs.Prelude.{◌≡◌, ℕ, ◌+◌, Bool, List, length, slice_get, Option, Some}
use Rattle.history_model.specs.declared.entries.Author.TheVariants.{Script}
use Rattle.track_model.specs.Tracks.{Track}
use Rattle.play_fits.specs.{Journals.{machines_of, history_in, AreJournalsOf}, Scripts.IsPart, Workers.{Crew, Asked, IsBisector}}

-- a script: its bytes and its transcript, where they are told, and whether it was answered in full
pub record Played : Type 0 where
  pub script : Option (List ℕ)
  pub transcript : Option (List ℕ)
  pub full : Bool

-- how many entries of a machine were kept
abbrev pub kept_in : List Track → List ℕ → ℕ
kept_in tracks machine = length (history_in tracks machine)

-- what was run: on which machines, by how many workers, with which word, scripts and runners
pub record Play : Type 0 where
  pub tracks : List Track
  pub recompute : ℕ
  pub bisect : ℕ
  pub word : List ℕ
  pub scripts : List Played
  pub runners : List Asked

-- how many scripts and workers there are
abbrev pub crew_of : Play → Crew
crew_of play = record {
  scripts = length play.scripts;
  recompute = play.recompute;
  bisect = play.bisect;
}

-- each worker that bisects has its part in the journals, and so has each runner
abbrev pub Bisected : Play → List Track → Type 0
Bisected play journals =
    (i : ℕ) (r : Asked) → slice_get play.runners i ≡ Some r
    → IsBisector (i + 1) (crew_of play) play.word (machines_of journals) (history_in journals) r

-- The journals fit the run: each goes on from what was kept of its machine, by entries of the scripts
-- and workers alone; and each script has its part in them, and each worker that bisects.
pub record Fits (play : Play) (journals : List Track) : Type 0 where
  pub go_on : AreJournalsOf (crew_of play) play.tracks journals
  pub scripts : (i : ℕ) (s : Played) → slice_get play.scripts i ≡ Some s
      → IsPart (Script (i + 1)) (machines_of journals) (history_in journals) (kept_in play.tracks)
      s.full s.script s.transcript
  pub bisectors : Bisected play journals
