-- A machine once a snapshot of a series was taken.
use Rattle.std.proofs.{Common.{◌≡◌, List, ℕ, ap, ◌∙◌, arith}, lemmas.Grind.common_steps}
use Rattle.history_model.specs.{Entries.entries_of, Runs.Series}
use Rattle.track_model.specs.Tracks.{IsSameButTables, Track, with_taken}
use Rattle.track_step.proofs.Segmenting.{taken-history, taken-tables}
use Rattle.touch_index.specs.Marks.{Entries}
use Rattle.track_state.specs.{Covering.MakeSame, Taking.IsBegunOn, Work.{IsSame, Work, bare}}

-- its history is what it was
pub entries-taken : (t : Track) (s : Series) (new : Track) → new ≡ with_taken s t → entries_of new.history ≡ entries_of t.history
entries-taken t s new is = ap (λ (u : Track). entries_of u.history) is ∙ ap entries_of (taken-history t s)

-- and all but its tables
pub bare-same : (t u : Track) → IsSameButTables t u → bare u ≡ bare t
bare-same t u is = grind (arith, common_steps)

pub bare-taken : (t : Track) (s : Series) (new : Track) → new ≡ with_taken s t → bare new ≡ bare t
bare-taken t s new is = ap bare is ∙ bare-same t (with_taken s t) (taken-tables t s)

-- a state whose claims its marks make as before
pub is-same : (old : Work) (track track' : Track) (a b : Entries) (jobs : List ℕ) → record { track = track; marks = a; jobs = jobs } ≡ old → track' ≡ track
    → MakeSame (entries_of track.history) a b → IsSame old (record { track = track'; marks = b; jobs = jobs })
is-same old track track' a b jobs view is same = grind (arith, common_steps)

pub is-begun : (old : Work) (track track' : Track) (a b : Entries) (jobs : List ℕ) (s : Series) → record { track = track; marks = a; jobs = jobs } ≡ old → track' ≡ with_taken s track
    → MakeSame (entries_of track.history) a b → IsBegunOn old s (record { track = track'; marks = b; jobs = jobs })
is-begun old track track' a b jobs s view is same = grind (arith, common_steps)
