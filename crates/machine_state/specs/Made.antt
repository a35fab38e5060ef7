-- What a finished segmentation has to do with the history that it was made from.
use Rattle.std.specs.Prelude.{◌≡◌, ℕ, ◌≤◌, true, List, length, take}
use Rattle.segment_cost.specs.{Certificate.StandsFor, declared.done.Done.Done}
use Rattle.history_model.specs.declared.{entries.Entry.Entry, entries.Entry.TheVariants.Publish, publication.Publication.Publication}
use Rattle.history_model.specs.{Penalties.setting_of, declared.setting.Setting.Setting, Positions.positions, Publications.IsBaseAt, Runs.is_known}
use Rattle.publication_index.specs.{declared.held.Held.Held, Kept.series_of}
use Rattle.track_model.specs.Publishing.{redone_since}

-- the finished segmentations as an index keeps them
abbrev pub Segmentations : Type 0
Segmentations = List (List ℕ × List (List ℕ × Held))

-- what is published of it
abbrev pub publication_from : Done → Publication
publication_from done =
    record { test = done.test; metric = done.metric; version = done.version; base = done.base; total = done.cert.total; cuts = done.cert.cuts }

-- the entry of a finished segmentation
abbrev pub entry_of : Done → Entry
entry_of done = Publish (publication_from done)

-- the setting at which it was made
abbrev pub setting_in : Done → Setting
setting_in done = record { penalty = done.cert.penalty; length = done.cert.length }

-- it was made from a version of the history at which its series was known: from the positions and the setting that the
-- version gives it, and from the table of a base there
pub record IsMadeFrom (h : List Entry) (done : Done) : Type 0 where
  pub past : done.version ≤ length h
  pub known : is_known (series_of done) (take done.version h) ≡ true
  pub points : done.points ≡ positions (take done.version h) (series_of done)
  pub setting : setting_in done ≡ setting_of done.metric (take done.version h)
  pub based : IsBaseAt (take done.version h) (publication_from done)
  pub redone : done.redone ≡ redone_since (take done.version h) done.base (series_of done)
  pub stands : StandsFor done.points done.cert.penalty done.cert.length done.cert

-- an entry that publishes nothing
abbrev pub IsPlain : Entry → Type 0
IsPlain (Publish p) = ⊥
IsPlain e = Unit {0}
