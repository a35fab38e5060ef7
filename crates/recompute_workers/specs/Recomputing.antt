-- What a worker that recomputes adds to a machine.
use Rattle.std.specs.Prelude.{◌≡◌, ◌⊎◌, List, ◌++◌, All}
use Rattle.history_model.specs.declared.{entries.Author.Author, entries.Entry.TheVariants.Publish, entries.Placed.Placed, publication.Publication.Publication}
use Rattle.track_model.specs.Tracks.{Track, with_entry}
use Rattle.track_room.specs.Work.{bare}

-- a publication by this author
pub record IsPublicationBy (author : Author) (p : Placed) : Type 0 where
  pub author_is : p.author ≡ author
  pub publication : Publication
  pub entry_is : p.entry ≡ Publish publication

-- publications by one author were added to a machine, and nothing else; its tables at home may be others
pub record AddsPublications (author : Author) (old new : Track) : Type 0 where
  pub machine : new.machine ≡ old.machine
  pub kept : new.kept ≡ old.kept
  pub more : List Placed
  pub history : new.history ≡ old.history ++ more
  pub each : All (IsPublicationBy author) more

-- one was, or nothing; its tables at home may be others
abbrev pub AddsOne : Author → Track → Track → Type 0
AddsOne author old new = (bare new ≡ bare old)
    ⊎ ((p : Publication) × (bare new ≡ bare (with_entry author old (Publish p))))
