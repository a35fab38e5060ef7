-- The text of journals has one reading: it tells each machine and each of its entries.
use Rattle.std.specs.{Prelude.{◌≡◌, List, map}, List.AllByRecursion}
use Rattle.journal_lines.specs.{Lines.HasLines as HasJournalLines, Texts.Journal}
use Rattle.track_model.specs.Tracks.{Track}
use Rattle.journal_text.specs.Journals.{journals_text}

-- what a journal tells of a machine
abbrev pub journal_of : Track → Journal
journal_of t = record { machine = t.machine; history = t.history }

-- a machine whose journal lines can say
abbrev pub HasLines : Track → Type 0
HasLines t = HasJournalLines (journal_of t)

-- machines whose journals have one text have one name and one history each, in one order
abbrev pub HasOneReading : Type 0
HasOneReading = (tracks others : List Track) → AllByRecursion HasLines tracks
    → AllByRecursion HasLines others → journals_text tracks ≡ journals_text others
    → map journal_of tracks ≡ map journal_of others
