-- The files of an audit, and the calls that open them.
use Rattle.std.specs.Prelude.{◌≡◌, ◌⊎◌, ℕ, ◌≤◌, length, true, false, List, [], ◌∷◌, ◌++◌, take, slice_get, Option, Some, option_map, IfSome, IsSome, Result, Ok, Err}
use Rattle.std.specs.List.{AllZip}
use Rattle.track_outside.specs.{Counts.Rose, Named.{NamedBytes, Call, bytes_at}}
use Rattle.track_outside.specs.declared.files.Files as files
use Rattle.track_outside.specs.declared.source.Source as source
use Rattle.command_words.specs.Plans.{transcript_of}
use Rattle.audit_command.specs.declared.end.{FileStop.FileStop, AuditEnd.AuditEnd, AuditEnd.TheVariants.Unread}
use Rattle.audit_command.specs.declared.end.FileStop.TheVariants as stop

-- ---- the files, in the order in which they are opened

-- each script, and behind it its transcript
abbrev pub files_of : List (List ℕ) → List (List ℕ)
files_of [] = []
files_of (script ∷ scripts) = script ∷ transcript_of script ∷ files_of scripts

-- the file with the journals, and then those
abbrev pub names_of : (journal : List ℕ) (scripts : List (List ℕ)) → List (List ℕ)
names_of journal scripts = journal ∷ files_of scripts

-- ---- calls

abbrev pub opening : List ℕ → Call
opening name = record { creates = false; name = name; failed = false }

-- the calls that open files of these names, in order
abbrev pub calls_for : List (List ℕ) → List Call
calls_for [] = []
calls_for (name ∷ names) = opening name ∷ calls_for names

-- so many of the calls answered, and the next one failed
pub record FailsAt (due made : List Call) : Type 0 where
  pub place : ℕ
  pub call : Call
  pub next : slice_get due place ≡ Some call
  pub up_to : made ≡ take place due ++ record call { failed = true } ∷ []

-- some of the calls answered, the first ones
abbrev pub AreFirst : List Call → List Call → Type 0
AreFirst due made = (n : ℕ) × (n ≤ length due) × (made ≡ take n due)

-- the calls that are due were made, each once, up to the first that failed; want of memory may come
-- before each of them
abbrev pub AreMade : List Call → Result (Unit {0}) FileStop → List Call → Type 0
AreMade due (Ok done) made = made ≡ due
AreMade due (Err stop.ReadFault) made = FailsAt due made
AreMade due (Err (stop.TooLong place)) made = ⊥
AreMade due (Err stop.NoMemory) made = AreFirst due made

-- so it was at this end of an audit: a fault came when a file was opened, or when all were open
abbrev pub WereMade : List Call → AuditEnd → List Call → Type 0
WereMade due (Unread stop.ReadFault) made = (made ≡ due) ⊎ FailsAt due made
WereMade due (Unread stop.NoMemory) made = AreFirst due made
WereMade due end made = made ≡ due

-- the count of reading rose where it failed
abbrev pub RoseAt : {F I O : Type 0} → files.Ghosts F I O → F → F → Result (Unit {0}) FileStop
    → Type 0
RoseAt g old new (Err stop.ReadFault) = Rose (g.read_faults old) (g.read_faults new)
RoseAt g old new result = Unit {0}

-- files of these names were opened, with this result
pub record Asks {F I O : Type 0} (g : files.Ghosts F I O) (names : List (List ℕ)) (old new : F)
    (result : Result (Unit {0}) FileStop) : Type 0 where
  pub made : List Call
  pub due : AreMade (calls_for names) result made
  pub noted : g.asked new ≡ option_map (λ calls. calls ++ made) (g.asked old)
  pub rose : RoseAt g old new result

-- nothing was written, and no count fell
pub record IsKept {F I O : Type 0} (g : files.Ghosts F I O) (old new : F) : Type 0 where
  pub same : g.contents new ≡ g.contents old
  pub reads : g.read_faults old ≤ g.read_faults new
  pub writes : g.write_faults new ≡ g.write_faults old

-- ---- what is open

-- a file of this name is open, with the bytes that its name has
abbrev pub IsOpen : {I : Type 0} → source.Ghosts I → Option (List NamedBytes) → List ℕ → I → Type 0
IsOpen i told name input =
    IfSome told (λ files. IsSome (bytes_at name files) × (i.left input ≡ bytes_at name files))

-- files of these names are open behind those that were
pub record OpensMore {I : Type 0} (i : source.Ghosts I) (told : Option (List NamedBytes))
    (names : List (List ℕ)) (old new : List I) : Type 0 where
  pub more : List I
  pub grown : new ≡ old ++ more
  pub are_open : AllZip (IsOpen i told) names more
