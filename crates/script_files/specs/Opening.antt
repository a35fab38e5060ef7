-- The scripts of a shared run and their transcripts, opened: the calls that are made, and what is open then.
use Rattle.std.specs.Prelude.{◌≡◌, ℕ, ◌<◌, ◌≤◌, length, Bool, true, false, List, [], ◌∷◌, ◌++◌, take, slice_get, Option, Some, option_map, IfSome, IsSome, Result, Ok, Err}
use Rattle.track_outside.specs.{Counts.Rose, Named.{NamedBytes, Call, bytes_at, with_bytes}}
use Rattle.track_outside.specs.declared.files.Files as files
use Rattle.track_outside.specs.declared.source.Source as source
use Rattle.track_outside.specs.declared.sink.Sink as sink
use Rattle.command_words.specs.Plans.{transcript_of}
use Rattle.script_files.specs.declared.open.{OpenFault.OpenFault, OpenFault.TheVariants.{ReadFault, WriteFault, NoMemory}, OpenScript.OpenScript}

-- ---- calls

abbrev pub opening : List ℕ → Call
opening script = record { creates = false; name = script; failed = false }

abbrev pub creating : List ℕ → Call
creating script = record { creates = true; name = transcript_of script; failed = false }

-- the calls that open each script and create its transcript, in order
abbrev pub calls_for : List (List ℕ) → List Call
calls_for [] = []
calls_for (script ∷ scripts) = opening script ∷ creating script ∷ calls_for scripts

-- so many of the calls answered, and the next one, which was to create or to open, failed
pub record FailsAt (creates : Bool) (due made : List Call) : Type 0 where
  pub place : ℕ
  pub call : Call
  pub next : slice_get due place ≡ Some call
  pub kind : call.creates ≡ creates
  pub up_to : made ≡ take place due ++ record call { failed = true } ∷ []

-- the calls that are due were made, each once, up to the first that failed; want of memory may come
-- before each of them
abbrev pub AreMade : List Call → Result (Unit {0}) OpenFault → List Call → Type 0
AreMade due (Ok done) made = made ≡ due
AreMade due (Err ReadFault) made = FailsAt false due made
AreMade due (Err WriteFault) made = FailsAt true due made
AreMade due (Err NoMemory) made = (n : ℕ) × (n < length due) × (made ≡ take n due)

-- ---- counts

-- which count rose at a fault
abbrev pub HasRisen : {F I O : Type 0} → files.Ghosts F I O → F → F → OpenFault → Type 0
HasRisen g old new ReadFault = Rose (g.read_faults old) (g.read_faults new)
HasRisen g old new WriteFault = Rose (g.write_faults old) (g.write_faults new)
HasRisen g old new NoMemory = Unit {0}

abbrev pub RoseAt : {F I O : Type 0} → files.Ghosts F I O → F → F → Result (Unit {0}) OpenFault
    → Type 0
RoseAt g old new (Ok done) = Unit {0}
RoseAt g old new (Err fault) = HasRisen g old new fault

-- the files were asked for the scripts and their transcripts, with this result
pub record Asks {F I O : Type 0} (g : files.Ghosts F I O) (scripts : List (List ℕ)) (old new : F)
    (result : Result (Unit {0}) OpenFault) : Type 0 where
  pub made : List Call
  pub due : AreMade (calls_for scripts) result made
  pub noted : g.asked new ≡ option_map (λ calls. calls ++ made) (g.asked old)
  pub reads : g.read_faults old ≤ g.read_faults new
  pub writes : g.write_faults old ≤ g.write_faults new
  pub rose : RoseAt g old new result

-- ---- what is open

-- a script is open, with the bytes that its name has, and its transcript, which has none
pub record IsOpen {I O : Type 0} (i : source.Ghosts I) (o : sink.Ghosts O)
    (told : Option (List NamedBytes)) (script : List ℕ) (s : OpenScript I O) : Type 0 where
  pub left : IfSome told (λ names. i.left s.input ≡ bytes_at script names)
  pub there : IfSome told (λ names. IsSome (bytes_at script names))
  pub unread : i.faults s.input ≡ 0
  pub name : o.name s.output ≡ transcript_of script
  pub empty : IfSome (o.taken s.output) (λ bytes. bytes ≡ [])
  pub tells : IfSome told (λ names. IsSome (o.taken s.output))
  pub unwritten : o.faults s.output ≡ 0

-- the names with the script's transcript, which has no bytes
abbrev pub with_transcript : List ℕ → Option (List NamedBytes) → Option (List NamedBytes)
with_transcript script told = option_map (with_bytes (transcript_of script) []) told

-- the names with the transcripts of all scripts, which have no bytes
abbrev pub with_transcripts : List (List ℕ) → Option (List NamedBytes) → Option (List NamedBytes)
with_transcripts [] told = told
with_transcripts (script ∷ scripts) told = with_transcripts scripts (with_transcript script told)

-- the scripts are open, each as the names were when it was opened
abbrev pub AreOpen : {I O : Type 0} → source.Ghosts I → sink.Ghosts O → Option (List NamedBytes)
    → List (List ℕ) → List (OpenScript I O) → Type 0
AreOpen i o told [] [] = Unit {0}
AreOpen i o told (script ∷ scripts) (s ∷ opened) =
    IsOpen i o told script s × AreOpen i o (with_transcript script told) scripts opened
AreOpen i o told scripts opened = ⊥

-- the scripts are open behind those that were
pub record OpensMore {I O : Type 0} (i : source.Ghosts I) (o : sink.Ghosts O)
    (told : Option (List NamedBytes)) (scripts : List (List ℕ)) (old new : List (OpenScript I O))
    : Type 0 where
  pub more : List (OpenScript I O)
  pub grown : new ≡ old ++ more
  pub are_open : AreOpen i o told scripts more
