-- What files tell: the bytes of each name, and the calls that were made.
use Rattle.std.specs.Prelude.{◌≡◌, ◌⊎◌, Contains, ℕ, zero, suc, Bool, true, false, bytes_eq, if◌then◌else◌, List, [], ◌∷◌, ◌++◌, Option, Some, None, Result, Ok, Err, option_map}
use Rattle.track_outside.specs.{Counts.one_more, Memory.{Input, Output, new_input, named_output}, declared.out_error.OutError.OutError}
use Rattle.track_outside.specs.declared.out_error.OutError.TheVariants.{Failed, NoMemory}

-- a name that is there, with its bytes
pub record NamedBytes : Type 0 where
  pub name : List ℕ
  pub bytes : List ℕ

-- the bytes of a name, if it is there
abbrev pub bytes_at : List ℕ → List NamedBytes → Option (List ℕ)
bytes_at name [] = None
bytes_at name (file ∷ files) =
    if bytes_eq file.name name then Some file.bytes else bytes_at name files

-- the names with these bytes for one of them, which comes last where it is not there
abbrev pub with_bytes : List ℕ → List ℕ → List NamedBytes → List NamedBytes
with_bytes name bytes [] = record { name = name; bytes = bytes } ∷ []
with_bytes name bytes (file ∷ files) =
    if bytes_eq file.name name
    then record { name = name; bytes = bytes } ∷ files
    else file ∷ with_bytes name bytes files

-- a call: whether it was a create, else an open; its name; and whether it failed
pub record Call : Type 0 where
  pub creates : Bool
  pub name : List ℕ
  pub failed : Bool

-- the calls with one more, where it answered, if only that it failed
abbrev pub with_call : {A : Type 0} → Bool → List ℕ → Result A OutError → Option (List Call)
    → Option (List Call)
with_call creates name (Ok made) told =
    option_map
    (λ calls. calls ++ record { creates = creates; name = name; failed = false } ∷ [])
    told
with_call creates name (Err Failed) told =
    option_map
    (λ calls. calls ++ record { creates = creates; name = name; failed = true } ∷ [])
    told
with_call creates name (Err NoMemory) told = told

-- files in memory: the names with their bytes, the calls, the room of each output, the numbers of
-- the opens and creates that fail, counted from 1, how many of these there were, and how often
-- reading and writing failed
pub record Folder : Type 0 where
  pub files : List NamedBytes
  pub calls : List Call
  pub room : ℕ
  pub fails : List ℕ
  pub asked : ℕ
  pub read_faults : ℕ
  pub write_faults : ℕ

-- no names, before the first call
abbrev pub new_folder : ℕ → List ℕ → Folder
new_folder room fails =
    record {
      files = [];
      calls = [];
      room = room;
      fails = fails;
      asked = 0;
      read_faults = 0;
      write_faults = 0;
    }

-- the next open or create is planned to fail
abbrev pub IsPlanned : Folder → Type 0
IsPlanned folder = Contains folder.fails (one_more folder.asked)

-- one open or create more
abbrev pub noted : Bool → List ℕ → Bool → Folder → Folder
noted creates name failed folder =
    record folder {
      calls = folder.calls ++ record { creates = creates; name = name; failed = failed } ∷ [];
      asked = one_more folder.asked;
    }

-- what `open_input` makes of files in memory: it fails exactly where it is planned to or the name
-- is not there; else it gives an input of the name's bytes. Want of memory changes nothing
abbrev pub Opens : List ℕ → Folder → Folder → Result Input OutError → Type 0
Opens name old new (Ok input) =
    (¬ IsPlanned old)
    × (bytes_at name old.files ≡ Some input.left)
    × (input ≡ new_input input.left [])
    × (new ≡ noted false name false old)
Opens name old new (Err Failed) =
    (IsPlanned old ⊎ (bytes_at name old.files ≡ None))
    × (new ≡ record (noted false name true old) { read_faults = one_more old.read_faults })
Opens name old new (Err NoMemory) = new ≡ old

-- what `create_output` makes of files in memory: it fails exactly where it is planned to; else it
-- gives an output of that name, which is then there and has no bytes. Want of memory changes
-- nothing
abbrev pub Creates : List ℕ → Folder → Folder → Result Output OutError → Type 0
Creates name old new (Ok output) =
    (¬ IsPlanned old)
    × (output ≡ named_output name old.room [])
    × (new ≡ record (noted true name false old) { files = with_bytes name [] old.files })
Creates name old new (Err Failed) =
    IsPlanned old
    × (new ≡ record (noted true name true old) { write_faults = one_more old.write_faults })
Creates name old new (Err NoMemory) = new ≡ old

-- a count, raised where an object that is closed had faults
abbrev pub raised_by : ℕ → ℕ → ℕ
raised_by zero count = count
raised_by (suc faults) count = one_more count

-- how often reading and writing failed
pub record Faults : Type 0 where
  pub read : ℕ
  pub write : ℕ

-- what is seen of a stream or a file that is written to: its name, empty where it has none, and how
-- often it failed
pub record Outflow : Type 0 where
  pub name : List ℕ
  pub faults : ℕ
