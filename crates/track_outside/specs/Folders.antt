-- No public contract cites this. Files in memory as their names and calls.
use Rattle.std.specs.Prelude.{◌≡◌, ℕ, ◌<◌, List, [], ◌∷◌, ◌++◌, map, length, slice_set, slice_index_or, Some, None}
use Rattle.track_outside.specs.{declared.mem_files.MemFile.MemFile, declared.mem_files.NotedCall.NotedCall, Named.{NamedBytes, Call, bytes_at, with_bytes}}

abbrev pub file_of : MemFile → NamedBytes
file_of file = record { name = file.name.items; bytes = file.bytes.items }

abbrev pub files_of : List MemFile → List NamedBytes
files_of files = map file_of files

abbrev pub call_of : NotedCall → Call
call_of call = record { creates = call.creates; name = call.name.items; failed = call.failed }

abbrev pub calls_of : List NotedCall → List Call
calls_of calls = map call_of calls

-- the name stands at place i, and its bytes can be set there
pub record IsPlace (name : List ℕ) (files : List NamedBytes) (i : ℕ) : Type 0 where
  pub within : i < length files
  pub named : (other : NamedBytes) → (slice_index_or files i other).name ≡ name
  pub bytes : (other : NamedBytes) → bytes_at name files ≡ Some (slice_index_or files i other).bytes
  pub set : (bytes : List ℕ) → with_bytes name bytes files
      ≡ slice_set files i (record { name = name; bytes = bytes })

-- the name is not there
pub record IsAbsent (name : List ℕ) (files : List NamedBytes) : Type 0 where
  pub none : bytes_at name files ≡ None
  pub added : (bytes : List ℕ) → with_bytes name bytes files
      ≡ files ++ record { name = name; bytes = bytes } ∷ []
