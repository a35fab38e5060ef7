-- The scripts of a shared run and their transcripts, closed: what their names have then, and which counts rise.
use Rattle.std.specs.Prelude.{◌≡◌, ◌≢◌, ℕ, ◌+◌, ◌-◌, ◌^◌, ◌≤◌, List, [], ◌∷◌, min, Option, Some, option_map, IfSome, IsSome, unwrap_or, if◌then◌else◌, nat_lt}
use Rattle.std.specs.List.{AllByRecursion}
use Rattle.track_outside.specs.Named.{NamedBytes, bytes_at, with_bytes}
use Rattle.track_outside.specs.declared.files.Files as files
use Rattle.track_outside.specs.declared.source.Source as source
use Rattle.track_outside.specs.declared.sink.Sink as sink
use Rattle.script_files.specs.declared.open.OpenScript.{OpenScript}

-- the transcript can be closed: its name is there, and it tells what it took
pub record IsClosable {I O : Type 0} (o : sink.Ghosts O) (names : List NamedBytes) (s : OpenScript I O)
    : Type 0 where
  pub there : IsSome (bytes_at (o.name s.output) names)
  pub tells : IsSome (o.taken s.output)

-- all of them can be closed, where the files tell their bytes
abbrev pub AreClosable : {I O : Type 0} → sink.Ghosts O → Option (List NamedBytes)
    → List (OpenScript I O) → Type 0
AreClosable o told opened = IfSome told (λ names. AllByRecursion (IsClosable o names) opened)

-- the names, where each transcript has what it took
abbrev pub with_written : {I O : Type 0} → sink.Ghosts O → List (OpenScript I O) → List NamedBytes
    → List NamedBytes
with_written o [] names = names
with_written o (s ∷ opened) names =
    with_written o opened (with_bytes (o.name s.output) (unwrap_or (o.taken s.output) []) names)

-- how many of the inputs failed, and of the outputs
abbrev pub failed_inputs : {I O : Type 0} → source.Ghosts I → List (OpenScript I O) → ℕ
failed_inputs i [] = 0
failed_inputs i (s ∷ opened) = (if nat_lt 0 (i.faults s.input) then 1 else 0) + failed_inputs i opened

abbrev pub failed_outputs : {I O : Type 0} → sink.Ghosts O → List (OpenScript I O) → ℕ
failed_outputs o [] = 0
failed_outputs o (s ∷ opened) =
    (if nat_lt 0 (o.faults s.output) then 1 else 0) + failed_outputs o opened

-- the count rose by so many, or stands at its last value
abbrev pub RoseBy : ℕ → ℕ → ℕ → Type 0
RoseBy n old new = min (old + n) (2 ^ 64 - 1) ≤ new

-- all of them were closed
pub record Closes {F I O : Type 0} (g : files.Ghosts F I O) (i : source.Ghosts I) (o : sink.Ghosts O)
    (opened : List (OpenScript I O)) (old new : F) : Type 0 where
  pub written : g.contents new ≡ option_map (with_written o opened) (g.contents old)
  pub noted : g.asked new ≡ g.asked old
  pub reads : g.read_faults old ≤ g.read_faults new
  pub writes : g.write_faults old ≤ g.write_faults new
  pub reads_rose : RoseBy (failed_inputs i opened) (g.read_faults old) (g.read_faults new)
  pub writes_rose : RoseBy (failed_outputs o opened) (g.write_faults old) (g.write_faults new)

-- ---- what the transcripts' names have then

-- no two of the transcripts have one name
abbrev pub AreApart : {I O : Type 0} → sink.Ghosts O → List (OpenScript I O) → Type 0
AreApart o [] = Unit {0}
AreApart o (s ∷ opened) =
    AllByRecursion (λ other. o.name other.output ≢ o.name s.output) opened × AreApart o opened

-- each transcript's name has what it took, where the files tell their bytes
abbrev pub HaveWritten : {I O : Type 0} → sink.Ghosts O → List (OpenScript I O)
    → Option (List NamedBytes) → Type 0
HaveWritten o opened told =
    IfSome told (λ names.
    AllByRecursion (λ s. bytes_at (o.name s.output) names ≡ o.taken s.output) opened)
