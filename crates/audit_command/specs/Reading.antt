-- No public contract cites this. What was read of files that are open.
use Rattle.std.specs.{Prelude.{◌≡◌, ℕ, ◌+◌, ◌-◌, ◌<◌, ◌≤◌, zero, suc, List, [], ◌∷◌, ◌++◌, length, sum_by, IfSome}, List.AllZip}
use Rattle.std.specs.Io.KnownBytes.{prepend_known, IsAtEnd}
use Rattle.track_outside.specs.Counts.{Rose}
use Rattle.track_outside.specs.declared.files.Files as files
use Rattle.track_outside.specs.declared.source.Source as source
use Rattle.audit_command.specs.declared.end.FileStop.{FileStop, TheVariants.{ReadFault, TooLong, NoMemory}}

-- ---- one file

-- some bytes were read behind others, so many, and no more than there is room for: none at the end
pub record ReadsMore {I : Type 0} (i : source.Ghosts I) (old new : I) (before after : List ℕ)
    (room count : ℕ) : Type 0 where
  pub piece : List ℕ
  pub grown : after ≡ before ++ piece
  pub gave : i.left old ≡ prepend_known piece (i.left new)
  pub counted : count ≡ length piece
  pub fits : length after ≤ room
  pub end : count ≡ 0 → IsAtEnd (i.left new)

-- why no more is read behind so many bytes: at a fault the count rose; else there are more bytes than
-- there is room for
abbrev pub StopsBehind : {I : Type 0} → source.Ghosts I → I → I → (before room place : ℕ) → FileStop → Type 0
StopsBehind i old new before room place ReadFault = Rose (i.faults old) (i.faults new)
StopsBehind i old new before room place (TooLong p) =
    (p ≡ place) × IfSome (i.left old) (λ bytes. room < before + length bytes)
StopsBehind i old new before room place NoMemory = Unit {0}

-- these bytes were read since the first state
pub record HasRead {I : Type 0} (i : source.Ghosts I) (first now : I) (text : List ℕ) (room : ℕ)
    : Type 0 where
  pub gave : i.left first ≡ prepend_known text (i.left now)
  pub fits : length text ≤ room
  pub counts : i.faults first ≤ i.faults now

-- the text is all that the file has
abbrev pub IsTextOf : {I : Type 0} → source.Ghosts I → I → List ℕ → Type 0
IsTextOf i input text = IfSome (i.left input) (λ bytes. bytes ≡ text)

-- ---- all files

-- the file at a place, from 0, is the first with which these have more bytes than there is room for
abbrev pub IsPast : {I : Type 0} → source.Ghosts I → List I → (room place : ℕ) → Type 0
IsPast i [] room place = ⊥
IsPast i (x ∷ inputs) room zero = IfSome (i.left x) (λ bytes. room < length bytes)
IsPast i (x ∷ inputs) room (suc place) =
    IfSome (i.left x) (λ bytes. (length bytes ≤ room) × IsPast i inputs (room - length bytes) place)

-- all files were read behind some texts
pub record ReadsAll {I : Type 0} (i : source.Ghosts I) (inputs : List I) (room : ℕ)
    (old new : List (List ℕ)) : Type 0 where
  pub more : List (List ℕ)
  pub grown : new ≡ old ++ more
  pub are : AllZip (IsTextOf i) inputs more
  pub fits : sum_by length more ≤ room

-- why they aren't, behind so many texts
abbrev pub StopsAll : {F I O : Type 0} → files.Ghosts F I O → source.Ghosts I → List I → (room count : ℕ)
    → F → F → FileStop → Type 0
StopsAll g i inputs room count old new ReadFault = Rose (g.read_faults old) (g.read_faults new)
StopsAll g i inputs room count old new (TooLong p) =
    (before : ℕ) × (p ≡ count + before + 1) × IsPast i inputs room before
StopsAll g i inputs room count old new NoMemory = Unit {0}
