-- How an audit ends, on its objects.
use Rattle.std.specs.{Prelude.{◌≡◌, ℕ, ◌+◌, ◌^◌, ◌<◌, ◌≤◌, List, [], ◌∷◌, ◌++◌, length, sum_by, take, Option, Some, option_map, unwrap_or, IfSome}, List.AllZip}
use Rattle.track_outside.specs.{Calls.{Took, FailedIn, IsUntouched}, Counts.Rose, Named.{NamedBytes, Call, bytes_at}}
use Rattle.track_outside.specs.declared.files.Files as files
use Rattle.track_outside.specs.declared.sink.Sink as sink
use Rattle.audit_model.specs.{Verdicts.{IsCutOff, IsVerdict, NoneCutOff}, declared.heard.Heard.Heard, declared.verdict.Verdict.Verdict}
use Rattle.audit_model.specs.declared.verdict.AuditStop.TheVariants as audit
use Rattle.audit_model.specs.declared.verdict.Verdict.TheVariants as verdict
use Rattle.audit_command.specs.declared.end.AuditEnd.{AuditEnd, TheVariants.{Done, Differs, Unread, NoVerdict, WriteFault}}
use Rattle.audit_command.specs.declared.end.FileStop.TheVariants as stop
use Rattle.audit_command.specs.{Opening.{IsKept, WereMade, calls_for, names_of}, Text.shown_text}

-- ---- what the files have

-- the file of this name has this text
abbrev pub HasText : List NamedBytes → List ℕ → List ℕ → Type 0
HasText files name text = bytes_at name files ≡ Some text

-- files of these names have these texts, where they tell their bytes, and no more than may be read
pub record HaveAll (told : Option (List NamedBytes)) (names texts : List (List ℕ)) : Type 0 where
  pub many : length texts ≡ length names
  pub are : IfSome told (λ files. AllZip (HasText files) names texts)
  pub fits : sum_by length texts ≤ 2 ^ 30

-- each script, and behind it its transcript
abbrev pub texts_of : List Heard → List (List ℕ)
texts_of [] = []
texts_of (x ∷ heard) = x.script ∷ x.transcript ∷ texts_of heard

-- these are the texts of the journals and of the scripts with their transcripts
pub record AreTexts (told : Option (List NamedBytes)) (journal : List ℕ) (scripts : List (List ℕ))
    (bytes : List ℕ) (heard : List Heard) : Type 0 where
  pub many : length heard ≡ length scripts
  pub have : HaveAll told (names_of journal scripts) (bytes ∷ texts_of heard)

-- how many bytes files of these names have together
abbrev pub size_of : List NamedBytes → List (List ℕ) → ℕ
size_of files names = sum_by (λ name. length (unwrap_or (bytes_at name files) [])) names

-- the file at this place, from 1, is the first with which the files have more bytes together than may
-- be read
pub record IsPastAt (files : List NamedBytes) (names : List (List ℕ)) (place : ℕ) : Type 0 where
  pub before : ℕ
  pub number : place ≡ before + 1
  pub there : before < length names
  pub fits : size_of files (take before names) ≤ 2 ^ 30
  pub past : 2 ^ 30 < size_of files (take place names)

-- ---- the files

-- why it ends so, as far as the files tell: at a fault of reading their count rose
abbrev pub HasCause : {F I O : Type 0} → files.Ghosts F I O → List (List ℕ) → F → F → AuditEnd → Type 0
HasCause g names old new (Unread stop.ReadFault) = Rose (g.read_faults old) (g.read_faults new)
HasCause g names old new (Unread (stop.TooLong place)) =
    IfSome (g.contents old) (λ files. IsPastAt files names place)
HasCause g names old new end = Unit {0}

-- the files, at this end: each was opened once, in order, up to the first that failed; nothing was
-- written
pub record EndsFiles {F I O : Type 0} (g : files.Ghosts F I O) (names : List (List ℕ)) (old new : F)
    (end : AuditEnd) : Type 0 where
  pub made : List Call
  pub were : WereMade (calls_for names) end made
  pub noted : g.asked new ≡ option_map (λ calls. calls ++ made) (g.asked old)
  pub kept : IsKept g old new
  pub cause : HasCause g names old new end

-- ---- the verdict

-- the files don't fit together
abbrev pub IsOther : Verdict → Type 0
IsOther (verdict.Shown machines steps requests) = ⊥
IsOther other = Unit {0}

-- the output, at this end, where these bytes and scripts were read: the line of files that fit, or a
-- first part of it where the output failed, and else nothing; a verdict comes where no script is cut
-- off
abbrev pub EndsVerdict : {O : Type 0} → sink.Ghosts O → List ℕ → List Heard → O → O → AuditEnd → Type 0
EndsVerdict h bytes heard old new Done =
    (machines : ℕ) × (steps : ℕ) × (requests : ℕ) × NoneCutOff heard
    × IsVerdict bytes heard (verdict.Shown machines steps requests)
    × Took h old new (shown_text machines steps requests)
EndsVerdict h bytes heard old new WriteFault =
    (machines : ℕ) × (steps : ℕ) × (requests : ℕ) × NoneCutOff heard
    × IsVerdict bytes heard (verdict.Shown machines steps requests)
    × FailedIn h old new (shown_text machines steps requests)
EndsVerdict h bytes heard old new (Differs other) =
    IsOther other × NoneCutOff heard × IsVerdict bytes heard other × IsUntouched h old new
EndsVerdict h bytes heard old new (NoVerdict (audit.CutOff script offset)) =
    IsCutOff heard script offset × IsUntouched h old new
EndsVerdict h bytes heard old new (NoVerdict audit.NoMemory) = IsUntouched h old new
EndsVerdict h bytes heard old new (Unread why) = ⊥

-- these bytes and scripts were read, and the output is so
abbrev pub EndsRead : {O : Type 0} → sink.Ghosts O → Option (List NamedBytes) → List ℕ → List (List ℕ) → O
    → O → AuditEnd → Type 0
EndsRead h told journal scripts old new end =
    (bytes : List ℕ) × (heard : List Heard) × AreTexts told journal scripts bytes heard
    × EndsVerdict h bytes heard old new end

-- the output, at this end of an audit of files that tell this
abbrev pub EndsAudit : {O : Type 0} → sink.Ghosts O → Option (List NamedBytes) → List ℕ → List (List ℕ) → O
    → O → AuditEnd → Type 0
EndsAudit h told journal scripts old new (Unread why) = IsUntouched h old new
EndsAudit h told journal scripts old new end = EndsRead h told journal scripts old new end
