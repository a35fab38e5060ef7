-- How `audit` ends, on its objects, and the line that tells its status.
use Rattle.std.specs.Prelude.{◌≡◌, ◌⊎◌, ℕ, List, [], ◌∷◌, ◌++◌, codes, decimal, Option, Some, None, IfSome}
use Rattle.track_outside.specs.{Calls.{Took, FailedIn}, Counts.Rose, Named.NamedBytes}
use Rattle.track_outside.specs.declared.files.Files as files
use Rattle.track_outside.specs.declared.sink.Sink as sink
use Rattle.audit_model.specs.{Verdicts.{IsCutOff, IsVerdict, NoneCutOff}, declared.heard.Heard.Heard, declared.verdict.Verdict.Verdict}
use Rattle.audit_model.specs.declared.verdict.AuditStop.TheVariants as stop
use Rattle.audit_model.specs.declared.verdict.Verdict.TheVariants as verdict
use Rattle.audit_command.specs.{declared.end.AuditEnd.AuditEnd, Endings.{AreTexts, EndsFiles, EndsAudit as PutsAudit, IsPastAt}, Opening.names_of}
use Rattle.audit_command.specs.declared.end.AuditEnd.TheVariants as audit
use Rattle.audit_command.specs.declared.end.FileStop.TheVariants as unread
use Rattle.command_words.specs.{declared.command.Command.TheVariants.Audit, Commands.{AreNoCommand, IsSpelled}, Plans.Files}
use Rattle.tracker_top.specs.declared.status.Status.{Status, TheVariants.{Done, BadWords, ReadFault, WriteFault, CutOff, NoMemory, InputTooLong, Differs}}
use Rattle.tracker_top.specs.{Plays.{cut_line, long_line, script_name}, Text.line_of}

-- ---- how it ends

-- the status at which `audit` ends so
abbrev pub audit_status_of : AuditEnd → Status
audit_status_of audit.Done = Done
audit_status_of (audit.Differs verdict) = Differs verdict
audit_status_of (audit.Unread unread.ReadFault) = ReadFault
audit_status_of (audit.Unread (unread.TooLong place)) = InputTooLong place
audit_status_of (audit.Unread unread.NoMemory) = NoMemory
audit_status_of (audit.NoVerdict (stop.CutOff script offset)) = CutOff script offset
audit_status_of (audit.NoVerdict stop.NoMemory) = NoMemory
audit_status_of audit.WriteFault = WriteFault

-- the files and the output, at this status of `audit`: why it ended, which files were opened, what
-- they have, and what was written
pub record EndsAudit {F I O P : Type 0} (g : files.Ghosts F I O) (h : sink.Ghosts P) (named : Files)
    (before after : F) (old new : P) (status : Status) : Type 0 where
  pub why : AuditEnd
  pub told : status ≡ audit_status_of why
  pub files : EndsFiles g (names_of named.journal named.scripts) before after why
  pub output : PutsAudit h (g.contents before) named.journal named.scripts old new why

-- ---- what is due

-- the status at a verdict
abbrev pub verdict_status : Verdict → Status
verdict_status (verdict.Shown machines steps requests) = Done
verdict_status other = Differs other

-- bytes of journals, and scripts with their transcripts, show this status: a script is cut off, the
-- first one there; or none is, and it is that of their verdict
abbrev pub TextsShow : List ℕ → List Heard → Status → Type 0
TextsShow bytes heard status =
    ((script : ℕ) × (offset : ℕ) × IsCutOff heard script offset × (status ≡ CutOff script offset))
    ⊎ (NoneCutOff heard × ((v : Verdict) × IsVerdict bytes heard v × (status ≡ verdict_status v)))

-- the files show it: one is the first with which they have too many bytes, or they have bytes that
-- show it
abbrev pub FilesShow : List NamedBytes → Files → Status → Type 0
FilesShow files named status =
    ((place : ℕ) × IsPastAt files (names_of named.journal named.scripts) place
    × (status ≡ InputTooLong place))
    ⊎ ((bytes : List ℕ) × (heard : List Heard)
    × AreTexts (Some files) named.journal named.scripts bytes heard × TextsShow bytes heard status)

-- the words and the files show this status: the words are no command, or `audit` of files that show
-- it
abbrev pub IsAuditDue : List (List ℕ) → List NamedBytes → Status → Type 0
IsAuditDue words files status =
    ((status ≡ BadWords) × AreNoCommand words)
    ⊎ ((named : Files) × IsSpelled words (Audit named) × FilesShow files named status)

-- it ended as is due, where the files tell their bytes, or memory was wanting, or the files or the
-- output failed
abbrev pub AuditsAsDue : {F I O P : Type 0} → files.Ghosts F I O → sink.Ghosts P → List (List ℕ) → F → F
    → P → P → Status → Type 0
AuditsAsDue g h words before after old new status = IfSome (g.contents before) (λ files.
    (due : Status) → IsAuditDue words files due → (status ≡ due) ⊎ (status ≡ NoMemory)
    ⊎ Rose (g.read_faults before) (g.read_faults after) ⊎ Rose (h.faults old) (h.faults new))

-- ---- its line

-- where the replies to a script of this name differ
abbrev pub reply_line : Option (List ℕ) → ℕ → ℕ → List ℕ
reply_line None script request = line_of (Differs (verdict.Request script request))
reply_line (Some name) script request =
    codes "differs: " ++ (name ++ (codes " request " ++ decimal request ++ 10 ∷ []))

-- the line that tells a status, where the files have these names
abbrev pub audit_line : Files → Status → List ℕ
audit_line named (Differs (verdict.JournalLine line)) =
    codes "differs: " ++ (named.journal ++ (codes " line " ++ decimal line ++ 10 ∷ []))
audit_line named (Differs (verdict.Request script request)) =
    reply_line (script_name named.scripts script) script request
audit_line named (CutOff script offset) = cut_line (script_name named.scripts script) offset
audit_line named (InputTooLong place) =
    long_line (script_name (names_of named.journal named.scripts) place)
audit_line named status = line_of status

-- these are the files' names, where the words are `audit` of some
abbrev pub AreFilesIn : List (List ℕ) → Files → Type 0
AreFilesIn words named = (files : Files) → IsSpelled words (Audit files) → named ≡ files

-- the status' line was written, or a first part of it where that failed
abbrev pub IsToldOf : {O : Type 0} → sink.Ghosts O → Files → O → O → Status → Type 0
IsToldOf h named old new status =
    Took h old new (audit_line named status) ⊎ FailedIn h old new (audit_line named status)
