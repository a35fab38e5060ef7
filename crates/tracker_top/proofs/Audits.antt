-- How an audit ends, and the names of its files.
use Rattle.std.proofs.Common.{◌≡◌, ℕ, ◌-◌, ◌≤◌, zero, suc, inl, inr, List, Result, Ok, Err, OnOk, OnErr, slice_get, sym, ap, subst, arith}
use Rattle.track_outside.specs.Calls.{Took, FailedIn}
use Rattle.track_outside.specs.declared.files.Files as files
use Rattle.track_outside.specs.declared.sink.Sink as sink
use Rattle.audit_command.specs.{declared.end.AuditEnd.AuditEnd, Endings.{EndsFiles, EndsAudit as PutsAudit}, Opening.{files_of, names_of}}
use Rattle.audit_model.specs.declared.verdict.AuditStop.TheVariants as stop
use Rattle.audit_command.specs.declared.end.AuditEnd.TheVariants as audit
use Rattle.audit_command.specs.declared.end.FileStop.TheVariants as unread
use Rattle.command_words.specs.Plans.{Files}
use Rattle.tracker_top.specs.declared.status.Status.{Status, TheVariants.BadWords}
use Rattle.tracker_top.specs.{Audits.{EndsAudit, IsToldOf, audit_line, audit_status_of}, Plays.script_name}

-- an audit never ends as bad words do
pub never-bad-audit : (why : AuditEnd) → audit_status_of why ≡ BadWords → ⊥
never-bad-audit audit.Done is = cc
never-bad-audit (audit.Differs verdict) is = cc
never-bad-audit (audit.Unread unread.ReadFault) is = cc
never-bad-audit (audit.Unread (unread.TooLong place)) is = cc
never-bad-audit (audit.Unread unread.NoMemory) is = cc
never-bad-audit (audit.NoVerdict (stop.CutOff script offset)) is = cc
never-bad-audit (audit.NoVerdict stop.NoMemory) is = cc
never-bad-audit audit.WriteFault is = cc

-- the line is told by a call that was given these names
pub is-told-of : {E O : Type 0} (h : sink.Ghosts O) (named given : Files) (old new : O) (status : Status) (r : Result (Unit {0}) E) → named ≡ given
    → OnOk r (Took h old new (audit_line given status)) → OnErr r (FailedIn h old new (audit_line given status)) → IsToldOf h named old new status
is-told-of h named given old new status (Ok done) is took failed = inl (subst (λ f. Took h old new (audit_line f status)) (sym is) took)
is-told-of h named given old new status (Err why) is took failed = inr (subst (λ f. FailedIn h old new (audit_line f status)) (sym is) failed)

-- it ended so by a call that was given these names
pub named-ends : {F I O P : Type 0} (g : files.Ghosts F I O) (h : sink.Ghosts P) (named given : Files) (before after : F) (old new : P) (why : AuditEnd) (status : Status) → named ≡ given
    → status ≡ audit_status_of why → EndsFiles g (names_of given.journal given.scripts) before after why → PutsAudit h (g.contents before) given.journal given.scripts old new why
    → EndsAudit g h named before after old new status
named-ends g h named given before after old new why status is told opened put =
    subst (λ n. EndsAudit g h n before after old new status) (sym is) (record { why = why; told = told; files = opened; output = put })

-- ---- the file at a place

-- behind the journals
pub behind-journal : (journal : List ℕ) (scripts : List (List ℕ)) (place : ℕ) → 2 ≤ place → script_name (names_of journal scripts) place ≡ slice_get (files_of scripts) (place - 2)
behind-journal journal scripts zero more = absurd (omega (arith, more))
behind-journal journal scripts (suc zero) more = absurd (omega (arith, more))
behind-journal journal scripts (suc (suc k)) more =
    let same : suc (suc k) - 2 ≡ k = omega arith in ap (slice_get (files_of scripts)) (sym same)
