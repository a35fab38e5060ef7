-- What an audit answers.
use Rattle.std.specs.Prelude.{◌≡◌, ◌<◌, ◌≤◌, ◌^◌, ℕ, All, List, length, Err, IfOk, OnOk, Result}
use Rattle.audit_model.specs.declared.{heard.Heard.Heard, verdict.AuditStop.AuditStop, verdict.Verdict.Verdict}
use Rattle.audit_model.specs.declared.verdict.AuditStop.TheVariants as stop
use Rattle.audit_model.specs.Verdicts.{IsCutOff, IsVerdict, NoneCutOff}

-- one script or more, eight at most, none of them longer than a gigabyte
pub record MayBeAudited (heard : List Heard) : Type 0 where
  pub some : 0 < length heard
  pub few : length heard ≤ 8
  pub short : All (λ (h : Heard). length h.script ≤ 2 ^ 30) heard

-- the verdict on files, where no script is cut off; else the first that is, or that there was no memory
pub record Audits (bytes : List ℕ) (heard : List Heard) (result : Result Verdict AuditStop)
    : Type 0 where
  pub verdict : IfOk result (IsVerdict bytes heard)
  pub whole : OnOk result (NoneCutOff heard)
  pub cut_off : (script offset : ℕ) → result ≡ Err (stop.CutOff script offset)
      → IsCutOff heard script offset
