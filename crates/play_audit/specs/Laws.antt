-- What holds of all files of shared runs.
use Rattle.std.specs.Prelude.{◌≡◌, ℕ, List}
use Rattle.audit_model.specs.{Verdicts.{IsCutOff, IsVerdict}, declared.heard.Heard.Heard, declared.verdict.Verdict.Verdict}

-- files have one verdict at most
abbrev pub OneVerdict : Type 0
OneVerdict = (bytes : List ℕ) (heard : List Heard) (one other : Verdict) → IsVerdict bytes heard one → IsVerdict bytes heard other → one ≡ other

-- one script at most is the first that is cut off, at one place
abbrev pub OneCutOff : Type 0
OneCutOff = (heard : List Heard) (script other offset place : ℕ) → IsCutOff heard script offset → IsCutOff heard other place
    → (script ≡ other) × (offset ≡ place)
