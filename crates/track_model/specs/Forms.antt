-- What each form of request comes to on the history of its machine: its refusals in their order, then its effect.
use Rattle.std.specs.Prelude.{ℕ, ℤ, pos, negsuc, ◌^◌, Bool, not, ◌&&◌, nat_le, nat_lt, if◌then◌else◌, List, [], ◌∷◌, map, length, find, option_map, is_none, unwrap_or, bytes_eq, codes, Option, Some, None, false}
use Rattle.metric_table.specs.declared.limits.Limit.TheVariants.{Commits, Steps}
use Rattle.history_model.specs.declared.{entries.Acceptance.Acceptance, entries.Declaration.Declaration, entries.Entry.Entry, run.Run.Run}
use Rattle.history_model.specs.declared.entries.Entry.TheVariants as entry
use Rattle.request_model.specs.declared.{replies.Answer.Answer, runs.RunLine.RunLine}
use Rattle.request_model.specs.declared.replies.Answer.TheVariants as answer
use Rattle.request_model.specs.declared.replies.Refusal.TheVariants as refusal
use Rattle.sample_model.specs.Samples.{Measurement}
use Rattle.history_model.specs.{Commits.{declarations, has_number, has_name, number_of, name_of}, Penalties.length_of}
use Rattle.history_model.specs.{Runs.{Retraction, acceptances, accepted, retracted, same_run}, Allowed.run_limits}
use Rattle.track_model.specs.Outcomes.{Outcome, tells, refusal_if, first, unless, adds_within}

-- ---- commit M NUMBER NAME

abbrev pub taken_by : Declaration → Answer
taken_by d = answer.Refused (refusal.CommitTaken d.number d.name)

-- the pair with that number is the very pair, or another
abbrev pub told_of : List ℕ → Declaration → Answer
told_of name d = if bytes_eq d.name name then answer.Duplicate d.step else taken_by d

-- by the pair with that number, else by the pair with that name
abbrev pub commit_refusal : List Declaration → ℕ → List ℕ → Option Answer
commit_refusal commits number name = first
    (option_map (told_of name) (find (has_number number) commits)
    ∷ option_map taken_by (find (has_name name) commits)
    ∷ [])

abbrev pub commit : List Entry → ℕ → List ℕ → Outcome
commit h number name =
    unless (commit_refusal (declarations h) number name)
    (adds_within (Commits ∷ Steps ∷ []) h (entry.Commit number name) (answer.Commit number name))

-- ---- submit M COMMIT RUN, with a body that was read

-- what is said of a run whose name was accepted before
abbrev pub told_again : Run → Acceptance → Answer
told_again run a = if same_run run a.run then answer.Duplicate a.step else answer.Refused (refusal.IdentityClash a.step)

-- an LNT run states its machine
abbrev pub states_another : List ℕ → Option (List ℕ) → Bool
states_another machine None = false
states_another machine (Some stated) = not (bytes_eq stated machine)

-- the run that a submission would add
abbrev pub submitted : List Entry → List ℕ → List ℕ → List Measurement → Run
submitted h commit run samples = record { run = run; commit = unwrap_or (number_of commit h) 0; samples = samples }

abbrev pub submit_refusal : List Entry → List ℕ → List ℕ → Run → Option (List ℕ) → Option Answer
submit_refusal h machine commit new stated = first
    (refusal_if (states_another machine stated) (refusal.NotReport 6 (codes "machine.name"))
    ∷ refusal_if (is_none (number_of commit h)) refusal.UnknownCommit
    ∷ option_map (told_again new) (accepted new.run h)
    ∷ [])

abbrev pub submit : List Entry → List ℕ → List ℕ → List ℕ → List Measurement → ℕ → Option (List ℕ) → Outcome
submit h machine commit run samples ignored stated =
    let new : Run = submitted h commit run samples in
    unless (submit_refusal h machine commit new stated)
    (adds_within run_limits h (entry.Accept new) (answer.Accepted run (length samples) ignored))

-- ---- retract M RUN

abbrev pub retract_refusal : List Entry → List ℕ → Option Answer
retract_refusal h run = first
    (refusal_if (is_none (accepted run h)) refusal.UnknownRun
    ∷ option_map (λ (r : Retraction). answer.Refused (refusal.AlreadyRetracted r.step)) (retracted run h)
    ∷ [])

abbrev pub retract : List Entry → List ℕ → Outcome
retract h run =
    unless (retract_refusal h run)
    (adds_within (Steps ∷ []) h (entry.Retract run) (answer.Retracted run))

-- ---- tune M METRIC PENALTY LENGTH

-- from 0 to 10^36
abbrev pub is_penalty : ℤ → Bool
is_penalty (pos n) = nat_le n (10 ^ 36)
is_penalty (negsuc n) = false

-- from 1 to 64
abbrev pub is_length : ℕ → Bool
is_length len = nat_le 1 len && nat_le len 64

-- what no request has that was read: a metric that is too long, a penalty or a least length out of range
abbrev pub tune_refusal : List ℕ → ℤ → ℕ → Option Answer
tune_refusal metric penalty len = first
    (refusal_if (nat_lt 64 (length metric)) refusal.BadName
    ∷ refusal_if (not (is_penalty penalty)) refusal.BadPenalty
    ∷ refusal_if (not (is_length len)) refusal.BadLength
    ∷ [])

abbrev pub tune : List Entry → List ℕ → ℤ → ℕ → Outcome
tune h metric penalty len =
    unless (tune_refusal metric penalty len)
    (adds_within (Steps ∷ []) h (entry.Tune metric penalty len) (answer.Tuned metric penalty len))

-- where no least length is given, the present one stays
abbrev pub tune_to : List Entry → List ℕ → ℤ → Option ℕ → Outcome
tune_to h metric penalty given = tune h metric penalty (unwrap_or given (length_of metric h))

-- ---- runs M

abbrev pub run_line : List Entry → Acceptance → RunLine
run_line h a =
    record { run = a.run.run; commit = unwrap_or (name_of a.run.commit h) []; samples = length a.run.samples; live = is_none (retracted a.run.run h) }

abbrev pub runs : List Entry → Outcome
runs h = tells (answer.Runs (map (run_line h) (acceptances h)))
