-- The one spelling of a request.
use Rattle.std.specs.{Prelude.{◌≡◌, ℕ, ◌^◌, ◌<◌, ◌≤◌, List, [], ◌∷◌, ◌++◌, length, slice_index_or, codes, Option, Some, None, IfSome, Ok}, Fmt.signed_decimal}
use Rattle.line_text.specs.Names.{IsName, spelling}
use Rattle.metric_table.specs.{Limits.most, declared.limits.Limit.TheVariants.RunSamples, Table.IsPenalty}
use Rattle.sample_model.specs.Samples.{Measurement}
use Rattle.go_bench_text.specs.{Readings.IsRead, Spellings.{AreSpelled, IsFirstUnspelled}}
use Rattle.lnt_report.specs.{Runs.IsGiven, Outcomes.IsDue, Written.{compact, run_tree}}
use Rattle.segment_model.specs.Limits.{IsLength}
use Rattle.request_model.specs.{Factors.IsFactor, Lines.line_of, declared.requests.Request.Request}
use Rattle.request_model.specs.declared.requests.Request.TheVariants as request
use Rattle.request_words.specs.Forms.{Form, machine, commit, submit_go, submit_lnt, retract, tune, of_number, of_series, set_state, bisect, answer, of_job, runs, report, words_in}
use Rattle.request_words.specs.declared.verb.{JobVerb.TheVariants.{Resume, Job}, NumberVerb.TheVariants.{Calibrate, Regress}, SeriesVerb.TheVariants.{Segment, Changes, Verify}}
use Rattle.request_words.specs.Items.{body_limit}
use Rattle.request_reader.specs.Scripts.{ArePieces}

-- the form of a submission, whose body has so many bytes
abbrev pub submission : List ℕ → List ℕ → List ℕ → Option (List ℕ) → ℕ → Form
submission m c run None len = submit_go (spelling m) (spelling c) (spelling run) len
submission m c run (Some stated) len = submit_lnt (spelling m) (spelling run) len

-- the form of a request, whose body has so many bytes
abbrev pub form_of : Request → ℕ → Form
form_of (request.Machine m) len = machine (spelling m)
form_of (request.Commit m number name) len = commit (spelling m) number (spelling name)
form_of (request.Submit m c run samples ignored stated) len = submission m c run stated len
form_of (request.Retract m run) len = retract (spelling m) (spelling run)
form_of (request.Tune m metric penalty given) len = tune (spelling m) (spelling metric) (signed_decimal penalty) given
form_of (request.Calibrate m test metric factor) len = of_number Calibrate (spelling m) (spelling test) (spelling metric) factor
form_of (request.Segment m test metric) len = of_series Segment (spelling m) (spelling test) (spelling metric)
form_of (request.Changes m test metric) len = of_series Changes (spelling m) (spelling test) (spelling metric)
form_of (request.Verify m test metric) len = of_series Verify (spelling m) (spelling test) (spelling metric)
form_of (request.Regress m test metric change) len = of_number Regress (spelling m) (spelling test) (spelling metric) change
form_of (request.SetState m regression state) len = set_state (spelling m) regression state
form_of (request.Bisect m lo hi) len = bisect (spelling m) (spelling lo) (spelling hi)
form_of (request.Answer m job c status) len = answer (spelling m) job (spelling c) status
form_of (request.Resume m job) len = of_job Resume (spelling m) job
form_of (request.Job m job) len = of_job Job (spelling m) job
form_of (request.Runs m) len = runs (spelling m)
form_of (request.Report m json) len = report (spelling m) json

-- a text of the samples: an LNT run where a machine is stated, else Go benchmark text
abbrev pub IsBodyOf : List ℕ → List Measurement → Option (List ℕ) → List ℕ → Type 0
IsBodyOf c samples None body = AreSpelled samples body
IsBodyOf c samples (Some stated) body = body ≡ compact (run_tree stated c samples)

-- the bytes are the body of the request
abbrev pub IsBody : Request → List ℕ → Type 0
IsBody (request.Submit m c run samples ignored stated) body = IsBodyOf c samples stated body
IsBody q body = body ≡ []

-- the line of a request whose body has so many bytes: the words of its form with single spaces between them
abbrev pub head_line : Request → ℕ → List ℕ
head_line q len = line_of (words_in (form_of q len))

-- its line, and a body behind it
pub record IsWritten (q : Request) (bytes : List ℕ) : Type 0 where
  pub body : List ℕ
  pub of_request : IsBody q body
  pub is : bytes ≡ head_line q (length body) ++ body

-- the sample at this place, from 0, is the first that an LNT run can't give, since its metric is `name`
pub record IsFirstNamed (samples : List Measurement) (place : ℕ) : Type 0 where
  pub within : place < length samples
  pub named : (d : Measurement) → (slice_index_or samples place d).metric ≡ codes "name"
  pub first : (k : ℕ) (d : Measurement) → k < place → IsGiven (slice_index_or samples k d)

-- the sample at this place, from 0, is the first without a spelling in the body of a submission
abbrev pub IsFirstUnwritten : List Measurement → Option (List ℕ) → ℕ → Type 0
IsFirstUnwritten samples None place = IsFirstUnspelled samples place
IsFirstUnwritten samples (Some stated) place = IsFirstNamed samples place

-- the same of a request; only a submission has samples
abbrev pub HasNoText : Request → ℕ → Type 0
HasNoText (request.Submit m c run samples ignored stated) place = IsFirstUnwritten samples stated place
HasNoText q place = ⊥

-- some text without ignored lines may ask it: nothing was ignored, a metric is short, a penalty with its least
-- length, or a factor, in range
abbrev pub MayBeRead : Request → Type 0
MayBeRead (request.Submit m c run samples ignored stated) = ignored ≡ 0
MayBeRead (request.Tune m metric penalty given) = (length metric ≤ 64) × IsPenalty penalty × IfSome given IsLength
MayBeRead (request.Calibrate m test metric factor) = (length metric ≤ 64) × IsFactor factor
MayBeRead (request.Segment m test metric) = length metric ≤ 64
MayBeRead (request.Changes m test metric) = length metric ≤ 64
MayBeRead (request.Verify m test metric) = length metric ≤ 64
MayBeRead (request.Regress m test metric change) = length metric ≤ 64
MayBeRead q = Unit {0}

-- what is written of a request; where it may be read and its body is within the limit, it is read as the request
pub record WrittenIsReadBack (q : Request) (bytes : List ℕ) : Type 0 where
  pub written : IsWritten q bytes
  pub back : MayBeRead q → length written.body ≤ body_limit → ArePieces bytes (Ok q ∷ [])

-- its names are names, its numbers fit 64 bits, a status 8 bits, and its samples are no more than a run may have
abbrev pub IsSound : Request → Type 0
IsSound (request.Machine m) = IsName m
IsSound (request.Commit m number name) = IsName m × (number < 2 ^ 64) × IsName name
IsSound (request.Submit m c run samples ignored stated) =
    IsName m × IsName c × IsName run × (length samples ≤ most RunSamples)
IsSound (request.Retract m run) = IsName m × IsName run
IsSound (request.Tune m metric penalty given) = IsName m × IsName metric × IfSome given (λ n. n < 2 ^ 64)
IsSound (request.Calibrate m test metric factor) = IsName m × IsName test × IsName metric × (factor < 2 ^ 64)
IsSound (request.Segment m test metric) = IsName m × IsName test × IsName metric
IsSound (request.Changes m test metric) = IsName m × IsName test × IsName metric
IsSound (request.Verify m test metric) = IsName m × IsName test × IsName metric
IsSound (request.Regress m test metric change) = IsName m × IsName test × IsName metric × (change < 2 ^ 64)
IsSound (request.SetState m regression state) = IsName m × (regression < 2 ^ 64)
IsSound (request.Bisect m lo hi) = IsName m × IsName lo × IsName hi
IsSound (request.Answer m job c status) = IsName m × (job < 2 ^ 64) × IsName c × (status < 2 ^ 8)
IsSound (request.Resume m job) = IsName m × (job < 2 ^ 64)
IsSound (request.Job m job) = IsName m × (job < 2 ^ 64)
IsSound (request.Runs m) = IsName m
IsSound (request.Report m json) = IsName m

-- the bytes are read as the samples, with none ignored
abbrev pub IsReadAs : List ℕ → List Measurement → Option (List ℕ) → List ℕ → Type 0
IsReadAs c samples None body = IsRead body samples 0
IsReadAs c samples (Some stated) body =
    IsDue body (Ok (record { machine = stated; commit = c; samples = samples; ignored = 0 }))

-- the same of the body of a request; only a submission has samples
abbrev pub AsksBack : Request → List ℕ → Type 0
AsksBack (request.Submit m c run samples ignored stated) body = IsReadAs c samples stated body
AsksBack q body = Unit {0}
