-- What a form asks once its words are names: a request, or a refusal of its body.
use Rattle.std.specs.{Prelude.{◌≡◌, ℕ, pos, ◌≤◌, List, length, Some, None, Result, Ok, Err}, Str.Parse.digits_value, Str.{IsUtf8, IsValidUpTo}}
use Rattle.line_text.specs.Lines.{lines_of}
use Rattle.metric_table.specs.{Limits.most, declared.limits.Limit.TheVariants.RunSamples}
use Rattle.sample_model.specs.Samples.{Measurement}
use Rattle.go_bench_text.specs.Readings.{IsRead, IsFirstOver, HasTooMany}
use Rattle.lnt_report.specs.{declared.fault.ReportFault.ReportFault, Runs.Report, Outcomes.IsDue}
use Rattle.lnt_report.specs.declared.fault.ReportFault.TheVariants as fault
use Rattle.request_model.specs.declared.{requests.Request.Request, replies.Refusal.Refusal}
use Rattle.request_model.specs.declared.requests.Request.TheVariants as request
use Rattle.request_model.specs.declared.replies.RangePlace.TheVariants as place
use Rattle.request_model.specs.declared.replies.Refusal.TheVariants as refusal
use Rattle.request_words.specs.Forms.{Form, machine, commit, submit_go, submit_lnt, retract, tune, of_number, of_series, set_state, bisect, answer, of_job, runs, report, name_of}
use Rattle.request_words.specs.declared.verb.{JobVerb.JobVerb, MachineVerb.MachineVerb, JobVerb.TheVariants.{Resume, Job}, NumberVerb.NumberVerb, SeriesVerb.SeriesVerb}
use Rattle.request_words.specs.declared.verb.MachineVerb.TheVariants as of_machine
use Rattle.request_words.specs.declared.verb.{NumberVerb.TheVariants.{Calibrate, Regress}, SeriesVerb.TheVariants.{Segment, Changes, Verify}}

-- what an item of a script asks: a request, or the refusal of reading it
abbrev pub Item : Type 0
Item = Result Request Refusal

-- ---- Go benchmark text

-- the body's samples and the number of its ignored lines, within the limit
pub record GivesGo (body : List ℕ) (samples : List Measurement) (ignored : ℕ) : Type 0 where
  pub read : IsRead body samples ignored
  pub few : length samples ≤ most RunSamples

-- why the body gives no samples
abbrev pub RefusesGo : List ℕ → Refusal → Type 0
RefusesGo body (refusal.NotText offset) = IsValidUpTo body offset
RefusesGo body (refusal.OutOfRange (place.Line number)) = IsUtf8 body × IsFirstOver (lines_of body) number
RefusesGo body (refusal.Full limit) = (limit ≡ RunSamples) × HasTooMany body
RefusesGo body _ = ⊥

-- a run of a machine, a commit and a name, with these samples
abbrev pub of_go : (m c r : List ℕ) → List Measurement → ℕ → Request
of_go m c r samples ignored = request.Submit m c r samples ignored None

-- what a submission of Go benchmark text asks
abbrev pub AsksGo : List ℕ → (List Measurement → ℕ → Request) → Item → Type 0
AsksGo body submitted (Ok q) =
    (samples : List Measurement) × (ignored : ℕ) × GivesGo body samples ignored × (q ≡ submitted samples ignored)
AsksGo body submitted (Err r) = RefusesGo body r

-- ---- LNT runs

-- the fault of reading a body that a refusal tells; others tell none, which is never due
abbrev pub fault_of : Refusal → ReportFault
fault_of (refusal.NotText offset) = fault.NotText offset
fault_of (refusal.NotJson offset) = fault.NotJson offset
fault_of (refusal.NotReport rule member) = fault.NotReport rule member
fault_of (refusal.OutOfRange (place.Sample test metric)) = fault.OutOfRange test metric
fault_of (refusal.Full limit) = fault.Full limit
fault_of (refusal.TooDeep offset) = fault.TooDeep offset
fault_of _ = fault.NoMemory

-- a run of a machine and a name, which gives the commit and the samples itself
abbrev pub of_lnt : (m r : List ℕ) → Report → Request
of_lnt m r given = request.Submit m given.commit r given.samples given.ignored (Some given.machine)

-- what a submission of an LNT run asks
abbrev pub AsksLnt : List ℕ → (Report → Request) → Item → Type 0
AsksLnt body submitted (Ok q) = (run : Report) × IsDue body (Ok run) × (q ≡ submitted run)
AsksLnt body submitted (Err r) = IsDue body (Err (fault_of r))

-- ---- all forms, whose words are names

-- what is asked of a machine
abbrev pub machine_request : MachineVerb → (m : List ℕ) → Request
machine_request of_machine.Machine m = request.Machine m
machine_request of_machine.Runs m = request.Runs m

-- what is asked of a series
abbrev pub series_request : SeriesVerb → (m test metric : List ℕ) → Request
series_request Segment m test metric = request.Segment m test metric
series_request Changes m test metric = request.Changes m test metric
series_request Verify m test metric = request.Verify m test metric

-- what is asked of a series with a number
abbrev pub number_request : NumberVerb → (m test metric : List ℕ) (number : ℕ) → Request
number_request Calibrate m test metric factor = request.Calibrate m test metric factor
number_request Regress m test metric change = request.Regress m test metric change

-- what is asked of a bisection
abbrev pub job_request : JobVerb → (m : List ℕ) (job : ℕ) → Request
job_request Resume m job = request.Resume m job
job_request Job m job = request.Job m job

abbrev pub AsksNamed : Form → List ℕ → Item → Type 0
AsksNamed (machine m) body item = item ≡ Ok (request.Machine (name_of m))
AsksNamed (commit m number name) body item = item ≡ Ok (request.Commit (name_of m) number (name_of name))
AsksNamed (submit_go m c r len) body item =
    AsksGo body (of_go (name_of m) (name_of c) (name_of r)) item
AsksNamed (submit_lnt m r len) body item =
    AsksLnt body (of_lnt (name_of m) (name_of r)) item
AsksNamed (retract m r) body item = item ≡ Ok (request.Retract (name_of m) (name_of r))
AsksNamed (tune m metric penalty given) body item = item ≡ Ok (request.Tune (name_of m) (name_of metric) (pos (digits_value 10 penalty)) given)
AsksNamed (of_number asked m test metric number) body item = item ≡ Ok (number_request asked (name_of m) (name_of test) (name_of metric) number)
AsksNamed (of_series asked m test metric) body item = item ≡ Ok (series_request asked (name_of m) (name_of test) (name_of metric))
AsksNamed (set_state m regression state) body item = item ≡ Ok (request.SetState (name_of m) regression state)
AsksNamed (bisect m lo hi) body item = item ≡ Ok (request.Bisect (name_of m) (name_of lo) (name_of hi))
AsksNamed (answer m job c status) body item = item ≡ Ok (request.Answer (name_of m) job (name_of c) status)
AsksNamed (of_job asked m job) body item = item ≡ Ok (job_request asked (name_of m) job)
AsksNamed (runs m) body item = item ≡ Ok (request.Runs (name_of m))
AsksNamed (report m json) body item = item ≡ Ok (request.Report (name_of m) json)
