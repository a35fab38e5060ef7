-- No public contract cites this. What words stand for, whether or not they are canonical.
use Rattle.std.specs.Prelude.{ℕ, ℤ, pos, neg_ℤ, ◌==◌, if◌then◌else◌, List, [], ◌∷◌, map, drop, slice_index, bytes_eq, Option, Some, None}
use Rattle.std.specs.Str.Parse.{digits_value}
use Rattle.percent_encoding.specs.Percent.{percent_decode}
use Rattle.sample_model.specs.Samples.{Measurement}
use Rattle.history_model.specs.declared.entries.Entry.{Entry, TheVariants.{Commit, Accept, Retract, Tune, Publish, Regression, Job}}
use Rattle.history_model.specs.declared.events.RegressionEvent.TheVariants as regression
use Rattle.history_model.specs.declared.events.JobEvent.TheVariants as job
use Rattle.regression_state.specs.{Moves.word, declared.states.State.State}
use Rattle.regression_state.specs.declared.states.State.TheVariants.{Detected, Staged, Active, NotToBeFixed, Ignored, Verify, Fixed}
use Rattle.track_entry.specs.{declared.kind.Kind.Kind, Kinds.kind_in}
use Rattle.track_entry.specs.declared.kind.Kind.TheVariants as kind

abbrev pub value_of : List ℕ → ℤ
value_of word = if slice_index word 0 == 45 then neg_ℤ (pos (digits_value 10 (drop 1 word))) else pos (digits_value 10 word)

abbrev pub samples_of : List (List ℕ) → List Measurement
samples_of [] = []
samples_of (test ∷ []) = []
samples_of (test ∷ metric ∷ []) = []
samples_of (test ∷ metric ∷ value ∷ words) =
    record { test = percent_decode test; metric = percent_decode metric; value = value_of value } ∷ samples_of words

abbrev pub commit_of : List (List ℕ) → Option Entry
commit_of (number ∷ name ∷ []) = Some (Commit (digits_value 10 number) (percent_decode name))
commit_of words = None

abbrev pub accept_of : List (List ℕ) → Option Entry
accept_of (run ∷ commit ∷ count ∷ words) =
    Some (Accept (record { run = percent_decode run; commit = digits_value 10 commit; samples = samples_of words }))
accept_of words = None

abbrev pub retract_of : List (List ℕ) → Option Entry
retract_of (run ∷ []) = Some (Retract (percent_decode run))
retract_of words = None

abbrev pub tune_of : List (List ℕ) → Option Entry
tune_of (metric ∷ penalty ∷ len ∷ []) = Some (Tune (percent_decode metric) (value_of penalty) (digits_value 10 len))
tune_of words = None

abbrev pub publish_of : List (List ℕ) → Option Entry
publish_of (test ∷ metric ∷ version ∷ base ∷ total ∷ count ∷ cuts) =
    Some (Publish (record {
      test = percent_decode test;
      metric = percent_decode metric;
      version = digits_value 10 version;
      base = digits_value 10 base;
      total = value_of total;
      cuts = map (digits_value 10) cuts;
    }))
publish_of words = None

abbrev pub raise_of : List (List ℕ) → Option Entry
raise_of (test ∷ metric ∷ before ∷ after ∷ []) =
    Some (Regression (regression.Raise (record {
      test = percent_decode test;
      metric = percent_decode metric;
      before = digits_value 10 before;
      after = digits_value 10 after;
    })))
raise_of words = None

-- the state of a word
abbrev pub said_state : List ℕ → State
said_state w =
    if bytes_eq w (word Detected) then Detected
    else (if bytes_eq w (word Staged) then Staged
    else (if bytes_eq w (word Active) then Active
    else (if bytes_eq w (word NotToBeFixed) then NotToBeFixed
    else (if bytes_eq w (word Ignored) then Ignored
    else (if bytes_eq w (word Verify) then Verify
    else Fixed)))))

abbrev pub move_of : List (List ℕ) → Option Entry
move_of (number ∷ state ∷ []) = Some (Regression (regression.Move (digits_value 10 number) (said_state state)))
move_of words = None

abbrev pub begin_of : List (List ℕ) → Option Entry
begin_of (lo ∷ hi ∷ []) = Some (Job (job.Begin (digits_value 10 lo) (digits_value 10 hi)))
begin_of words = None

abbrev pub answer_of : List (List ℕ) → Option Entry
answer_of (number ∷ place ∷ status ∷ []) =
    Some (Job (job.Answer (digits_value 10 number) (digits_value 10 place) (digits_value 10 status)))
answer_of words = None

abbrev pub give_up_of : List (List ℕ) → Option Entry
give_up_of (number ∷ place ∷ []) = Some (Job (job.GiveUp (digits_value 10 number) (digits_value 10 place)))
give_up_of words = None

-- the entry of words behind the word of its kind
abbrev pub said_by : Option Kind → List (List ℕ) → Option Entry
said_by (Some kind.Commit) words = commit_of words
said_by (Some kind.Accept) words = accept_of words
said_by (Some kind.Retract) words = retract_of words
said_by (Some kind.Tune) words = tune_of words
said_by (Some kind.Publish) words = publish_of words
said_by (Some kind.Raise) words = raise_of words
said_by (Some kind.Move) words = move_of words
said_by (Some kind.Begin) words = begin_of words
said_by (Some kind.Answer) words = answer_of words
said_by (Some kind.GiveUp) words = give_up_of words
said_by None words = None

abbrev pub decoded : List (List ℕ) → Option Entry
decoded [] = None
decoded (word ∷ words) = said_by (kind_in word) words
