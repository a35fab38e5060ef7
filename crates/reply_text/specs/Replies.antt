-- The text of a reply: lines of words.
use Rattle.std.specs.{Prelude.{nat_lt, ℕ, ◌+◌, List, [], ◌∷◌, ◌++◌, length, map, decimal, codes, if◌then◌else◌}, Fmt.signed_decimal, List.flat_map}
use Rattle.line_text.specs.Names.{spelling}
use Rattle.metric_table.specs.Limits.{word}
use Rattle.metric_value.specs.Values.{value_text}
use Rattle.cost_certificate.specs.Text as certificate
use Rattle.regression_state.specs.Moves as state
use Rattle.report_model.specs.{Outcomes.outcome_text, declared.pages.Pages.Pages}
use Rattle.report_pages.specs.{Text.pages_text, Json.pages_json}
use Rattle.request_model.specs.{Lines.line_of, declared.changes.NamedChange.NamedChange, declared.replies.Answer.Answer, declared.replies.RangePlace.RangePlace}
use Rattle.request_model.specs.declared.replies.Answer.TheVariants as answer
use Rattle.request_model.specs.declared.replies.RangePlace.TheVariants as place
use Rattle.request_model.specs.declared.{replies.Refusal.Refusal, replies.Reply.Reply, runs.RunLine.RunLine}
use Rattle.request_model.specs.declared.replies.Refusal.TheVariants as refusal

-- a word that names a step
abbrev pub at : ℕ → List ℕ
at step = 64 ∷ decimal step

-- where a value is out of range
abbrev pub place_words : RangePlace → List (List ℕ)
place_words (place.Line number) = decimal number ∷ []
place_words (place.Sample test metric) = spelling test ∷ spelling metric ∷ []

-- number and word of a refusal, and what it tells
abbrev pub refusal_words : Refusal → List (List ℕ)
refusal_words refusal.BadRequest = codes "E01" ∷ codes "BadRequest" ∷ []
refusal_words refusal.BadName = codes "E02" ∷ codes "BadName" ∷ []
refusal_words refusal.UnknownMachine = codes "E03" ∷ codes "UnknownMachine" ∷ []
refusal_words refusal.UnknownCommit = codes "E04" ∷ codes "UnknownCommit" ∷ []
refusal_words (refusal.CommitTaken number name) = codes "E05" ∷ codes "CommitTaken" ∷ decimal number ∷ spelling name ∷ []
refusal_words (refusal.NotText offset) = codes "E06" ∷ codes "NotText" ∷ decimal offset ∷ []
refusal_words (refusal.NotJson offset) = codes "E07" ∷ codes "NotJson" ∷ decimal offset ∷ []
refusal_words (refusal.NotReport rule member) = codes "E08" ∷ codes "NotReport" ∷ decimal rule ∷ spelling member ∷ []
refusal_words (refusal.OutOfRange where_) = codes "E09" ∷ codes "OutOfRange" ∷ place_words where_
refusal_words (refusal.IdentityClash step) = codes "E10" ∷ codes "IdentityClash" ∷ at step ∷ []
refusal_words refusal.UnknownRun = codes "E11" ∷ codes "UnknownRun" ∷ []
refusal_words (refusal.AlreadyRetracted step) = codes "E12" ∷ codes "AlreadyRetracted" ∷ at step ∷ []
refusal_words refusal.UnknownSeries = codes "E13" ∷ codes "UnknownSeries" ∷ []
refusal_words refusal.NothingPublished = codes "E14" ∷ codes "NothingPublished" ∷ []
refusal_words (refusal.NoSuchChange count) = codes "E15" ∷ codes "NoSuchChange" ∷ decimal count ∷ []
refusal_words refusal.UnknownRegression = codes "E16" ∷ codes "UnknownRegression" ∷ []
refusal_words (refusal.IllegalMove before after) = codes "E17" ∷ codes "IllegalMove" ∷ state.word before ∷ state.word after ∷ []
refusal_words refusal.UnknownJob = codes "E18" ∷ codes "UnknownJob" ∷ []
refusal_words (refusal.NotAsked commit) = codes "E19" ∷ codes "NotAsked" ∷ spelling commit ∷ []
refusal_words refusal.BadRange = codes "E20" ∷ codes "BadRange" ∷ []
refusal_words (refusal.Full limit) = codes "E21" ∷ codes "Full" ∷ word limit ∷ []
refusal_words refusal.BadPenalty = codes "E22" ∷ codes "BadPenalty" ∷ []
refusal_words (refusal.TooFewPoints points) = codes "E23" ∷ codes "TooFewPoints" ∷ decimal points ∷ []
refusal_words (refusal.Stale version) = codes "E24" ∷ codes "Stale" ∷ decimal version ∷ []
refusal_words (refusal.JobClosed outcome) = codes "E25" ∷ codes "JobClosed" ∷ outcome_text outcome ∷ []
refusal_words refusal.BodyTooLong = codes "E26" ∷ codes "BodyTooLong" ∷ []
refusal_words refusal.OnlyAlone = codes "E27" ∷ codes "OnlyAlone" ∷ []
refusal_words (refusal.TooDeep offset) = codes "E28" ∷ codes "TooDeep" ∷ decimal offset ∷ []
refusal_words (refusal.JobOpen commit) = codes "E29" ∷ codes "JobOpen" ∷ spelling commit ∷ []
refusal_words refusal.BadLength = codes "E30" ∷ codes "BadLength" ∷ []

-- a run, as it is listed
abbrev pub run_words : RunLine → List (List ℕ)
run_words line = spelling line.run ∷ spelling line.commit ∷ decimal line.samples ∷ (if line.live then codes "live" else codes "retracted") ∷ []

-- a change, as it is listed: its commits, and the centres before and behind it with the metric's decimals
abbrev pub change_words : List ℕ → NamedChange → List (List ℕ)
change_words metric c =
    spelling c.before ∷ spelling c.after ∷ value_text metric c.left ∷ value_text metric c.right
    ∷ (if c.worse then codes "regression" else codes "improvement") ∷ []

-- what speaks of the history's first entries, so many
abbrev pub version_words : List ℕ → ℕ → List (List ℕ)
version_words kind version = kind ∷ codes "version" ∷ decimal version ∷ []

-- the same, with so many lines behind
abbrev pub listed_words : List ℕ → ℕ → ℕ → List (List ℕ)
listed_words kind version lines = version_words kind version ++ codes "lines" ∷ decimal lines ∷ []

-- how many lines a report has: one of JSON, else one for each series, each regression and each bisection
abbrev pub lines_in : Pages → ℕ
lines_in pages = if pages.json then 1 else length pages.series + length pages.regressions + length pages.jobs

-- the lines of a report
abbrev pub report_text : Pages → List ℕ
report_text pages = if pages.json then pages_json pages else pages_text pages

-- a least length is told where it is above 1
abbrev pub length_words : ℕ → List (List ℕ)
length_words len = if nat_lt 1 len then decimal len ∷ [] else []

-- the words of an answer on the reply's first line; where a bisection stands is told in words of its own
abbrev pub answer_words : Answer → List (List ℕ)
answer_words (answer.Machine machine) = codes "machine" ∷ spelling machine ∷ []
answer_words (answer.Commit number name) = codes "commit" ∷ decimal number ∷ spelling name ∷ []
answer_words (answer.Duplicate step) = codes "duplicate" ∷ at step ∷ []
answer_words (answer.Accepted name samples ignored) = codes "accepted" ∷ spelling name ∷ codes "samples" ∷ decimal samples ∷ codes "ignored" ∷ decimal ignored ∷ []
answer_words (answer.Retracted name) = codes "retracted" ∷ spelling name ∷ []
answer_words (answer.Tuned metric penalty len) = codes "tuned" ∷ spelling metric ∷ signed_decimal penalty ∷ length_words len
answer_words (answer.Segmented version base points cuts redone total) =
    version_words (codes "segmented") version
    ++ codes "base" ∷ decimal base ∷ codes "points" ∷ decimal points ∷ codes "cuts" ∷ decimal cuts ∷ codes "redone" ∷ decimal redone ∷ codes "total" ∷ signed_decimal total ∷ []
answer_words (answer.Changes version metric items) = listed_words (codes "changes") version (length items)
answer_words (answer.Verified version cert) = listed_words (codes "verified") version (if nat_lt 1 cert.length then 8 else 7)
answer_words (answer.Raised regression) = codes "regression" ∷ decimal regression ∷ codes "detected" ∷ []
answer_words (answer.Moved regression before after) = codes "regression" ∷ decimal regression ∷ state.word before ∷ state.word after ∷ []
answer_words (answer.Job job range questions outcome) =
    codes "job" ∷ decimal job ∷ codes "range" ∷ decimal range ∷ codes "questions" ∷ decimal questions ∷ outcome_text outcome ∷ []
answer_words (answer.Runs lines) = codes "runs" ∷ codes "lines" ∷ decimal (length lines) ∷ []
answer_words (answer.Report pages) = codes "report" ∷ codes "lines" ∷ decimal (lines_in pages) ∷ []
answer_words (answer.Refused reason) = refusal_words reason

-- the text of the lines behind it
abbrev pub text_behind : Answer → List ℕ
text_behind (answer.Changes version metric items) = flat_map line_of (map (change_words metric) items)
text_behind (answer.Verified version cert) = certificate.text_of cert
text_behind (answer.Runs lines) = flat_map line_of (map run_words lines)
text_behind (answer.Report pages) = report_text pages
text_behind _ = []

-- the text of a reply
abbrev pub text_of : Reply → List ℕ
text_of reply = line_of (at reply.step ∷ answer_words reply.answer) ++ text_behind reply.answer
