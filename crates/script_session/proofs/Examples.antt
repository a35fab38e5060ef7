-- Worked scripts, answered by the definitions alone.
use Rattle.std.{proofs.Common.{◌≡◌, ℕ, zero, suc, pos, Bool, true, false, List, [], ◌∷◌, ◌++◌, refl, None, Ok, Err}, specs.Prelude.codes, specs.Fmt.digits}
use Rattle.std.specs.List.{flat_map}
use Rattle.request_model.specs.declared.requests.Request.TheVariants as request
use Rattle.request_model.specs.declared.replies.Refusal.TheVariants as refusal
use Rattle.request_model.specs.declared.{replies.Reply.Reply, replies.Answer.Answer, runs.RunLine.RunLine}
use Rattle.request_model.specs.declared.replies.Answer.TheVariants as answer
use Rattle.metric_table.specs.declared.limits.Limit.TheVariants.{Machines}
use Rattle.reply_text.specs.Replies.{text_of}
use Rattle.sample_model.specs.Samples.{Measurement}
use Rattle.request_words.specs.Bodies.{Item}
use Rattle.history_model.specs.declared.entries.Author.TheVariants as author
use Rattle.history_model.specs.declared.entries.Entry.TheVariants as entry
use Rattle.std.specs.FinSet as set
use Rattle.track_model.specs.Tracks.{Track, new_track}
use Rattle.script_session.proofs.Computed.{answered, replies}

-- ---- a session in which identities come again: a duplicate, a clash, a retraction, and the duplicate of a retracted run
m : List ℕ
m = codes "m1"

value : ℕ → List Measurement
value v = record { test = codes "X"; metric = codes "B/op"; value = pos v } ∷ []

script : List Item
script =
    Ok (request.Commit m 1 (codes "a"))
    ∷ Ok (request.Machine m)
    ∷ Ok (request.Commit m 10 (codes "a"))
    ∷ Ok (request.Commit m 20 (codes "b"))
    ∷ Ok (request.Machine m)
    ∷ Err refusal.BadRequest
    ∷ Ok (request.Submit m (codes "a") (codes "r1") (value 0) 0 None)
    ∷ Ok (request.Submit m (codes "b") (codes "r2") (value 0) 0 None)
    ∷ Ok (request.Submit m (codes "a") (codes "r1") (value 0) 0 None)
    ∷ Ok (request.Submit m (codes "a") (codes "r1") (value 5) 0 None)
    ∷ Ok (request.Retract m (codes "r1"))
    ∷ Ok (request.Retract m (codes "r1"))
    ∷ Ok (request.Submit m (codes "a") (codes "r1") (value 0) 0 None)
    ∷ Ok (request.Tune m (codes "B/op") (pos 50) None)
    ∷ Ok (request.Runs m)
    ∷ []

said : ℕ → Answer → Reply
said step a = record { step = step; answer = a }

run_line : List ℕ → List ℕ → Bool → RunLine
run_line run commit live = record { run = run; commit = commit; samples = 1; live = live }

wanted : List Reply
wanted =
    said 0 (answer.Refused refusal.UnknownMachine)
    ∷ said 0 (answer.Machine m)
    ∷ said 1 (answer.Commit 10 (codes "a"))
    ∷ said 2 (answer.Commit 20 (codes "b"))
    ∷ said 2 (answer.Machine m)
    ∷ said 0 (answer.Refused refusal.BadRequest)
    ∷ said 3 (answer.Accepted (codes "r1") 1 0)
    ∷ said 4 (answer.Accepted (codes "r2") 1 0)
    ∷ said 4 (answer.Duplicate 3)
    ∷ said 4 (answer.Refused (refusal.IdentityClash 3))
    ∷ said 5 (answer.Retracted (codes "r1"))
    ∷ said 5 (answer.Refused (refusal.AlreadyRetracted 5))
    ∷ said 5 (answer.Duplicate 3)
    ∷ said 6 (answer.Tuned (codes "B/op") (pos 50) 1)
    ∷ said 6 (answer.Runs (run_line (codes "r1") (codes "a") false ∷ run_line (codes "r2") (codes "b") true ∷ []))
    ∷ []

the_script_is_answered : replies (author.Script 1) [] script ≡ wanted
unfolding script wanted m value said run_line
the_script_is_answered = refl

-- the text, line by line
line : List ℕ → List ℕ
line text = text ++ 10 ∷ []

wanted_lines : List (List ℕ)
wanted_lines =
    codes "@0 E03 UnknownMachine"
    ∷ codes "@0 machine m1"
    ∷ codes "@1 commit 10 a"
    ∷ codes "@2 commit 20 b"
    ∷ codes "@2 machine m1"
    ∷ codes "@0 E01 BadRequest"
    ∷ codes "@3 accepted r1 samples 1 ignored 0"
    ∷ codes "@4 accepted r2 samples 1 ignored 0"
    ∷ codes "@4 duplicate @3"
    ∷ codes "@4 E10 IdentityClash @3"
    ∷ codes "@5 retracted r1"
    ∷ codes "@5 E12 AlreadyRetracted @5"
    ∷ codes "@5 duplicate @3"
    ∷ codes "@6 tuned B/op 50"
    ∷ codes "@6 runs lines 2"
    ∷ codes "r1 a 1 retracted"
    ∷ codes "r2 b 1 live"
    ∷ []

the_text_is_written : flat_map text_of (replies (author.Script 1) [] script) ≡ flat_map line wanted_lines
unfolding script wanted_lines m value line digits
the_text_is_written = refl

-- ---- the 17th machine
machines : ℕ → List Track
machines zero = []
machines (suc n) = new_track (n ∷ []) false ∷ machines n

a_machine_too_many : answered (author.Script 1) (machines 16) (Ok (request.Machine m)) ≡ record { reply = said 0 (answer.Refused (refusal.Full Machines)); tracks = machines 16 }
unfolding m said machines
a_machine_too_many = refl

-- ---- a machine that the store had
kept : List Track
kept = record { machine = m; kept = true; history = record { author = author.Kept; entry = entry.Commit 10 (codes "a") } ∷ []; home = set.empty } ∷ []

it_was_there : replies (author.Script 1) kept (Ok (request.Commit m 10 (codes "a")) ∷ []) ≡ said 1 (answer.Duplicate 1) ∷ []
unfolding kept m said
it_was_there = refl
