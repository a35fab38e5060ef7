-- Worked scripts, answered by the definitions alone.
use Rattle.std.{proofs.Common.{◌≡◌, ℕ, pos, Bool, true, false, List, [], ◌∷◌, ◌++◌, refl}, specs.Prelude.{codes, Option, Some, None}}
use Rattle.request_model.specs.declared.{runs.RunLine.RunLine, requests.Request.Request, replies.Answer.Answer, replies.Reply.Reply}
use Rattle.segment_model.specs.Segments.{Position}
use Rattle.history_model.specs.{declared.entries.Entry.Entry, Runs.Series, Positions.positions}
use Rattle.history_model.specs.declared.entries.Entry.TheVariants as entry
use Rattle.request_model.specs.declared.requests.Request.TheVariants as request
use Rattle.request_model.specs.declared.replies.Answer.TheVariants as answer
use Rattle.request_model.specs.declared.replies.Refusal.TheVariants as refusal
use Rattle.sample_model.specs.Samples.{Measurement}
use Rattle.track_model.specs.Forms as forms
use Rattle.track_model.specs.{Outcomes.Outcome, Replies.reply_of}

-- ---- the requests about one declared machine, answered one after another
after : List Entry → Option Entry → List Entry
after h None = h
after h (Some e) = h ++ e ∷ []

-- what the requests of these scripts come to
abbrev outcome : List Entry → Request → Outcome
outcome h (request.Commit machine number name) = forms.commit h number name
outcome h (request.Submit machine commit run samples ignored stated) = forms.submit h machine commit run samples ignored stated
outcome h (request.Retract machine run) = forms.retract h run
outcome h (request.Tune machine metric penalty given) = forms.tune_to h metric penalty given
outcome h q = forms.runs h

abbrev replies : List Entry → List Request → List Reply
replies h [] = []
replies h (q ∷ qs) = reply_of h (outcome h q) ∷ replies (after h (outcome h q).adds) qs

said : ℕ → Answer → Reply
said step a = record { step = step; answer = a }

m : List ℕ
m = codes "m1"

bytes_per_op : Series
bytes_per_op = record { test = codes "X"; metric = codes "B/op" }

value : ℕ → Measurement
value v = record { test = codes "X"; metric = codes "B/op"; value = pos v }

script : List Request
script =
    request.Commit m 20 (codes "b")
    ∷ request.Commit m 10 (codes "a")
    ∷ request.Commit m 10 (codes "a")
    ∷ request.Commit m 10 (codes "c")
    ∷ request.Submit m (codes "b") (codes "r1") (value 5 ∷ value 6 ∷ []) 0 None
    ∷ request.Submit m (codes "a") (codes "r2") (value 7 ∷ []) 0 None
    ∷ request.Submit m (codes "b") (codes "r3") (value 8 ∷ []) 0 None
    ∷ request.Submit m (codes "b") (codes "r1") (value 5 ∷ value 6 ∷ []) 0 None
    ∷ request.Submit m (codes "b") (codes "r1") (value 5 ∷ []) 0 None
    ∷ request.Retract m (codes "r9")
    ∷ request.Retract m (codes "r1")
    ∷ request.Retract m (codes "r1")
    ∷ []

wanted : List Reply
wanted =
    said 1 (answer.Commit 20 (codes "b"))
    ∷ said 2 (answer.Commit 10 (codes "a"))
    ∷ said 2 (answer.Duplicate 2)
    ∷ said 2 (answer.Refused (refusal.CommitTaken 10 (codes "a")))
    ∷ said 3 (answer.Accepted (codes "r1") 2 0)
    ∷ said 4 (answer.Accepted (codes "r2") 1 0)
    ∷ said 5 (answer.Accepted (codes "r3") 1 0)
    ∷ said 5 (answer.Duplicate 3)
    ∷ said 5 (answer.Refused (refusal.IdentityClash 3))
    ∷ said 5 (answer.Refused refusal.UnknownRun)
    ∷ said 6 (answer.Retracted (codes "r1"))
    ∷ said 6 (answer.Refused (refusal.AlreadyRetracted 6))
    ∷ []

the_script_is_answered : replies [] script ≡ wanted
unfolding script wanted after said m value
the_script_is_answered = refl

-- the positions of the series, before the retraction and after it
session : List Entry
session =
    entry.Commit 20 (codes "b")
    ∷ entry.Commit 10 (codes "a")
    ∷ entry.Accept (record { run = codes "r1"; commit = 20; samples = value 5 ∷ value 6 ∷ [] })
    ∷ entry.Accept (record { run = codes "r2"; commit = 10; samples = value 7 ∷ [] })
    ∷ entry.Accept (record { run = codes "r3"; commit = 20; samples = value 8 ∷ [] })
    ∷ []

two_positions : List Position
two_positions =
    record { commit = 10; samples = record { step = 4; value = pos 7 } ∷ [] }
    ∷ record { commit = 20; samples = record { step = 3; value = pos 5 } ∷ record { step = 3; value = pos 6 } ∷ record { step = 5; value = pos 8 } ∷ [] }
    ∷ []

the_positions : positions session bytes_per_op ≡ two_positions
unfolding session two_positions value bytes_per_op
the_positions = refl

-- ---- a session in which identities come again: a duplicate, a clash, a retraction, and the duplicate of a retracted run
commits : List Request
commits =
    request.Commit m 10 (codes "a")
    ∷ request.Commit m 20 (codes "b")
    ∷ request.Commit m 30 (codes "c")
    ∷ request.Commit m 40 (codes "d")
    ∷ []

again : List Request
again =
    request.Submit m (codes "a") (codes "r1") (value 0 ∷ []) 0 None
    ∷ request.Submit m (codes "b") (codes "r2") (value 0 ∷ []) 0 None
    ∷ request.Submit m (codes "d") (codes "r4") (value 10 ∷ []) 0 None
    ∷ request.Submit m (codes "c") (codes "r3") (value 10 ∷ []) 0 None
    ∷ request.Submit m (codes "a") (codes "r1") (value 0 ∷ []) 0 None
    ∷ request.Submit m (codes "a") (codes "r1") (value 5 ∷ []) 0 None
    ∷ request.Retract m (codes "r1")
    ∷ request.Retract m (codes "r1")
    ∷ request.Submit m (codes "a") (codes "r1") (value 0 ∷ []) 0 None
    ∷ request.Submit m (codes "e") (codes "r1") (value 0 ∷ []) 0 None
    ∷ request.Submit m (codes "e") (codes "r5") (value 0 ∷ []) 0 (Some (codes "m2"))
    ∷ request.Submit m (codes "d") (codes "r5") (value 9 ∷ []) 3 (Some m)
    ∷ request.Commit m 10 (codes "b")
    ∷ request.Commit m 50 (codes "b")
    ∷ request.Runs m
    ∷ []

line : List ℕ → List ℕ → Bool → RunLine
line run commit live = record { run = run; commit = commit; samples = 1; live = live }

told_again : List Reply
told_again =
    said 1 (answer.Commit 10 (codes "a"))
    ∷ said 2 (answer.Commit 20 (codes "b"))
    ∷ said 3 (answer.Commit 30 (codes "c"))
    ∷ said 4 (answer.Commit 40 (codes "d"))
    ∷ said 5 (answer.Accepted (codes "r1") 1 0)
    ∷ said 6 (answer.Accepted (codes "r2") 1 0)
    ∷ said 7 (answer.Accepted (codes "r4") 1 0)
    ∷ said 8 (answer.Accepted (codes "r3") 1 0)
    ∷ said 8 (answer.Duplicate 5)
    ∷ said 8 (answer.Refused (refusal.IdentityClash 5))
    ∷ said 9 (answer.Retracted (codes "r1"))
    ∷ said 9 (answer.Refused (refusal.AlreadyRetracted 9))
    ∷ said 9 (answer.Duplicate 5)
    ∷ said 9 (answer.Refused refusal.UnknownCommit)
    ∷ said 9 (answer.Refused (refusal.NotReport 6 (codes "machine.name")))
    ∷ said 10 (answer.Accepted (codes "r5") 1 3)
    ∷ said 10 (answer.Refused (refusal.CommitTaken 10 (codes "a")))
    ∷ said 10 (answer.Refused (refusal.CommitTaken 20 (codes "b")))
    ∷ said 10 (answer.Runs (
    line (codes "r1") (codes "a") false
    ∷ line (codes "r2") (codes "b") true
    ∷ line (codes "r4") (codes "d") true
    ∷ line (codes "r3") (codes "c") true
    ∷ line (codes "r5") (codes "d") true
    ∷ []))
    ∷ []

identities_count_once : replies [] (commits ++ again) ≡ told_again
unfolding commits again told_again after said line m value
identities_count_once = refl

-- ---- settings of a metric: where no least length is given, the present one stays
tunings : List Request
tunings =
    request.Tune m (codes "B/op") (pos 40) None
    ∷ request.Tune m (codes "B/op") (pos 40) (Some 2)
    ∷ request.Tune m (codes "B/op") (pos 30) None
    ∷ request.Tune m (codes "B/op") (pos 30) (Some 1)
    ∷ []

told_lengths : List Reply
told_lengths =
    said 2 (answer.Tuned (codes "B/op") (pos 40) 1)
    ∷ said 3 (answer.Tuned (codes "B/op") (pos 40) 2)
    ∷ said 4 (answer.Tuned (codes "B/op") (pos 30) 2)
    ∷ said 5 (answer.Tuned (codes "B/op") (pos 30) 1)
    ∷ []

the_length_stays : replies (entry.Tune (codes "B/op") (pos 50) 1 ∷ []) tunings ≡ told_lengths
unfolding tunings told_lengths after said m
the_length_stays = refl
