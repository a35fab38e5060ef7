-- The answers to items, computed, where each request is of a form whose outcome is a function of the history.
use Rattle.std.{proofs.Common.{ℕ, List, [], ◌∷◌, refl, Option, Some, None, Ok, Err}, specs.Prelude.find, specs.List.{AllByRecursion, flat_map}}
use Rattle.request_model.specs.{declared.requests.Request.Request, declared.replies.Reply.Reply, Requests.machine_of}
use Rattle.request_model.specs.declared.requests.Request.TheVariants as request
use Rattle.request_model.specs.declared.replies.Answer.TheVariants as answer
use Rattle.request_model.specs.declared.replies.Refusal.TheVariants as refusal
use Rattle.reply_text.specs.Replies.{text_of}
use Rattle.request_words.specs.Bodies.{Item}
use Rattle.history_model.specs.{declared.entries.Author.Author, declared.entries.Entry.Entry, Entries.entries_of}
use Rattle.track_model.specs.Following as following
use Rattle.track_model.specs.Forms as forms
use Rattle.track_model.specs.{Outcomes.{Outcome, tells, refuses}, Tracks.{Track, ComesTo, base_asked}}
use Rattle.script_desk.specs.Sessions.{Answered, is_track, untouched, unknown, stepped, AnswersAbout, State, AnswersFor}
use Rattle.script_loop.specs.Folds.{AnswersItem, AreAnswers}
use Rattle.script_session.specs.Laws.{IsComputed, AsksComputed, OutputsExist}

-- what a request of these forms comes to; of the other forms it is anything
abbrev computed : List Entry → Request → Outcome
computed h (request.Machine machine) = tells (answer.Machine machine)
computed h (request.Commit machine number name) = forms.commit h number name
computed h (request.Submit machine commit run samples ignored stated) = forms.submit h machine commit run samples ignored stated
computed h (request.Retract machine run) = forms.retract h run
computed h (request.Tune machine metric penalty given) = forms.tune_to h metric penalty given
computed h (request.SetState machine number state) = following.set_state h number state
computed h (request.Bisect machine lo hi) = following.bisect h lo hi
computed h (request.Answer machine number commit status) = following.answer_job h number commit status
computed h (request.Resume machine number) = following.resume h number
computed h (request.Job machine number) = following.job h number
computed h (request.Runs machine) = forms.runs h
computed h q = refuses refusal.BadRequest

abbrev pub about : Option Track → Author → List Track → Request → Answered
about None author tracks q = unknown tracks q
about (Some t) author tracks q = stepped author tracks q t (computed (entries_of t.history) q)

abbrev pub answered : Author → List Track → Item → Answered
answered author tracks (Err reason) = untouched tracks (refuses reason)
answered author tracks (Ok q) = about (find (is_track (machine_of q)) tracks) author tracks q

abbrev pub replies : Author → List Track → List Item → List Reply
replies author tracks [] = []
replies author tracks (item ∷ items) = (answered author tracks item).reply ∷ replies author (answered author tracks item).tracks items

abbrev pub after : Author → List Track → List Item → List Track
after author tracks [] = tracks
after author tracks (item ∷ items) = after author (answered author tracks item).tracks items

abbrev state : Author → List Track → State
state author tracks = record { author = author; tracks = tracks }

comes : (h : List Entry) (base : ℕ) (q : Request) → IsComputed q → ComesTo h base q (computed h q)
comes h base (request.Machine machine) is = refl
comes h base (request.Commit machine number name) is = refl
comes h base (request.Submit machine commit run samples ignored stated) is = refl
comes h base (request.Retract machine run) is = refl
comes h base (request.Tune machine metric penalty given) is = refl
comes h base (request.Calibrate machine test metric factor) is = absurd is
comes h base (request.Segment machine test metric) is = absurd is
comes h base (request.Changes machine test metric) is = absurd is
comes h base (request.Verify machine test metric) is = absurd is
comes h base (request.Regress machine test metric change) is = absurd is
comes h base (request.SetState machine number state) is = refl
comes h base (request.Bisect machine lo hi) is = refl
comes h base (request.Answer machine number commit status) is = refl
comes h base (request.Resume machine number) is = refl
comes h base (request.Job machine number) is = refl
comes h base (request.Runs machine) is = refl
comes h base (request.Report machine json) is = absurd is

about_is : (found : Option Track) (author : Author) (tracks : List Track) (q : Request) → IsComputed q → AnswersAbout found author tracks q (about found author tracks q)
about_is None author tracks q is = refl
about_is (Some t) author tracks q is = (computed (entries_of t.history) q, comes (entries_of t.history) (base_asked t q) q is, refl)

answered_is : (author : Author) (tracks : List Track) (item : Item) → AsksComputed item
    → AnswersItem AnswersFor (state author tracks) item (Some (answered author tracks item).reply) (state author (answered author tracks item).tracks)
answered_is author tracks (Err reason) is = (refl, refl)
answered_is author tracks (Ok q) is = ((answered author tracks (Ok q)).reply, (refl, about_is (find (is_track (machine_of q)) tracks) author tracks q is), refl)

answers_are : (author : Author) (tracks : List Track) (items : List Item) → AllByRecursion AsksComputed items
    → AreAnswers AnswersFor (state author tracks) items (replies author tracks items) (state author (after author tracks items))
answers_are author tracks [] are = (refl, refl)
answers_are author tracks (item ∷ items) are = (
  Some (answered author tracks item).reply,
  state author (answered author tracks item).tracks,
  replies author (answered author tracks item).tracks items,
  answered_is author tracks item are.0,
  refl,
  answers_are author (answered author tracks item).tracks items are.1,
)

-- all items of these forms have an output
pub outputs_exist : OutputsExist AnswersFor
outputs_exist before items are = (
  flat_map text_of (replies before.author before.tracks items),
  state before.author (after before.author before.tracks items),
  record { replies = replies before.author before.tracks items; answers = answers_are before.author before.tracks items are; told = refl },
)
