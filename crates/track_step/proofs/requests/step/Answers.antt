use Rattle.std.{proofs.Common.{◌≡◌, ℕ, List, refl, sym, ap, subst, ◌∙◌}, specs.Prelude.{IfOk, Result, Ok, Err}}
use Rattle.history_model.specs.{declared.entries.Entry.Entry, Entries.entries_of, declared.entries.Author.Author}
use Rattle.request_model.specs.declared.replies.Answer.TheVariants as answer
use Rattle.request_model.specs.{declared.replies.Reply.Reply, declared.requests.Request.Request, Requests.machine_of}
use Rattle.track_model.specs.Forms as forms
use Rattle.track_model.specs.{Outcomes.Outcome, Replies.reply_of, Publishing.{ChangesComeTo, VerifyComesTo}, Reports.ReportComesTo}
use Rattle.track_model.specs.Outcomes as outcomes
use Rattle.request_model.specs.declared.requests.Request.TheVariants as request
use Rattle.track_model.specs.Following as following
use Rattle.track_model.specs.Tracks.{ComesTo, IsStep, IsTold, Track, with_added}
use Rattle.track_follow.proofs.Told.{tells-it, any-step}
use Rattle.track_step.proofs.requests.step.Goals as goal

pub returns-in_ok-machine-in-Machine-clause-step : goal.returns-in_ok-machine-in-Machine-clause-step
returns-in_ok-machine-in-Machine-clause-step c =
    let h : List Entry = entries_of c.args.track.now.history in
    let name = c.in_ok-machine-in-Machine.machine in
    tells-it (ComesTo h 0 c.args.request.now) c.args.track.now c.args.author (answer.Machine name) c.told.result
    (subst (λ (q : Request). ComesTo h 0 q (outcomes.tells (answer.Machine name))) (sym c.in-Machine.is) (ap (λ (n : List _). outcomes.tells (answer.Machine n)) c.in_ok-machine-in-Machine.ensures))
    c.told.ensures

if-ok : {E : Type 0} (P Q : Reply → Type 0) (r : Result Reply E) → ((x : Reply) → P x → Q x) → IfOk r P → IfOk r Q
if-ok P Q (Ok x) to p = to x p
if-ok P Q (Err e) to p = p

module _ {E : Type 0} (t : Track) (author : Author) (told : Result Reply E) where
  abbrev StepsBy : Request → Type 0
  StepsBy q = IfOk told (λ reply. (o : Outcome) × ComesTo (entries_of t.history) 0 q o × IsStep t author o t reply)

  -- one outcome is told
  tells : {q r : Request} (o : Outcome) → r ≡ q → ComesTo (entries_of t.history) 0 q o → t ≡ with_added author t o.adds → IfOk told (λ reply. reply ≡ reply_of (entries_of t.history) o) → StepsBy r
  tells {r = r} o is comes same = if-ok (λ reply. reply ≡ reply_of (entries_of t.history) o) (λ reply. (p : Outcome) × ComesTo (entries_of t.history) 0 r p × IsStep t author p t reply) told
      (λ reply is_told. (o, subst (λ (q : Request). ComesTo (entries_of t.history) 0 q o) (sym is) comes, record { track = same; told = is_told }))

  -- what adds nothing is the same for whoever asked
  told-by : {q r : Request} (P : Outcome → Type 0) → r ≡ q → ((o : Outcome) → P o → ComesTo (entries_of t.history) 0 q o) → IfOk told (λ reply. (o : Outcome) × P o × IsTold t o reply) → StepsBy r
  told-by {r = r} P is to = if-ok (λ reply. (o : Outcome) × P o × IsTold t o reply) (λ reply. (o : Outcome) × ComesTo (entries_of t.history) 0 r o × IsStep t author o t reply) told
      (λ reply x. (x.0, subst (λ (q : Request). ComesTo (entries_of t.history) 0 q x.0) (sym is) (to x.0 x.1), any-step t author x.0 reply x.2))

pub returns-in-Runs-clause-step : goal.returns-in-Runs-clause-step
returns-in-Runs-clause-step c = tells c.args.track.now c.args.author c.runs.result (forms.runs (entries_of c.args.track.now.history)) c.in-Runs.is refl refl c.runs.ensures

pub returns-in-Job-clause-step : goal.returns-in-Job-clause-step
returns-in-Job-clause-step c = tells c.args.track.now c.args.author c.job.result (following.job (entries_of c.args.track.now.history) c.in-Job.job) c.in-Job.is refl refl c.job.ensures

pub returns-in-Changes-clause-step : goal.returns-in-Changes-clause-step
returns-in-Changes-clause-step c =
    told-by c.args.track.now c.args.author c.changes.result (ChangesComeTo (entries_of c.args.track.now.history) (record { test = c.in-Changes.test; metric = c.in-Changes.metric })) c.in-Changes.is
    (λ o comes. comes) c.changes.ensures

pub returns-in-Verify-clause-step : goal.returns-in-Verify-clause-step
returns-in-Verify-clause-step c =
    told-by c.args.track.now c.args.author c.verify.result (VerifyComesTo (entries_of c.args.track.now.history) (record { test = c.in-Verify.test; metric = c.in-Verify.metric })) c.in-Verify.is
    (λ o comes. comes) c.verify.ensures

pub returns-in-Report-clause-step : goal.returns-in-Report-clause-step
returns-in-Report-clause-step c =
    let h : List Entry = entries_of c.args.track.now.history in
    let asked : (machine : List ℕ) → c.args.request.now ≡ request.Report machine c.in-Report.json → c.args.track.now.machine ≡ machine = λ machine is. sym c.requires.asked ∙ ap machine_of is in
    rw c.report.ensures.same (told-by c.args.track.now c.args.author c.report.result (ReportComesTo h c.args.track.now.machine c.in-Report.json) c.in-Report.is
    (λ o comes. subst (λ (m : List ℕ). ReportComesTo h m c.in-Report.json o) (asked _ c.in-Report.is) comes) c.report.ensures.step)
