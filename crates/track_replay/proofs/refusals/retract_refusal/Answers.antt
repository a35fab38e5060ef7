use Rattle.std.{proofs.Common.{◌≡◌, ℕ, List, sym, ap, ◌∙◌}, specs.Prelude.{find, option_map}}
use Rattle.history_model.specs.{declared.entries.Entry.Entry, Entries.entries_of}
use Rattle.request_model.specs.declared.replies.Answer.TheVariants as answer
use Rattle.request_model.specs.declared.replies.Refusal.TheVariants as refusal
use Rattle.sample_store.specs.Runs.{names}
use Rattle.machine_state.specs.Indexes.{stored_runs}
use Rattle.track_replay.proofs.Retractions.{refusal-unknown, refusal-stored}
use Rattle.track_replay.proofs.refusals.retract_refusal.Goals as goal

pub returns-in_default : goal.returns-in_default
returns-in_default c =
    let h : List Entry = entries_of c.args.track.now.history in
    let runs_are : c.stored_runs.result.now ≡ stored_runs h = c.stored_runs.ensures in
    sym (refusal-unknown h c.args.run.now (ap (find (names c.args.run.now)) (sym runs_are) ∙ sym c.in_default.ensures))

pub returns-in-Some-retracted : goal.returns-in-Some-retracted
returns-in-Some-retracted c =
    let h : List Entry = entries_of c.args.track.now.history in
    let runs_are : c.stored_runs.result.now ≡ stored_runs h = c.stored_runs.ensures in
    sym (refusal-stored h c.args.run.now c.in-Some.stored.now (ap (find (names c.args.run.now)) (sym runs_are) ∙ sym c.in-Some.ensures)
    ∙ ap (option_map (λ (step : ℕ). answer.Refused (refusal.AlreadyRetracted step))) c.in-Some-retracted.is)

pub returns : goal.returns
returns c =
    let h : List Entry = entries_of c.args.track.now.history in
    let runs_are : c.stored_runs.result.now ≡ stored_runs h = c.stored_runs.ensures in
    sym (refusal-stored h c.args.run.now c.in-Some.stored.now (ap (find (names c.args.run.now)) (sym runs_are) ∙ sym c.in-Some.ensures)
    ∙ ap (option_map (λ (step : ℕ). answer.Refused (refusal.AlreadyRetracted step))) c.in_default-retracted.is)
