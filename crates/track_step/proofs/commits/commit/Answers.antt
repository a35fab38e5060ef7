use Rattle.std.{proofs.Common.{◌≡◌, ◌+◌, length, ℕ, List, sym, ap, ◌∙◌, arith, refl, subst}, specs.Prelude.None, proofs.lemmas.List.length-map}
use Rattle.metric_table.specs.declared.limits.Limit.TheVariants as limit
use Rattle.history_model.specs.{declared.entries.Entry.Entry, declared.entries.Placed.Placed, Allowed.Allowed, Commits.declarations, Entries.entries_of}
use Rattle.history_model.specs.declared.entries.Entry.TheVariants as entry
use Rattle.request_model.specs.declared.replies.Answer.TheVariants as answer
use Rattle.request_model.specs.declared.replies.Refusal.TheVariants as refusal
use Rattle.track_model.specs.Forms as forms
use Rattle.track_model.specs.Laws.{CommitFits}
use Rattle.track_follow.proofs.{Steps.{told-step, added-step}, Series.no-more}
use Rattle.track_step.proofs.commits.commit.Goals.{In_default, In_ok-name}
use Rattle.track_step.proofs.commits.commit.Goals as goal

-- a free pair, for which there is room where the tests say so
module _ (c : In_default) where
  abbrev h : List Entry
  h = entries_of c.args.track.now.history

  free : forms.commit_refusal (declarations h) c.args.number c.args.name.now ≡ None
  free = sym c.in_ok-answer.ensures ∙ c.in_default.is

fits : (c : In_ok-name) → CommitFits (entries_of c.args.track.now.history) c.args.number c.args.name.now
fits c = record {
  free = sym c.in_ok-answer.ensures ∙ c.in_default.is;
  commits = omega (arith, c.len.ensures, ap length c.commits.ensures, c.if-len-most.false, c.most.ensures);
  steps = omega (arith, c.len-2.ensures, length-map c.args.track.now.history (λ (p : Placed). p.entry), c.if-len-most-2.false, c.most-2.ensures);
}

pub returns-then-len-most-clause-step : goal.returns-then-len-most-clause-step
returns-then-len-most-clause-step c =
    let at = (goal.at.returns-then-len-most-clause-step c).In_default in
    told-step c.args.track.now c.args.author (forms.commit (h at) c.args.number c.args.name.now) (answer.Refused (refusal.Full limit.Commits)) c.told-then-len-most.result
    (c.commit_law.ensures.commits_full (h at) c.args.number c.args.name.now (free at) (omega (arith, c.len.ensures, ap length c.commits.ensures, c.if-len-most.true, c.most.ensures)))
    c.told-then-len-most.ensures

pub returns-then-len-most-2-clause-step : goal.returns-then-len-most-2-clause-step
returns-then-len-most-2-clause-step c =
    let at = (goal.at.returns-then-len-most-2-clause-step c).In_default in
    told-step c.args.track.now c.args.author (forms.commit (h at) c.args.number c.args.name.now) (answer.Refused (refusal.Full limit.Steps)) c.told-then-len-most-2.result
    (c.commit_law.ensures.steps_full (h at) c.args.number c.args.name.now (free at) (omega (arith, c.len.ensures, ap length c.commits.ensures, c.if-len-most.false, c.most.ensures))
    (omega (arith, c.len-2.ensures, length-map c.args.track.now.history (λ (p : Placed). p.entry), c.if-len-most-2.true, c.most-2.ensures)))
    c.told-then-len-most-2.ensures

pub add-requires-clause-allowed : goal.add-requires-clause-allowed
add-requires-clause-allowed c =
    let h : List Entry = entries_of c.args.track.now.history in
    subst (λ (copied : List ℕ). Allowed h (entry.Commit c.args.number copied)) (sym c.in_ok-name.ensures)
    (c.commit_law.ensures.allowed h c.args.number c.args.name.now c.history_law.ensures.limits (fits (goal.at.add-requires-clause-allowed c).In_ok-name))

pub returns-clause-step : goal.returns-clause-step
returns-clause-step c =
    let h : List Entry = entries_of c.args.track.now.history in
    let number : ℕ = c.args.number in
    let name : List ℕ = c.args.name.now in
    rw (c.in_ok-step.ensures.step, c.in_ok-copy.ensures)
    (added-step c.args.track.now c.args.author (forms.commit h number name) (answer.Commit number name) (entry.Commit number name) c.add.new.self
    (record { step = length h + 1; answer = answer.Commit number name })
    (c.commit_law.ensures.added h number name (fits (goal.at.returns-clause-step c).In_ok-name)) (rw (← c.in_ok-name.ensures) c.in_ok-step.ensures.track) refl)

pub add-requires-clause-more : goal.add-requires-clause-more
add-requires-clause-more c = no-more (entries_of c.args.track.now.history) (entry.Commit c.args.number c.in_ok-name.name) refl
