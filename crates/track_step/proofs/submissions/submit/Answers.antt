use Rattle.std.{proofs.Common.{◌≡◌, ℕ, List, ap, sym, subst, ◌∙◌}, specs.Prelude.{Option, IsSome, None, unwrap_or}}
use Rattle.history_model.specs.{declared.entries.Entry.Entry, declared.run.Run.Run, Commits.name_of, Entries.entries_of}
use Rattle.track_model.specs.Forms as forms
use Rattle.sample_model.specs.Samples.{AreSamples}
use Rattle.track_follow.{specs.Verdict.Verdict, specs.Verdicts.IsVerdict, proofs.Named.number-is-named}
use Rattle.track_step.proofs.Submits.{free-submit}
use Rattle.track_step.proofs.submissions.submit.Goals as goal

pub add-requires-clause-allowed : goal.add-requires-clause-allowed
add-requires-clause-allowed c =
    let h : List Entry = entries_of c.args.track.now.history in
    let new : Run = c.in_ok-new.new in
    let new_is : new ≡ forms.submitted h c.args.commit.now c.args.run.now c.args.samples.now = c.in_ok-new.ensures
    ∙ ap (λ (o : Option ℕ). record { run = c.args.run.now; commit = unwrap_or o 0; samples = c.args.samples.now }) c.number_of-number.ensures in
    let free : forms.submit_refusal h c.args.track.now.machine c.args.commit.now new c.args.stated.now ≡ None = sym (c.in_ok-answer.ensures c.args.commit.now c.number_of-number.ensures) ∙ c.in_default.is in
    let both = free-submit h c.args.track.now.machine c.args.commit.now new c.args.stated.now free in
    let named : IsSome (name_of new.commit h) = let P : Run → Type 0 = λ run. IsSome (name_of run.commit h) in subst P (sym new_is) (number-is-named h c.args.commit.now both.0) in
    let are : AreSamples new.samples = let P : Run → Type 0 = λ run. AreSamples run.samples in subst P (sym new_is) c.limits.ensures in
    let fits = let P : Verdict → Type 0 = λ v. IsVerdict h new v in subst P c.in-Fits.is c.in_ok-limit.ensures in
    ((both.1, named, are), c.within_law.ensures.run h new c.history_law.ensures.limits are fits.0)
