use Rattle.std.{proofs.Common.{◌≡◌, refl, ◌<◌, length, ℕ, List, sym, ◌∙◌, arith, subst}, specs.Prelude.None, proofs.lemmas.List.length-map}
use Rattle.metric_table.specs.Limits.{most}
use Rattle.metric_table.specs.declared.limits.Limit.TheVariants as limit
use Rattle.history_model.specs.{declared.entries.Entry.Entry, declared.entries.Placed.Placed, Allowed.{Allowed, KeepsLimits}, Entries.entries_of}
use Rattle.history_model.specs.declared.entries.Entry.TheVariants as entry
use Rattle.track_model.specs.Forms as forms
use Rattle.track_follow.proofs.{Retractions.free-run, Series.no-more}
use Rattle.track_step.proofs.commits.retract.Goals as goal

pub add-requires-clause-allowed : goal.add-requires-clause-allowed
add-requires-clause-allowed c =
    let run : List ℕ = c.args.run.now in
    let h : List Entry = entries_of c.args.track.now.history in
    let free : forms.retract_refusal h run ≡ None = sym c.retract_refusal.ensures ∙ c.in_default.is in
    let may = free-run h run free in
    let size : length h ≡ length c.args.track.now.history = length-map c.args.track.now.history (λ (p : Placed). p.entry) in
    let room : length h < most limit.Steps = omega (arith, c.len.ensures, size, c.if-len-most.false, c.most.ensures) in
    let limits : KeepsLimits h = c.history_law.ensures.limits in
    let P : List ℕ → Type 0 = λ copied. Allowed h (entry.Retract copied) in
    subst P (sym c.in_ok-run.ensures) (c.retract_law.ensures.allowed h run limits may.0 may.1 room)

pub add-requires-clause-more : goal.add-requires-clause-more
add-requires-clause-more c = no-more (entries_of c.args.track.now.history) (entry.Retract c.in_ok-run.run') refl
