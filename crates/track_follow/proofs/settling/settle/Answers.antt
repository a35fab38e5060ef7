use Rattle.std.proofs.{Common.{◌≡◌, ℕ, ◌<◌, List, length, sym, subst, Option, Some, None, arith}, lemmas.Grind.common_steps}
use Rattle.metric_table.specs.Limits.{most}
use Rattle.metric_table.specs.declared.limits.Limit.TheVariants as limit
use Rattle.history_model.specs.{declared.entries.Entry.Entry, declared.events.JobEvent.JobEvent, Allowed.{Allowed, KeepsLimits}, Entries.entries_of, Jobs.asked}
use Rattle.history_model.specs.declared.entries.Entry.TheVariants as entry
use Rattle.track_model.specs.Laws.{SayIsAllowed, GiveUpIsAllowed}
use Rattle.track_follow.specs.Settling.{entry_said}
use Rattle.track_follow.proofs.settling.settle.Goals as goal

may : SayIsAllowed → GiveUpIsAllowed → (h : List Entry) (job place : ℕ) (status : Option ℕ) → KeepsLimits h → asked job h ≡ Some place → length h < most limit.Steps
    → Allowed h (entry_said job place status)
may say give h job place None keeps asks room = give h job place keeps asks room
may say give h job place (Some status) keeps asks room = say h job place status keeps asks room

pub put_said-requires : goal.put_said-requires
put_said-requires c room =
    let h : List Entry = entries_of c.args.track.now.history in
    let asks : asked c.args.job h ≡ Some c.args.place = grind (arith, common_steps) in
    subst (λ (e : JobEvent). Allowed h (entry.Job e)) (sym c.said_of.ensures)
    (may c.say_law.ensures.tested c.say_law.ensures.given_up h c.args.job c.args.place c.args.status c.history_law.ensures.limits asks room)
