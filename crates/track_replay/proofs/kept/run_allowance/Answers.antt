use Rattle.std.proofs.Common.{List, subst}
use Rattle.history_model.specs.{declared.entries.Entry.Entry, Entries.entries_of, Allowed.run_limits}
use Rattle.history_model.specs.declared.entries.Entry.TheVariants as entry
use Rattle.track_replay.{specs.declared.verdict.Verdict.Verdict, specs.Verdicts.IsVerdict, proofs.Replaying.passed}
use Rattle.track_replay.proofs.kept.run_allowance.Goals as goal

pub returns-in-Full : goal.returns-in-Full
returns-in-Full c allowed =
    let h : List Entry = entries_of c.args.track.now.history in
    let full = let P : Verdict → Type 0 = λ v. IsVerdict h c.args.run.now v in subst P c.in-Full.is c.in_ok-room_for.ensures in
    passed run_limits h (entry.Accept c.args.run.now) c.in-Full.field-0 full allowed.1
