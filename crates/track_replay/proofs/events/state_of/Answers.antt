use Rattle.std.{proofs.Common.{◌≡◌, List, sym, ap, ◌∙◌, Some, None}, specs.Prelude.option_copied}
use Rattle.history_model.specs.{declared.entries.Entry.Entry, Entries.entries_of}
use Rattle.follow_index.specs.{Followed.followed, Numbered.followed_in}
use Rattle.track_replay.proofs.Allowances.{state-some, state-none}
use Rattle.track_replay.proofs.events.state_of.Goals as goal

pub returns-in-Some : goal.returns-in-Some
returns-in-Some c =
    let h : List Entry = entries_of c.args.track.now.history in
    let there : followed_in c.args.number (followed h) ≡ Some c.in-Some.followed.now =
    ap (followed_in c.args.number) (sym c.regressions.ensures) ∙ sym c.get.ensures ∙ ap option_copied c.in-Some.is in
    state-some h c.args.number c.in-Some.followed.now there

pub returns-in-None : goal.returns-in-None
returns-in-None c =
    let h : List Entry = entries_of c.args.track.now.history in
    let none : followed_in c.args.number (followed h) ≡ None =
    ap (followed_in c.args.number) (sym c.regressions.ensures) ∙ sym c.get.ensures ∙ ap option_copied c.in-None.is in
    state-none h c.args.number none
