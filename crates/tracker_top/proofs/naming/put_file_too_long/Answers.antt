use Rattle.std.proofs.Common.{ℕ, List, Option, sym, subst, arith, OnOk, OnErr}
use Rattle.command_words.specs.Texts.{shown}
use Rattle.track_outside.specs.Calls.{Took, FailedIn}
use Rattle.tracker_top.{specs.Plays.long_line, proofs.Audits.behind-journal}
use Rattle.tracker_top.proofs.naming.put_file_too_long.Goals as goal

pub returns-clause-ok : goal.returns-clause-ok
returns-clause-ok g c =
    let there = behind-journal c.args.journal.now (shown c.args.scripts.now) c.args.place (omega arith) in
    subst (λ (name : Option (List ℕ)). OnOk c.put_script_too_long.result (Took g.O.Sink c.args.err.now c.put_script_too_long.new.err (long_line name))) (sym there) c.put_script_too_long.ensures.ok

pub returns-clause-err : goal.returns-clause-err
returns-clause-err g c =
    let there = behind-journal c.args.journal.now (shown c.args.scripts.now) c.args.place (omega arith) in
    subst (λ (name : Option (List ℕ)). OnErr c.put_script_too_long.result (FailedIn g.O.Sink c.args.err.now c.put_script_too_long.new.err (long_line name))) (sym there) c.put_script_too_long.ensures.err
