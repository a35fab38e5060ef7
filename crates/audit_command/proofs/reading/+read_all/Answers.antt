use Rattle.std.{proofs.Common.{◌∙◌, ◌≤◌, ◌+◌, ◌-◌, ℕ, length, sym, subst, arith}, specs.Prelude.IfErr, specs.Vec.Iter.into_iter_items}
use Rattle.audit_command.{specs.Reading.{ReadsAll, StopsAll, StopsBehind}, proofs.Gathered.{nothing_left, pushed_one, reads_none, stops_first, stops_then_err}}
use Rattle.audit_command.proofs.reading.+read_all.Goals as goal
use Rattle.audit_command.proofs.reading.+read_all.Goals.{in-Ok-push, in-Err-push}

pub returns-in_default-clause-read : goal.returns-in_default-clause-read
returns-in_default-clause-read g t c =
    subst (λ inputs. ReadsAll g.F.Input.Source inputs c.args.room c.args.texts.now.items c.args.texts.now.items) (sym (nothing_left (into_iter_items c.args.inputs) (sym c.args.inputs.rest.ok.0 ∙ c.in_default.ensures.cases.0)))
    (reads_none g.F.Input.Source c.args.room c.args.texts.now.items)

pub returns-in-Err-clause-stop : goal.returns-in-Err-clause-stop
returns-in-Err-clause-stop g t c =
    let rest = into_iter_items c.next.new.self in
    let stops = subst (λ (n : ℕ). StopsBehind g.F.Input.Source c.in-Some.input c.read_one-read.new.input 0 c.args.room (n + 1) c.in-Err.stop) (c.len.ensures ∙ c.args.texts.now.ok.0) c.in-Err.ensures.stop in
    let counts : g.F.Files.read_faults c.close_input.new.self ≤ g.F.Files.read_faults c.close_all-in-Err.new.files = c.close_all-in-Err.ensures.kept.reads in
    subst (λ inputs. StopsAll g.F.Files g.F.Input.Source inputs c.args.room (length c.args.texts.now.items) c.args.files.now c.close_all-in-Err.new.files c.in-Err.stop) (sym c.in-Some.ensures.items)
    (stops_first g.F.Input.Source g.F.Files c.in-Some.input c.read_one-read.new.input rest c.args.room (length c.args.texts.now.items) c.args.files.now c.close_input.new.self c.close_all-in-Err.new.files c.in-Err.stop
    stops (λ rose. c.close_input.ensures.rose (omega (arith, rose))) counts)

pub returns-after-push-clause-stop : goal.returns-after-push-clause-stop
returns-after-push-clause-stop g t c = elim c.match-push.branch [
  | in-Ok-push w ↦
      let rest = into_iter_items c.next.new.self in
      let stops = subst (λ (n : ℕ). IfErr w.read_all.result (StopsAll g.F.Files g.F.Input.Source rest (c.args.room - n) (length c.push.new.self.items) c.close_input.new.self w.read_all.new.files)) c.len-in-Ok.ensures w.read_all.ensures.stop in
      let all = stops_then_err g.F.Input.Source g.F.Files c.in-Some.input rest c.args.room (length c.args.texts.now.items) (length c.push.new.self.items) c.in-Ok.text c.args.files.now c.close_input.new.self w.read_all.new.files
      w.read_all.result c.in-Ok.ensures.text c.in-Ok.ensures.fits c.close_input.ensures.counts (pushed_one c.args.texts.now.items c.push.new.self.items c.in-Ok.text w.in-Ok-push.ensures.items) stops in
      rw (w.result-is, w.files-is) (subst (λ inputs. IfErr w.read_all.result (StopsAll g.F.Files g.F.Input.Source inputs c.args.room (length c.args.texts.now.items) c.args.files.now w.read_all.new.files)) (sym c.in-Some.ensures.items) all)
  | in-Err-push w ↦ rw w.result-is tt
]
