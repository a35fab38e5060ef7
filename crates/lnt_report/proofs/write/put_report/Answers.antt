use Rattle.std.proofs.Common.{◌≡◌, List, ℕ, subst, sym, ap, ◌∙◌, Ok, ◌++◌}
use Rattle.sample_model.specs.Samples.{AreSamples}
use Rattle.line_text.specs.Names.{IsName}
use Rattle.lnt_report.{specs.Runs.Report, specs.Outcomes.IsDue, specs.Written.{compact, run_tree}, proofs.Written.is_due}
use Rattle.lnt_report.proofs.write.put_report.Goals as goal

pub returns : goal.returns
returns c =
    let machine : IsName c.args.run.now.machine = subst IsName (ap (λ (r : Report). r.machine) c.run.view_is) c.bytes_law.ensures in
    let commit : IsName c.args.run.now.commit = subst IsName (ap (λ (r : Report). r.commit) c.run.view_is) c.bytes_law-2.ensures in
    let samples : AreSamples c.args.run.now.samples = subst AreSamples (ap (λ (r : Report). r.samples) c.run.view_is) c.limits-2.ensures in
    let written : c.put_run.new.out.items ≡ compact (run_tree c.args.run.now.machine c.args.run.now.commit c.args.run.now.samples) =
    c.in_ok-put_run.ensures ∙ ap (λ (o : List ℕ). o ++ compact (run_tree c.args.run.now.machine c.args.run.now.commit c.args.run.now.samples)) c.new-out.ensures.items in
    record {
      text = written;
      back =
          subst (λ (bytes : List ℕ).
          IsDue bytes (Ok (record { machine = c.args.run.now.machine; commit = c.args.run.now.commit; samples = c.args.run.now.samples; ignored = 0 })))
          (sym written)
          (is_due c.numbers_law.ensures c.value_law.ensures.back c.args.run.now.machine c.args.run.now.commit c.args.run.now.samples machine commit samples c.limits.ensures);
    }
