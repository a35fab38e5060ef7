use Rattle.std.{proofs.Common.{◌≡◌, true, false, List, sym, ap, subst, ◌∙◌, Option, Some}, specs.Prelude.option_copied}
use Rattle.segment_cost.specs.declared.done.Done.{Done}
use Rattle.history_model.specs.{declared.entries.Entry.Entry, Entries.entries_of, Publications.last_publication, Runs.{Series, is_known}}
use Rattle.machine_state.{specs.State.IsKept, proofs.Published.{something, of-series}, proofs.Told.known}
use Rattle.machine_state.proofs.state.MachineState.last_published.Goals as goal

pub returns-in-Some-clause-found : goal.returns-in-Some-clause-found
returns-in-Some-clause-found c =
    let h : List Entry = entries_of c.args.self.now.history in
    let s : Series = record { test = c.args.test.now; metric = c.args.metric.now } in
    let one : is_known s h ≡ true = sym c.is_known.ensures ∙ c.if-not-is_known.false in
    let done : Done = c.in-Some.done.now in
    let some : option_copied c.published.result ≡ Some done = ap option_copied c.in-Some.is in
    let both = something h (last_publication s h) done (subst (λ (d : Option Done). IsKept h (last_publication s h) d) some c.published.ensures) in
    let same = of-series c.publication_law.ensures.last_stands h s done c.history_law.ensures.legal both.0 in
    record { known = one; last = both.0; series = same; made = both.1 }
