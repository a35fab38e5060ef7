use Rattle.std.{proofs.Common.{◌≡◌, ◌∙◌, Some, None, ap, sym}, specs.Option.option_copied_mut}
use Rattle.name_index.specs.Pairs.{Pairs}
use Rattle.history_model.specs.Runs.{Series}
use Rattle.publication_index.{specs.declared.held.Held.Held, specs.Kept.{held, done_in, table_in, kept, home}, proofs.Homes.homes-without}
use Rattle.publication_index.proofs.{Standing.kept-table, Written.{read-written, keeps-written, none-home}}
use Rattle.publication_index.proofs.published.PublicationIndex.take_table.Goals as goal

pub returns-in-Some-clause-taken : goal.returns-in-Some-clause-taken
returns-in-Some-clause-taken c =
    let s : Series = record { test = c.args.test.now; metric = c.args.metric.now } in
    c.take_table-table.ensures.taken ∙ ap table_in (ap Some c.get_mut-in-Some.ensures.value ∙ c.in-Some.ensures.value) ∙ ap (λ (es : Pairs Held). home s es) c.self.view_is

pub returns-in-Some-clause-stands : goal.returns-in-Some-clause-stands
returns-in-Some-clause-stands c =
    let s : Series = record { test = c.args.test.now; metric = c.args.metric.now } in
    kept-table c.get_mut-in-Some.result.now.done (kept s c.args.self.now)
    (ap (λ (es : Pairs Held). kept s es) (sym c.self.view_is) ∙ ap done_in (sym c.in-Some.ensures.value ∙ ap Some (sym c.get_mut-in-Some.ensures.value)))
    c.take_table-table.result c.take_table-table.ensures.stands

pub returns-in-Some-clause-kept : goal.returns-in-Some-clause-kept
returns-in-Some-clause-kept c =
    let s : Series = record { test = c.args.test.now; metric = c.args.metric.now } in
    keeps-written done_in s (Some c.take_table-table.new.self) c.self.inside.0 c.args.self.now (c.get_mut.follows.lender c.take_table-table.new.self) c.self.view_is
    (c.get_mut.follows.holds c.take_table-table.new.self c.in-Some.held.now c.in-Some.ensures.value)
    (ap Some c.take_table-table.ensures.done ∙ ap done_in (ap Some c.get_mut-in-Some.ensures.value ∙ c.in-Some.ensures.value))

pub returns-in-Some-clause-left : goal.returns-in-Some-clause-left
returns-in-Some-clause-left c =
    let s : Series = record { test = c.args.test.now; metric = c.args.metric.now } in
    homes-without c.args.self.now (c.get_mut.follows.lender c.take_table-table.new.self) s
    (read-written table_in s (Some c.take_table-table.new.self) c.self.inside.0 c.args.self.now (c.get_mut.follows.lender c.take_table-table.new.self) c.self.view_is
    (c.get_mut.follows.holds c.take_table-table.new.self c.in-Some.held.now c.in-Some.ensures.value) None c.take_table-table.ensures.bare)

pub returns-clause-left : goal.returns-clause-left
returns-clause-left c =
    let s : Series = record { test = c.args.test.now; metric = c.args.metric.now } in
    homes-without c.args.self.now c.get_mut.follows.lender-at-none s
    (none-home s c.self.inside.0 c.args.self.now c.get_mut.follows.lender-at-none c.self.view_is
    (sym c.get_mut.ensures.value ∙ ap option_copied_mut c.in_default.is) c.get_mut.follows.holds-at-none)

pub returns-clause-taken : goal.returns-clause-taken
returns-clause-taken c =
    let s : Series = record { test = c.args.test.now; metric = c.args.metric.now } in
    let none : held s c.self.inside.0 ≡ None = sym c.get_mut.ensures.value ∙ ap option_copied_mut c.in_default.is in
    sym (ap table_in none) ∙ ap (λ (es : Pairs Held). home s es) c.self.view_is

pub returns-clause-kept : goal.returns-clause-kept
returns-clause-kept c s = ap done_in (c.get_mut.follows.holds-at-none s.test s.metric) ∙ ap (λ (es : Pairs Held). kept s es) c.self.view_is
