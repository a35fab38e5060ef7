use Rattle.std.proofs.Common.{◌≡◌, ◌≢◌, true, false, List, ℕ, Option, IfOk, sym, subst, ◌∙◌, drop, true≢false}
use Rattle.store_rows.specs.Rows.{machine_row, entry_row, row_at, IsRowOf}
use Rattle.track_model.specs.Tracks.{Track}
use Rattle.keep_rows.{specs.Loading.{Stored, Adds, Makes}, proofs.Replayed.{refused_made, taken_made, format_made, format_refused}}
use Rattle.keep_rows.proofs.states.StatesRestored.take.Goals as goal

pub returns-in-None-clause-refused : goal.returns-in-None-clause-refused
returns-in-None-clause-refused c =
    refused_made c.rows_law.ensures c.args.self.now c.args.row.now (machine_row c.in-Ok.head.machine)
    (subst (λ (o : Option ℕ). IsRowOf c.args.row.now (row_at c.args.row.now c.in-Ok.head.machine o)) c.in-None.is c.in-Ok.ensures.read)
    (λ format. let yes : c.is_format.result ≡ true = c.is_format.ensures.1 format in absurd (true≢false (sym yes ∙ c.if-is_format.false)))
    c.add_machine.result
    (subst (λ (s : Stored). IfOk c.add_machine.result (λ done. done ≡ false → (after : List Track) → ¬ Adds s.version s.machines (machine_row c.in-Ok.head.machine) after))
    c.self.view_is c.add_machine.ensures.refused)

pub returns-in-Some-clause-refused : goal.returns-in-Some-clause-refused
returns-in-Some-clause-refused c =
    let row : IsRowOf c.args.row.now (entry_row c.in-Ok.head.machine (drop c.in-Some.at c.args.row.now)) =
    subst (λ (o : Option ℕ). IsRowOf c.args.row.now (row_at c.args.row.now c.in-Ok.head.machine o)) c.in-Some.is c.in-Ok.ensures.read in
    refused_made c.rows_law.ensures c.args.self.now c.args.row.now (entry_row c.in-Ok.head.machine c.rest_of.result.now)
    (subst (λ (text : List ℕ). IsRowOf c.args.row.now (entry_row c.in-Ok.head.machine text)) (sym c.rest_of.ensures) row)
    (λ format. let yes : c.is_format.result ≡ true = c.is_format.ensures.1 format in absurd (true≢false (sym yes ∙ c.if-is_format.false)))
    c.add_text.result
    (subst (λ (s : Stored). IfOk c.add_text.result (λ done. done ≡ false → (after : List Track) → ¬ Adds s.version s.machines (entry_row c.in-Ok.head.machine c.rest_of.result.now) after))
    c.self.view_is c.add_text.ensures.refused)

pub returns-then-is_format-clause-taken : goal.returns-then-is_format-clause-taken
returns-then-is_format-clause-taken c =
    format_made c.args.self.now c.set_format.new.self c.args.row.now c.set_format.result (c.is_format.ensures.0 c.if-is_format.true) c.set_format.ensures.set

pub returns-then-is_format-clause-refused : goal.returns-then-is_format-clause-refused
returns-then-is_format-clause-refused c =
    format_refused c.args.self.now c.args.row.now c.set_format.result (c.is_format.ensures.0 c.if-is_format.true) (λ none. (c.set_format.ensures.refused none).0)

pub returns-in-None-clause-taken : goal.returns-in-None-clause-taken
returns-in-None-clause-taken c =
    subst (λ (s : Stored). IfOk c.add_machine.result (λ done. done ≡ true → Makes s c.args.row.now c.add_machine.new.self)) c.self.view_is
    (taken_made (record { machines = c.self.inside.machines.items; version = c.self.inside.version }) c.add_machine.new.self c.args.row.now (machine_row c.in-Ok.head.machine)
    (subst (λ (o : Option ℕ). IsRowOf c.args.row.now (row_at c.args.row.now c.in-Ok.head.machine o)) c.in-None.is c.in-Ok.ensures.read)
    c.add_machine.ensures.version c.add_machine.result c.add_machine.ensures.added)

pub returns-in-Some-clause-taken : goal.returns-in-Some-clause-taken
returns-in-Some-clause-taken c =
    let row : IsRowOf c.args.row.now (entry_row c.in-Ok.head.machine (drop c.in-Some.at c.args.row.now)) =
    subst (λ (o : Option ℕ). IsRowOf c.args.row.now (row_at c.args.row.now c.in-Ok.head.machine o)) c.in-Some.is c.in-Ok.ensures.read in
    subst (λ (s : Stored). IfOk c.add_text.result (λ done. done ≡ true → Makes s c.args.row.now c.add_text.new.self)) c.self.view_is
    (taken_made (record { machines = c.self.inside.machines.items; version = c.self.inside.version }) c.add_text.new.self c.args.row.now (entry_row c.in-Ok.head.machine c.rest_of.result.now)
    (subst (λ (text : List ℕ). IsRowOf c.args.row.now (entry_row c.in-Ok.head.machine text)) (sym c.rest_of.ensures) row)
    c.add_text.ensures.version c.add_text.result c.add_text.ensures.added)
