use Rattle.std.proofs.Common.{sym, subst, Option}
use Rattle.pelt_core.specs.Seen.{Tabled}
use Rattle.publication_index.{specs.Standing.IsTableFor, proofs.Standing.stands-for}
use Rattle.publication_index.proofs.held.Held.take_table.Goals as goal

pub returns-clause-stands : goal.returns-clause-stands
returns-clause-stands c =
    subst (λ (table : Option Tabled). IsTableFor c.args.self.now.done table) (sym c.take.ensures.value)
    (stands-for c.args.self.now.done c.args.self.now.table c.args.self.now.stands)
