use Rattle.std.{proofs.Common.{◌≡◌, [], Option, IfOk, sym, subst}, specs.Int.w128, proofs.lemmas.Int.to_z-of_z}
use Rattle.pelt_core.specs.Seen.{Tabled, table_of}
use Rattle.track_series.{specs.Begun.Begins, proofs.Beginning.{begins-some, begins-none}}
use Rattle.track_series.proofs.computing.begun.Goals as goal

pub returns-in-Some : goal.returns-in-Some
returns-in-Some c =
    begins-some c.args.base c.args.old.now c.args.penalty c.args.least c.in-Some.table
    (subst (λ (o : Option Tabled). ∥ Begins c.args.base c.args.old.now c.args.penalty c.args.least o ∥₁) c.in-Some.is c.requires.begins)

pub returns-in-None : goal.returns-in-None
returns-in-None c =
    let none = begins-none c.args.base c.args.old.now c.args.penalty c.args.least (subst (λ (o : Option Tabled). ∥ Begins c.args.base c.args.old.now c.args.penalty c.args.least o ∥₁) c.in-None.is c.requires.begins) in
    let started : IfOk c.start.result (λ made. made ≡ table_of [] c.args.penalty c.args.least) = simp (to_z-of_z w128 c.args.penalty c.ranges.penalty) at c.start.ensures in
    rw (sym none) started
