use Rattle.std.{proofs.Common.{ap, ◌∙◌, ℕ, List, option_map}, specs.Borrow.Bor}
use Rattle.tracker_top.proofs.Plans.{name-of}
use Rattle.tracker_top.proofs.naming.name_of.Goals as goal

pub returns : goal.returns
returns c =
    ap (option_map (λ (name : Bor (List ℕ)). name.now)) c.copied.ensures
    ∙ name-of c.args.names.now c.args.number c.get.result c.if-number-eq0.false c.get.ensures.lookup
