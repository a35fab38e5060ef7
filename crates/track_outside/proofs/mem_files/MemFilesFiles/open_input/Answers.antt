use Rattle.std.proofs.{Common.{rules, inl, arith}, lemmas.Grind.common_steps}
use Rattle.track_outside.specs.Named.{IsPlanned}
use Rattle.track_outside.proofs.mem_files.MemFilesFiles.open_input.Goals as goal

pub returns-then-next_fails-clause-opens : goal.returns-then-next_fails-clause-opens
returns-then-next_fails-clause-opens c =
    let planned : IsPlanned c.args.self.now = grind (arith, common_steps, c.self.view_is, c.next_fails.ensures.told.0, c.if-next_fails.true) in
    (inl planned, search rules)
