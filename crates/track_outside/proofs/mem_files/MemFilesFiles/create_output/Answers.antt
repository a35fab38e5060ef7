use Rattle.std.proofs.Common.{rules, subst}
use Rattle.track_outside.specs.Named.{Folder, IsPlanned}
use Rattle.track_outside.proofs.mem_files.MemFilesFiles.create_output.Goals as goal

pub returns-then-next_fails-clause-creates : goal.returns-then-next_fails-clause-creates
returns-then-next_fails-clause-creates c =
    let planned : IsPlanned c.args.self.now =
    subst (λ (folder : Folder). IsPlanned folder) c.self.view_is (c.next_fails.ensures.told.0 c.if-next_fails.true) in
    (planned, search rules)
