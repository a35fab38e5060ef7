use Rattle.std.{proofs.Common.{◌≡◌, ◌∙◌, ◌^◌, ℕ, List, ◌++◌, length, sym, subst, ap}, specs.List.AllZip, specs.Vec.Iter.into_iter_items}
use Rattle.command_words.specs.Texts.{texts}
use Rattle.audit_command.{specs.Opening.IsOpen, specs.Reading.{ReadsAll, StopsAll}, proofs.Gathered.have_all, proofs.Ends.ends_unread}
use Rattle.audit_command.proofs.command.texts_at.{Given.Over, Goals.After-into_iter-2}
use Rattle.audit_command.proofs.command.texts_at.Goals as goal

-- the files that were opened, as they are read
opened : (g : Over) (c : After-into_iter-2 g) → AllZip (IsOpen g.F.Input.Source (g.F.Files.contents c.args.files.now)) (texts c.args.names.now) (into_iter_items c.into_iter-2.result)
opened g c =
    let told = g.F.Files.contents c.args.files.now in
    let more = c.in_default.ensures.open in
    let grown : c.open_all.new.inputs.items ≡ more.more = more.grown ∙ ap (λ l. l ++ more.more) c.new-inputs.ensures.items in
    subst (λ l. AllZip (IsOpen g.F.Input.Source told) (texts c.args.names.now) l) (sym (c.into_iter-2.ensures.rest ∙ grown)) more.are_open

pub returns-in-Ok-clause-have : goal.returns-in-Ok-clause-have
returns-in-Ok-clause-have g c =
    let told = g.F.Files.contents c.args.files.now in
    let reads = subst (λ (l : List (List ℕ)). ReadsAll g.F.Input.Source (into_iter_items c.into_iter-2.result) (2 ^ 30) l c.read_all.new.texts.items) c.new-found.ensures.items c.in-Ok.ensures.read in
    have_all g.F.Input.Source told (texts c.args.names.now) (into_iter_items c.into_iter-2.result) c.read_all.new.texts.items
    (opened g (goal.at.returns-in-Ok-clause-have g c).After-into_iter-2) reads

pub returns-in-Err-read_all-clause-stop : goal.returns-in-Err-read_all-clause-stop
returns-in-Err-read_all-clause-stop g c =
    let stops = subst (λ (l : List (List ℕ)). StopsAll g.F.Files g.F.Input.Source (into_iter_items c.into_iter-2.result) (2 ^ 30) (length l) c.open_all.new.files c.read_all.new.files c.in-Err-read_all.stop) c.new-found.ensures.items c.in-Err-read_all.ensures.stop in
    ends_unread g.F.Files g.F.Input.Source (texts c.args.names.now) c.args.files.now c.open_all.new.files c.read_all.new.files (into_iter_items c.into_iter-2.result) c.in-Err-read_all.stop
    c.in_default.ensures.asks (opened g (goal.at.returns-in-Err-read_all-clause-stop g c).After-into_iter-2) c.in_default.ensures.kept stops c.read_all.ensures.kept c.read_all.ensures.noted
