use Rattle.std.proofs.Common.{rules, ◌≡◌, ◌∙◌, [], ap}
use Rattle.track_outside.{specs.Memory.Output, specs.Named.{Folder, with_bytes}, proofs.Places.bytes_at-with_bytes}
use Rattle.edge_tests.proofs.tests.of_track_outside.write_file.Goals as goal

pub close_output-requires : goal.close_output-requires
close_output-requires c =
    let named : c.put_all-written.new.sink.name ≡ c.args.name.now =
    c.put_all-written.ensures.named ∙ ap (λ (o : Output). o.name) c.in-Ok.ensures.creates.1 in
    let files : c.create_output.new.self.files ≡ with_bytes c.args.name.now [] c.args.files.now.files =
    ap (λ (f : Folder). f.files) c.in-Ok.ensures.creates.2 in
    rw (named, files, bytes_at-with_bytes c.args.name.now [] c.args.files.now.files) (search rules)
