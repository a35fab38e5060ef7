use Rattle.std.proofs.Common.{◌∙◌, [], ◌∷◌, true, false, Err, refl, ap}
use Rattle.audit_command.specs.Opening.{opening}
use Rattle.script_files.proofs.Calls.{noted_failed}
use Rattle.audit_command.proofs.files.open_one.Goals as goal

pub returns-in-Err-Failed-clause-stop : goal.returns-in-Err-Failed-clause-stop
returns-in-Err-Failed-clause-stop g c =
    let e = c.in-Err-Failed.ensures in
    record {
      made = record (opening c.args.name.now) { failed = true } ∷ [];
      due = record { place = 0; call = opening c.args.name.now; next = refl; up_to = refl };
      noted = e.noted ∙ noted_failed g.row.F-Input.Denot false c.args.name.now c.in-Err-Failed.field-0 (g.F.Files.asked c.args.files.now) c.in-Err-Failed.field-0-is;
      rose = e.rose (ap Err c.in-Err-Failed.field-0-is);
    }
