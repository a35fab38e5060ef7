use Rattle.std.proofs.{Common.{◌≡◌, ◌∙◌, [], ◌∷◌, true, false, Err, refl, ap, arith}, lemmas.Grind.common_steps}
use Rattle.command_words.specs.Plans.{transcript_of}
use Rattle.script_files.{specs.Opening.{opening, creating}, proofs.Calls.{noted_failed, noted_none}}
use Rattle.script_files.proofs.open.open_script.Goals as goal

pub returns-in-Err-Failed-clause-fault : goal.returns-in-Err-Failed-clause-fault
returns-in-Err-Failed-clause-fault g c =
    let e = c.in-Err-Failed.ensures in
    record {
      made = record (opening c.args.script.now) { failed = true } ∷ [];
      due = record { place = 0; call = opening c.args.script.now; next = refl; kind = refl; up_to = refl };
      noted = e.noted ∙ noted_failed g.row.F-Input.Denot false c.args.script.now c.in-Err-Failed.field-0 (g.F.Files.asked c.args.files.now) c.in-Err-Failed.field-0-is;
      reads = e.counts;
      writes = omega (arith, e.writes);
      rose = e.rose (ap Err c.in-Err-Failed.field-0-is);
    }

pub returns-in-Err-NoMemory-clause-fault : goal.returns-in-Err-NoMemory-clause-fault
returns-in-Err-NoMemory-clause-fault g c =
    let e = c.in-Err-NoMemory.ensures in
    record {
      made = [];
      due = (0, omega arith, refl);
      noted = grind (arith, common_steps);
      reads = e.counts;
      writes = omega (arith, e.writes);
      rose = tt;
    }

pub returns-in-Err-Failed-create_output-clause-fault : goal.returns-in-Err-Failed-create_output-clause-fault
returns-in-Err-Failed-create_output-clause-fault g c =
    let o = c.in-Ok-open_input.ensures in
    let e = c.in-Err-Failed-create_output.ensures in
    let l = c.close_input.ensures in
    let told = g.F.Files.asked c.args.files.now in
    let script = c.args.script.now in
    let name : c.deref.result.now ≡ transcript_of script = c.deref.ensures ∙ c.in-Ok.ensures in
    record {
      made = opening script ∷ record (creating script) { failed = true } ∷ [];
      due = record { place = 1; call = creating script; next = refl; kind = refl; up_to = refl };
      noted = grind (arith, common_steps);
      reads = omega (arith, o.counts, e.reads, l.counts);
      writes = omega (arith, o.writes, e.counts, l.writes);
      rose = omega (arith, o.writes, e.rose (ap Err c.in-Err-Failed-create_output.field-0-is), l.writes);
    }

pub returns-clause-fault : goal.returns-clause-fault
returns-clause-fault g c =
    let o = c.in-Ok-open_input.ensures in
    let e = c.in-Err-NoMemory-create_output.ensures in
    let l = c.close_input-in-Err-NoMemory-create_output.ensures in
    record {
      made = opening c.args.script.now ∷ [];
      due = (1, omega arith, refl);
      noted = l.noted ∙ e.noted ∙ noted_none g.row.F-Output.Denot true c.deref.result.now c.in-Err-NoMemory-create_output.field-0 _ c.in-Err-NoMemory-create_output.field-0-is ∙ o.noted;
      reads = omega (arith, o.counts, e.reads, l.counts);
      writes = omega (arith, o.writes, e.counts, l.writes);
      rose = tt;
    }
