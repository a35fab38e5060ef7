use Rattle.script_session.proofs.Parted.{one_reply_each, tells_part, tells_no_more, outputs_are_parts, parts_are_of_outputs, part_of_each}
use Rattle.script_session.proofs.laws.part_law.Goals as goal

pub returns : goal.returns
returns c = record {
  each = one_reply_each;
  tells = tells_part;
  no_more = tells_no_more;
  outputs = outputs_are_parts;
  whole = parts_are_of_outputs;
  part = part_of_each c.output_law.ensures.script;
}
