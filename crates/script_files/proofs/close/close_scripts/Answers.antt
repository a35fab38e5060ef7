use Rattle.std.{specs.Prelude.option_map, proofs.Common.arith, proofs.lemmas.Grind.common_steps}
use Rattle.script_files.{specs.Closing.with_written, proofs.Written.have_written}
use Rattle.script_files.proofs.close.close_scripts.Goals as goal

pub returns-clause-each : goal.returns-clause-each
returns-clause-each g c = grind (arith, common_steps, have_written, option_map, with_written)
