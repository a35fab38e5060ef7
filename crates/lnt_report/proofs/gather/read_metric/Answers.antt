use Rattle.std.{proofs.Common.{map, arith}, specs.List.flat_map, proofs.lemmas.Grind.common_steps}
use Rattle.lnt_report.{specs.Numbers.{item_readings, value_readings, is_text_or_null}, proofs.Walks.{list_value, gathers_same}}
use Rattle.lnt_report.proofs.gather.read_metric.Goals as goal

pub returns-in-List : goal.returns-in-List
returns-in-List c = grind (arith, common_steps, map, list_value, gathers_same, flat_map, item_readings, value_readings, is_text_or_null)
