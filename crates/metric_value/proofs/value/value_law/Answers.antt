use Rattle.metric_value.proofs.OneValue.{one_value, read_back}
use Rattle.metric_value.proofs.value.value_law.Goals as goal

pub returns : goal.returns
returns c = record {
  one = one_value c.numeral_law.ensures c.scaled_law.ensures;
  back = read_back c.fixed_law.ensures;
}
