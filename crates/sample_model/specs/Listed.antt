-- Private: what a list of samples stands for, whether it is still made or shared.
use Rattle.std.specs.{Prelude.List, Arc.arc_value}
use Rattle.sample_model.specs.{Samples.Measurement, declared.samples.Items.Items}
use Rattle.sample_model.specs.declared.samples.Items.TheVariants as items

abbrev pub listed : Items → List Measurement
listed (items.Own own) = own.items
listed (items.Shared shared) = (arc_value shared).items
