use Rattle.play_fits.proofs.{Passes.{answers-are-part, parts-wait}, Ends.ends-fit, Joins.joins-keep, Whole.{seen-parts-fit, all-by-crew, parts-stay}}
use Rattle.play_fits.proofs.laws.parts_law.Goals as goal

pub returns : goal.returns
returns c = record { part = answers-are-part; waits = parts-wait; joins = joins-keep; fits = seen-parts-fit; crew = all-by-crew; stay = parts-stay; ends = ends-fit }
