-- Exported: the places of a cut list rise, whatever the least length is.
use Rattle.segment_model.{specs.Laws.CutListRises, proofs.BestCuts.cut_list-rises}

pub places-rise : CutListRises
places-rise = cut_list-rises
