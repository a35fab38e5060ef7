-- How many first entries of a history are allowed, as a walk along it says.
use Rattle.std.{proofs.Common.{length, take, arith}, specs.Prelude.slice_get, proofs.lemmas.Grind.common_steps, proofs.lemmas.Option.slice_get-map}
use Rattle.history_model.specs.{Allowed.Legal, Entries.entries_of}
use Rattle.journal_reader.specs.Judging.{AreAllowed}
use Rattle.journal_walk.{specs.Walks.{IsAlong, IsStuck, Walked, added, coming}, proofs.Along.along-entries, proofs.Plans.many}

pub are-allowed : (w : Walked) → IsAlong w → IsStuck w → Legal (added w) → AreAllowed (entries_of w.history) (length w.track.history)
are-allowed w along stuck legal = grind (arith, common_steps, length, many, added, take, along-entries, slice_get, coming, slice_get-map)
