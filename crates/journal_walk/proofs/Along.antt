-- A walk that has the first entries of its history.
use Rattle.std.{proofs.Common.{◌≡◌, ◌+◌, ◌<◌, [], ◌∷◌, ◌++◌, length, take, refl, ap, ◌∙◌, arith, Some}, specs.Prelude.slice_get}
use Rattle.std.proofs.lemmas.{List.{take-map, take_more}, Option.{get_or_from_slice_get, slice_get_within}, Grind.common_steps}
use Rattle.history_model.specs.{declared.entries.Placed.Placed, Entries.entries_of}
use Rattle.journal_walk.{specs.Laws.{BeginsAlong, StaysAlong}, specs.Walks.{IsAlong, Walked, added, coming}, proofs.Plans.{entry-there, many}}

pub begins-along : BeginsAlong
begins-along machine history = record { within = omega arith; first = refl }

pub stays-along : StaysAlong
stays-along old new along goes =
    let inside : length old.track.history < length old.history = slice_get_within old.history (length old.track.history) goes.entry goes.next in
    let size : length new.track.history ≡ length old.track.history + 1 = grind (arith, common_steps) in
    let longer : length new.history ≡ length old.history = ap length goes.same in
    let more : take (length old.track.history + 1) old.history ≡ take (length old.track.history) old.history ++ goes.entry ∷ [] =
    take_more old.history (length old.track.history) goes.entry inside
    ∙ ap (λ (p : Placed). take (length old.track.history) old.history ++ p ∷ [])
    (get_or_from_slice_get old.history (length old.track.history) goes.entry goes.entry goes.next) in
    record {
      within = omega (arith, inside, size, longer);
      first = grind (arith, common_steps);
    }

-- the entries that were added are the first of those that are to be added
pub along-entries : (w : Walked) → IsAlong w → added w ≡ take (length (added w)) (entries_of w.history)
along-entries w along = grind (arith, common_steps, take-map, length, take, entries_of, many)

-- the one that is to come next
pub coming-entry : (w : Walked) (p : Placed) → coming w ≡ Some p → slice_get (entries_of w.history) (length (added w)) ≡ Some p.entry
coming-entry w p is = ap (slice_get (entries_of w.history)) (many w.track.history) ∙ entry-there w.history (length w.track.history) p is
