use Rattle.std.proofs.{Common.{◌≡◌, ℕ, ◌+◌, ◌-◌, ◌^◌, ◌<◌, ◌≤◌, length, take, slice_index, pos, neg_ℤ, refl, ap, ◌∙◌, arith}, lemmas.Int.ints}
use Rattle.std.proofs.lemmas.List.{take_at, length-take, get_or-take}
use Rattle.segment_model.specs.Tables.{int_at, IsUnmarkedBehind}
use Rattle.pelt_core.specs.{Candidates.open_places, Bounds.HaveBounds}
use Rattle.pelt_core.proofs.{Growth.{table-by, candidates-by, open-few, places-below, unmarked-at, totals}, Blocks.{bounds-by, bounds-reset}}
use Rattle.pelt_core.proofs.rows.Rows.cut_back.Goals as goal

pub returns-clause-pruned : goal.returns-clause-pruned
returns-clause-pruned c cost n b le low high range are =
    let written = take_at c.unmark.new.pruned _ c.truncate-3.new.self.len (omega (arith, c.unmark.auto.pruned, c.deref_mut.ensures.len, c.truncate-3.new.self.ok.0)) in
    let old : c.deref_mut.result.now ≡ take (c.args.k + 1) c.args.self.now.pruned.items = c.deref_mut.ensures.value ∙ c.truncate-3.ensures.items in
    let old_size : length (take (c.args.k + 1) c.args.self.now.pruned.items) ≡ c.args.k + 1 = length-take (c.args.k + 1) c.args.self.now.pruned.items ∙ omega (arith, are.table.tables.pruned_length) in
    let size : length c.unmark.new.pruned ≡ c.args.k + 1 = omega (arith, c.unmark.auto.pruned, ap length old, old_size) in
    let marks : (s : ℕ) → s ≤ c.args.k → IsUnmarkedBehind c.args.k (slice_index c.args.self.now.pruned.items s) (slice_index c.unmark.new.pruned s) =
    λ s in'. unmarked-at (c.args.k) c.deref_mut.result.now c.args.self.now.pruned.items c.unmark.new.pruned old s in' (c.unmark.ensures s (omega (arith, ap length old, old_size))) in
    let table = c.shrinking_law.ensures cost n b c.args.self.now.length c.args.self.now.least.items c.args.self.now.back.items c.args.self.now.pruned.items c.args.k c.unmark.new.pruned are.table le size marks in
    let read : c.deref.result.now ≡ c.unmark.new.pruned = c.deref.ensures.value ∙ written in
    let len : c.from-len.result ≡ c.args.self.now.length = c.from-len.ensures in
    let ready : c.saturating_sub-ready.result ≡ c.args.k + 1 - c.args.self.now.length = omega (arith, c.saturating_sub-ready.ensures, len) in
    let places_are : c.refill.new.candidates.items ≡ open_places c.args.self.now.length (c.args.k + 1 - c.args.self.now.length) c.unmark.new.pruned (c.args.k + 1 - c.args.self.now.length + 1) =
    rw (read, len, ready) at c.refill.ensures.places in
    let bounds_size : length c.forget.new.bounds ≡ length c.args.self.now.bounds.items = c.forget.auto.bounds ∙ ap length c.deref_mut-2.ensures.value in
    let bounds_written = take_at c.forget.new.bounds _ c.args.self.now.bounds.len (omega (arith, bounds_size, c.args.self.now.bounds.ok.0)) in
    let all = totals cost n b c.args.self.now.length c.args.self.now.swept c.args.self.now.least.items c.args.self.now.back.items c.args.self.now.pruned.items c.args.self.now.candidates.items are.table are.length_from.0 are.swept are.candidates c.table_law.ensures.in_range low high range in
    let count : length c.refill.new.candidates.items ≤ c.args.k + 1 - c.args.self.now.length + 1 =
    open-few c.args.self.now.length (c.args.k + 1 - c.args.self.now.length) c.unmark.new.pruned (c.args.k + 1 - c.args.self.now.length + 1) c.refill.new.candidates.items places_are in
    let below = places-below c.args.self.now.length (c.args.k + 1 - c.args.self.now.length) c.unmark.new.pruned (c.args.k + 1 - c.args.self.now.length + 1) c.refill.new.candidates.items places_are in
    let bounds : HaveBounds cost c.args.k (take (c.args.k + 1) c.args.self.now.least.items) c.refill.new.candidates.items c.args.self.now.leader c.forget.new.bounds =
    bounds-reset cost c.args.k (take (c.args.k + 1) c.args.self.now.least.items) c.refill.new.candidates.items c.args.self.now.leader (neg_ℤ (pos (10 ^ 36))) c.forget.new.bounds (omega (arith, bounds_size, are.wide, le, count, are.length_from.0))
    (λ j lt. c.forget.ensures j (omega (arith, lt, c.forget.auto.bounds))) (omega (arith, ints)) (omega (arith, ints))
    (λ i lt.
    let here : slice_index c.refill.new.candidates.items i < c.args.k + 1 = omega (arith, below i lt, are.length_from.0) in
    let least_at : int_at (take (c.args.k + 1) c.args.self.now.least.items) (slice_index c.refill.new.candidates.items i) ≡ int_at c.args.self.now.least.items (slice_index c.refill.new.candidates.items i) =
    get_or-take (c.args.k + 1) c.args.self.now.least.items (slice_index c.refill.new.candidates.items i) (pos 0) here in
    let least_low = (all (slice_index c.refill.new.candidates.items i) (omega (arith, here, le, are.table.tables.least_length))).0 in
    let costs = (range (slice_index c.refill.new.candidates.items i) c.args.k (omega (arith, here)) le).0 in
    (omega (arith, here), omega (arith, ints, least_at, least_low, costs))) in
    record {
      length_from = are.length_from;
      swept = omega (arith, ready);
      table = table-by cost c.args.k b c.args.self.now.length (take (c.args.k + 1) c.args.self.now.least.items) _ (take (c.args.k + 1) c.args.self.now.back.items) _ c.unmark.new.pruned _ c.truncate.ensures.items c.truncate-2.ensures.items written table;
      candidates = rw ready (candidates-by c.args.self.now.length (c.args.k + 1 - c.args.self.now.length) c.refill.new.candidates.items _ c.unmark.new.pruned _ (c.args.k + 1 - c.args.self.now.length + 1) refl written places_are);
      bounds = bounds-by cost c.args.k (take (c.args.k + 1) c.args.self.now.least.items) _ c.refill.new.candidates.items _ c.args.self.now.leader _ c.forget.new.bounds _ c.truncate.ensures.items refl refl bounds_written bounds;
      room = omega (arith, c.refill.ensures.capacity, c.requires.room, c.requires.placed);
      wide = rw bounds_written (omega (arith, bounds_size, are.wide, le));
    }
