use Rattle.std.proofs.{Common.{◌≡◌, Bool, true, false, not, List, length, refl, arith}, lemmas.List.length-map}
use Rattle.history_model.specs.{declared.entries.Entry.Entry, declared.entries.Placed.Placed, Entries.entries_of}
use Rattle.track_replay.proofs.{Verdicts.{Few, full-samples, full-series, full-series-samples, full-positions, none-full}, limits.room_for.Goals.After-most-4}
use Rattle.track_replay.proofs.limits.room_for.Goals as goal

-- what would make a test good where it isn't
never : {Room : Type 0} (b : Bool) → not b ≡ true → (Room → b ≡ true) → Room → ⊥
never true e to room = let no : false ≡ true = e in absurd (cc)
never false e to room = let no : false ≡ true = to room in absurd (cc)

not-false : (b : Bool) → not b ≡ false → b ≡ true
not-false true e = refl
not-false false e = let never : true ≡ false = e in absurd (cc)

-- what the tests of all runs leave
module _ (c : After-most-4) where
  abbrev entries : List Entry
  entries = entries_of c.args.track.now.history

  few : Few entries c.args.run.now
  few = record {
    steps = omega (arith, c.len.ensures, length-map c.args.track.now.history (λ (p : Placed). p.entry), c.if-len-most.false, c.most.ensures);
    runs = omega (arith, c.run_count.ensures, c.if-run_count-most.false, c.most-2.ensures);
    samples = omega (arith, c.samples_before.ensures.count, c.len-2.ensures, c.if-samples_before-len.false, c.most-3.ensures);
  }

pub returns-then-samples_before-len : goal.returns-then-samples_before-len
returns-then-samples_before-len c =
    let h : List Entry = entries_of c.args.track.now.history in
    let size : length h ≡ length c.args.track.now.history = length-map c.args.track.now.history (λ (p : Placed). p.entry) in
    full-samples c.accept_law.ensures.counts c.within_law.ensures.kept c.within_law.ensures.passed h c.args.run.now (omega (arith, c.len.ensures, size, c.if-len-most.false, c.most.ensures))
    (omega (arith, c.run_count.ensures, c.if-run_count-most.false, c.most-2.ensures)) (omega (arith, c.samples_before.ensures.count, c.len-2.ensures, c.if-samples_before-len.true, c.most-3.ensures))

pub returns-then-known_count-demand : goal.returns-then-known_count-demand
returns-then-known_count-demand c =
    full-series c.accept_law.ensures.counts c.within_law.ensures.kept c.within_law.ensures.passed _ c.args.run.now (few (goal.at.returns-then-known_count-demand c).After-most-4)
    (omega (arith, c.known_count.ensures.count, c.in_ok-demand.ensures.new, c.if-known_count-demand.true, c.most-4.ensures))

pub returns-then-not-demand : goal.returns-then-not-demand
returns-then-not-demand c =
    let at = (goal.at.returns-then-not-demand c).After-most-4 in
    full-series-samples c.accept_law.ensures.counts c.within_law.ensures.kept c.within_law.ensures.passed (entries at) c.args.run.now c.accept_law.ensures.samples c.accept_law.ensures.positions c.history_law.ensures.limits c.requires (few at)
    (omega (arith, c.known_count.ensures.count, c.in_ok-demand.ensures.new, c.if-known_count-demand.false, c.most-4.ensures)) (never c.in_ok-demand.demand.samples_fit c.if-not-demand.true c.in_ok-demand.ensures.samples.1)

pub returns-then-not-demand-2 : goal.returns-then-not-demand-2
returns-then-not-demand-2 c =
    let at = (goal.at.returns-then-not-demand-2 c).After-most-4 in
    full-positions c.accept_law.ensures.counts c.within_law.ensures.kept c.within_law.ensures.passed (entries at) c.args.run.now c.accept_law.ensures.samples c.accept_law.ensures.positions c.history_law.ensures.limits c.requires (few at)
    (omega (arith, c.known_count.ensures.count, c.in_ok-demand.ensures.new, c.if-known_count-demand.false, c.most-4.ensures))
    (c.in_ok-demand.ensures.samples.0 (not-false _ c.if-not-demand.false)) (never c.in_ok-demand.demand.positions_fit c.if-not-demand-2.true c.in_ok-demand.ensures.positions.1)

pub returns : goal.returns
returns c =
    let at = (goal.at.returns c).After-most-4 in (
      none-full c.accept_law.ensures.counts c.within_law.ensures.kept c.within_law.ensures.passed (entries at) c.args.run.now c.accept_law.ensures.samples c.accept_law.ensures.positions c.history_law.ensures.limits c.requires (few at)
          (omega (arith, c.known_count.ensures.count, c.in_ok-demand.ensures.new, c.if-known_count-demand.false, c.most-4.ensures))
          (c.in_ok-demand.ensures.samples.0 (not-false _ c.if-not-demand.false)) (c.in_ok-demand.ensures.positions.0 (not-false _ c.if-not-demand-2.false)),
      c.in_ok-demand.ensures.new,
    )

pub overflow_add-known_count : goal.overflow_add-known_count
overflow_add-known_count c = record { fits = omega (arith, c.known_count.ensures.few, c.in_ok-demand.ensures.few) }
