use Rattle.std.{proofs.Common.{◌≡◌, ℕ, ℤ, List, ◌+◌, ◌<◌, ◌≤◌, length, slice_index, ◌⊎◌, inl, inr, arith}, specs.Vec.with_items}
use Rattle.std.proofs.lemmas.{List.take_at, Grind.common_steps}
use Rattle.segment_model.specs.{Tables.{MayBegin, IsCandidate}, Values.cost_between}
use Rattle.pelt_core.{specs.Candidates.{AreLookedAt, IsAmong, IsNear}, proofs.Marks.{both-looked, looked-as}}
use Rattle.pelt_core.proofs.rows.Rows.mark_dear.Goals as goal

candidate-begins : (len t s : ℕ) → IsCandidate len t s → MayBegin len s
candidate-begins len t s is = elim is.1 [ inl none ↦ inl none | inr long ↦ inr long.0 ]

pub returns-clause-marks : goal.returns-clause-marks
returns-clause-marks g c =
    let cost : ℕ → ℕ → ℤ = cost_between g.C.Cost.cost_of (g.C.Cost.positions c.args.cost.now) in
    let t : ℕ = length (g.C.Cost.positions c.args.cost.now) in
    let len : ℕ = c.args.self.now.length in
    let cs : List ℕ = c.args.self.now.candidates.items in
    let least : List ℤ = c.args.self.now.least.items in
    let old : List ℕ = c.args.self.now.pruned.items in
    let k : ℕ = slice_index c.args.self.now.candidates.items c.args.index in
    let read : c.from-last_cut.result ≡ slice_index c.args.self.now.candidates.items c.args.index = grind (arith, common_steps) in
    let written : (with_items c.args.self.now.pruned c.mark_first-before.new.pruned).items ≡ c.mark_first-before.new.pruned = take_at c.mark_first-before.new.pruned _ c.args.self.now.pruned.len (omega (arith, c.mark_first-before.auto.pruned, c.deref_mut.ensures.len, c.args.self.now.pruned.ok.0)) in
    let written' : (with_items (with_items c.args.self.now.pruned c.mark_first-before.new.pruned) c.mark_between-behind.new.pruned).items ≡ c.mark_between-behind.new.pruned = take_at c.mark_between-behind.new.pruned _ c.args.self.now.pruned.len (omega (arith, c.mark_between-behind.auto.pruned, c.deref_mut-2.ensures.len, c.args.self.now.pruned.ok.0)) in
    let begins : (i : ℕ) → i < length cs → MayBegin len (slice_index cs i) = λ i lt. candidate-begins len t (slice_index cs i) (c.requires.begins i lt) in
    let first : AreLookedAt cost len least t (IsAmong cs c.args.index) old c.mark_first-before.new.pruned =
    rw (c.deref.ensures.value, c.deref-2.ensures.value, c.deref_mut.ensures.value) at (c.mark_first-before.ensures len (rw c.deref-2.ensures.value begins)) in
    let some : 0 < t = omega (arith, (c.requires.begins c.args.index c.requires.index).0) in
    let k-begins : MayBegin len k = begins c.args.index c.requires.index in
    let may : (s : ℕ) → c.from-last_cut.result + 1 ≤ s → s < c.end_of_near.result → MayBegin len s = grind (arith, common_steps) in
    let second : AreLookedAt cost len least t (λ s. (c.from-last_cut.result + 1 ≤ s) × (s < c.end_of_near.result)) c.mark_first-before.new.pruned c.mark_between-behind.new.pruned =
    rw (c.deref-3.ensures.value, c.deref_mut-2.ensures.value, written) at (c.mark_between-behind.ensures len may) in
    rw written' (looked-as cost len least t
    (λ s. IsAmong cs c.args.index s ⊎ ((c.from-last_cut.result + 1 ≤ s) × (s < c.end_of_near.result))) (IsNear cs c.args.index len k) old c.mark_between-behind.new.pruned
    (both-looked cost len least t (IsAmong cs c.args.index) (λ s. (c.from-last_cut.result + 1 ≤ s) × (s < c.end_of_near.result)) old c.mark_first-before.new.pruned c.mark_between-behind.new.pruned some first second)
    (λ s near. elim near [
      | inl among ↦ inl among
      | inr behind ↦ inr (omega (arith, behind.1, read), omega (arith, behind.2, read, c.end_of_near.ensures.some (omega (arith, behind.0, read)), c.from.ensures))
    ]))
