use Rattle.std.{proofs.Common.{◌≡◌, ◌+◌, ◌*◌, ◌/◌, ◌%◌, ◌-◌, ◌<◌, ◌≤◌, ◌∙◌, ◌++◌, ℕ, List, length, get_or, sym, ap, arith}, specs.Arc.arc_value}
use Rattle.std.proofs.lemmas.{List.get_or-append-add, Grind.common_steps}
use Rattle.segment_model.specs.Segments.{Position}
use Rattle.point_list.{specs.Blocks.joined, proofs.Joined.{row-length, joined-length, full-at, at-block}}
use Rattle.point_list.proofs.frozen.Row.at.Goals.{After-deref, After-len-else-block-len}
use Rattle.point_list.proofs.frozen.Row.at.Goals as goal

-- the block that the position stands in
block-is : (c : After-deref) → c.deref.result.now ≡ arc_value (get_or c.self.inside.full.items (c.args.i / 128) c.index.result.now)
block-is c = c.deref.ensures ∙ ap arc_value c.index.ensures

in-full : (c : After-deref) → c.args.i / 128 < length c.self.inside.full.items
in-full c = omega (arith, c.if-block-len.true, c.len.ensures, c.self.inside.full.ok.0)

pub at-requires : goal.at-requires
at-requires c =
    let d : After-deref = (goal.at.at-requires c).After-deref in
    let size = full-at arc_value c.self.inside.full.items (c.args.i / 128) c.index.result.now c.self.invariant.0 (in-full d) in
    omega (arith, size, ap length (block-is d))

behind : (c : After-len-else-block-len) → 128 * length c.self.inside.full.items ≤ c.args.i
behind c = omega (arith, c.if-block-len.false, c.len.ensures, c.self.inside.full.ok.0)

pub at-requires-else-block-len : goal.at-requires-else-block-len
at-requires-else-block-len c = grind (arith, common_steps, goal.at.at-requires-else-block-len, row-length, arc_value, length, behind)

pub returns-then-block-len : goal.returns-then-block-len
returns-then-block-len c d =
    let e : After-deref = (goal.at.returns-then-block-len c).After-deref in
    let row = c.self.inside in
    let i : ℕ = c.args.i in
    let place : 128 * (i / 128) + i % 128 ≡ i = omega arith in
    c.at.ensures d
    ∙ ap (λ (ps : List Position). get_or ps (i % 128) d) (block-is e)
    ∙ sym (at-block arc_value row.full.items row.last (i / 128) (i % 128) c.index.result.now d c.self.invariant.0 (in-full e) (omega arith))
    ∙ ap (λ (k : ℕ). get_or (joined arc_value row.full.items ++ row.last) k d) place
    ∙ ap (λ (ps : List Position). get_or ps i d) c.self.view_is

pub returns-else-block-len : goal.returns-else-block-len
returns-else-block-len c d =
    let e : After-len-else-block-len = (goal.at.returns-else-block-len c).After-len-else-block-len in
    let row = c.self.inside in
    let i : ℕ = c.args.i in
    let n : ℕ = i - 128 * c.len-else-block-len.result in
    let size = joined-length arc_value row.full.items c.self.invariant.0 in
    let place : length (joined arc_value row.full.items) + n ≡ i = omega (arith, size, behind e, c.len-else-block-len.ensures, row.full.ok.0) in
    c.at-else-block-len.ensures d
    ∙ sym (get_or-append-add (joined arc_value row.full.items) row.last n d)
    ∙ ap (λ (k : ℕ). get_or (joined arc_value row.full.items ++ row.last) k d) place
    ∙ ap (λ (ps : List Position). get_or ps i d) c.self.view_is
