use Rattle.std.{proofs.Common.{◌≡◌, ◌≤◌, ◌*◌, ◌+◌, ◌-◌, ◌∙◌, ℕ, List, take, drop, length, ap₂, arith}, specs.Arc.arc_value}
use Rattle.segment_model.specs.Segments.{Position}
use Rattle.point_list.proofs.Joined.{front-push}
use Rattle.point_list.proofs.points.fill.Goals as goal

pub loop-alloc-preserved : goal.loop-alloc-preserved
loop-alloc-preserved c =
    let list : List Position = c.args.positions.now in
    let blocks = c.loop-alloc.front.items in
    let n : ℕ = length blocks in
    let from : c.len-from.result ≡ n = omega (arith, c.len-from.ensures, c.loop-alloc.front.ok.0) in
    let count : 128 * c.len-from.result + 128 - 128 * c.len-from.result ≡ 128 = omega arith in
    let start : 128 * c.len-from.result ≡ 128 * n = omega (arith, from) in
    let same : arc_value c.in-Ok.owned ≡ take 128 (drop (128 * n) list) =
    c.in-Ok.ensures.ok ∙ c.in_ok-block.ensures ∙ ap₂ (λ (k m : ℕ). take k (drop m list)) count start in
    let room : 128 * n + 128 ≤ length list = omega (arith, c.loop-alloc-test.true, c.len.ensures, c.len-in-loop-alloc.ensures, c.loop-alloc.front.ok.0) in
    record { front = rw c.in_ok-push.ensures.items (front-push arc_value blocks c.in-Ok.owned list c.loop-alloc.invariant.front same room) }
