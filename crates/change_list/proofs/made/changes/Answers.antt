use Rattle.std.proofs.Common.{◌≡◌, length, slice_index, ap, ◌∙◌}
use Rattle.segment_model.specs.Cuts.{place_before, place_behind}
use Rattle.metric_table.specs.Table.{row_of}
use Rattle.change_list.{specs.Changes.IsChange, proofs.Grown.{one-more, moved}}
use Rattle.change_list.proofs.made.changes.Goals as goal

pub loop-i-preserved : goal.loop-i-preserved
loop-i-preserved c =
    let points = c.args.done.now.points in
    let cuts = c.as_slice-cuts.result.now in
    let named : c.as_bytes.result.now ≡ c.args.done.now.metric = c.as_bytes.ensures.value ∙ c.as_str.ensures in
    let larger : c.larger_is_better-larger.result ≡ (row_of c.args.done.now.metric).larger_is_better =
    c.larger_is_better-larger.ensures ∙ ap (λ name. (row_of name).larger_is_better) named in
    let here = moved points c.larger_is_better-larger.result (row_of c.args.done.now.metric).larger_is_better
    c.low_of-low.result (place_before cuts c.loop-i.i) (slice_index cuts c.loop-i.i) c.high_of-high.result (place_behind cuts (length points) c.loop-i.i) c.change_at.result
    c.change_at.ensures larger c.low_of-low.ensures (c.high_of-high.ensures ∙ ap (λ n. place_behind cuts n c.loop-i.i) c.len-n.ensures) in
    rw c.in_ok-push.ensures.ok (one-more (λ k x. IsChange points (row_of c.args.done.now.metric).larger_is_better
    (place_before cuts k) (slice_index cuts k) (place_behind cuts (length points) k) x)
    c.loop-i.made c.change_at.result c.loop-i.i c.loop-i.invariant.0 c.loop-i.invariant.1 here)
