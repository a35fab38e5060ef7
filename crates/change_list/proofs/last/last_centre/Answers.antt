use Rattle.std.proofs.Common.{◌≡◌, ℕ, List, ◌<◌, length, ap, ◌∙◌, arith}
use Rattle.segment_model.specs.Cuts.{place_before}
use Rattle.change_list.proofs.Places.{last-below}
use Rattle.change_list.proofs.last.last_centre.Goals as goal

pub centre_at-requires : goal.centre_at-requires
centre_at-requires c =
    let points = c.args.done.now.points in
    let cuts = c.args.done.now.cert.cuts in
    let n : c.len-n.result ≡ length points = c.len-n.ensures in
    let some : 0 < c.len-n.result = omega (arith, c.if-n-eq0.false) in
    let below : place_before cuts (length cuts) < length points = last-below points cuts (omega (arith, n, some)) c.cuts_law.ensures in
    let low : c.low_of-low.result ≡ place_before cuts (length cuts) =
    c.low_of-low.ensures ∙ ap (λ (cs : List ℕ). place_before cs (length cs)) c.as_slice-cuts.ensures in
    record { stands = c.in_ok-square.ensures; rising = omega (arith, n, low, below); placed = omega (arith, n) }
