use Rattle.std.{proofs.Common.{◌≡◌, length, ℕ, ◌-◌, ◌/◌, arith, ◌∙◌, ap, get_or}, specs.Prelude.slice_index, proofs.lemmas.List.get_or_default}
use Rattle.std.proofs.lemmas.List.Sorted.{IsNonDecreasingBy-from_sort, length_permutation}
use Rattle.series_noise.{specs.Noise.IsNoise, proofs.Small.small-noise}
use Rattle.series_noise.proofs.noise.Goals as goal

the-noise : (c : goal.After-drop-distances) → IsNoise c.args.points.now c.index.result.now
the-noise c =
    let items = c.sort_unstable.new.self.items in
    let same : length items ≡ length c.in_ok-distances.distances.items = length_permutation c.in_ok-distances.distances.items items c.sort_unstable.ensures.permutation in
    let len : c.len.result ≡ length items = c.len.ensures ∙ c.sort_unstable.new.self.ok.0 in
    let some = c.in_ok-distances.ensures.counted in
    let middle : c.index.result.now ≡ slice_index items ((length c.in_ok-distances.distances.items - 1) / 2) =
    c.index.ensures ∙ get_or_default items ((c.len.result - 1) / 2) c.index.result.now 0 (omega (arith, len, same, some, c.requires))
    ∙ ap (λ (n : ℕ). get_or items ((n - 1) / 2) 0) (len ∙ same) in
    record {
      distances = c.in_ok-distances.distances.items;
      apart = c.in_ok-distances.ensures;
      median = record {
        ordered = c.sort_unstable.new.self.items;
        same_items = c.sort_unstable.ensures.permutation;
        rising = IsNonDecreasingBy-from_sort (λ x. x) c.sort_unstable.new.self.items c.sort_unstable.ensures.sorted;
        middle = middle;
      };
    }

pub returns : goal.returns
returns c = record {
  noise = the-noise c;
  small = small-noise c.segment_law.ensures.some c.segment_law.ensures.within_limits c.sums_law.ensures.in_range c.centre_law.ensures.by_division
      c.centre_law.ensures.in_range c.centre_law.ensures.unique c.args.points.now c.limits.ensures c.index.result.now c.requires (the-noise c);
}
