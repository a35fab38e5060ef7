-- What the numbers of a certificate come to.
use Rattle.std.proofs.{Common.{ℕ, ℤ, zero, suc, ◌^◌, ◌≤◌, List, [], ◌∷◌, length, pos, ◌*ℤ◌, ◌≤ℤ◌, arith}, lemmas.Int.ints}
use Rattle.segment_model.specs.{Segments.Position, Limits.WithinLimits, Cuts.{RisesBetween, total_between}, Laws.CostIsInRange}
use Rattle.segment_model.proofs.CutLists.{places-rise}
use Rattle.segment_cost.specs.{Certificate.StandsFor, declared.cert.Cert.Cert}
use Rattle.penalty_path.{specs.Growing.IsBounded, proofs.Penalties.spread}

costs-not_below : (cost : ℕ → ℕ → ℤ) (n : ℕ) → ((s t : ℕ) → s ≤ t → t ≤ n → (pos 0 ≤ℤ cost s t) × (cost s t ≤ℤ pos (10 ^ 37))) → (low : ℕ) (cuts : List ℕ)
    → low ≤ n → RisesBetween low n cuts → pos 0 ≤ℤ total_between cost (pos 0) low n cuts
costs-not_below cost n range low [] le h = (range low n le (omega arith)).0
costs-not_below cost n range low (c ∷ cs) le h =
    omega (arith, ints, (range low c (omega (arith, h.0)) (omega (arith, h.1))).0, costs-not_below cost n range c cs (omega (arith, h.1)) h.2)

scaled : (k : ℕ) (b : ℤ) → pos 0 ≤ℤ b → pos 0 ≤ℤ (pos k *ℤ b)
scaled zero b h = omega (arith, ints)
scaled (suc k) b h = omega (arith, ints, scaled k b h)

pub bounded : CostIsInRange → (points : List Position) → WithinLimits points → (b : ℤ) (cert : Cert) → pos 0 ≤ℤ b → b ≤ℤ pos (10 ^ 36) → StandsFor points b 1 cert → IsBounded cert
bounded in_range points limits b cert low high h =
    let n : ℕ = length points in
    let range = in_range points h.cost limits h.is_cost in
    let whole = (range 0 n (omega arith) (omega arith)).1 in
    let least = h.best.least [] tt in
    let paid = scaled (length cert.cuts) b low in
    let not_below = costs-not_below h.cost n range 0 cert.cuts (omega arith) (places-rise 1 n cert.cuts h.best.is_cut_list) in
    let all = spread h.cost b n cert.cuts in
    rw h.same_penalty (record {
      low = low;
      high = high;
      unpaid = paid;
      paid = omega (arith, ints, h.totalled, all, not_below);
      small = omega (arith, ints, h.totalled, least, whole);
    })
