-- Workers that are seated can work with whatever tools they are lent, one each.
use Rattle.std.{proofs.Common.{◌≡◌, List, [], ◌∷◌, length, zip}, specs.List.AllByRecursion}
use Rattle.side_by_side.specs.Runs.{AllCanWork}

each-pair : {W T : Type 0} (P : W → Type 0) (ws : List W) (ts : List T) → AllByRecursion P ws
    → AllByRecursion (λ (p : W × T). P p.0) (zip ws ts)
each-pair P [] ts all = tt
each-pair P (w ∷ ws) [] all = tt
each-pair P (w ∷ ws) (t ∷ ts) all = (all.0, each-pair P ws ts all.1)

pub can-work : {W T : Type 0} (P : W → Type 0) (ws : List W) (ts : List T) → AllByRecursion P ws → length ts ≡ length ws
    → AllCanWork (λ (w : W) (t : T). P w) ws ts
can-work P ws ts all paired = record { paired = paired; can = each-pair P ws ts all }
