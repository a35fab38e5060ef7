use Rattle.std.proofs.Common.{◌≡◌, ◌++◌, ◌∷◌, List, ℕ, take, map, flat_map}
use Rattle.cost_certificate.proofs.text.put_row.Given as goal

abbrev pub invariant-loop-number : goal.invariant-loop-number
invariant-loop-number g l =
    l.out.items ≡ l.initial.out.items ++ flat_map (λ (item : List ℕ). 32 ∷ item) (map g.N.Figure.text (take l.number-index l.numbers))
