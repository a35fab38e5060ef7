use Rattle.std.proofs.Common.{ℕ, List, [], ◌++◌, ◌≡◌, ◌+◌, ◌-◌, ◌≤◌, Option, Some, None, IfSome, length, take, drop, ap, sym, ◌∙◌, arith}
use Rattle.std.proofs.{Math.Seq.take-append-add, lemmas.List.{length-take, take-append-drop, take-append-le}, lemmas.Grind.common_steps}
use Rattle.std.specs.Io.KnownBytes.{IsAtEnd}
use Rattle.request_reader.proofs.lines.read_onto.Goals as goal

-- the old bytes stand in front of the vector that grew
front_of : (old reserved sized grown filled : List ℕ) (n place : ℕ) → grown ≡ sized → sized ≡ take n reserved ++ filled → reserved ≡ old → place ≡ length old → place ≤ n
    → take place grown ≡ old
front_of old reserved sized grown filled n place lent is same here room = grind (arith, common_steps)

-- the bytes behind them that came, and no more
read_behind : (old front buf post tail : List ℕ) (place count len : ℕ) → place ≡ length old → front ≡ old → count ≤ length buf → place + count ≤ len
    → take (place + count) (take len ((front ++ (buf ++ post)) ++ tail)) ≡ old ++ take count buf
read_behind old front buf post tail place count len here same within room =
    let whole : List ℕ = (front ++ (buf ++ post)) ++ tail in
    let is : whole ≡ old ++ (buf ++ (post ++ tail)) = grind (arith, common_steps) in
    let long : place + count ≤ length (take len whole) = grind (arith, common_steps) in
    sym (take-append-le (place + count) (take len whole) (drop len whole) long)
    ∙ ap (take (place + count)) (take-append-drop len whole ∙ is)
    ∙ ap (λ (k : ℕ). take (k + count) (old ++ (buf ++ (post ++ tail)))) here
    ∙ take-append-add old (buf ++ (post ++ tail)) count
    ∙ ap (λ (r : List ℕ). old ++ r) (take-append-le count buf (post ++ tail) within)

at_end : (left : Option (List ℕ)) → IsAtEnd left → IfSome left (λ bytes. bytes ≡ [])
at_end None is = is
at_end (Some bytes) is = is

pub returns-clause-ok : goal.returns-clause-ok
returns-clause-ok g c = grind (arith, common_steps, length, take, front_of, length-take, drop, read_behind, at_end)
