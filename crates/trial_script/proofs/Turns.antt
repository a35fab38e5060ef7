-- Whole pieces one after another, and how many bytes they are.
use Rattle.std.{proofs.Common.{ℕ, zero, suc, ◌*◌, ◌<◌, ◌≤◌, List, [], ◌++◌, length, refl, sym, subst, arith, length-append, Ok}, specs.Prelude.map}
use Rattle.std.proofs.lemmas.List.{map-append}
use Rattle.request_model.specs.declared.requests.Request.{Request}
use Rattle.request_words.specs.Bodies.{Item}
use Rattle.request_reader.{specs.Scripts.ArePieces, proofs.PieceLists.pieces_join}
use Rattle.series_gen.specs.Script.{in_turn}
use Rattle.trial_script.specs.Requests.{asked_in_turn}

-- requests as items
abbrev pub oks : List Request → List Item
oks qs = map (λ q. Ok q) qs

pub join : (bytes more : List ℕ) (qs others : List Request) → ArePieces bytes (oks qs) → ArePieces more (oks others)
    → ArePieces (bytes ++ more) (oks (qs ++ others))
join bytes more qs others one two =
    subst (ArePieces (bytes ++ more)) (sym (map-append (λ q. Ok q) qs others))
    (one.0 ++ two.0, pieces_join one.0 two.0 bytes more (oks qs) (oks others) one.1 two.1)

pub none : ArePieces [] []
none = ([], (refl, refl))

pub turns : (made : ℕ → List ℕ) (asked : ℕ → List Request) (n : ℕ) → ((i : ℕ) → i < n → ArePieces (made i) (oks (asked i)))
    → ArePieces (in_turn made n) (oks (asked_in_turn asked n))
unfolding in_turn asked_in_turn
turns made asked zero each = none
turns made asked (suc n) each =
    join (in_turn made n) (made n) (asked_in_turn asked n) (asked n) (turns made asked n (λ i less. each i (omega (arith, less)))) (each n (omega arith))

pub turns_size : (made : ℕ → List ℕ) (n : ℕ) → ((i : ℕ) → i < n → length (made i) ≤ 1_000) → length (in_turn made n) ≤ 1_000 * n
unfolding in_turn
turns_size made zero each = omega arith
turns_size made (suc n) each =
    omega (arith, length-append (in_turn made n) (made n), turns_size made n (λ i less. each i (omega (arith, less))), each n (omega arith))
