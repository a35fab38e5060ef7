-- A certificate whose tables, cuts and total were looked at.
use Rattle.std.proofs.{Common.{◌≡◌, ℕ, ℤ, ◌<◌, List, [], length, reverse, IsTrue, Bool, ◌↔◌, inl, inr, sym, ◌∙◌, pos, arith}, lemmas.Bool.cases_eq}
use Rattle.std.proofs.lemmas.List.{length-map, reverse-reverse}
use Rattle.segment_model.specs.{Segments.{Position, position_values}, Computed.least_sum_of, Cuts.{IsBest, total}, Tables.{int_at, IsTable, IsWalk}}
use Rattle.segment_model.specs.{Laws.{WalkIsBest, BestOfNoneIsEmpty, EmptyCostsNothing}, Values.{values_by_position, cost_between, LeastSumIsComputed}}
use Rattle.segment_cost.specs.Certificate.{squares_between}

pub tables-of : (points : List Position) (ps : List (List ℤ)) (b : ℤ) (len : ℕ) (least least' : List ℤ) (back back' pruned pruned' : List ℕ) (answer : Bool) → ps ≡ values_by_position points
    → least' ≡ least → back' ≡ back → pruned' ≡ pruned → (IsTrue answer ↔ IsTable (cost_between least_sum_of ps) (length ps) b len least' back' pruned')
    → IsTrue answer ↔ IsTable (squares_between points) (length points) b len least back pruned
tables-of points ps b len least least' back back' pruned pruned' answer are e f g told = rw (length-map points position_values) at (rw (are, e, f, g) at told)

-- the total of a certificate, from its tables
pub total-is : WalkIsBest → BestOfNoneIsEmpty → EmptyCostsNothing → LeastSumIsComputed → (points : List Position) (b : ℤ) (len : ℕ) (least : List ℤ) (back pruned cuts : List ℕ) (n : ℕ) (found : ℤ)
    → IsTable (squares_between points) n b len least back pruned → IsWalk back n (reverse cuts) → (n ≡ 0 → found ≡ pos 0) → (0 < n → found ≡ int_at least n)
    → IsBest (squares_between points) b len n cuts × (found ≡ total (squares_between points) b n cuts)
total-is walks empty nothing computed points b len least back pruned cuts n found table walk none some =
    let is = walks (squares_between points) n b len least back pruned table n (reverse cuts) (omega arith) walk in
    let best : IsBest (squares_between points) b len n cuts = rw reverse-reverse at is.0 in (
      best,
      elim (cases_eq n 0) [
        | inl at ↦
            let best' : IsBest (squares_between points) b len 0 cuts = rw at at best in
            let free : least_sum_of [] ≡ pos 0 = nothing (least_sum_of []) (computed []) in
            none at ∙ sym (rw (at, empty (squares_between points) b len cuts best') free)
        | inr apart ↦
            let p : 0 < n = omega arith in
            some p ∙ rw reverse-reverse at (is.1 p)
      ],
    )
