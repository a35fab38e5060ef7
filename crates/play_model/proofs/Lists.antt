-- Private: no public contract cites this. First entries of a longer list.
use Rattle.std.{proofs.Common.{◌≡◌, ℕ, zero, suc, List, [], ◌∷◌, ◌++◌}, specs.Prelude.{slice_get, Some}}

-- an item stays where it is, whatever comes behind
pub item-stays : {A : Type 0} (xs ys : List A) (n : ℕ) (x : A) → slice_get xs n ≡ Some x → slice_get (xs ++ ys) n ≡ Some x
item-stays [] ys n x is = cc
item-stays (y ∷ xs) ys zero x is = is
item-stays (y ∷ xs) ys (suc n) x is = item-stays xs ys n x is
