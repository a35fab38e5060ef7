-- Private: no public contract cites this. What two passes have seen, joined.
use Rattle.std.proofs.{Common.{ℕ, List, [], ◌∷◌, ◌++◌, Option, append_assoc, append-nil, arith}, lemmas.Grind.common_steps}
use Rattle.history_lock.specs.{Marks.{AreByOthers, IsLongerOf, IsNoneOf, IsOtherMark}, declared.view.Marked.Marked}
use Rattle.history_model.specs.declared.entries.Placed.{Placed}
use Rattle.play_fits.specs.Whole.{IsJoined}

-- a mark that is none of these is another than one of them
other-than : (marks : List ℕ) (m : ℕ) (by : Option ℕ) → ¬ (IsNoneOf m marks) → IsOtherMark marks by → IsOtherMark (m ∷ []) by
other-than marks m by one other = grind (arith, common_steps)

pub others-than : (marks : List ℕ) (m : ℕ) (xs : List (Marked Placed)) → ¬ (IsNoneOf m marks) → AreByOthers marks xs → AreByOthers (m ∷ []) xs
others-than marks m [] one others = tt
others-than marks m (x ∷ xs) one others = (other-than marks m x.by one others.0, others-than marks m xs one others.1)

pub others-append : (marks : List ℕ) (xs ys : List (Marked Placed)) → AreByOthers marks xs → AreByOthers marks ys → AreByOthers marks (xs ++ ys)
others-append marks [] ys one two = two
others-append marks (x ∷ xs) ys one two = (one.0, others-append marks xs ys one.1 two)

pub joins-keep : (marks : List ℕ) (first other : List (Marked Placed)) (mark : ℕ) (log : List (Marked Placed)) → IsLongerOf marks first (mark ∷ []) other log → IsJoined marks first other mark log
joins-keep marks first other mark log x5 = grind (arith, common_steps, append-nil, append_assoc, others-append, others-than)
