-- What becomes of a map of pairs once the value that it lent was changed.
use Rattle.std.specs.Prelude.{◌≡◌, ℕ, List, Option}
use Rattle.std.specs.Borrow.{Fml, RattleType, MutBor, LendsSo}
use Rattle.name_index.specs.{contracts.pairs.PairMap.the_row, Pairs.{Pairs, found_pair, IsPairWrittenThere}}

abbrev pub LendsPair : (T : RattleType) → MutBor (Pairs T.Denot) → List ℕ → List ℕ → Option (MutBor T.Denot) → Fml
LendsPair T m first second r =
    LendsSo (the_row T) T m r (λ n w. IsPairWrittenThere first second m.now w n) (λ n. (f s : List ℕ) → found_pair f s n ≡ found_pair f s m.now)
