-- What holds of one script's part.
use Rattle.std.specs.Prelude.{ℕ, List}
use Rattle.history_model.specs.declared.entries.Author.{Author}
use Rattle.play_fits.specs.{Passes.{Sight, AsksAll, IsSeenPart, Waits}, Scripts.Exchange}

-- the answers to a script's items are its part in what its pass has seen
abbrev pub AnswersArePart : Type 0
AnswersArePart =
    (author : Author) (machines : List (List ℕ)) (before after : Sight) (xs : List Exchange)
    → AsksAll author machines before xs after → IsSeenPart author machines before xs after

-- so they are where a call found no memory behind them
abbrev pub PartsWait : Type 0
PartsWait =
    (author : Author) (machines : List (List ℕ)) (before after left : Sight) (xs : List Exchange)
    → IsSeenPart author machines before xs after → Waits after left
    → IsSeenPart author machines before xs left
