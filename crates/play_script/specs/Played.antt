-- A script that was played: its part in what its pass has seen, and its bytes.
use Rattle.std.specs.Prelude.{◌≡◌, ℕ, Bool, true, false, List, [], Option, Result, Ok, Err, IfSome}
use Rattle.script_loop.specs.declared.stop.Stop.{Stop, TheVariants.{ReadFault, WriteFault, CutOff, InputTooLong, NoMemory}}
use Rattle.play_fits.specs.{Passes.IsSeenPart, Scripts.{Exchange, IsWritten}}
use Rattle.play_script.specs.Posts.{Post, IsSamePost}

-- a script that ended so was answered in full, up to its ending
abbrev pub in_full : Result (Unit {0}) Stop → Bool
in_full (Ok done) = true
in_full (Err (CutOff offset)) = true
in_full (Err InputTooLong) = true
in_full (Err ReadFault) = false
in_full (Err WriteFault) = false
in_full (Err NoMemory) = false

-- the script of these bytes was played between two posts, with this transcript
pub record IsPlayed (before after : Post) (script transcript : Option (List ℕ))
    (result : Result (Unit {0}) Stop) : Type 0 where
  pub same : IsSamePost before after
  pub exchanges : List Exchange
  pub part : IsSeenPart before.author before.machines before.sight exchanges after.sight
  pub written : IsWritten (in_full result) script transcript exchanges

-- a new transcript has no bytes, where it tells them
abbrev pub IsEmpty : Option (List ℕ) → Type 0
IsEmpty transcript = IfSome transcript (λ text. text ≡ [])
