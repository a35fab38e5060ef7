-- What is kept of an input between two calls, and what calls made of it.
use Rattle.std.specs.{Prelude.{◌≡◌, ℕ, ◌+◌, ◌≤◌, Bool, false, List, [], ◌++◌, length, Option}, Io.KnownBytes.prepend_known}
use Rattle.request_reader.specs.Scripts.{unfinished, Reads, input_limit}

-- the bytes that were read and not used yet, how many bytes of the input came before them, whether the last of the input
-- was used, and whether reading has stopped
pub record Unread : Type 0 where
  pub kept : List ℕ
  pub before : ℕ
  pub ended : Bool
  pub stopped : Bool

-- before anything is read
abbrev pub nothing_read : Unread
nothing_read = record { kept = []; before = 0; ended = false; stopped = false }

-- the source gave bytes behind those that were kept, and it takes more to tell what they ask
pub record GivesOpen (old : Unread) (before after : Option (List ℕ)) : Type 0 where
  pub given : List ℕ
  pub gave : before ≡ prepend_known given after
  pub within : old.before + length (old.kept ++ given) ≤ input_limit
  pub reads : Reads false old.before (old.kept ++ given) [] unfinished
