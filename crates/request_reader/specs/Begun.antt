-- No public contract cites this. A line that has come with its line feed.
use Rattle.std.specs.Prelude.{◌≡◌, ℕ, ◌+◌, List, ◌∷◌, ◌++◌, length}
use Rattle.request_words.specs.{declared.head.Head.Head, Heads.IsHead, Items.{IsSkipped, Counts}}
use Rattle.request_reader.specs.Scripts.{IsLine}

-- the bytes begin with the line, which takes so many of them with its line feed
pub record HasLine (bytes : List ℕ) (ended : ℕ) (line : List ℕ) : Type 0 where
  pub rest : List ℕ
  pub split : bytes ≡ line ++ 10 ∷ rest
  pub size : ended ≡ length line + 1
  pub whole : IsLine line

-- the bytes begin with a line to which so many bytes belong
pub record BeginsWithBody (bytes : List ℕ) (ended count : ℕ) : Type 0 where
  pub line : List ℕ
  pub has : HasLine bytes ended line
  pub counted : Counts line count

-- the bytes begin with a line of this head, to which so many bytes belong
pub record BeginsWithHead (bytes : List ℕ) (ended : ℕ) (head : Head) (count : ℕ) : Type 0 where
  pub line : List ℕ
  pub has : HasLine bytes ended line
  pub asked : ¬ IsSkipped line
  pub reads : IsHead line head
  pub counted : Counts line count

-- the bytes begin with a line of this head
pub record HeadIsFirst (bytes : List ℕ) (ended : ℕ) (head : Head) : Type 0 where
  pub line : List ℕ
  pub has : HasLine bytes ended line
  pub asked : ¬ IsSkipped line
  pub reads : IsHead line head
