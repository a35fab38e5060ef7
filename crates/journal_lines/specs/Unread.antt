-- What is left of a text, of which so many lines were read.
use Rattle.std.specs.Prelude.{ℕ, List}

pub record Unread : Type 0 where
  pub rest : List ℕ
  pub count : ℕ
