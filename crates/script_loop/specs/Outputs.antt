-- The output of a script: the text of the replies that are told, what stands after it, and how it
-- ends; over whatever answers requests.
use Rattle.std.specs.{Prelude.{◌≡◌, ℕ, List, Option}, List.flat_map}
use Rattle.request_model.specs.declared.{requests.Request.Request, replies.Reply.Reply}
use Rattle.reply_text.specs.Replies.{text_of}
use Rattle.request_words.specs.Bodies.{Item}
use Rattle.request_reader.specs.Scripts.{Ending, IsScript}
pub use Rattle.request_reader.specs.Scripts.{AsksFirst}
use Rattle.script_loop.specs.Folds.{AreAnswers}

-- the text that answers some items, and what stands after them
pub record IsOutput {S : Type 0} (does : S → Request → Option Reply → S → Type 0) (before : S)
    (items : List Item) (text : List ℕ) (after : S) : Type 0 where
  pub replies : List Reply
  pub answers : AreAnswers does before items replies after
  pub told : text ≡ flat_map text_of replies

-- the output of a script: the text of its replies, what stands after it, and its ending
pub record Out {S : Type 0} (does : S → Request → Option Reply → S → Type 0) (before : S)
    (bytes text : List ℕ) (after : S) (ending : Ending) : Type 0 where
  pub items : List Item
  pub script : IsScript bytes items ending
  pub output : IsOutput does before items text after
