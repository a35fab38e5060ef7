-- The part of the replies of a script that is told where those about segmentations alone are.
use Rattle.std.specs.{Prelude.{◌≡◌, ◌↔◌, ℕ, Bool, true, if◌then◌else◌, List, [], ◌∷◌, length, Ok, Err}, List.flat_map}
use Rattle.request_model.specs.declared.replies.Reply.{Reply}
use Rattle.reply_text.specs.Replies.{text_of}
use Rattle.request_words.specs.Bodies.{Item}
use Rattle.request_reader.specs.Scripts.{Ending, IsScript}
use Rattle.script_desk.specs.Sessions.{State, AnswersFor, AnswersSome, is_of_segmentations}
use Rattle.script_loop.specs.{Folds.AreAnswers, Outputs.Out}

-- the reply to the item is told: the item asks for a segmentation or for changes, or could not be
-- read
abbrev pub is_of_part : Item → Bool
is_of_part (Ok q) = is_of_segmentations q
is_of_part (Err reason) = true

-- of the replies to some items, one to each, those that are told, in their order
abbrev pub part : List Item → List Reply → List Reply
part [] replies = []
part (item ∷ items) [] = []
part (item ∷ items) (reply ∷ replies) =
    if is_of_part item then reply ∷ part items replies else part items replies

-- a text is the part of an output: the same items of the script have the same replies, of which the
-- whole output has all and the text has those of the part
pub record IsPart (before : State) (bytes whole text : List ℕ) (after : State) (ending : Ending)
    : Type 0 where
  pub items : List Item
  pub replies : List Reply
  pub script : IsScript bytes items ending
  pub answers : AreAnswers AnswersFor before items replies after
  pub all : whole ≡ flat_map text_of replies
  pub told : text ≡ flat_map text_of (part items replies)

-- ---- what holds of it

-- where each reply is told, each item has one
abbrev pub OneReplyEach : Type 0
OneReplyEach =
    (before after : State) (items : List Item) (replies : List Reply)
    → AreAnswers AnswersFor before items replies after → length replies ≡ length items

-- a session that tells some replies makes the same of the machines, and tells the part
abbrev pub TellsPart : Type 0
TellsPart =
    (before after : State) (items : List Item) (replies : List Reply)
    → AreAnswers AnswersFor before items replies after
    → AreAnswers AnswersSome before items (part items replies) after

-- and nothing else
abbrev pub TellsNoMore : Type 0
TellsNoMore =
    (before after : State) (items : List Item) (told : List Reply)
    → AreAnswers AnswersSome before items told after
    → (replies : List Reply) × AreAnswers AnswersFor before items replies after
    × (told ≡ part items replies)

-- its outputs are the parts of outputs
abbrev pub OutputsAreParts : Type 0
OutputsAreParts =
    (before after : State) (bytes text : List ℕ) (ending : Ending)
    → Out AnswersSome before bytes text after ending
    ↔ ((whole : List ℕ) × IsPart before bytes whole text after ending)

-- what a text is a part of is an output
abbrev pub PartsAreOfOutputs : Type 0
PartsAreOfOutputs = (before after : State) (bytes whole text : List ℕ) (ending : Ending)
    → IsPart before bytes whole text after ending → Out AnswersFor before bytes whole after ending

-- so its output of a script is the part of whatever the script is answered, and leaves the same
-- machines
abbrev pub PartOfEach : Type 0
PartOfEach = (before after last : State) (bytes whole text : List ℕ) (ending ended : Ending)
    → Out AnswersFor before bytes whole last ending → Out AnswersSome before bytes text after ended
    → IsPart before bytes whole text last ending × (after ≡ last) × (ended ≡ ending)
