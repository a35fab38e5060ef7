-- How many steps the answers to some items took.
use Rattle.std.specs.{Prelude.{◌≡◌, ◌+◌, ℕ, Bool, false, true, if◌then◌else◌, List, [], ◌∷◌, Ok, Err}, List.AllZip}
use Rattle.request_model.specs.declared.replies.Reply.{Reply}
use Rattle.request_words.specs.Bodies.{Item}
use Rattle.track_model.specs.Counts.{is_full, is_segment, redone_in}
use Rattle.script_desk.specs.{Counting.{Counted, Counting}, Sessions.{State, AnswersFor, AnswersSome}}
use Rattle.script_loop.specs.Folds.{AreAnswers}
use Rattle.script_session.specs.Part.{part}

-- the item asks for a segmentation
abbrev pub asks_segment : Item → Bool
asks_segment (Ok q) = is_segment q
asks_segment (Err reason) = false

-- how many positions the replies to the segmentations among these items say were looked at anew, all
-- together
abbrev pub redone_by : List Item → List Reply → ℕ
redone_by [] replies = 0
redone_by (item ∷ items) [] = 0
redone_by (item ∷ items) (reply ∷ replies) =
    (if asks_segment item then redone_in reply.answer else 0) + redone_by items replies

-- no segmentation among these items is refused a limit
abbrev pub NoneIsFull : List Item → List Reply → Type 0
NoneIsFull items replies =
    AllZip (λ (item : Item) (reply : Reply).
    asks_segment item ≡ true → is_full reply.answer ≡ false)
    items replies

-- the steps rose by exactly so many, where no segmentation was refused a limit
abbrev pub RoseByRedone : List Item → List Reply → ℕ → ℕ → Type 0
RoseByRedone items replies before after =
    NoneIsFull items replies → after ≡ before + redone_by items replies

-- ---- what holds of it

-- a session whose steps are counted answers as ever, and the steps rise by what its replies say
abbrev pub SessionsCount : Type 0
SessionsCount =
    (before after : Counted State) (items : List Item) (replies : List Reply)
    → AreAnswers (Counting AnswersFor) before items replies after
    → AreAnswers AnswersFor before.state items replies after.state
    × RoseByRedone items replies before.steps after.steps

-- one that tells the replies about segmentations alone does so too: what it tells is the part of the
-- replies, and the steps rise by what these say
abbrev pub TrialsCount : Type 0
TrialsCount =
    (before after : Counted State) (items : List Item) (told : List Reply)
    → AreAnswers (Counting AnswersSome) before items told after
    → AreAnswers AnswersSome before.state items told after.state
    × ((replies : List Reply) × AreAnswers AnswersFor before.state items replies after.state
    × (told ≡ part items replies) × RoseByRedone items replies before.steps after.steps)
