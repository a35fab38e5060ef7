-- Items, answered one after another, and the replies that are told; over whatever answers requests.
use Rattle.std.specs.Prelude.{◌≡◌, List, [], ◌∷◌, ◌++◌, Option, Some, Ok, Err, option_to_list}
use Rattle.request_model.specs.declared.{requests.Request.Request, replies.Reply.Reply}
use Rattle.request_words.specs.Bodies.{Item}
use Rattle.track_model.specs.{Outcomes.refuses, Replies.apart}

-- an item is answered: a request by what answers requests, and the refusal of reading one apart
-- from all; with the reply that is told, if one is
abbrev pub AnswersItem : {S : Type 0} → (S → Request → Option Reply → S → Type 0) → S → Item
    → Option Reply → S → Type 0
AnswersItem does before (Ok q) told after = does before q told after
AnswersItem does before (Err reason) told after =
    (told ≡ Some (apart (refuses reason))) × (after ≡ before)

-- the items are answered so, one after another, and these replies are told
abbrev pub AreAnswers : {S : Type 0} → (S → Request → Option Reply → S → Type 0) → S → List Item
    → List Reply → S → Type 0
AreAnswers does before [] replies after = (replies ≡ []) × (after ≡ before)
AreAnswers {S = S} does before (item ∷ items) replies after =
    (told : Option Reply) × (between : S) × (more : List Reply)
    × AnswersItem does before item told between × (replies ≡ option_to_list told ++ more)
    × AreAnswers does between items more after
