-- A desk whose requests are asked beside others, and what it stands on.
use Rattle.std.specs.Prelude.{◌≡◌, ℕ, List, Option, Some}
use Rattle.history_model.specs.declared.entries.Author.{Author}
use Rattle.request_model.specs.declared.{requests.Request.Request, replies.Reply.Reply}
use Rattle.play_fits.specs.Passes.{Sight, Asks, Waits}

-- whose requests they are, of which machines, and what was seen of these
pub record Post : Type 0 where
  pub author : Author
  pub machines : List (List ℕ)
  pub sight : Sight

-- the same script on the same machines
pub record IsSamePost (before after : Post) : Type 0 where
  pub author : after.author ≡ before.author
  pub machines : after.machines ≡ before.machines

-- a request is asked, and its reply is told
pub record AsksTold (before : Post) (q : Request) (told : Option Reply) (after : Post) : Type 0 where
  pub same : IsSamePost before after
  pub reply : Reply
  pub asks : Asks before.author before.machines before.sight q reply after.sight
  pub tells : told ≡ Some reply

-- memory is wanting
pub record WaitsAt (before after : Post) : Type 0 where
  pub same : IsSamePost before after
  pub waits : Waits before.sight after.sight

-- what answers requests does so on its post
abbrev pub AnswersAtPost : {S : Type 0} → (S → Post) → (S → Request → Option Reply → S → Type 0)
    → Type 0
AnswersAtPost {S = S} post does =
    (before : S) (q : Request) (told : Option Reply) (after : S)
    → does before q told after → AsksTold (post before) q told (post after)

abbrev pub FailsAtPost : {S : Type 0} → (S → Post) → (S → S → Type 0) → Type 0
FailsAtPost {S = S} post fails =
    (before after : S) → fails before after → WaitsAt (post before) (post after)
