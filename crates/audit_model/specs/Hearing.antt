-- What was heard so far of a script with its transcript.
use Rattle.std.specs.Prelude.{◌≡◌, ◌≢◌, ℕ, List, ◌++◌, take}
use Rattle.track_model.specs.Tracks.{Track}
use Rattle.request_model.specs.declared.replies.Reply.{Reply}
use Rattle.request_words.specs.Bodies.{Item}
use Rattle.reply_text.specs.Replies.{text_of}
use Rattle.history_model.specs.declared.entries.Author.TheVariants as author
use Rattle.play_fits.specs.{Journals.{machines_of, history_in}, Scripts.{Exchange, IsAnswer, items_of, known_after, replies_text}}
use Rattle.audit_model.specs.Heard.{AreGiven, kept_count}

-- the reply is one that the journals give to an item of the script behind these exchanges
abbrev pub Gives : List Track → ℕ → List Exchange → Item → Reply → Type 0
Gives journals i xs item reply =
    IsAnswer (author.Script i) (machines_of journals) (history_in journals)
    (λ m. known_after (kept_count journals m) m xs) item reply

-- So many first items were answered so, and this is left of the transcript; there is no other way to read it.
pub record HasHeard (journals : List Track) (i : ℕ) (items : List Item) (transcript : List ℕ)
    (n : ℕ) (xs : List Exchange) (rest : List ℕ) : Type 0 where
  pub asks : items_of xs ≡ take n items
  pub text : transcript ≡ replies_text xs ++ rest
  pub given : AreGiven journals i xs
  pub only : (ys : List Exchange) (more : List ℕ) → items_of ys ≡ take n items
      → transcript ≡ replies_text ys ++ more → AreGiven journals i ys → ys ≡ xs

-- one reply to the next item stands in front of what is left, and no other
pub record HearsNext (journals : List Track) (i : ℕ) (xs : List Exchange) (item : Item) (rest : List ℕ)
    (reply : Reply) (behind : List ℕ) : Type 0 where
  pub gives : Gives journals i xs item reply
  pub text : rest ≡ text_of reply ++ behind
  pub only : (other : Reply) (more : List ℕ) → Gives journals i xs item other
      → rest ≡ text_of other ++ more → other ≡ reply

-- none does
abbrev pub HearsNone : List Track → ℕ → List Exchange → Item → List ℕ → Type 0
HearsNone journals i xs item rest =
    (reply : Reply) (more : List ℕ) → Gives journals i xs item reply → rest ≢ text_of reply ++ more
