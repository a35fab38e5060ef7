-- One script's part in a shared run: what it asked, what it was answered, and what it added.
use Rattle.std.specs.Prelude.{◌≡◌, ℕ, ◌+◌, ◌≤◌, Bool, true, false, List, [], ◌∷◌, ◌++◌, length, map, filter, take, slice_get, Contains, Option, Some, IfSome, Ok, Err}
use Rattle.std.specs.List.{flat_map}
use Rattle.history_model.specs.declared.entries.{Author.Author, Entry.Entry, Placed.Placed}
use Rattle.request_model.specs.{declared.requests.Request.Request, declared.replies.Reply.Reply, Requests.machine_of}
use Rattle.request_words.specs.Bodies.{Item}
use Rattle.request_reader.specs.Scripts.{Ending, IsScript, AsksFirst}
use Rattle.reply_text.specs.Replies.{text_of}
use Rattle.track_model.specs.{Outcomes.refuses, Replies.apart}
use Rattle.play_model.specs.Replies.{is_of_history, IsReply, Adds}

-- a request of a script, or why it couldn't be read, with the reply
pub record Exchange : Type 0 where
  pub item : Item
  pub reply : Reply

abbrev pub items_of : List Exchange → List Item
items_of xs = map (λ (x : Exchange). x.item) xs

-- the text of the replies
abbrev pub replies_text : List Exchange → List ℕ
replies_text xs = flat_map (λ (x : Exchange). text_of x.reply) xs

-- ---- what a script knows of a machine's journal

-- it names the history of the machine
abbrev pub names_history : List ℕ → Item → Bool
names_history machine (Ok q) = is_of_history (machine ∷ []) q
names_history machine (Err reason) = false

abbrev pub is_about : List ℕ → Exchange → Bool
is_about machine x = names_history machine x.item

-- the last of some numbers, or the first one where there are no others
abbrev pub last_from : ℕ → List ℕ → ℕ
last_from n [] = n
last_from n (m ∷ ms) = last_from m ms

-- how many entries of the machine's journal were known after these: as many as the last reply about
-- it named, or as many as were kept
abbrev pub known_after : (kept : ℕ) → List ℕ → List Exchange → ℕ
known_after kept machine xs =
    last_from kept (map (λ (x : Exchange). x.reply.step) (filter (is_about machine) xs))

-- ---- replies

-- the reply to an item, by the journals of the machines, of which so many entries each were known
abbrev pub IsAnswer : Author → List (List ℕ) → (List ℕ → List Placed) → (List ℕ → ℕ) → Item → Reply
    → Type 0
IsAnswer author machines journal known (Ok q) reply = IsReply author machines journal known q reply
IsAnswer author machines journal known (Err reason) reply = reply ≡ apart (refuses reason)

-- each reply is one by the journals, from what was known after those before it on
abbrev pub AreAnswered : Author → List (List ℕ) → (List ℕ → List Placed) → (kept : List ℕ → ℕ)
    → List Exchange → Type 0
AreAnswered author machines journal kept xs =
    (n : ℕ) (x : Exchange) → slice_get xs n ≡ Some x
    → IsAnswer author machines journal (λ m. known_after (kept m) m (take n xs)) x.item x.reply

-- ---- entries

-- a request of the script added the entry at this place of the machine's journal
pub record IsAdded (author : Author) (machine : List ℕ) (journal : List Placed) (kept : ℕ)
    (xs : List Exchange) (place : ℕ) : Type 0 where
  pub before : ℕ
  pub exchange : Exchange
  pub here : slice_get xs before ≡ Some exchange
  pub request : Request
  pub asked : exchange.item ≡ Ok request
  pub about : machine_of request ≡ machine
  pub adds : Adds author journal (known_after kept machine (take before xs)) request exchange.reply
  pub its_step : exchange.reply.step ≡ place + 1

-- no entry of a journal has this author but those that requests of the script added
abbrev pub AreItsOwn : Author → List (List ℕ) → (List ℕ → List Placed) → (kept : List ℕ → ℕ)
    → List Exchange → Type 0
AreItsOwn author machines journal kept xs =
    (m : List ℕ) (place : ℕ) (e : Entry) → Contains machines m
    → slice_get (journal m) place ≡ Some (record { author = author; entry = e })
    → IsAdded author m (journal m) (kept m) xs place

-- ---- bytes

-- all that the script asks up to its ending was answered, and the transcript has each reply
pub record IsInFull (script transcript : Option (List ℕ)) (xs : List Exchange) : Type 0 where
  pub ending : Ending
  pub script_is : IfSome script (λ bytes. IsScript bytes (items_of xs) ending)
  pub transcript_is : IfSome transcript (λ text. text ≡ replies_text xs)

-- the first requests of the script were answered, and the transcript has the replies to all of
-- them, but to the last one perhaps a first part alone
pub record IsInPart (script transcript : Option (List ℕ)) (xs : List Exchange) : Type 0 where
  pub script_is : IfSome script (λ bytes. AsksFirst bytes (items_of xs))
  pub whole : List Exchange
  pub last : List Exchange
  pub all : xs ≡ whole ++ last
  pub one : length last ≤ 1
  pub transcript_is : IfSome transcript (λ text. (n : ℕ)
      × (text ≡ replies_text whole ++ take n (replies_text last)))

abbrev pub IsWritten : (full : Bool) → (script transcript : Option (List ℕ)) → List Exchange → Type 0
IsWritten true script transcript xs = IsInFull script transcript xs
IsWritten false script transcript xs = IsInPart script transcript xs

-- the part of the script of this author, answered in full or not
pub record IsPart (author : Author) (machines : List (List ℕ)) (journal : List ℕ → List Placed)
    (kept : List ℕ → ℕ) (full : Bool) (script transcript : Option (List ℕ)) : Type 0 where
  pub exchanges : List Exchange
  pub written : IsWritten full script transcript exchanges
  pub answered : AreAnswered author machines journal kept exchanges
  pub own : AreItsOwn author machines journal kept exchanges
