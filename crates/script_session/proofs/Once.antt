-- Outputs are determined.
use Rattle.std.proofs.Common.{◌≡◌, ℕ, ◌+◌, ◌-◌, inl, inr, true, false, List, [], ◌∷◌, ◌++◌, length, take, Option, None, Some, Ok, Err, refl, sym, ap, ap₂, subst, ◌∙◌, arith, append_assoc, append-nil}
use Rattle.std.{specs.Prelude.{find, Bool, if◌then◌else◌, option_to_list}, specs.List.flat_map, proofs.lemmas.Grind.flat_map-append}
use Rattle.std.proofs.Math.Seq.{take-append-add}
use Rattle.request_model.specs.{declared.requests.Request.Request, declared.replies.Reply.Reply, Requests.machine_of}
use Rattle.reply_text.specs.Replies.{text_of}
use Rattle.request_words.specs.Bodies.{Item}
use Rattle.request_reader.specs.{Scripts.{Ending, end, Reads, IsScript, input_limit}, Reading.{OneReading, PiecesAreFirst}}
use Rattle.history_model.specs.{declared.entries.Author.Author, Entries.entries_of}
use Rattle.track_model.specs.{Laws.OneOutcome, Tracks.{Track, base_asked}}
use Rattle.script_desk.specs.Sessions.{Answered, is_track, stepped, AnswersAbout, Answers, State, RepliesTo, AnswersFor, is_of_segmentations, AnswersSome}
use Rattle.script_loop.specs.{Folds.{AnswersItem, AreAnswers}, Outputs.{IsOutput, AsksFirst}}
use Rattle.script_session.specs.Laws.{AnswersOnce, OutputsOnce, OneScript, ScriptsOnce, BeginsOutput}

-- ---- the machines of a session, over whatever request comes to one outcome
about_once : OneOutcome → (found : Option Track) (author : Author) (tracks : List Track) (q : Request) (a b : Answered)
    → AnswersAbout found author tracks q a → AnswersAbout found author tracks q b → a ≡ b
about_once outcome None author tracks q a b one two = one ∙ sym two
about_once outcome (Some t) author tracks q a b one two = one.2 ∙ ap (stepped author tracks q t) (outcome (entries_of t.history) (base_asked t q) q one.0 two.0 one.1 two.1) ∙ sym two.2

answered_once : OneOutcome → (author : Author) (tracks : List Track) (q : Request) (a b : Answered) → Answers author tracks q a → Answers author tracks q b → a ≡ b
answered_once outcome author tracks q a b one two = about_once outcome (find (is_track (machine_of q)) tracks) author tracks q a b one two

abbrev state : Author → List Track → State
state author tracks = record { author = author; tracks = tracks }

one_reply : OneOutcome → (before : State) (q : Request) (reply other : Reply) (after last : State) → RepliesTo before q reply after → RepliesTo before q other last → (reply ≡ other) × (after ≡ last)
one_reply outcome before q reply other after last one two =
    let same = answered_once outcome before.author before.tracks q (record { reply = reply; tracks = after.tracks }) (record { reply = other; tracks = last.tracks }) one.1 two.1 in
    (ap (λ (a : Answered). a.reply) same, ap₂ state (one.0 ∙ sym two.0) (ap (λ (a : Answered). a.tracks) same))

pub answers_once : OneOutcome → AnswersOnce AnswersFor
answers_once outcome before q told other after last one two =
    let same = one_reply outcome before q one.0 two.0 after last one.1 two.1 in
    (one.2 ∙ ap Some same.0 ∙ sym two.2, same.1)

abbrev told_if : Bool → Reply → Option Reply
told_if tells reply = if tells then Some reply else None

pub some_once : OneOutcome → AnswersOnce AnswersSome
some_once outcome before q told other after last one two =
    let same = one_reply outcome before q one.0 two.0 after last one.1 two.1 in
    (one.2 ∙ ap (told_if (is_of_segmentations q)) same.0 ∙ sym two.2, same.1)

-- ---- the items of a script
pub script_once : OneReading → OneScript
script_once reading bytes items others ending ended (inl one) (inl two) = reading true 0 bytes items others ending ended one.1 two.1
script_once reading bytes items others ending ended (inr one) (inr two) = reading false 0 (take input_limit bytes) items others ending ended one.1 two.1
script_once reading bytes items others ending ended (inl one) (inr two) = absurd (omega (arith, one.0, two.0))
script_once reading bytes items others ending ended (inr one) (inl two) = absurd (omega (arith, one.0, two.0))

-- ---- over whatever answers a request once
module _ {S : Type 0} (does : S → Request → Option Reply → S → Type 0) (once : AnswersOnce does) where
  item_once : (before : S) (item : Item) (told other : Option Reply) (after last : S) → AnswersItem does before item told after → AnswersItem does before item other last → (told ≡ other) × (after ≡ last)
  item_once before (Ok q) told other after last one two = once before q told other after last one two
  item_once before (Err reason) told other after last one two = (one.0 ∙ sym two.0, one.1 ∙ sym two.1)

  replies_once : (before : S) (items : List Item) (replies others : List Reply) (after last : S)
      → AreAnswers does before items replies after → AreAnswers does before items others last → (replies ≡ others) × (after ≡ last)
  replies_once before [] replies others after last one two = (one.0 ∙ sym two.0, one.1 ∙ sym two.1)
  replies_once before (item ∷ items) replies others after last one two =
      let same = item_once before item one.0 two.0 one.1 two.1 one.3 two.3 in
      let behind = replies_once one.1 items one.2 two.2 after last one.5 (subst (λ s. AreAnswers does s items two.2 last) (sym same.1) two.5) in
      (one.4 ∙ ap₂ (λ t rs. option_to_list t ++ rs) same.0 behind.0 ∙ sym two.4, behind.1)

  pub outputs_once : OutputsOnce does
  outputs_once before items text other after last one two =
      let same = replies_once before items one.replies two.replies after last one.answers two.answers in
      (one.told ∙ ap (flat_map text_of) same.0 ∙ sym two.told, same.1)

  pub scripts_once : OneReading → ScriptsOnce does
  scripts_once reading before bytes text other after last ending ended one two =
      let same = script_once reading bytes one.items two.items ending ended one.script two.script in
      let told = outputs_once before one.items text other after last one.output (subst (λ items. IsOutput does before items other last) (sym same.0) two.output) in
      (told.0, told.1, same.1)

  -- the output of items one after another is that of the first, and behind it that of the others
  replies_parted : (before : S) (items more : List Item) (replies : List Reply) (after : S) → AreAnswers does before (items ++ more) replies after
      → (first : List Reply) × (rest : List Reply) × (between : S) × AreAnswers does before items first between × (replies ≡ first ++ rest)
  replies_parted before [] more replies after told = ([], replies, before, (refl, refl), refl)
  replies_parted before (item ∷ items) more replies after told =
      let parted = replies_parted told.1 items more told.2 after told.5 in (
        option_to_list told.0 ++ parted.0,
        parted.1,
        parted.2,
        (told.0, told.1, parted.0, told.3, refl, parted.3),
        told.4 ∙ ap (λ rs. option_to_list told.0 ++ rs) parted.4 ∙ sym (append_assoc (option_to_list told.0) parted.0 parted.1),
      )

  begins_items : (before : S) (items more : List Item) (text whole : List ℕ) (after last : S) → IsOutput does before items text after → IsOutput does before (items ++ more) whole last
      → (rest : List ℕ) × (whole ≡ text ++ rest)
  begins_items before items more text whole after last one two =
      let parted = replies_parted before items more two.replies last two.answers in
      let same = replies_once before items one.replies parted.0 after parted.2 one.answers parted.3 in (
        flat_map text_of parted.1,
        two.told ∙ ap (flat_map text_of) parted.4 ∙ flat_map-append text_of parted.0 parted.1 ∙ ap (λ t. t ++ flat_map text_of parted.1) (ap (flat_map text_of) (sym same.0) ∙ sym one.told),
      )

  -- the first items of a script are those that its reading begins with
  first_of_script : OneReading → PiecesAreFirst → (bytes : List ℕ) (items all : List Item) (ending : Ending) → AsksFirst bytes items → IsScript bytes all ending
      → (more : List Item) × (all ≡ items ++ more)
  first_of_script reading first bytes items all ending (inr told) script = ([], (script_once reading bytes all items ending end script told).0 ∙ sym (append-nil items))
  first_of_script reading first bytes items all ending (inl told) (inl script) =
      let found = first true 0 told.0 told.1 items all ending told.4 (subst (λ bs. Reads true 0 bs all ending) told.2 script.1) in
      (found.0, found.1)
  first_of_script reading first bytes items all ending (inl told) (inr script) =
      let room : input_limit ≡ length told.0 + (input_limit - length told.0) = omega (arith, told.3) in
      let front : take input_limit bytes ≡ told.0 ++ take (input_limit - length told.0) told.1 =
      ap (take input_limit) told.2 ∙ ap (λ n. take n (told.0 ++ told.1)) room ∙ take-append-add told.0 told.1 (input_limit - length told.0) in
      let found = first false 0 told.0 (take (input_limit - length told.0) told.1) items all ending told.4 (subst (λ bs. Reads false 0 bs all ending) front script.1) in
      (found.0, found.1)

  pub begins_output : OneReading → PiecesAreFirst → BeginsOutput does
  begins_output reading first before bytes items text after whole last ending asks one two =
      let found = first_of_script reading first bytes items two.items ending asks two.script in
      begins_items before items found.0 text whole after last one (subst (λ xs. IsOutput does before xs whole last) found.1 two.output)
