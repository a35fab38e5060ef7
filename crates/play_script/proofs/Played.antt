-- Private: no public contract cites this. What a script comes to at a desk whose requests are asked beside others.
use Rattle.std.proofs.Common.{◌≡◌, ℕ, inl, inr, Bool, true, false, List, [], ◌∷◌, ◌++◌, length, map, take, Option, None, Some, Ok, Err, refl, sym, ap, subst, ◌∙◌, arith}
use Rattle.std.specs.{Prelude.{Result, IfSome, option_to_list}, Io.KnownBytes.append_known, List.flat_map}
use Rattle.std.proofs.lemmas.List.{length-map, map-append}
use Rattle.track_outside.specs.declared.source.Source as source
use Rattle.track_outside.specs.declared.sink.Sink as sink
use Rattle.track_outside.specs.Calls.{Took}
use Rattle.history_model.specs.declared.entries.Author.{Author}
use Rattle.request_model.specs.declared.{requests.Request.Request, replies.Reply.Reply}
use Rattle.request_words.specs.Bodies.{Item}
use Rattle.request_reader.specs.Scripts.{AsksFirst, IsScript, Ending, end, cut_off, unfinished}
use Rattle.reply_text.specs.Replies.{text_of}
use Rattle.track_model.specs.{Outcomes.refuses, Replies.apart}
use Rattle.script_loop.specs.{Folds.{AreAnswers, AnswersItem}, Outputs.IsOutput, Endings.GaveOpen, Paced.{IsLeft, IsEach, Paced}}
use Rattle.script_loop.{proofs.Opened.open_first, specs.declared.stop.Stop.Stop}
use Rattle.script_loop.specs.declared.stop.Stop.TheVariants as stop
use Rattle.play_fits.specs.{Passes.{Sight, AsksItem, AsksAll, IsSeenPart}, Scripts.{Exchange, items_of, replies_text, IsWritten}}
use Rattle.play_fits.specs.Laws.{AnswersArePart, PartsWait}
use Rattle.play_script.specs.{Posts.{Post, IsSamePost, AsksTold, WaitsAt, AnswersAtPost, FailsAtPost}, Played.{in_full, IsPlayed, IsEmpty}}

-- ---- posts
same-post : (p : Post) → IsSamePost p p
same-post p = record { author = refl; machines = refl }

same-through : (one two three : Post) → IsSamePost one two → IsSamePost two three → IsSamePost one three
same-through one two three a b = record { author = b.author ∙ a.author; machines = b.machines ∙ a.machines }

-- ---- items that were answered, as exchanges
record Exchanged (before : Post) (items : List Item) (replies : List Reply) (after : Post) : Type 0 where
  same : IsSamePost before after
  exchanges : List Exchange
  items_are : items_of exchanges ≡ items
  replies_are : map (λ (x : Exchange). x.reply) exchanges ≡ replies
  asked : AsksAll before.author before.machines before.sight exchanges after.sight

module _ {S : Type 0} (post : S → Post) (does : S → Request → Option Reply → S → Type 0) (answers : AnswersAtPost post does) where
  -- one item
  record One (before : S) (item : Item) (told : Option Reply) (after : S) : Type 0 where
    same : IsSamePost (post before) (post after)
    reply : Reply
    tells : told ≡ Some reply
    asked : AsksItem (post before).author (post before).machines (post before).sight item reply (post after).sight

  one-item : (before : S) (item : Item) (told : Option Reply) (after : S) → AnswersItem does before item told after → One before item told after
  one-item before (Ok q) told after is =
      let a : AsksTold (post before) q told (post after) = answers before q told after is in
      record { same = a.same; reply = a.reply; tells = a.tells; asked = a.asks }
  one-item before (Err reason) told after is = record {
    same = subst (λ (s : S). IsSamePost (post before) (post s)) (sym is.1) (same-post (post before));
    reply = apart (refuses reason);
    tells = is.0;
    asked = (refl, ap (λ (s : S). (post s).sight) is.1);
  }

  exchanged : (before : S) (items : List Item) (replies : List Reply) (after : S) → AreAnswers does before items replies after → Exchanged (post before) items replies (post after)
  exchanged before [] replies after is = record {
    same = subst (λ (s : S). IsSamePost (post before) (post s)) (sym is.1) (same-post (post before));
    exchanges = [];
    items_are = refl;
    replies_are = sym is.0;
    asked = ap (λ (s : S). (post s).sight) is.1;
  }
  exchanged before (item ∷ items) replies after is =
      let told : Option Reply = is.0 in
      let between : S = is.1 in
      let others : List Reply = is.2 in
      let one : One before item told between = one-item before item told between is.3 in
      let rest : Exchanged (post between) items others (post after) = exchanged between items others after is.5 in
      record {
        same = same-through (post before) (post between) (post after) one.same rest.same;
        exchanges = record { item = item; reply = one.reply } ∷ rest.exchanges;
        items_are = ap (λ (l : List Item). item ∷ l) rest.items_are;
        replies_are = ap (λ (l : List Reply). one.reply ∷ l) rest.replies_are ∙ sym (is.4 ∙ ap (λ t. option_to_list t ++ others) one.tells);
        asked = (
          (post between).sight,
          one.asked,
          subst (λ (a : Author). AsksAll a (post before).machines (post between).sight rest.exchanges (post after).sight) one.same.author
              (subst (λ (ms : List (List ℕ)). AsksAll (post between).author ms (post between).sight rest.exchanges (post after).sight) one.same.machines rest.asked),
        );
      }

-- ---- their text
texts : (xs : List Exchange) → replies_text xs ≡ flat_map text_of (map (λ (x : Exchange). x.reply) xs)
texts [] = refl
texts (x ∷ xs) = ap (λ (t : List ℕ). text_of x.reply ++ t) (texts xs)

text-is : (before : Post) (items : List Item) (replies : List Reply) (after : Post) (text : List ℕ) (e : Exchanged before items replies after) → text ≡ flat_map text_of replies → text ≡ replies_text e.exchanges
text-is before items replies after text e told = told ∙ ap (λ (rs : List Reply). flat_map text_of rs) (sym e.replies_are) ∙ sym (texts e.exchanges)

asks-join : (author : Author) (machines : List (List ℕ)) (before between after : Sight) (xs ys : List Exchange) → AsksAll author machines before xs between → AsksAll author machines between ys after → AsksAll author machines before (xs ++ ys) after
asks-join author machines before between after [] ys one two = subst (λ (s : Sight). AsksAll author machines s ys after) one two
asks-join author machines before between after (x ∷ xs) ys one two = (one.0, one.1, asks-join author machines one.0 between after xs ys one.2 two)

-- ---- what was read, as what is asked first
some-open : (bytes after : Option (List ℕ)) (items : List Item) → IfSome bytes (λ bs. GaveOpen bs after items) → IfSome bytes (λ bs. AsksFirst bs items)
some-open None after items told = tt
some-open (Some bytes) after items told = open_first bytes after items told

-- ---- what an empty transcript took
took-text : (old new : Option (List ℕ)) (text : List ℕ) → IsEmpty old → new ≡ append_known old text → IfSome new (λ t. t ≡ text)
took-text None new text empty is = rw is tt
took-text (Some bytes) new text empty is = rw (is, empty) refl

-- ---- what is read holds of the exchanges
some-script : (bytes : Option (List ℕ)) (items others : List Item) (ending : Ending) → others ≡ items → IfSome bytes (λ bs. IsScript bs items ending) → IfSome bytes (λ bs. IsScript bs others ending)
some-script bytes items others ending same told = subst (λ (xs : List Item). IfSome bytes (λ bs. IsScript bs xs ending)) (sym same) told

some-first : (bytes : Option (List ℕ)) (items others : List Item) → others ≡ items → IfSome bytes (λ bs. AsksFirst bs items) → IfSome bytes (λ bs. AsksFirst bs others)
some-first bytes items others same told = subst (λ (xs : List Item). IfSome bytes (λ bs. AsksFirst bs xs)) (sym same) told

some-text : (transcript : Option (List ℕ)) (text other : List ℕ) → text ≡ other → IfSome transcript (λ t. t ≡ text) → IfSome transcript (λ t. t ≡ other)
some-text transcript text other same told = subst (λ (ts : List ℕ). IfSome transcript (λ t. t ≡ ts)) same told

some-part : (transcript : Option (List ℕ)) (n : ℕ) (front back one two : List ℕ) → front ≡ one → back ≡ two → IfSome transcript (λ t. t ≡ front ++ take n back) → IfSome transcript (λ t. (m : ℕ) × (t ≡ one ++ take m two))
some-part None n front back one two first second told = tt
some-part (Some bytes) n front back one two first second told = (n, told ∙ ap (λ (f : List ℕ). f ++ take n back) first ∙ ap (λ (b : List ℕ). one ++ take n b) second)

module _ {O S : Type 0} (h : sink.Ghosts O) (old new : O) (post : S → Post) (does : S → Request → Option Reply → S → Type 0) (fails : S → S → Type 0)
    (answers : AnswersAtPost post does) (waits : FailsAtPost post fails) (are-part : AnswersArePart) (part-waits : PartsWait) (before after left : S) (script : Option (List ℕ)) where
  -- what stands at the end
  finish : (result : Result (Unit {0}) Stop) (xs : List Exchange) → IsSamePost (post before) (post after) → IsSeenPart (post before).author (post before).machines (post before).sight xs (post after).sight
      → IsLeft fails after left result → IsWritten (in_full result) script (h.taken new) xs → IsPlayed (post before) (post left) script (h.taken new) result
  finish (Ok done) xs same part is written = rw is (record { same = same; exchanges = xs; part = part; written = written })
  finish (Err stop.ReadFault) xs same part is written = rw is (record { same = same; exchanges = xs; part = part; written = written })
  finish (Err stop.WriteFault) xs same part is written = rw is (record { same = same; exchanges = xs; part = part; written = written })
  finish (Err (stop.CutOff offset)) xs same part is written = rw is (record { same = same; exchanges = xs; part = part; written = written })
  finish (Err stop.InputTooLong) xs same part is written = rw is (record { same = same; exchanges = xs; part = part; written = written })
  finish (Err stop.NoMemory) xs same part (inl is) written = rw is (record { same = same; exchanges = xs; part = part; written = written })
  finish (Err stop.NoMemory) xs same part (inr failed) written =
      let w : WaitsAt (post after) (post left) = waits after left failed in
      record {
        same = same-through (post before) (post after) (post left) same w.same;
        exchanges = xs;
        part = part-waits (post before).author (post before).machines (post before).sight (post after).sight (post left).sight xs part w.waits;
        written = written;
      }

  -- all of the script was answered, up to its ending
  whole : (result : Result (Unit {0}) Stop) (items : List Item) (text : List ℕ) (ending : Ending) → in_full result ≡ true → IsOutput does before items text after → IsLeft fails after left result
      → IsEmpty (h.taken old) → IfSome script (λ bytes. IsScript bytes items ending) → Took h old new text → IsPlayed (post before) (post left) script (h.taken new) result
  whole result items text ending full output is empty reads took =
      let e : Exchanged (post before) items output.replies (post after) = exchanged post does answers before items output.replies after output.answers in
      finish result e.exchanges e.same (are-part (post before).author (post before).machines (post before).sight (post after).sight e.exchanges e.asked) is
      (subst (λ (b : Bool). IsWritten b script (h.taken new) e.exchanges) (sym full) (record {
        ending = ending;
        script_is = some-script script items (items_of e.exchanges) ending e.items_are reads;
        transcript_is = some-text (h.taken new) text (replies_text e.exchanges) (text-is (post before) items output.replies (post after) text e output.told) (took-text (h.taken old) (h.taken new) text empty took.taken);
      }))

  -- first requests were
  part : (result : Result (Unit {0}) Stop) (items : List Item) (text : List ℕ) → in_full result ≡ false → IsLeft fails after left result
      → IsEmpty (h.taken old) → IfSome script (λ bytes. AsksFirst bytes items) → IsEach h old new does before items text after → IsPlayed (post before) (post left) script (h.taken new) result
  part result items text partly is empty reads told =
      let one : Exchanged (post before) told.whole told.first.replies (post told.between) = exchanged post does answers before told.whole told.first.replies told.between told.first.answers in
      let two : Exchanged (post told.between) told.last told.second.replies (post after) = exchanged post does answers told.between told.last told.second.replies after told.second.answers in
      let xs : List Exchange = one.exchanges ++ two.exchanges in
      let items_are : items_of xs ≡ items =
      map-append (λ (x : Exchange). x.item) one.exchanges two.exchanges ∙ ap (λ (l : List Item). l ++ items_of two.exchanges) one.items_are ∙ ap (λ (l : List Item). told.whole ++ l) two.items_are ∙ sym told.items_are in
      let later : AsksAll (post before).author (post before).machines (post told.between).sight two.exchanges (post after).sight =
      subst (λ (a : Author). AsksAll a (post before).machines (post told.between).sight two.exchanges (post after).sight) one.same.author
      (subst (λ (ms : List (List ℕ)). AsksAll (post told.between).author ms (post told.between).sight two.exchanges (post after).sight) one.same.machines two.asked) in
      let asked : AsksAll (post before).author (post before).machines (post before).sight xs (post after).sight =
      asks-join (post before).author (post before).machines (post before).sight (post told.between).sight (post after).sight one.exchanges two.exchanges one.asked later in
      let many : length two.exchanges ≡ length told.last = sym (length-map two.exchanges (λ (x : Exchange). x.item)) ∙ ap length two.items_are in
      finish result xs (same-through (post before) (post told.between) (post after) one.same two.same)
      (are-part (post before).author (post before).machines (post before).sight (post after).sight xs asked) is
      (subst (λ (b : Bool). IsWritten b script (h.taken new) xs) (sym partly) (record {
        script_is = some-first script items (items_of xs) items_are reads;
        whole = one.exchanges;
        last = two.exchanges;
        all = refl;
        one = omega (arith, many, told.one);
        transcript_is = some-part (h.taken new) told.took.0 told.front told.back (replies_text one.exchanges) (replies_text two.exchanges)
            (text-is (post before) told.whole told.first.replies (post told.between) told.front one told.first.told)
            (text-is (post told.between) told.last told.second.replies (post after) told.back two told.second.told)
            (took-text (h.taken old) (h.taken new) (told.front ++ take told.took.0 told.back) empty told.took.2);
      }))

module _ {I O S : Type 0} (g : source.Ghosts I) (h : sink.Ghosts O) (first now : I) (old new : O) (post : S → Post) (does : S → Request → Option Reply → S → Type 0) (fails : S → S → Type 0) where
  pub is-played : AnswersAtPost post does → FailsAtPost post fails → AnswersArePart → PartsWait → (before left : S) (result : Result (Unit {0}) Stop) → IsEmpty (h.taken old) → Paced g h first now old new does fails true before left result
      → IsPlayed (post before) (post left) (g.left first) (h.taken new) result
  is-played answers waits are-part part-waits before left (Ok done) empty p = whole h old new post does fails answers waits are-part part-waits before p.after left (g.left first) (Ok done) p.items p.text end refl p.output p.stands empty p.read.0 p.wrote
  is-played answers waits are-part part-waits before left (Err (stop.CutOff offset)) empty p =
      whole h old new post does fails answers waits are-part part-waits before p.after left (g.left first) (Err (stop.CutOff offset)) p.items p.text (cut_off offset) refl p.output p.stands empty p.read p.wrote
  is-played answers waits are-part part-waits before left (Err stop.InputTooLong) empty p =
      whole h old new post does fails answers waits are-part part-waits before p.after left (g.left first) (Err stop.InputTooLong) p.items p.text unfinished refl p.output p.stands empty p.read p.wrote
  is-played answers waits are-part part-waits before left (Err stop.ReadFault) empty p =
      part h old new post does fails answers waits are-part part-waits before p.after left (g.left first) (Err stop.ReadFault) p.items p.text refl p.stands empty (some-open (g.left first) (g.left now) p.items p.read.1) (p.by_each refl)
  is-played answers waits are-part part-waits before left (Err stop.WriteFault) empty p =
      part h old new post does fails answers waits are-part part-waits before p.after left (g.left first) (Err stop.WriteFault) p.items p.text refl p.stands empty p.read (p.by_each refl)
  is-played answers waits are-part part-waits before left (Err stop.NoMemory) empty p =
      part h old new post does fails answers waits are-part part-waits before p.after left (g.left first) (Err stop.NoMemory) p.items p.text refl p.stands empty p.read (p.by_each refl)
