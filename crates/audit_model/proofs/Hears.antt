-- Private: no public contract cites this. A transcript, heard reply by reply.
use Rattle.std.proofs.Common.{◌≡◌, inl, inr, ℕ, suc, ◌+◌, ◌<◌, List, [], ◌∷◌, ◌++◌, length, take, Some, refl, sym, ap, subst, ◌∙◌, arith, append_assoc, append-nil}
use Rattle.std.{specs.Prelude.slice_get, proofs.lemmas.List.take_all, proofs.lemmas.Option.slice_get_within}
use Rattle.history_model.specs.declared.entries.Author.TheVariants as author
use Rattle.track_model.specs.Tracks.{Track}
use Rattle.request_model.specs.declared.replies.Reply.{Reply}
use Rattle.request_words.specs.Bodies.{Item}
use Rattle.request_reader.specs.Scripts.{IsScript, end}
use Rattle.reply_text.specs.Replies.{text_of}
use Rattle.journal_lines.proofs.Lacking.{behind_same}
use Rattle.play_fits.specs.{Journals.{machines_of, history_in}, Scripts.{Exchange, items_of, replies_text}}
use Rattle.audit_model.specs.{Heard.{AreGiven, IsRefusedAt, IsTold, kept_count}, Hearing.{Gives, HasHeard, HearsNext, HearsNone}}
use Rattle.audit_model.proofs.Exchanges.{take_next, text_more, items_more, Splits, split_last, given_none, given_more, given_front, given_last}

module _ (journals : List Track) (i : ℕ) (items : List Item) (transcript : List ℕ) where
  none-asked : (ys : List Exchange) → items_of ys ≡ take 0 items → ys ≡ []
  none-asked [] is = refl
  none-asked (y ∷ ys) is = absurd (cc)

  -- nothing was heard
  pub heard_none : HasHeard journals i items transcript 0 [] transcript
  heard_none = record {
    asks = refl;
    text = refl;
    given = given_none (author.Script i) (machines_of journals) (history_in journals) (kept_count journals);
    only = λ ys more asks text given. none-asked ys asks;
  }

  -- other exchanges for one item more are those that were heard, and a last one
  record Ends (n : ℕ) (xs ys : List Exchange) (item : Item) (rest more : List ℕ) : Type 0 where
    last : Exchange
    is : ys ≡ xs ++ last ∷ []
    its : last.item ≡ item
    text : rest ≡ text_of last.reply ++ more
    gives : Gives journals i xs item last.reply

  ends-so : (n : ℕ) (xs ys : List Exchange) (item : Item) (rest more : List ℕ) → slice_get items n ≡ Some item → HasHeard journals i items transcript n xs rest
      → items_of ys ≡ take (suc n) items → transcript ≡ replies_text ys ++ more → AreGiven journals i ys → Ends n xs ys item rest more
  ends-so n xs ys item rest more here heard asks text given =
      let s : Splits ys (take n items) item = split_last ys (take n items) item (asks ∙ take_next items n item here) in
      let split : transcript ≡ replies_text s.before ++ (text_of s.last.reply ++ more) =
      text ∙ ap (λ (l : List Exchange). replies_text l ++ more) s.is ∙ ap (λ l. l ++ more) (text_more s.before s.last)
      ∙ append_assoc (replies_text s.before) (text_of s.last.reply) more in
      let both : AreGiven journals i (s.before ++ s.last ∷ []) = subst (AreGiven journals i) s.is given in
      let front : AreGiven journals i s.before =
      given_front (author.Script i) (machines_of journals) (history_in journals) (kept_count journals) s.before (s.last ∷ []) both in
      let same : s.before ≡ xs = heard.only s.before (text_of s.last.reply ++ more) s.asks split front in
      let gives : Gives journals i s.before s.last.item s.last.reply =
      given_last (author.Script i) (machines_of journals) (history_in journals) (kept_count journals) s.before s.last both in
      let behind : replies_text xs ++ rest ≡ replies_text xs ++ (text_of s.last.reply ++ more) =
      sym heard.text ∙ split ∙ ap (λ (l : List Exchange). replies_text l ++ (text_of s.last.reply ++ more)) same in
      record {
        last = s.last;
        is = s.is ∙ ap (λ (l : List Exchange). l ++ s.last ∷ []) same;
        its = s.its;
        text = behind_same (replies_text xs) rest (text_of s.last.reply ++ more) behind;
        gives = subst (λ (x : Item). Gives journals i xs x s.last.reply) s.its (subst (λ (l : List Exchange). Gives journals i l s.last.item s.last.reply) same gives);
      }

  same-exchange : (x : Exchange) (item : Item) (reply : Reply) → x.item ≡ item → x.reply ≡ reply → x ≡ record { item = item; reply = reply }
  same-exchange x item reply one two =
      ap (λ (y : Item). let e : Exchange = record { item = y; reply = x.reply } in e) one ∙ ap (λ (r : Reply). let e : Exchange = record { item = item; reply = r } in e) two

  -- one reply more was heard
  pub heard_more : (n : ℕ) (xs : List Exchange) (item : Item) (rest behind : List ℕ) (reply : Reply) → slice_get items n ≡ Some item
      → HasHeard journals i items transcript n xs rest → HearsNext journals i xs item rest reply behind
      → HasHeard journals i items transcript (suc n) (xs ++ record { item = item; reply = reply } ∷ []) behind
  heard_more n xs item rest behind reply here heard next =
      let x : Exchange = record { item = item; reply = reply } in
      record {
        asks = items_more xs x ∙ ap (λ (l : List Item). l ++ item ∷ []) heard.asks ∙ sym (take_next items n item here);
        text = heard.text ∙ ap (λ l. replies_text xs ++ l) next.text ∙ sym (append_assoc (replies_text xs) (text_of reply) behind)
            ∙ ap (λ l. l ++ behind) (sym (text_more xs x));
        given = given_more (author.Script i) (machines_of journals) (history_in journals) (kept_count journals) xs x heard.given next.gives;
        only = λ ys more asks text given.
            let e : Ends n xs ys item rest more = ends-so n xs ys item rest more here heard asks text given in
            let same : e.last.reply ≡ reply = next.only e.last.reply more e.gives e.text in
            e.is ∙ ap (λ (y : Exchange). xs ++ y ∷ []) (same-exchange e.last item reply e.its same);
      }

  -- none was
  pub refused_next : (n : ℕ) (xs : List Exchange) (item : Item) (rest script : List ℕ) → slice_get items n ≡ Some item → HasHeard journals i items transcript n xs rest
      → HearsNone journals i xs item rest → IsScript script items end
      → IsRefusedAt journals i (record { script = script; transcript = transcript }) (n + 1)
  refused_next n xs item rest script here heard none reads =
      let within : n < length items = slice_get_within items n item here in
      let step : n + 1 ≡ suc n = omega arith in
      record {
        items = items;
        script = reads;
        before = n;
        number = refl;
        begins = record { exchanges = xs; asks = heard.asks; rest = rest; replies = heard.text; given = heard.given };
        refused = inl (
          within,
          λ well.
              let e : Ends n xs well.exchanges item rest well.rest =
              ends-so n xs well.exchanges item rest well.rest here heard (well.asks ∙ ap (λ (k : ℕ). take k items) step) well.replies well.given in
              none e.last.reply well.rest e.gives e.text,
        );
      }

  -- the transcript goes on
  pub refused_past : (xs : List Exchange) (b : ℕ) (rest script : List ℕ) → HasHeard journals i items transcript (length items) xs (b ∷ rest) → IsScript script items end
      → ((others : List Item) → IsScript script others end → others ≡ items)
      → IsRefusedAt journals i (record { script = script; transcript = transcript }) (length items + 1)
  refused_past xs b rest script heard reads once =
      record {
        items = items;
        script = reads;
        before = length items;
        number = refl;
        begins = record { exchanges = xs; asks = heard.asks; rest = b ∷ rest; replies = heard.text; given = heard.given };
        refused = inr (
          refl,
          λ others told.
              let asks : items_of others ≡ take (length items) items = once (items_of others) told.script ∙ sym (take_all (length items) items (omega arith)) in
              let same : others ≡ xs = heard.only others [] asks (told.replies ∙ sym (append-nil (replies_text others))) told.given in
              let text : replies_text xs ++ (b ∷ rest) ≡ replies_text xs ++ [] =
              sym heard.text ∙ told.replies ∙ ap replies_text same ∙ sym (append-nil (replies_text xs)) in
              let none : b ∷ rest ≡ [] = behind_same (replies_text xs) (b ∷ rest) [] text in
              absurd (cc),
        );
      }

  -- it has all replies, and nothing else
  pub told_all : (xs : List Exchange) (script : List ℕ) → HasHeard journals i items transcript (length items) xs [] → IsScript script items end
      → IsTold journals i (record { script = script; transcript = transcript }) xs
  told_all xs script heard reads = record {
    script = subst (λ (l : List Item). IsScript script l end) (sym (heard.asks ∙ take_all (length items) items (omega arith))) reads;
    replies = heard.text ∙ append-nil (replies_text xs);
    given = heard.given;
  }
