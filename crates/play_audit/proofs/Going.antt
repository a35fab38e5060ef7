-- Private: no public contract cites this. A script, heard item by item.
use Rattle.std.proofs.Common.{◌≡◌, ℕ, zero, suc, ◌+◌, ◌<◌, ◌≤◌, Bool, List, [], ◌∷◌, ◌++◌, length, drop, Some, refl, sym, ap, subst, ◌∙◌, arith, length-append}
use Rattle.std.{specs.Prelude.slice_get, proofs.Common.length-drop, proofs.lemmas.Grind.common_steps}
use Rattle.request_words.specs.Bodies.{Item}
use Rattle.reply_text.specs.Replies.{text_of}
use Rattle.journal_reader.specs.Journals.{Journal}
use Rattle.play_fits.specs.Scripts.{Exchange}
use Rattle.audit_model.{specs.Hearing.{HasHeard, HearsNext, HearsNone}, specs.Heard.IsRefusedAt, proofs.Hears.{heard_more, refused_next, refused_past}}
use Rattle.play_audit.specs.{Known.{AreKnown, tracks_of}, Marks.MarksAll, Heard.{exchange, HearsAll, HearsItem, RefusesAt}}
use Rattle.play_audit.{proofs.Marking.more_marked, specs.declared.place.Place.Place}

-- so many first items of a script were heard, up to a place of its transcript
pub record HasGone (js : List Journal) (i : ℕ) (items : List Item) (transcript : List ℕ) (n at : ℕ) (places : List Place) (old now : List (List Bool)) : Type 0 where
  pub xs : List Exchange
  pub heard : HasHeard (tracks_of js) i items transcript n xs (drop at transcript)
  pub within : at ≤ length transcript
  pub known : AreKnown js xs places
  pub marked : MarksAll (tracks_of js) i xs old now

drop-none : (k : ℕ) → drop {A = ℕ} k [] ≡ []
drop-none k = grind (arith, common_steps)

drop-drop : (len at : ℕ) (ts : List ℕ) → drop len (drop at ts) ≡ drop (at + len) ts
drop-drop len zero ts = let none : 0 + len ≡ len = omega arith in ap (λ (k : ℕ). drop k ts) (sym none)
drop-drop len (suc at) [] = drop-none len ∙ sym (drop-none (suc at + len))
drop-drop len (suc at) (t ∷ ts) = let step : suc at + len ≡ suc (at + len) = omega arith in drop-drop len at ts ∙ ap (λ (k : ℕ). drop k (t ∷ ts)) (sym step)

module _ (js : List Journal) (i : ℕ) (items : List Item) (transcript : List ℕ) where
  -- one item more
  pub more_gone : (n at len : ℕ) (item : Item) (places after : List Place) (old mid new : List (List Bool)) → slice_get items n ≡ Some item
      → (gone : HasGone js i items transcript n at places old mid) → HearsItem js i gone.xs item (drop at transcript) len after mid new
      → HasGone js i items transcript (n + 1) (at + len) after old new
  more_gone n at len item places after old mid new here gone hears =
      let x : Exchange = exchange item hears.reply in
      let step : suc n ≡ n + 1 = omega arith in
      let behind : drop len (drop at transcript) ≡ drop (at + len) transcript = drop-drop len at transcript in
      let next : HearsNext (tracks_of js) i gone.xs item (drop at transcript) hears.reply (drop (at + len) transcript) =
      subst (HearsNext (tracks_of js) i gone.xs item (drop at transcript) hears.reply) behind hears.next in
      let all : HasHeard (tracks_of js) i items transcript (suc n) (gone.xs ++ x ∷ []) (drop (at + len) transcript) =
      heard_more (tracks_of js) i items transcript n gone.xs item (drop at transcript) (drop (at + len) transcript) hears.reply here gone.heard next in
      let size : length (drop at transcript) ≡ length (text_of hears.reply) + length (drop len (drop at transcript)) = ap length hears.next.text ∙ length-append (text_of hears.reply) (drop len (drop at transcript)) in
      record {
        xs = gone.xs ++ x ∷ [];
        heard = subst (λ (k : ℕ). HasHeard (tracks_of js) i items transcript k (gone.xs ++ x ∷ []) (drop (at + len) transcript)) step all;
        within = omega (arith, gone.within, size, hears.whole, length-drop at transcript);
        known = hears.known;
        marked = more_marked (tracks_of js) i gone.xs x old mid new gone.marked hears.marked;
      }

  pub none_gone : (n at : ℕ) (item : Item) (places : List Place) (old now : List (List Bool)) → slice_get items n ≡ Some item → (gone : HasGone js i items transcript n at places old now)
      → HearsNone (tracks_of js) i gone.xs item (drop at transcript) → RefusesAt js i items transcript (n + 1)
  none_gone n at item places old now here gone none script reads once =
      refused_next (tracks_of js) i items transcript n gone.xs item (drop at transcript) script here gone.heard none reads

  some-left : (at : ℕ) (ts : List ℕ) → at < length ts → (b : ℕ) × (rest : List ℕ) × (drop at ts ≡ b ∷ rest)
  some-left at [] below = absurd (omega (arith, below))
  some-left zero (b ∷ ts) below = (b, ts, refl)
  some-left (suc at) (b ∷ ts) below = some-left at ts (omega (arith, below))

  pub past_gone : (n at : ℕ) (places : List Place) (old now : List (List Bool)) → n ≡ length items → at < length transcript → HasGone js i items transcript n at places old now
      → RefusesAt js i items transcript (n + 1)
  past_gone n at places old now all more gone script reads once =
      let left = some-left at transcript more in
      let heard : HasHeard (tracks_of js) i items transcript (length items) gone.xs (left.0 ∷ left.1) = grind (arith, common_steps) in
      subst (λ (k : ℕ). IsRefusedAt (tracks_of js) i (record { script = script; transcript = transcript }) (k + 1)) (sym all)
      (refused_past (tracks_of js) i items transcript gone.xs left.0 left.1 script heard reads once)

  pub all_gone : (n at : ℕ) (places : List Place) (old now : List (List Bool)) → n ≡ length items → length transcript ≤ at → HasGone js i items transcript n at places old now
      → HearsAll js i items transcript old now
  all_gone n at places old now all over gone = grind (arith, common_steps)
