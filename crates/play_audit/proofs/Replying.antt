-- Private: no public contract cites this. A reply behind the entries of a walk, by what its request came to there.
use Rattle.std.proofs.Common.{◌≡◌, ◌≢◌, ℕ, ◌^◌, ◌+◌, ◌<◌, ◌≤◌, false, List, [], ◌∷◌, ◌++◌, length, drop, Option, Some, None, Ok, refl, sym, ap, ◌∙◌, arith}
use Rattle.std.{specs.Prelude.{slice_get, IfNone, IfSome}, proofs.lemmas.List.map-append, proofs.lemmas.Grind.common_steps}
use Rattle.history_model.specs.{declared.entries.Author.Author, declared.entries.Entry.Entry, declared.entries.Placed.Placed, Entries.entries_of}
use Rattle.history_model.specs.declared.entries.Author.TheVariants as author
use Rattle.request_model.specs.declared.{requests.Request.Request, replies.Reply.Reply}
use Rattle.reply_text.specs.Replies.{text_of}
use Rattle.track_model.specs.{Counts.is_segment, Outcomes.Outcome, Replies.reply_of, Tracks.{ComesTo, IsStep, Track, with_added}}
use Rattle.play_model.specs.{Laws.RepliesNameEntries, Replies.{Adds, Tells, stands_alone}}
use Rattle.reply_laws.specs.Laws.{OneAdds, OneBeside, OneTells, PlainBeside, RepliesAreNamed}
use Rattle.journal_walk.specs.Walks.{Walked, GoesOn, IsAlong, added, coming}
use Rattle.audit_model.proofs.Exchanges.{at_end}
use Rattle.play_audit.{specs.Places.IsBehind, specs.Replies.{HasNone, IsCompared, IsNext}, specs.Texts.{BeginsWith, HasEntry}, proofs.Compared.compared_front}
use Rattle.play_audit.proofs.Answering.{none_added, one_added, plain_tells, plain_adds, tells_same, adds_same, tells_next, tells_no_text, adds_next, adds_no_text}

-- a walk is behind its own entries
pub here_behind : (w : Walked) → IsAlong w → IsBehind w.track.machine w.history (length w.track.history) w
here_behind w along = grind (arith, common_steps)

same-walk : (w v : Walked) → v.history ≡ w.history → v.track ≡ w.track → v ≡ w
same-walk w v one two = grind (arith, common_steps)

none-with : (a : Author) (t : Track) (o : Option Entry) → o ≡ None → with_added a t o ≡ t
none-with a t o is = grind (arith, common_steps)

one-with : (a : Author) (t : Track) (o : Option Entry) (e : Entry) → o ≡ Some e → (with_added a t o).history ≡ t.history ++ record { author = a; entry = e } ∷ []
one-with a t o e is = grind (arith, common_steps)

machine-with : (a : Author) (t : Track) (o : Option Entry) → (with_added a t o).machine ≡ t.machine
machine-with a t o = grind (arith, common_steps)

step-told : (w : Walked) (o : Outcome) (r : Reply) → r ≡ reply_of (added w) o → o.adds ≡ None → r.step ≡ length w.track.history
step-told w o r told none = grind (arith, common_steps)

pub step_added : (w : Walked) (o : Outcome) (r : Reply) (e : Entry) → r ≡ reply_of (added w) o → o.adds ≡ Some e → r.step ≡ length w.track.history + 1
step_added w o r e told adds = grind (arith, common_steps)

pub entry_of : (p : Placed) (a : Author) (e : Entry) → Some p ≡ Some (record { author = a; entry = e }) → p.entry ≡ e
entry_of p a e is = grind (arith, common_steps)

-- the request came to this behind the walk
module _ (names : RepliesAreNamed) (numbers : RepliesNameEntries) (alone : PlainBeside) (beside : OneBeside) (w v : Walked) (q : Request) (text : List ℕ) (o : Outcome) (r : Reply)
    (along : IsAlong w) (few : length w.history < 2 ^ 64) (plain : is_segment q ≡ false) (shared : stands_alone q ≡ false) (comes : ComesTo (added w) 0 q o)
    (step : IsStep w.track author.Kept o v.track r) where
  here : IsBehind w.track.machine w.history (length w.track.history) w
  here = here_behind w along

  -- nothing was added
  module _ (once : OneTells) (still : length v.track.history ≡ length w.track.history) where
    none-of : o.adds ≡ None
    none-of = none_added author.Kept w.track o.adds (sym (ap (λ (t : Track). length t.history) step.track) ∙ still)

    pub still_there : v.history ≡ w.history → v ≡ w
    still_there same = same-walk w v same (step.track ∙ none-with author.Kept w.track o.adds none-of)

    tells-it : (known : ℕ) → known ≤ length w.track.history → Tells w.history known q r
    tells-it known since = plain_tells w.track.machine w.history known (length w.track.history) q w o r here since along.within plain comes step.told alone shared none-of

    told_next : (len : ℕ) → BeginsWith text r len → (known : ℕ) → known ≤ length w.track.history → IsNext (Tells w.history known q) text (length w.track.history) len
    told_next len begins known since =
        tells_next w.history known q text few names numbers once plain r len (length w.track.history) (tells-it known since) (step-told w o r step.told none-of) begins

    told_none : ((rest : List ℕ) → text ≢ text_of r ++ rest) → (known : ℕ) → known ≤ length w.track.history → HasNone (Tells w.history known q) text (length w.track.history)
    told_none none known since =
        tells_no_text w.history known q text few once plain r (length w.track.history) (tells-it known since) (step-told w o r step.told none-of) none

    pub told_front : {E : Type 0} (front : List ℕ) → front ≡ text_of r → (found : Option ℕ) → IfSome found (λ len. (len ≡ length front) × (text ≡ front ++ drop len text))
        → IfNone found ((rest : List ℕ) → text ≢ front ++ rest) → (known : ℕ) → known ≤ length w.track.history → IsCompared {E = E} (Tells w.history known q) text (length w.track.history) (Ok found)
    told_front front is found f other known since =
        compared_front (Tells w.history known q) text (length w.track.history) r (λ len begins. told_next len begins known since) (λ none. told_none none known since) front is found f other

    pub still_front : v.history ≡ w.history → (found : Option ℕ) → IfSome found (λ len. v ≡ w)
    still_front same (Some len) = still_there same
    still_front same None = tt

  -- something was
  pub told_other : length v.track.history ≢ length w.track.history → (known : ℕ) → known ≤ length w.track.history
      → HasNone (Tells w.history known q) text (length w.track.history)
  told_other other known since s rest tells its is =
      let none : o.adds ≡ None =
      tells_same w.track.machine w.history known (length w.track.history) q w o r here since along.within plain comes step.told beside alone shared s tells its in
      other (ap (λ (t : Track). length t.history) (step.track ∙ none-with author.Kept w.track o.adds none))

  -- the journal's next entry
  module _ (once : OneAdds) (p : Placed) (next : coming w ≡ Some p) where
    its-entry : (known : ℕ) → known ≤ length w.track.history → (s : Reply) → Adds p.author w.history known q s → s.step ≡ length w.track.history + 1 → o.adds ≡ Some p.entry
    its-entry known since s adds its =
        let same = adds_same w.track.machine w.history known (length w.track.history) q w o r here since along.within plain comes step.told beside alone shared p.author s adds its in
        let entries : p.entry ≡ same.0 = entry_of p p.author same.0 (sym next ∙ same.2) in
        same.1 ∙ ap Some (sym entries)

    -- it was another
    pub added_not : (HasEntry v (length w.track.history) p.entry → ⊥) → (known : ℕ) → known ≤ length w.track.history
        → HasNone (Adds p.author w.history known q) text (length w.track.history + 1)
    added_not other known since s rest adds its is =
        let grown : v.track.history ≡ w.track.history ++ record { author = author.Kept; entry = p.entry } ∷ [] =
        ap (λ (t : Track). t.history) step.track ∙ one-with author.Kept w.track o.adds p.entry (its-entry known since s adds its) in
        other (record {
          placed = record { author = author.Kept; entry = p.entry };
          there = ap (λ (l : List Placed). slice_get l (length w.track.history)) grown ∙ at_end w.track.history (record { author = author.Kept; entry = p.entry });
          same = refl;
        })

    -- it was this entry
    module _ (x : Placed) (there : slice_get v.track.history (length w.track.history) ≡ Some x) (same : x.entry ≡ p.entry) where
      adds-entry : o.adds ≡ Some p.entry
      adds-entry = one_added author.Kept w.track o.adds x (ap (λ (t : Track). slice_get t.history (length w.track.history)) (sym step.track) ∙ there) ∙ ap Some same

      adds-it : (known : ℕ) → known ≤ length w.track.history → Adds p.author w.history known q r
      adds-it known since =
          plain_adds w.track.machine w.history known (length w.track.history) q w o r here since along.within plain comes step.told alone shared p.author p.entry adds-entry next

      added_next : (len : ℕ) → BeginsWith text r len → (known : ℕ) → known ≤ length w.track.history
          → IsNext (Adds p.author w.history known q) text (length w.track.history + 1) len
      added_next len begins known since =
          adds_next w.history known q text few names numbers once p.author r len (length w.track.history + 1) (adds-it known since) (step_added w o r p.entry step.told adds-entry) begins

      added_no_text : ((rest : List ℕ) → text ≢ text_of r ++ rest) → (known : ℕ) → known ≤ length w.track.history
          → HasNone (Adds p.author w.history known q) text (length w.track.history + 1)
      added_no_text none known since =
          adds_no_text w.history known q text few once p.author r (length w.track.history + 1) (adds-it known since) (step_added w o r p.entry step.told adds-entry) none

      pub added_goes : v.history ≡ w.history → GoesOn w v
      added_goes same-history = record {
        same = same-history;
        machine = ap (λ (t : Track). t.machine) step.track ∙ machine-with author.Kept w.track o.adds;
        entry = p;
        next = next;
        grown = ap (λ (t : Track). entries_of t.history) step.track
            ∙ ap entries_of (one-with author.Kept w.track o.adds p.entry adds-entry)
            ∙ map-append (λ (y : Placed). y.entry) w.track.history (record { author = author.Kept; entry = p.entry } ∷ []);
      }

      pub added_front : {E : Type 0} (front : List ℕ) → front ≡ text_of r → (found : Option ℕ) → IfSome found (λ len. (len ≡ length front) × (text ≡ front ++ drop len text))
          → IfNone found ((rest : List ℕ) → text ≢ front ++ rest) → (known : ℕ) → known ≤ length w.track.history
          → IsCompared {E = E} (Adds p.author w.history known q) text (length w.track.history + 1) (Ok found)
      added_front front is found f other known since =
          compared_front (Adds p.author w.history known q) text (length w.track.history + 1) r (λ len begins. added_next len begins known since) (λ none. added_no_text none known since) front is found f other

      pub goes_front : v.history ≡ w.history → (found : Option ℕ) → IfSome found (λ len. GoesOn w v)
      goes_front same-history (Some len) = added_goes same-history
      goes_front same-history None = tt
