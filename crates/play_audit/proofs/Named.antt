-- Private: no public contract cites this. A request about one of the machines.
use Rattle.std.proofs.Common.{◌≡◌, ◌⊎◌, inl, inr, ℕ, zero, suc, ◌+◌, ◌-◌, ◌<◌, Bool, true, false, List, [], ◌∷◌, ◌++◌, length, set, get_or, Option, Result, Ok, Err, Some, None, refl, sym, ap, subst, ◌∙◌, arith}
use Rattle.std.{specs.Prelude.{slice_get, IfOk, IfSome, IfNone}, proofs.lemmas.Option.slice_get_within, proofs.lemmas.Grind.common_steps}
use Rattle.std.proofs.lemmas.List as lists
use Rattle.request_model.specs.{declared.replies.Reply.Reply, declared.requests.Request.Request, Requests.machine_of}
use Rattle.track_model.specs.Tracks.{Track}
use Rattle.history_model.specs.declared.entries.Author.TheVariants as author
use Rattle.history_model.specs.declared.entries.{Placed.Placed, Author.Author}
use Rattle.journal_reader.specs.Journals.{Journal, AreDifferent}
use Rattle.play_model.specs.Replies.{Adds, IsReplyOn, is_of_history, stands_alone}
use Rattle.play_fits.{specs.Journals.{history_in, machines_of}, specs.Scripts.{Exchange, known_after}, proofs.Lists.mapped-back}
use Rattle.audit_model.{specs.Heard.kept_count, specs.Hearing.{Gives, HearsNone}, specs.Verdicts.track_of, proofs.Exchanges.{known_about, known_else}}
use Rattle.audit_model.proofs.Machines.{declared, history_at, undeclared}
use Rattle.play_audit.specs.{Known.{AreKnown, AreSound, IsKnown, tracks_of}, Marks.{AreRows, IsAddedBy, MarksOne, mark_at}, Heard.{exchange, HearsItem}}
use Rattle.play_audit.{specs.Places.IsPlace, specs.Replies.{IsHeardNext, IsUnheard}, specs.declared.place.Place.Place, proofs.Knowing.tracks_other}
use Rattle.play_audit.proofs.{Listed.{same_at, track_at}, Apart.other_at}

-- ---- places of different machines

pub same_place : (ks : List Journal) → AreDifferent ks → (a b : ℕ) (j k : Journal) → slice_get ks a ≡ Some j → slice_get ks b ≡ Some k → j.machine ≡ k.machine → a ≡ b
same_place [] d zero b j k one two same = absurd (cc)
same_place [] d (suc a) b j k one two same = absurd (cc)
same_place (x ∷ ks) d zero zero j k one two same = refl
same_place (x ∷ ks) d zero (suc b) j k one two same = let is : x ≡ j = cc in absurd (other_at x.machine ks b k d.0 two (sym same ∙ ap (λ (y : Journal). y.machine) (sym is)))
same_place (x ∷ ks) d (suc a) zero j k one two same = let is : x ≡ k = cc in absurd (other_at x.machine ks a j d.0 one (same ∙ ap (λ (y : Journal). y.machine) (sym is)))
same_place (x ∷ ks) d (suc a) (suc b) j k one two same = ap suc (same_place ks d.1 a b j k one two same)

-- ---- lists with one changed

pub set_there : {A : Type 0} (xs : List A) (a : ℕ) (x y : A) → slice_get (set xs a x) a ≡ Some y → y ≡ x
set_there [] zero x y is = absurd (cc)
set_there [] (suc a) x y is = absurd (cc)
set_there (z ∷ xs) zero x y is = cc
set_there (z ∷ xs) (suc a) x y is = set_there xs a x y is

pub set_else : {A : Type 0} (xs : List A) (a b : ℕ) (x y : A) → (b ≡ a → ⊥) → slice_get (set xs a x) b ≡ Some y → slice_get xs b ≡ Some y
set_else [] zero b x y other is = is
set_else [] (suc a) b x y other is = is
set_else (z ∷ xs) zero zero x y other is = absurd (other refl)
set_else (z ∷ xs) zero (suc b) x y other is = is
set_else (z ∷ xs) (suc a) zero x y other is = is
set_else (z ∷ xs) (suc a) (suc b) x y other is = set_else xs a b x y (λ same. other (ap suc same)) is

pub same-or : (a b : ℕ) → (a ≡ b) ⊎ (a ≡ b → ⊥)
same-or zero zero = inl refl
same-or zero (suc b) = inr (λ same. absurd (omega (arith, same)))
same-or (suc a) zero = inr (λ same. absurd (omega (arith, same)))
same-or (suc a) (suc b) = grind (arith, common_steps, same-or a b)

-- ---- marks with one row changed

module _ (rows : List (List Bool)) (a : ℕ) (row : List Bool) (within : a < length rows) where
  pub mark_there : (place : ℕ) → mark_at (set rows a row) a place ≡ get_or row place false
  mark_there place = ap (λ (r : List Bool). get_or r place false) (lists.get_or-set_same rows a row [] within)

  pub mark_else : (at place : ℕ) → (at ≡ a → ⊥) → mark_at (set rows a row) at place ≡ mark_at rows at place
  mark_else at place other = ap (λ (r : List Bool). get_or r place false) (lists.get_or-set_other rows a at row [] other)

-- what an entry that was added says of the reply
pub added_step : (j : List Placed) (a : Author) (known : ℕ) (q : Request) (reply : Reply) → (adds : Adds a j known q reply) → reply.step ≡ adds.count + 1
added_step j a known q reply adds = grind (arith, common_steps)

-- ---- one request

module _ (js : List Journal) (sound : AreSound js) (i : ℕ) (q : Request) (transcript : List ℕ) (a : ℕ) (j : Journal)
    (here : slice_get js a ≡ Some j) (about : j.machine ≡ machine_of q) (shared : stands_alone q ≡ false) where
  its-history : history_in (tracks_of js) (machine_of q) ≡ j.history
  its-history = ap (history_in (tracks_of js)) (sym about) ∙ history_at (tracks_of js) a (track_of j) (tracks_other js sound.different) (track_at js a j here)

  named : is_of_history (machines_of (tracks_of js)) q ≡ true
  named = declared (tracks_of js) a (track_of j) q shared (track_at js a j here) about

  pub gives_so : (xs : List Exchange) (known : ℕ) (reply : Reply) → known ≡ known_after (kept_count (tracks_of js) (machine_of q)) (machine_of q) xs
      → IsReplyOn (author.Script i) j.history known q reply → Gives (tracks_of js) i xs (Ok q) reply
  gives_so xs known reply same on = grind (arith, common_steps, i, history_in, js, q, known_after, kept_count, its-history, named)

  pub given_so : (xs : List Exchange) (known : ℕ) (reply : Reply) → known ≡ known_after (kept_count (tracks_of js) (machine_of q)) (machine_of q) xs
      → Gives (tracks_of js) i xs (Ok q) reply → IsReplyOn (author.Script i) j.history known q reply
  given_so xs known reply same gives = grind (arith, common_steps, i, history_in, js, q, known_after, kept_count, named, its-history)

  -- what is known behind it
  known-so : (xs : List Exchange) (reply : Reply) (places : List Place) (p p' : Place) → AreKnown js xs places → slice_get places a ≡ Some p → IsPlace (machine_of q) j.history p'
      → reply.step ≡ p'.known → AreKnown js (xs ++ exchange (Ok q) reply ∷ []) (set places a p')
  known-so xs reply places p p' known at place step = record {
    many = lists.length-set places a p' ∙ known.many;
    each = λ b k r one two. elim (same-or b a) [
      | inl same ↦
          let journal : k ≡ j = same_at js a k j (subst (λ (n : ℕ). slice_get js n ≡ Some k) same one) here in
          let way : r ≡ p' = set_there places a p' r (subst (λ (n : ℕ). slice_get (set places a p') n ≡ Some r) same two) in
          let x : Exchange = exchange (Ok q) reply in
          let is : IsKnown js (xs ++ x ∷ []) j p' = record {
            place = subst (λ (m : List ℕ). IsPlace m j.history p') (sym about) place;
            known = sym step ∙ sym (known_about (kept_count (tracks_of js) j.machine) j.machine xs x (declared (track_of j ∷ []) 0 (track_of j) q shared refl about));
          } in
          subst (λ (y : Journal). IsKnown js (xs ++ x ∷ []) y r) (sym journal) (subst (IsKnown js (xs ++ x ∷ []) j) (sym way) is)
      | inr other ↦
          let before : IsKnown js xs k r = known.each b k r one (set_else places a b p' r other two) in
          record {
            place = before.place;
            known = before.known ∙ sym (known_else (kept_count (tracks_of js) k.machine) k.machine xs (exchange (Ok q) reply)
                (undeclared (track_of k ∷ []) q shared ((λ same. other (same_place js sound.different b a k j one here (same ∙ sym about))), tt)));
          }
    ];
  }

  -- and what is marked
  module _ (xs : List Exchange) (known : ℕ) (reply : Reply) (rows : List (List Bool)) (row : List Bool) (shape : AreRows (tracks_of js) rows)
      (same : known ≡ known_after (kept_count (tracks_of js) (machine_of q)) (machine_of q) xs) where
    within : a < length rows
    within = omega (arith, shape.many, slice_get_within (tracks_of js) a (track_of j) (track_at js a j here))

    -- the entry that such a request added is the reply's
    its-adds : (at place : ℕ) (t : Track) → slice_get (tracks_of js) at ≡ Some t → IsAddedBy (tracks_of js) i xs (exchange (Ok q) reply) t place
        → (at ≡ a) × Adds (author.Script i) j.history known q reply
    its-adds at place t there by =
        let back = mapped-back track_of js at t there in
        let both : Ok q ≡ Ok by.request = by.asked in
        let request : q ≡ by.request = cc in
        let name : t.machine ≡ machine_of q = sym by.about ∙ ap machine_of (sym request) in
        let name-back : back.0.machine ≡ t.machine = ap (λ (y : Track). y.machine) back.2 in
        let spot : at ≡ a = same_place js sound.different at a back.0 j back.1 here (name-back ∙ name ∙ sym about) in
        let one : Adds (author.Script i) (history_in (tracks_of js) t.machine) (known_after (kept_count (tracks_of js) t.machine) t.machine xs) q reply =
        subst (λ (r : Request). Adds (author.Script i) (history_in (tracks_of js) t.machine) (known_after (kept_count (tracks_of js) t.machine) t.machine xs) r reply) (sym request) by.adds in
        let two : Adds (author.Script i) (history_in (tracks_of js) (machine_of q)) (known_after (kept_count (tracks_of js) (machine_of q)) (machine_of q) xs) q reply =
        subst (λ (m : List ℕ). Adds (author.Script i) (history_in (tracks_of js) m) (known_after (kept_count (tracks_of js) m) m xs) q reply) name one in (
          spot,
          subst (λ (h : List Placed). Adds (author.Script i) h known q reply) its-history
              (subst (λ (k : ℕ). Adds (author.Script i) (history_in (tracks_of js) (machine_of q)) k q reply) (sym same) two),
        )

    added-by : (place : ℕ) (t : Track) → slice_get (tracks_of js) a ≡ Some t → Adds (author.Script i) j.history known q reply → reply.step ≡ place + 1
        → IsAddedBy (tracks_of js) i xs (exchange (Ok q) reply) t place
    added-by place t there adds step =
        let track : t ≡ track_of j = same_at (tracks_of js) a t (track_of j) there (track_at js a j here) in
        let name : t.machine ≡ machine_of q = ap (λ (y : Track). y.machine) track ∙ about in
        record {
          request = q;
          asked = refl;
          about = sym name;
          adds = subst (λ (m : List ℕ). Adds (author.Script i) (history_in (tracks_of js) m) (known_after (kept_count (tracks_of js) m) m xs) q reply) (sym name)
              (subst (λ (k : ℕ). Adds (author.Script i) (history_in (tracks_of js) (machine_of q)) k q reply) same
              (subst (λ (h : List Placed). Adds (author.Script i) h known q reply) (sym its-history) adds));
          its_step = step;
        }

    rows-so : (row' : List Bool) → length row' ≡ length (get_or rows a []) → AreRows (tracks_of js) (set rows a row')
    rows-so row' size = record {
      many = lists.length-set rows a row' ∙ shape.many;
      each = λ at t there. elim (same-or at a) [
        | inl spot ↦
            ap (λ (n : ℕ). length (get_or (set rows a row') n [])) spot ∙ ap length (lists.get_or-set_same rows a row' [] within) ∙ size
            ∙ shape.each a t (subst (λ (n : ℕ). slice_get (tracks_of js) n ≡ Some t) spot there)
        | inr other ↦ ap length (lists.get_or-set_other rows a at row' [] other) ∙ shape.each at t there
      ];
    }

    pub marks_none : row ≡ get_or rows a [] → (Adds (author.Script i) j.history known q reply → ⊥) → MarksOne (tracks_of js) i xs (exchange (Ok q) reply) rows (set rows a row)
    marks_none is none =
        let still : (at place : ℕ) → mark_at (set rows a row) at place ≡ mark_at rows at place = λ at place. elim (same-or at a) [
          | inl spot ↦
              ap (λ (n : ℕ). mark_at (set rows a row) n place) spot ∙ mark_there rows a row within place ∙ ap (λ (r : List Bool). get_or r place false) is
              ∙ ap (λ (n : ℕ). mark_at rows n place) (sym spot)
          | inr other ↦ mark_else rows a row within at place other
        ] in
        record {
          rows = rows-so row (ap length is);
          kept = λ at place was. still at place ∙ was;
          added = λ at place t there by. absurd (none (its-adds at place t there by).1);
          only = λ at place t there now. inl (sym (still at place) ∙ now);
        }

    pub marks_set : (old : List Bool) → old ≡ get_or rows a [] → row ≡ set old (reply.step - 1) true → Adds (author.Script i) j.history known q reply
        → MarksOne (tracks_of js) i xs (exchange (Ok q) reply) rows (set rows a row)
    marks_set old was is adds =
        let step : reply.step ≡ adds.count + 1 = added_step j.history (author.Script i) known q reply adds in
        let spot-is : reply.step - 1 ≡ adds.count = omega (arith, step) in
        let size : length old ≡ length j.history = ap length was ∙ shape.each a (track_of j) (track_at js a j here) in
        let below : adds.count < length old = omega (arith, size, slice_get_within j.history adds.count (record { author = author.Script i; entry = adds.entry }) adds.stands) in
        let made : row ≡ set old adds.count true = is ∙ ap (λ (n : ℕ). set old n true) spot-is in
        let marked : get_or row adds.count false ≡ true = ap (λ (r : List Bool). get_or r adds.count false) made ∙ lists.get_or-set_same old adds.count true false below in
        let others : (place : ℕ) → (place ≡ adds.count → ⊥) → get_or row place false ≡ mark_at rows a place =
        λ place other. ap (λ (r : List Bool). get_or r place false) made ∙ lists.get_or-set_other old adds.count place true false other ∙ ap (λ (r : List Bool). get_or r place false) was in
        record {
          rows = rows-so row (ap length made ∙ lists.length-set old adds.count true ∙ ap length was);
          kept = λ at place before. elim (same-or at a) [
            | inl spot ↦ ap (λ (n : ℕ). mark_at (set rows a row) n place) spot ∙ mark_there rows a row within place ∙ elim (same-or place adds.count) [
              | inl there ↦ ap (λ (n : ℕ). get_or row n false) there ∙ marked
              | inr other ↦ others place other ∙ ap (λ (n : ℕ). mark_at rows n place) (sym spot) ∙ before
            ]
            | inr other ↦ mark_else rows a row within at place other ∙ before
          ];
          added = λ at place t there by.
              let spot = (its-adds at place t there by).0 in
              let place-is : place ≡ adds.count = omega (arith, step, by.its_step) in
              ap (λ (n : ℕ). mark_at (set rows a row) n place) spot ∙ mark_there rows a row within place ∙ ap (λ (n : ℕ). get_or row n false) place-is ∙ marked;
          only = λ at place t there now. elim (same-or at a) [
            | inl spot ↦ elim (same-or place adds.count) [
              | inl place-is ↦ inr (added-by place t (subst (λ (n : ℕ). slice_get (tracks_of js) n ≡ Some t) spot there) adds (step ∙ ap (λ (n : ℕ). n + 1) (sym place-is)))
              | inr other ↦ inl (ap (λ (n : ℕ). mark_at rows n place) spot ∙ sym (others place other) ∙ sym (mark_there rows a row within place)
                  ∙ ap (λ (n : ℕ). mark_at (set rows a row) n place) (sym spot) ∙ now)
            ]
            | inr other ↦ inl (sym (mark_else rows a row within at place other) ∙ now)
          ];
        }

  pub hears_named : (len : ℕ) (places : List Place) (p p' : Place) (rows : List (List Bool)) (old row : List Bool) (xs : List Exchange) → AreKnown js xs places → slice_get places a ≡ Some p
      → AreRows (tracks_of js) rows → old ≡ get_or rows a [] → IsPlace (machine_of q) j.history p' → IsHeardNext (author.Script i) j.history p.known p'.known q transcript len old row
      → HearsItem js i xs (Ok q) transcript len (set places a p') rows (set rows a row)
  hears_named len places p p' rows old row xs known at shape was place heard =
      let reply : Reply = heard.next.reply in
      let same : p.known ≡ known_after (kept_count (tracks_of js) (machine_of q)) (machine_of q) xs =
      subst (λ (m : List ℕ). p.known ≡ known_after (kept_count (tracks_of js) m) m xs) about (known.each a j p here at).known in
      record {
        reply = reply;
        next = record {
          gives = gives_so xs p.known reply same heard.next.fits;
          text = heard.next.begins.text;
          only = λ other more gives text. heard.next.only other more (given_so xs p.known other same gives) text;
        };
        whole = heard.next.begins.whole;
        known = known-so xs reply places p p' known at place heard.next.its_step;
        marked = elim heard.marked [
          | inl adds ↦ marks_set xs p.known reply rows row shape same old was adds.1 adds.0
          | inr none ↦ marks_none xs p.known reply rows row shape same (none.1 ∙ was) none.0
        ];
      }

  pub hears_nothing : (places : List Place) (p : Place) (xs : List Exchange) → AreKnown js xs places → slice_get places a ≡ Some p
      → IsUnheard (author.Script i) j.history p.known q transcript → HearsNone (tracks_of js) i xs (Ok q) transcript
  hears_nothing places p xs known at none reply more gives text =
      let same : p.known ≡ known_after (kept_count (tracks_of js) (machine_of q)) (machine_of q) xs = grind (arith, common_steps) in
      none reply more (given_so xs p.known reply same gives) text

  pub named_some : {E : Type 0} (places : List Place) (p p' : Place) (rows : List (List Bool)) (old row : List Bool) → slice_get places a ≡ Some p → AreRows (tracks_of js) rows
      → old ≡ get_or rows a [] → (r : Result (Option ℕ) E) → IfOk r (λ o. IfSome o (λ len. IsPlace (machine_of q) j.history p'))
      → IfOk r (λ o. IfSome o (λ len. IsHeardNext (author.Script i) j.history p.known p'.known q transcript len old row))
      → IfOk r (λ o. IfSome o (λ len. (xs : List Exchange) → AreKnown js xs places → HearsItem js i xs (Ok q) transcript len (set places a p') rows (set rows a row)))
  named_some places p p' rows old row x6 shape was r place heard = grind (arith, common_steps, hears_named, place)

  pub named_none : {E : Type 0} (places : List Place) (p : Place) → slice_get places a ≡ Some p → (r : Result (Option ℕ) E)
      → IfOk r (λ o. IfNone o (IsUnheard (author.Script i) j.history p.known q transcript))
      → IfOk r (λ o. IfNone o ((xs : List Exchange) → AreKnown js xs places → HearsNone (tracks_of js) i xs (Ok q) transcript))
  named_none places p at (Ok (Some len)) none = tt
  named_none places p at (Ok None) none = λ xs known. hears_nothing places p xs known at none
  named_none places p at (Err e) none = tt
