-- Private: no public contract cites this. Items that name no machine's history.
use Rattle.std.proofs.Common.{◌≡◌, ◌≢◌, inl, ℕ, zero, suc, Bool, true, false, List, [], ◌∷◌, ◌++◌, Option, Result, Ok, Err, Some, None, sym, ap, ◌∙◌, arith}
use Rattle.std.{specs.Prelude.{slice_get, if◌then◌else◌, IfOk, IfSome, IfNone}, specs.List.AllByRecursion, proofs.lemmas.Grind.common_steps}
use Rattle.request_words.specs.Bodies.{Item}
use Rattle.request_model.specs.{declared.replies.Reply.Reply, declared.replies.Refusal.Refusal, declared.requests.Request.Request, Requests.machine_of}
use Rattle.request_model.specs.declared.requests.Request.TheVariants as request
use Rattle.reply_text.specs.Replies.{text_of}
use Rattle.track_model.specs.{Tracks.Track, Outcomes.refuses, Replies.apart}
use Rattle.request_model.specs.declared.replies.Refusal.TheVariants as refusal
use Rattle.journal_reader.specs.Journals.{Journal, IsOther}
use Rattle.play_model.specs.Replies.{is_of_history, stands_alone, why_apart}
use Rattle.play_fits.{specs.Journals.machines_of, specs.Scripts.{Exchange, names_history}, proofs.Lists.mapped-back}
use Rattle.audit_model.{specs.Heard.kept_count, specs.Hearing.{Gives, HearsNone}, specs.Verdicts.track_of, proofs.Exchanges.known_else}
use Rattle.audit_model.proofs.Machines.{undeclared}
use Rattle.play_audit.specs.{Texts.BeginsWith, Known.{AreKnown, tracks_of}, Marks.{AreRows, IsAddedBy}, Heard.{exchange, HearsItem}, declared.place.Place.Place}
use Rattle.play_audit.proofs.Knowing.{none_other}

-- the item has this reply alone, which tells of no machine
pub record IsApart (js : List Journal) (i : ℕ) (item : Item) (reply : Reply) : Type 0 where
  pub gives : (xs : List Exchange) → Gives (tracks_of js) i xs item reply
  pub only : (xs : List Exchange) (other : Reply) → Gives (tracks_of js) i xs item other → other ≡ reply
  pub quiet : (a : ℕ) (j : Journal) → slice_get js a ≡ Some j → names_history j.machine item ≡ false
  pub adds_none : (xs : List Exchange) (at place : ℕ) (t : Track) → slice_get (tracks_of js) at ≡ Some t → IsAddedBy (tracks_of js) i xs (exchange item reply) t place → ⊥

module _ (js : List Journal) (i : ℕ) (item : Item) (reply : Reply) (is : IsApart js i item reply) (transcript : List ℕ) where
  hears-apart : (len : ℕ) (places : List Place) (rows : List (List Bool)) (xs : List Exchange) → AreRows (tracks_of js) rows → BeginsWith transcript reply len → AreKnown js xs places
      → HearsItem js i xs item transcript len places rows rows
  hears-apart len places rows xs shape begins known = record {
    reply = reply;
    next = grind (arith, common_steps);
    whole = begins.whole;
    known = record {
      many = known.many;
      each = λ a j p here there.
          let k = known.each a j p here there in
          record { place = k.place; known = k.known ∙ sym (known_else (kept_count (tracks_of js) j.machine) j.machine xs (exchange item reply) (is.quiet a j here)) };
    };
    marked = record {
      rows = shape;
      kept = λ at place yes-it. yes-it;
      added = λ at place t here by. absurd (is.adds_none xs at place t here by);
      only = λ at place t here was. inl was;
    };
  }

  pub apart_some : {E : Type 0} (places : List Place) (rows : List (List Bool)) → AreRows (tracks_of js) rows → (r : Result (Option ℕ) E)
      → IfOk r (λ o. IfSome o (BeginsWith transcript reply))
      → IfOk r (λ o. IfSome o (λ len. (xs : List Exchange) → AreKnown js xs places → HearsItem js i xs item transcript len places rows rows))
  apart_some places rows shape r begins = grind (arith, common_steps, hears-apart)

  pub apart_none : {E : Type 0} (places : List Place) → (r : Result (Option ℕ) E) → IfOk r (λ o. IfNone o ((rest : List ℕ) → transcript ≢ text_of reply ++ rest))
      → IfOk r (λ o. IfNone o ((xs : List Exchange) → AreKnown js xs places → HearsNone (tracks_of js) i xs item transcript))
  apart_none places (Ok (Some len)) none = tt
  apart_none places (Ok None) none = λ xs known other more gives text. none more (text ∙ ap (λ (r : Reply). text_of r ++ more) (is.only xs other gives))
  apart_none places (Err e) none = tt

  -- the reply as it was made
  pub made_some : {E : Type 0} (places : List Place) (rows : List (List Bool)) (made : Reply) → made ≡ reply → AreRows (tracks_of js) rows → (r : Result (Option ℕ) E)
      → IfOk r (λ o. IfSome o (BeginsWith transcript made))
      → IfOk r (λ o. IfSome o (λ len. (xs : List Exchange) → AreKnown js xs places → HearsItem js i xs item transcript len places rows rows))
  made_some places rows made same shape r begins = grind (arith, common_steps, apart_some, transcript)

  pub made_none : {E : Type 0} (places : List Place) (made : Reply) → made ≡ reply → (r : Result (Option ℕ) E)
      → IfOk r (λ o. IfNone o ((rest : List ℕ) → transcript ≢ text_of made ++ rest))
      → IfOk r (λ o. IfNone o ((xs : List Exchange) → AreKnown js xs places → HearsNone (tracks_of js) i xs item transcript))
  made_none places made same r none = grind (arith, common_steps, apart_none, transcript)

-- what couldn't be read
pub refused_apart : (js : List Journal) (i : ℕ) (reason : Refusal) → IsApart js i (Err reason) (apart (refuses reason))
refused_apart js i reason = grind (arith, common_steps)

-- ---- requests of no journal

pub other_at : (m : List ℕ) (js : List Journal) (a : ℕ) (j : Journal) → AllByRecursion (IsOther m) js → slice_get js a ≡ Some j → j.machine ≡ m → ⊥
other_at m [] zero j each is same = absurd (cc)
other_at m [] (suc a) j each is same = absurd (cc)
other_at m (x ∷ js) zero j each is same = let one : x ≡ j = cc in each.0 (ap (λ (y : Journal). y.machine) one ∙ same)
other_at m (x ∷ js) (suc a) j each is same = other_at m js a j each.1 is same

-- a request that names none of them
pub nameless_apart : (js : List Journal) (i : ℕ) (q : Request) (reason : Refusal) → is_of_history (machines_of (tracks_of js)) q ≡ false
    → ((a : ℕ) (j : Journal) → slice_get js a ≡ Some j → names_history j.machine (Ok q) ≡ false) → why_apart q ≡ reason
    → ((xs : List Exchange) (at place : ℕ) (t : Track) → slice_get (tracks_of js) at ≡ Some t → IsAddedBy (tracks_of js) i xs (exchange (Ok q) (apart (refuses reason))) t place → ⊥)
    → IsApart js i (Ok q) (apart (refuses reason))
nameless_apart js i q reason past quiet why none = grind (arith, common_steps)

pub alone_apart : (js : List Journal) (i : ℕ) (q : Request) → stands_alone q ≡ true → IsApart js i (Ok q) (apart (refuses refusal.OnlyAlone))
alone_apart js i q is = grind (arith, common_steps)

pub unknown_apart : (js : List Journal) (i : ℕ) (q : Request) → stands_alone q ≡ false → AllByRecursion (IsOther (machine_of q)) js
    → IsApart js i (Ok q) (apart (refuses refusal.UnknownMachine))
unknown_apart js i q shared each =
    nameless_apart js i q refusal.UnknownMachine (undeclared (tracks_of js) q shared (none_other (machine_of q) js each))
    (λ a j here. undeclared (track_of j ∷ []) q shared (other_at (machine_of q) js a j each here, tt))
    (ap (λ (b : Bool). if b then refusal.OnlyAlone else refusal.UnknownMachine) shared)
    (λ xs at place t here by.
    let same : q ≡ by.request = cc in
    let back = mapped-back track_of js at t here in
    other_at (machine_of q) js at back.0 each back.1
    (ap (λ (x : Track). x.machine) back.2 ∙ sym by.about ∙ ap machine_of (sym same)))
