-- Private: no public contract cites this. What a sink took where each reply is handed out by itself.
use Rattle.std.proofs.Common.{◌≡◌, ℕ, ◌≤◌, inl, inr, true, List, [], ◌++◌, length, take, Option, None, Some, refl, sym, ap, subst, ◌∙◌, arith, append_assoc, append-nil, length-append, Ok, Err}
use Rattle.std.specs.{Prelude.{Bool, IfSome, OnErr, Result, option_to_list}, Io.KnownBytes.append_known, List.flat_map}
use Rattle.track_outside.specs.declared.source.Source as source
use Rattle.request_reader.specs.{Scripts.AsksFirst, Next.items_of, declared.asked.Asked.Asked}
use Rattle.script_loop.specs.{declared.stop.Stop.TheVariants.NoMemory, Folds.AreAnswers, Outputs.IsOutput, Paced.{TookThrough, IsEach}}
use Rattle.std.proofs.lemmas.List.{take-append-le, take_all}
use Rattle.track_outside.specs.{declared.sink.Sink.Ghosts, Calls.{Took, FailedIn, TookFront, TookPart}}
use Rattle.request_model.specs.declared.{requests.Request.Request, replies.Reply.Reply}
use Rattle.request_words.specs.Bodies.{Item}
use Rattle.request_reader.specs.declared.asked.Asked.TheVariants as asked
use Rattle.reply_text.specs.Replies.{text_of}
use Rattle.script_loop.{specs.Turns.{Answers, Gathers, IsLost, IsPending, Splits}, proofs.Answering.{output_none, output_join}}

pub on_error : {T E P : Type 0} (r : Result T E) → P → OnErr r P
on_error (Ok done) p = tt
on_error (Err fault) p = p

-- an item at most comes of what was asked
pub one_item : (a : Asked) → length (items_of a) ≤ 1
one_item (asked.Request q) = omega arith
one_item (asked.Refused reason) = omega arith
one_item asked.End = omega arith

-- an answer that isn't gathered
pub lost-by : {S : Type 0} (does : S → Request → Option Reply → S → Type 0) (fails : S → S → Type 0) (before : S) (items : List Item) (told : Option Reply) (left : S)
    → AreAnswers does before items (option_to_list told) left → IsLost does fails before items left
lost-by does fails before items told left answers =
    inr (flat_map text_of (option_to_list told), record { replies = option_to_list told; answers = answers; told = refl })

-- ---- bytes that are known
known-append : (before : Option (List ℕ)) (part more : List ℕ) → append_known (append_known before part) more ≡ append_known before (part ++ more)
known-append None part more = refl
known-append (Some bytes) part more = ap Some (append_assoc bytes part more)

known-nil : (before : Option (List ℕ)) → append_known before [] ≡ before
known-nil None = refl
known-nil (Some bytes) = ap Some (append-nil bytes)

take-nil : (n : ℕ) → take {A = ℕ} n [] ≡ []
take-nil n = take_all n [] (omega arith)

module _ {O : Type 0} (g : Ghosts O) where
  -- ---- parts
  pub took-part : (old new : O) (bytes : List ℕ) → Took g old new bytes → TookPart g old new bytes
  took-part old new bytes took = record {
    part = (length bytes, omega arith, took.taken ∙ ap (append_known (g.taken old)) (sym (take_all (length bytes) bytes (omega arith))));
    counts = took.counts;
  }

  pub failed-part : (old new : O) (bytes : List ℕ) → FailedIn g old new bytes → TookPart g old new bytes
  failed-part old new bytes failed = record { part = failed.part; counts = failed.counts }

  pub nothing-part : (old new : O) (bytes : List ℕ) → new ≡ old → TookPart g old new bytes
  nothing-part old new bytes same = rw same (record { part = (0, omega arith, sym (known-nil (g.taken old))); counts = omega arith })

  pub part-first : (old new : O) (part more : List ℕ) → TookPart g old new part → TookPart g old new (part ++ more)
  part-first old new part more some =
      record { part = (some.part.0, omega (arith, some.part.1, length-append part more), some.part.2 ∙ ap (append_known (g.taken old)) (sym (take-append-le some.part.0 part more some.part.1))); counts = some.counts }

  -- all that is gathered was handed out
  pub took-whole : (old new : O) (text pending : List ℕ) → Gathers g old new text pending → pending ≡ [] → Took g old new text
  took-whole old new text pending told none =
      subst (Took g old new) (sym (told.parts ∙ ap (λ p. told.handed ++ p) none ∙ append-nil told.handed)) told.took

  -- the first text was taken, and then a part of the second
  pub through : (old between new : O) (front back : List ℕ) → Took g old between front → TookFront (g.taken between) (g.taken new) back → TookThrough g old new front back
  through old between new front back took some = (
    some.0,
    some.1,
    some.2 ∙ ap (λ known. append_known known (take some.0 back)) took.taken ∙ known-append (g.taken old) front (take some.0 back),
  )

  -- nothing of the second
  pub nothing-through : (old new : O) (front back : List ℕ) → Took g old new front → TookThrough g old new front back
  nothing-through old new front back took = (0, omega arith, took.taken ∙ ap (append_known (g.taken old)) (sym (append-nil front)))

  pending-through : (old between new : O) (front back pending : List ℕ) → IsPending g old between front back pending → TookPart g between new pending → TookThrough g old new front back
  pending-through old between new front back pending (inl took) some =
      through old between new front back took.1 (subst (TookFront (g.taken between) (g.taken new)) took.0 some.part)
  pending-through old between new front back pending (inr took) some =
      let none : TookFront (g.taken between) (g.taken new) [] = subst (TookFront (g.taken between) (g.taken new)) took.0 some.part in
      let same : g.taken new ≡ g.taken between = none.2 ∙ ap (append_known (g.taken between)) (take-nil none.0) ∙ known-nil (g.taken between) in
      (took.1.0, took.1.1, same ∙ took.1.2)

  module _ {S : Type 0} (does : S → Request → Option Reply → S → Type 0) where
    -- ---- at the end
    pub each-of : (old between new : O) (before : S) (items : List Item) (text : List ℕ) (after : S) (pending : List ℕ)
        → Splits g old between does before items text after pending → TookPart g between new pending → IsEach g old new does before items text after
    each-of old between new before items text after pending told some =
        record { split = told.split; took = pending-through old between new told.front told.back pending told.took some }

    -- ---- between turns
    pub splits-all : (old new : O) (before : S) (items : List Item) (text : List ℕ) (after : S) (pending : List ℕ)
        → IsOutput does before items text after → Gathers g old new text pending → pending ≡ [] → Splits g old new does before items text after pending
    splits-all old new before items text after pending output told none = record {
      split = record {
        whole = items;
        last = [];
        items_are = sym (append-nil items);
        one = omega arith;
        front = text;
        back = [];
        text_is = sym (append-nil text);
        between = after;
        first = output;
        second = output_none does after;
      };
      took = inl (none, took-whole old new text pending told none);
    }

    pub splits-last : (old new : O) (before between after : S) (items last : List Item) (text back : List ℕ) (pending : List ℕ)
        → IsOutput does before items text between → IsOutput does between last back after → length last ≤ 1 → IsPending g old new text back pending
        → Splits g old new does before (items ++ last) (text ++ back) after pending
    splits-last old new before between after items last text back pending first second one took = record {
      split = record { whole = items; last = last; items_are = refl; one = one; front = text; back = back; text_is = refl; between = between; first = first; second = second };
      took = took;
    }

module _ {O : Type 0} (g : Ghosts O) where
  -- one reply is gathered, where none was
  pub pending-of : (old new : O) (text back pending now : List ℕ) → Gathers g old new text pending → pending ≡ [] → now ≡ pending ++ back → (now ≡ back) × Took g old new text
  pending-of old new text back pending now told none is = (is ∙ ap (λ p. p ++ back) none, took-whole g old new text pending told none)

  -- and the sink failed on it
  pub pending-failed : (old between new : O) (text back pending now none_now : List ℕ) → Gathers g old between text pending → pending ≡ [] → now ≡ pending ++ back → FailedIn g between new now → none_now ≡ []
      → (none_now ≡ []) × TookThrough g old new text back
  pending-failed old between new text back pending now none_now told none is failed empty =
      let same : now ≡ back = is ∙ ap (λ p. p ++ back) none in
      (empty, through g old between new text back (took-whole g old between text pending told none) (subst (TookFront (g.taken between) (g.taken new)) same failed.part))

module _ {I O S : Type 0} (g : source.Ghosts I) (h : Ghosts O) (first now : I) (old new : O) (does : S → Request → Option Reply → S → Type 0) (fails : S → S → Type 0) (each : Bool) (before between left : S) where
  -- memory was wanting for an answer, or for gathering its reply
  pub lost-answers : (pending gathered : List ℕ) (items : List Item) (text : List ℕ) (a : Asked) → IsOutput does before items text between → Gathers h old new text pending → (each ≡ true → pending ≡ []) → gathered ≡ pending
      → IfSome (g.left first) (λ bytes. AsksFirst bytes items) → IfSome (g.left first) (λ bytes. AsksFirst bytes (items ++ items_of a)) → IsLost does fails between (items_of a) left
      → Answers g h first now old new does fails each before left gathered (Err NoMemory)
  lost-answers pending gathered items text a output told none same these more (inl failed) = rw same (record {
    items = items;
    text = text;
    read = these;
    asks = these;
    after = between;
    output = output;
    stands = inr failed;
    wrote = (text, [], sym (append-nil text), told);
    by_each = λ is. splits-all h does old new before items text between pending output told (none is);
  })
  lost-answers pending gathered items text a output told none same these more (inr lost) = rw same (record {
    items = items ++ items_of a;
    text = text ++ lost.0;
    read = more;
    asks = more;
    after = left;
    output = output_join does before between left items (items_of a) text lost.0 output lost.1;
    stands = inl refl;
    wrote = (text, lost.0, refl, told);
    by_each = λ is. splits-last h does old new before between left items (items_of a) text lost.0 pending output lost.1 (one_item a)
        (inr (none is, nothing-through h old new text lost.0 (took-whole h old new text pending told (none is))));
  })
