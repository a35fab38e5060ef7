-- Replies on what a pass has seen.
use Rattle.std.proofs.Common.{◌≡◌, ◌≢◌, false, ℕ, ◌+◌, ◌≤◌, inl, inr, List, [], ◌∷◌, ◌++◌, length, take, append-nil, refl, sym, ap, ◌∙◌, Option, Some, None, arith}
use Rattle.std.{specs.Prelude.slice_get, proofs.lemmas.List.{length-append, length-map, take-append-le, take-map, take_at}, proofs.lemmas.Grind.common_steps}
use Rattle.history_model.specs.{declared.entries.Author.Author, declared.entries.Entry.Entry, declared.entries.Placed.Placed, Entries.entries_of}
use Rattle.history_lock.specs.{declared.view.Marked.Marked, Marks.entries}
use Rattle.request_model.specs.{declared.requests.Request.Request, declared.replies.Reply.Reply, Requests.machine_of}
use Rattle.request_model.specs.declared.requests.Request.TheVariants as request
use Rattle.track_model.specs.{Counts.is_segment, Outcomes.Outcome, Replies.reply_of, Tracks.{Track, ComesTo, IsStep, with_added}}
use Rattle.track_state.specs.Work.{Work, bare, history_of}
use Rattle.play_model.specs.Replies.{first_of, ComesBehind, ComesToBeside, Adds, Tells}
use Rattle.track_room.{specs.Sights.{Sight, AddsOne, AddsOneAtMost, SeesMore, track_of}, specs.Asked.IsReplied, proofs.Visiting.only-sees}

-- what a request that isn't about a version comes to alone it comes to beside others
pub beside : (version : List Entry) (base : ℕ) (h : List Entry) (q : Request) (o : Outcome) → ((machine : List ℕ) → q ≢ request.Machine machine)
    → ((machine test metric : List ℕ) → q ≢ request.Segment machine test metric) → ComesTo h 0 q o → ComesToBeside version base h q o
beside version base h q o not-machine not-segment comes = grind (arith, common_steps)

-- such a request segments nothing
pub plain : (q : Request) → ((machine test metric : List ℕ) → q ≢ request.Segment machine test metric) → is_segment q ≡ false
plain q not = grind (arith, common_steps)

-- a step of a state, by what the pass has seen before and after
pub step-seen : (author : Author) (found new : Sight) (w u : Work) (o : Outcome) (reply : Reply) → bare w.track ≡ track_of found → bare u.track ≡ track_of new
    → bare u.track ≡ with_added author (bare w.track) o.adds → reply ≡ reply_of (history_of w) o → IsStep (track_of found) author o (track_of new) reply
step-seen author found new w u o reply was left grown told = grind (arith, common_steps)

pub seen-entries : (found : Sight) (w : Work) → bare w.track ≡ track_of found → history_of w ≡ entries_of (entries found.seen)
seen-entries found w was = ap (λ (t : Track). entries_of t.history) was

-- ---- first entries of a journal

module _ (f more : List Placed) where
  first-whole : first_of (length f) (f ++ more) ≡ entries_of f
  first-whole = ap entries_of (take_at f more (length f) refl)

  first-version : (version : ℕ) → version ≤ length f → first_of version (f ++ more) ≡ take version (entries_of f)
  first-version version le = ap entries_of (take-append-le version f more le) ∙ sym (take-map (λ (p : Placed). p.entry) version f)

  comes-behind : (known version base : ℕ) (q : Request) (o : Outcome) → ComesToBeside (take version (entries_of f)) base (entries_of f) q o → known ≤ version → version ≤ length f
      → ComesBehind (f ++ more) known (length f) q o
  comes-behind known version base q o comes since le =
      record {
        since = omega (arith, since, le);
        within = let long = length-append f more in omega (arith, long);
        version = version;
        made_since = since;
        made_before = le;
        base = base;
        comes = rw (first-version version le, first-whole) comes;
      }

last-is : (f : List Placed) (e : Placed) → slice_get (f ++ e ∷ []) (length f) ≡ Some e
last-is [] e = refl
last-is (x ∷ f) e = last-is f e

step-adding : (h : List Entry) (o : Outcome) (e : Entry) → o.adds ≡ Some e → (reply_of h o).step ≡ length h + 1
step-adding h o e is = rw is refl

step-telling : (h : List Entry) (o : Outcome) → o.adds ≡ None → (reply_of h o).step ≡ length h
step-telling h o is = rw is refl

pub sees-long : (old found : Sight) → SeesMore old found → length old.seen ≤ length found.seen
sees-long old found sees = grind (arith, common_steps)

module _ (author : Author) (q : Request) (reply : Reply) (old found new : Sight) (version base : ℕ) (o : Outcome) (named : old.home.machine ≡ machine_of q)
    (sees : SeesMore old found) (adds : AddsOneAtMost found new)
    (comes : ComesToBeside (take version (entries_of (entries found.seen))) base (entries_of (entries found.seen)) q o)
    (since : length old.seen ≤ version) (before : version ≤ length found.seen)
    (step : IsStep (track_of found) author o (track_of new) reply) where
  long : length (entries found.seen) ≡ length found.seen
  long = length-map found.seen (λ (x : Marked Placed). x.entry)

  entries-long : length (entries_of (entries found.seen)) ≡ length found.seen
  entries-long = length-map (entries found.seen) (λ (p : Placed). p.entry) ∙ long

  told-only : o.adds ≡ None → IsReplied author q reply old new
  told-only none =
      let same : track_of new ≡ track_of found = step.track ∙ ap (with_added author (track_of found)) none in
      let journal : entries new.seen ≡ entries found.seen ++ [] = ap (λ (t : Track). t.history) same ∙ sym (append-nil (entries found.seen)) in
      let le : version ≤ length (entries found.seen) = omega (arith, before, long) in
      let size : length new.seen ≡ length found.seen = grind (arith, common_steps) in
      let says : Tells (entries new.seen) (length old.seen) q reply = record {
        count = length (entries found.seen);
        outcome = o;
        comes = rw journal (comes-behind (entries found.seen) [] (length old.seen) version base q o comes since le);
        adds = none;
        told = step.told ∙ ap (λ (h : List Entry). reply_of h o) (sym (ap (first_of (length (entries found.seen))) journal ∙ first-whole (entries found.seen) []));
      } in
      record {
        of_machine = named;
        answered = inr (says, only-sees old found new sees adds same);
        at_step = ap (λ (r : Reply). r.step) step.told ∙ step-telling (entries_of (entries found.seen)) o none ∙ entries-long ∙ sym size;
      }

  told-adding : (e : Entry) → o.adds ≡ Some e → IsReplied author q reply old new
  told-adding e some =
      let p : Placed = record { author = author; entry = e } in
      let more : track_of new ≡ with_added author (track_of found) (Some e) = step.track ∙ ap (with_added author (track_of found)) some in
      let journal : entries new.seen ≡ entries found.seen ++ p ∷ [] = ap (λ (t : Track). t.history) more in
      let le : version ≤ length (entries found.seen) = omega (arith, before, long) in
      let size : length new.seen ≡ length found.seen + 1 = grind (arith, common_steps) in
      let says : Adds author (entries new.seen) (length old.seen) q reply = record {
        count = length (entries found.seen);
        outcome = o;
        comes = rw journal (comes-behind (entries found.seen) (p ∷ []) (length old.seen) version base q o comes since le);
        entry = e;
        adds = some;
        stands = rw journal (last-is (entries found.seen) p);
        told = step.told ∙ ap (λ (h : List Entry). reply_of h o) (sym (ap (first_of (length (entries found.seen))) journal ∙ first-whole (entries found.seen) (p ∷ [])));
      } in
      let one : AddsOne found new = grind (arith, common_steps) in
      record {
        of_machine = named;
        answered = inl (says, (found, sees, one));
        at_step = ap (λ (r : Reply). r.step) step.told ∙ step-adding (entries_of (entries found.seen)) o e some ∙ ap (λ (n : ℕ). n + 1) entries-long ∙ sym size;
      }

  pub replied : IsReplied author q reply old new
  replied = by o.adds refl
    where
      by : (a : Option Entry) → o.adds ≡ a → IsReplied author q reply old new
      by None is = told-only is
      by (Some e) is = told-adding e is
