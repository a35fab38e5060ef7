-- Requests one after another on the history of the one machine: what holds before some of them leads to what holds after
-- them, and none of them is refused.
use Rattle.std.proofs.Common.{◌≡◌, ◌≢◌, ℕ, zero, suc, ◌<◌, Bool, true, false, cond, List, [], ◌∷◌, ◌++◌, refl, sym, ap, ◌∙◌, subst, arith, append_assoc, append-nil, Option, Some, None, Ok}
use Rattle.std.specs.FinSet as set
use Rattle.std.{specs.Prelude.{bytes_eq, find, nat_eq, option_to_list}, specs.List.AllByRecursion, proofs.lemmas.List.map-append}
use Rattle.history_model.{specs.declared.entries.Author.Author, specs.declared.entries.Entry.Entry, specs.Entries.entries_of, proofs.Chosen.entries-push}
use Rattle.request_model.specs.{declared.requests.Request.Request, declared.replies.Refusal.Refusal, declared.replies.Reply.Reply, Requests.machine_of}
use Rattle.request_model.specs.declared.requests.Request.TheVariants as request
use Rattle.request_model.specs.declared.replies.Answer.TheVariants as answer
use Rattle.track_model.specs.{Outcomes.Outcome, Replies.reply_of}
use Rattle.history_model.specs.Runs.{Series}
use Rattle.request_model.specs.declared.replies.Answer.{Answer}
use Rattle.track_model.specs.Tracks.{Track, new_track, with_added, with_answered, with_home, with_segmented, with_taken, base_of, base_asked, ComesTo}
use Rattle.request_words.specs.Bodies.{Item}
use Rattle.script_session.specs.Sessions.{Answered, State, Answers, AnswersAbout, AnswersFor, is_track, stepped}
use Rattle.script_loop.specs.Folds.{AreAnswers}
use Rattle.trial_script.{specs.Requests.{machine, asked_in_turn}, specs.Accepted.IsAccepted, proofs.Turns.oks}

-- the session has the one machine alone, with this history
pub record On (s : State) (h : List Entry) : Type 0 where
  pub sole : Track
  pub tracks : s.tracks ≡ sole ∷ []
  pub named : sole.machine ≡ machine
  pub entries : entries_of sole.history ≡ h

-- the replies refuse nothing, and this holds of the history after them
pub record Passed (Q : List Entry → Type 0) (replies : List Reply) (after : State) : Type 0 where
  pub accepted : AllByRecursion IsAccepted replies
  pub last : List Entry
  pub on : On after last
  pub holds : Q last

abbrev pub Passes : (List Entry → Type 0) → List Request → (List Entry → Type 0) → Type 0
Passes P qs Q = (before after : State) (h : List Entry) (replies : List Reply) → On before h → P h → AreAnswers AnswersFor before
    (oks qs) replies after → Passed Q replies after

-- ---- one request

-- what a request comes to isn't refused, and its entry leads to this
pub record Good (Q : List Entry → Type 0) (h : List Entry) (o : Outcome) : Type 0 where
  pub accepted : (reason : Refusal) → o.answer ≢ answer.Refused reason
  pub holds : Q (h ++ option_to_list o.adds)

-- a machine with an entry more, if there is one
record Grown (t now : Track) (adds : Option Entry) : Type 0 where
  named : now.machine ≡ t.machine
  entries : entries_of now.history ≡ entries_of t.history ++ option_to_list adds

added : (author : Author) (t : Track) (adds : Option Entry) → Grown t (with_added author t adds) adds
added author t None = record { named = refl; entries = sym (append-nil (entries_of t.history)) }
added author t (Some e) = record { named = refl; entries = entries-push t.history (record { author = author; entry = e }) }

taken : (t : Track) (s : Series) → Grown t (with_taken s t) None
taken t s = by (nat_eq (base_of t s) 0)
  where
    by : (b : Bool) → Grown t (cond b t (with_home (set.remove t.home s) t)) None
    by true = record { named = refl; entries = sym (append-nil (entries_of t.history)) }
    by false = record { named = refl; entries = sym (append-nil (entries_of t.history)) }

segmented : (author : Author) (t : Track) (s : Series) (told : Answer) (adds : Option Entry) → Grown t (with_segmented author s t (record { answer = told; adds = adds })) adds
segmented author t s told None = taken t s
segmented author t s told (Some e) = record { named = refl; entries = entries-push t.history (record { author = author; entry = e }) }

grown : (author : Author) (q : Request) (t : Track) (o : Outcome) → Grown t (with_answered author q t o) o.adds
grown author (request.Machine m) t o = added author t o.adds
grown author (request.Commit m number name) t o = added author t o.adds
grown author (request.Submit m commit run samples ignored stated) t o = added author t o.adds
grown author (request.Retract m run) t o = added author t o.adds
grown author (request.Tune m metric penalty given) t o = added author t o.adds
grown author (request.Calibrate m test metric factor) t o = added author t o.adds
grown author (request.Segment m test metric) t o = segmented author t (record { test = test; metric = metric }) o.answer o.adds
grown author (request.Changes m test metric) t o = added author t o.adds
grown author (request.Verify m test metric) t o = added author t o.adds
grown author (request.Regress m test metric change) t o = added author t o.adds
grown author (request.SetState m number state) t o = added author t o.adds
grown author (request.Bisect m lo hi) t o = added author t o.adds
grown author (request.Answer m number commit status) t o = added author t o.adds
grown author (request.Resume m number) t o = added author t o.adds
grown author (request.Job m number) t o = added author t o.adds
grown author (request.Runs m) t o = added author t o.adds
grown author (request.Report m json) t o = added author t o.adds

is_there : (t : Track) → t.machine ≡ machine → is_track machine t ≡ true
is_there t named = ap (λ (name : List ℕ). bytes_eq name machine) named

-- the answer of the one machine
about_one : (author : Author) (t : Track) (tracks : List Track) (q : Request) (a : Answered) → machine_of q ≡ machine → t.machine ≡ machine
    → tracks ≡ t ∷ [] → Answers author tracks q a
    → (o : Outcome) × ComesTo (entries_of t.history) (base_asked t q) q o × (a ≡ stepped author tracks q t o)
about_one author t tracks q a same named is answers =
    let found : find (is_track (machine_of q)) tracks ≡ Some t = rw (same, is, is_there t named) refl in
    subst (λ found. AnswersAbout found author tracks q a) found answers

left_track : (author : Author) (t : Track) (tracks : List Track) (q : Request) (o : Outcome) → machine_of q ≡ machine → t.machine ≡ machine → tracks ≡ t ∷ []
    → (stepped author tracks q t o).tracks ≡ with_answered author q t o ∷ []
left_track author t tracks q o same named is = rw (same, is, is_there t named) refl

pub one : {P Q : List Entry → Type 0} (q : Request) → machine_of q ≡ machine
    → ((h : List Entry) (base : ℕ) (o : Outcome) → P h → ComesTo h base q o → Good Q h o)
    → Passes P (q ∷ []) Q
one {Q = Q} q same good before after h replies on holds answers =
    let about = about_one before.author on.sole before.tracks q (record { reply = answers.3.0; tracks = answers.1.tracks }) same on.named on.tracks answers.3.1.1 in
    let o : Outcome = about.0 in
    let is = good h (base_asked on.sole q) o holds (subst (λ (hs : List Entry). ComesTo hs (base_asked on.sole q) q o) on.entries about.1) in
    let told : answers.3.0 ≡ reply_of (entries_of on.sole.history) o = ap (λ (a : Answered). a.reply) about.2 in
    let more = grown before.author q on.sole o in
    let left : answers.1.tracks ≡ with_answered before.author q on.sole o ∷ [] =
    ap (λ (a : Answered). a.tracks) about.2 ∙ left_track before.author on.sole before.tracks q o same on.named on.tracks in
    let all : replies ≡ answers.3.0 ∷ [] = answers.4 ∙ rw (answers.3.2, answers.5.0) refl in
    let accepted : IsAccepted answers.3.0 = λ reason refused. is.accepted reason (sym (ap (λ (r : Reply). r.answer) told) ∙ refused) in
    record {
      accepted = subst (AllByRecursion IsAccepted) (sym all) (accepted, tt);
      last = h ++ option_to_list o.adds;
      on = record {
        sole = with_answered before.author q on.sole o;
        tracks = ap (λ (s : State). s.tracks) answers.5.1 ∙ left;
        named = more.named ∙ on.named;
        entries = more.entries ∙ ap (λ (hs : List Entry). hs ++ option_to_list o.adds) on.entries;
      };
      holds = is.holds;
    }

-- ---- requests behind one another

record Parted (before : State) (items more : List Item) (replies : List Reply) (after : State) : Type 0 where
  first : List Reply
  rest : List Reply
  between : State
  front : AreAnswers AnswersFor before items first between
  back : AreAnswers AnswersFor between more rest after
  joined : replies ≡ first ++ rest

parted : (before : State) (items more : List Item) (replies : List Reply) (after : State) → AreAnswers AnswersFor before (items ++ more) replies after
    → Parted before items more replies after
parted before [] more replies after told = record { first = []; rest = replies; between = before; front = (refl, refl); back = told; joined = refl }
parted before (item ∷ items) more replies after told =
    let later = parted told.1 items more told.2 after told.5 in
    record {
      first = option_to_list told.0 ++ later.first;
      rest = later.rest;
      between = later.between;
      front = (told.0, told.1, later.first, told.3, refl, later.front);
      back = later.back;
      joined = told.4 ∙ ap (λ rs. option_to_list told.0 ++ rs) later.joined ∙ sym (append_assoc (option_to_list told.0) later.first later.rest);
    }

all_joined : (rs more : List Reply) → AllByRecursion IsAccepted rs → AllByRecursion IsAccepted more → AllByRecursion IsAccepted (rs ++ more)
all_joined [] more all others = others
all_joined (r ∷ rs) more all others = (all.0, all_joined rs more all.1 others)

-- the same of requests
parted_requests : (before : State) (qs others : List Request) (replies : List Reply) (after : State) → AreAnswers AnswersFor before (oks (qs ++ others)) replies after
    → Parted before (oks qs) (oks others) replies after
parted_requests before qs others replies after answers =
    parted before (oks qs) (oks others) replies after (subst (λ items. AreAnswers AnswersFor before items replies after) (map-append (λ q. Ok q) qs others) answers)

-- what the first ones came to, and then the others
passed_on : {Q R : List Entry → Type 0} {before after : State} {items more : List Item} {replies : List Reply} (apart : Parted before items more replies after)
    → Passed R apart.first apart.between → Passed Q apart.rest after → Passed Q replies after
passed_on apart first second = record {
  accepted = subst (AllByRecursion IsAccepted) (sym apart.joined) (all_joined apart.first apart.rest first.accepted second.accepted);
  last = second.last;
  on = second.on;
  holds = second.holds;
}

pub behind : {P Q R : List Entry → Type 0} (qs others : List Request) → Passes P qs R → Passes R others Q → Passes P (qs ++ others) Q
behind {Q = Q} {R = R} qs others one two before after h replies on holds answers =
    let apart = parted_requests before qs others replies after answers in
    let first = one before apart.between h apart.first on holds apart.front in
    passed_on {Q = Q} {R = R} apart first (two apart.between after first.last apart.rest first.on first.holds apart.back)

-- the same from a session without machines
abbrev pub Begins : List Request → (List Entry → Type 0) → Type 0
Begins qs Q = (before after : State) (replies : List Reply) → before.tracks ≡ [] → AreAnswers AnswersFor before (oks qs) replies after → Passed Q replies after

pub begun_then : {Q R : List Entry → Type 0} (qs others : List Request) → Begins qs R → Passes R others Q → Begins (qs ++ others) Q
begun_then {Q = Q} {R = R} qs others one two before after replies none answers =
    let apart = parted_requests before qs others replies after answers in
    let first = one before apart.between apart.first none apart.front in
    passed_on {Q = Q} {R = R} apart first (two apart.between after first.last apart.rest first.on first.holds apart.back)

pub nothing : {P Q : List Entry → Type 0} → ((h : List Entry) → P h → Q h) → Passes P [] Q
nothing {Q = Q} leads before after h replies on holds answers =
    record {
      accepted = subst (AllByRecursion IsAccepted) (sym answers.0) tt;
      last = h;
      on = subst (λ s. On s h) (sym answers.1) on;
      holds = leads h holds;
    }

pub in_turn : (P : ℕ → List Entry → Type 0) (asked : ℕ → List Request) (n : ℕ) → ((i : ℕ) → i < n → Passes (P i) (asked i) (P (suc i)))
    → Passes (P 0) (asked_in_turn asked n) (P n)
unfolding asked_in_turn
in_turn P asked zero each = nothing (λ h holds. holds)
in_turn P asked (suc n) each = behind (asked_in_turn asked n) (asked n) (in_turn P asked n (λ i less. each i (omega (arith, less)))) (each n (omega arith))

-- ---- the first request, which declares the machine
pub declared : {Q : List Entry → Type 0} → Q [] → Begins (request.Machine machine ∷ []) Q
declared holds before after replies none answers =
    let a : Answered = record { reply = answers.3.0; tracks = answers.1.tracks } in
    let is : Answers before.author [] (request.Machine machine) a = subst
    (λ (ts : List Track). Answers before.author ts (request.Machine machine) a) none answers.3.1.1 in
    let told : answers.3.0.answer ≡ answer.Machine machine = ap (λ (b : Answered). b.reply.answer) is in
    let all : replies ≡ answers.3.0 ∷ [] = answers.4 ∙ rw (answers.3.2, answers.5.0) refl in
    let accepted : IsAccepted answers.3.0 = λ reason refused. let no : answer.Machine machine ≡ answer.Refused reason = sym told ∙ refused in cc in
    record {
      accepted = subst (AllByRecursion IsAccepted) (sym all) (accepted, tt);
      last = [];
      on = record {
        sole = new_track machine false;
        tracks = ap (λ (s : State). s.tracks) answers.5.1 ∙ ap (λ (b : Answered). b.tracks) is;
        named = refl;
        entries = refl;
      };
      holds = holds;
    }
