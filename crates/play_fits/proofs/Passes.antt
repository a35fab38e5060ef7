-- Private: no public contract cites this. The answers to a script's items are its part in what its pass has seen.
use Rattle.std.proofs.Common.{◌≡◌, ◌≤◌, ◌<◌, ◌+◌, ℕ, zero, suc, Bool, true, false, List, [], ◌∷◌, ◌++◌, length, map, refl, sym, ap, subst, ◌∙◌, Some, arith}
use Rattle.std.{specs.Prelude.{filter, take, slice_get, if◌then◌else◌, Ok, Err}, proofs.lemmas.Grind.common_steps}
use Rattle.std.proofs.lemmas.{List.{append-nil, append_assoc, length-map, map-append}, Option.slice_get_within}
use Rattle.history_lock.specs.{Marks.{entries, marked}, declared.view.Marked.Marked}
use Rattle.history_model.specs.declared.entries.{Author.Author, Placed.Placed}
use Rattle.request_model.specs.{declared.requests.Request.Request, declared.replies.Reply.Reply, Requests.machine_of}
use Rattle.request_words.specs.Bodies.{Item}
use Rattle.play_model.{specs.Replies.{IsReplyOn, IsReplyWhere, Adds}, proofs.Replies.{replies-stay, replies-earlier, replies-name, adds-stay, adds-earlier}}
use Rattle.play_fits.specs.Scripts.{Exchange, is_about, names_history, last_from, known_after, IsAnswer, AreAnswered, IsAdded}
use Rattle.play_fits.specs.Passes.{Waits, Sight, journal_of, count_of, IsMadeBy, SeesMore, AsksItem, AsksAll, IsSeenPart}
use Rattle.play_fits.proofs.Lists.{same-bytes, both, first-alone, stays-before}

-- ---- what is seen

same-sight : (s : Sight) → SeesMore s s
same-sight s = record { marks = λ m. refl; more = λ m. []; seen = λ m. sym (append-nil (s.seen m)) }

more-sight : (one two three : Sight) → SeesMore one two → SeesMore two three → SeesMore one three
more-sight one two three a b = record {
  marks = λ m. b.marks m ∙ a.marks m;
  more = λ m. a.more m ++ b.more m;
  seen = λ m. b.seen m ∙ ap (λ (l : List (Marked Placed)). l ++ b.more m) (a.seen m) ∙ append_assoc (one.seen m) (a.more m) (b.more m);
}

counted : (s : Sight) (m : List ℕ) → length (journal_of s m) ≡ count_of s m
counted s m = length-map (s.seen m) (λ (x : Marked Placed). x.entry)

journal-grows : (one other : Sight) (s : SeesMore one other) (m : List ℕ) → journal_of other m ≡ journal_of one m ++ entries (s.more m)
journal-grows one other s m = ap (λ (l : List (Marked Placed)). entries l) (s.seen m) ∙ map-append (λ (x : Marked Placed). x.entry) (one.seen m) (s.more m)

count-grows : (one other : Sight) → SeesMore one other → (m : List ℕ) → count_of one m ≤ count_of other m
count-grows one other s m = grind (arith, common_steps)

-- ---- replies on what is seen later, from fewer entries on

reply-later : (named : Bool) (author : Author) (one other : Sight) → SeesMore one other → (known fewer : List ℕ → ℕ) → ((m : List ℕ) → fewer m ≤ known m) → (q : Request) (reply : Reply)
    → IsReplyWhere named author (journal_of one) known q reply → IsReplyWhere named author (journal_of other) fewer q reply
reply-later true author one other s known fewer le q reply is =
    let m : List ℕ = machine_of q in
    subst (λ (j : List Placed). IsReplyOn author j (fewer m) q reply) (sym (journal-grows one other s m))
    (replies-stay author (journal_of one m) (entries (s.more m)) (fewer m) q reply
    (replies-earlier author (journal_of one m) (known m) (fewer m) q reply (le m) is))
reply-later false author one other s known fewer le q reply is = is

pub answer-later : (author : Author) (machines : List (List ℕ)) (one other : Sight) → SeesMore one other → (known fewer : List ℕ → ℕ) → ((m : List ℕ) → fewer m ≤ known m) → (item : Item) (reply : Reply)
    → IsAnswer author machines (journal_of one) known item reply → IsAnswer author machines (journal_of other) fewer item reply
answer-later author machines one other s known fewer le item reply is = grind (arith, common_steps, reply-later)

pub adds-later : (author : Author) (one other : Sight) → SeesMore one other → (m : List ℕ) (known fewer : ℕ) → fewer ≤ known → (q : Request) (reply : Reply)
    → Adds author (journal_of one m) known q reply → Adds author (journal_of other m) fewer q reply
adds-later author one other s m known fewer le q reply a = grind (arith, common_steps, journal-grows, adds-stay, adds-earlier)

-- ---- what is known

-- the first of some exchanges, and then the others
by-test : (b : Bool) (kept : ℕ) (x : Exchange) (xs : List Exchange)
    → last_from kept (map (λ (y : Exchange). y.reply.step) (if b then x ∷ xs else xs))
    ≡ last_from (last_from kept (map (λ (y : Exchange). y.reply.step) (if b then x ∷ [] else []))) (map (λ (y : Exchange). y.reply.step) xs)
by-test b kept x xs = grind (arith, common_steps)

known-on : (kept : ℕ) (m : List ℕ) (x : Exchange) (xs : List Exchange) → known_after kept m (x ∷ xs) ≡ known_after (known_after kept m (x ∷ [])) m xs
known-on kept m x xs = by-test (is_about m x) kept x (filter (is_about m) xs)

-- a reply names no more than is seen of the machine behind it
step-where : (named : Bool) (author : Author) (s : Sight) (known : List ℕ → ℕ) (q : Request) (reply : Reply) → IsReplyWhere named author (journal_of s) known q reply → reply.step ≤ count_of s (machine_of q)
step-where named author s known q reply is = grind (arith, common_steps, length, replies-name, counted)

known-item : (author : Author) (machines : List (List ℕ)) (before between : Sight) (m : List ℕ) (item : Item) (reply : Reply) → AsksItem author machines before item reply between
    → names_history m item ≡ true → reply.step ≤ count_of between m
known-item author machines before between m item reply a about = grind (arith, common_steps, same-bytes, first-alone, both, step-where)

sees-item : (author : Author) (machines : List (List ℕ)) (before between : Sight) (item : Item) (reply : Reply) → AsksItem author machines before item reply between → SeesMore before between
sees-item author machines before between item reply a = grind (arith, common_steps, same-sight)

known-within : (b : Bool) (kept step seen : ℕ) (x : Exchange) → kept ≤ seen → (b ≡ true → x.reply.step ≤ seen)
    → last_from kept (map (λ (y : Exchange). y.reply.step) (if b then x ∷ [] else [])) ≤ seen
known-within b kept step seen x le here = grind (arith, common_steps)

-- ---- the answer to one item

answer-item : (author : Author) (machines : List (List ℕ)) (before between : Sight) (item : Item) (reply : Reply) → AsksItem author machines before item reply between
    → IsAnswer author machines (journal_of between) (count_of before) item reply
answer-item author machines before between item reply a = grind (arith, common_steps)

-- ---- the entries that it adds

made-item : (author : Author) (machines : List (List ℕ)) (before between after : Sight) (kept : ℕ) (x : Exchange) (xs : List Exchange) (item : Item) → x.item ≡ item
    → AsksItem author machines before item x.reply between → SeesMore between after
    → (m : List ℕ) (place : ℕ) (p : Placed) → kept ≤ count_of before m → count_of before m ≤ place → IsMadeBy between m place p
    → IsAdded author m (journal_of after m) kept (x ∷ xs) place
made-item author machines before between after kept x xs (Ok q) is a later m place p le from made =
    let adds : (machine_of q ≡ m) × Adds author (journal_of between m) (count_of before m) q x.reply × (x.reply.step ≡ place + 1) = a.made m place p from made in
    record {
      before = 0;
      exchange = x;
      here = refl;
      request = q;
      asked = is;
      about = adds.0;
      adds = adds-later author between after later m (count_of before m) kept le q x.reply adds.1;
      its_step = adds.2;
    }
made-item author machines before between after kept x xs (Err reason) is a later m place p le from made =
    let made_before : slice_get (before.seen m) place ≡ Some (marked p (Some (before.mark m))) = grind (arith, common_steps) in
    let within : place < count_of before m = slice_get_within (before.seen m) place (marked p (Some (before.mark m))) made_before in
    absurd (omega (arith, within, from))

-- ---- all items

-- what a pass made among the entries that were seen between is there
made-between : (between after : Sight) (s : SeesMore between after) (m : List ℕ) (place : ℕ) (p : Placed) → place < count_of between m → IsMadeBy after m place p → IsMadeBy between m place p
made-between between after s m place p within made = grind (arith, common_steps, stays-before)

pub by-order : {P : Type 0} (a b : ℕ) → (a < b → P) → (b ≤ a → P) → P
by-order a b before behind = grind (arith, common_steps)

-- what the later exchanges added
added-behind : (author : Author) (m : List ℕ) (j : List Placed) (kept : ℕ) (x : Exchange) (xs : List Exchange) (place : ℕ)
    → IsAdded author m j (known_after kept m (x ∷ [])) xs place → IsAdded author m j kept (x ∷ xs) place
added-behind author m j kept x xs place a = record {
  before = suc a.before;
  exchange = a.exchange;
  here = a.here;
  request = a.request;
  asked = a.asked;
  about = a.about;
  adds = subst (λ (k : ℕ). Adds author j k a.request a.exchange.reply) (sym (known-on kept m x (take a.before xs))) a.adds;
  its_step = a.its_step;
}

answered-first : (author : Author) (machines : List (List ℕ)) (kept : List ℕ → ℕ) (before between after : Sight) (x : Exchange) (xs : List Exchange) → ((m : List ℕ) → kept m ≤ count_of before m)
    → AsksItem author machines before x.item x.reply between → SeesMore between after → AreAnswered author machines (journal_of after) (λ m. known_after (kept m) m (x ∷ [])) xs
    → AreAnswered author machines (journal_of after) kept (x ∷ xs)
answered-first author machines kept before between after x xs le item later rest zero y is =
    let same : x ≡ y = cc in
    subst (λ (z : Exchange). IsAnswer author machines (journal_of after) kept z.item z.reply) same
    (answer-later author machines between after later (count_of before) kept le x.item x.reply (answer-item author machines before between x.item x.reply item))
answered-first author machines kept before between after x xs le item later rest (suc n) y is =
    let known : List ℕ → ℕ = λ m. known_after (known_after (kept m) m (x ∷ [])) m (take n xs) in
    let fewer : List ℕ → ℕ = λ m. known_after (kept m) m (x ∷ take n xs) in
    answer-later author machines after after (same-sight after) known fewer
    (λ m. let same : fewer m ≡ known m = known-on (kept m) m x (take n xs) in omega (arith, same)) y.item y.reply (rest n y is)

-- a part from what was known on
record PartFrom (author : Author) (machines : List (List ℕ)) (kept : List ℕ → ℕ) (before : Sight) (xs : List Exchange) (after : Sight) : Type 0 where
  sees : SeesMore before after
  answered : AreAnswered author machines (journal_of after) kept xs
  made : (m : List ℕ) (place : ℕ) (p : Placed) → count_of before m ≤ place → IsMadeBy after m place p → IsAdded author m (journal_of after m) (kept m) xs place

part-from : (author : Author) (machines : List (List ℕ)) (kept : List ℕ → ℕ) (before : Sight) (xs : List Exchange) (after : Sight) → ((m : List ℕ) → kept m ≤ count_of before m)
    → AsksAll author machines before xs after → PartFrom author machines kept before xs after
part-from author machines kept before [] after le all = grind (arith, common_steps, same-sight, slice_get_within)
part-from author machines kept before (x ∷ xs) after le all =
    let between : Sight = all.0 in
    let item : AsksItem author machines before x.item x.reply between = all.1 in
    let sees : SeesMore before between = sees-item author machines before between x.item x.reply item in
    let next : List ℕ → ℕ = λ m. known_after (kept m) m (x ∷ []) in
    let within : (m : List ℕ) → next m ≤ count_of between m = λ m.
    known-within (is_about m x) (kept m) x.reply.step (count_of between m) x (omega (arith, le m, count-grows before between sees m))
    (known-item author machines before between m x.item x.reply item) in
    let rest : PartFrom author machines next between xs after = part-from author machines next between xs after within all.2 in
    record {
      sees = more-sight before between after sees rest.sees;
      answered = answered-first author machines kept before between after x xs le item rest.sees rest.answered;
      made = λ m place p from made.
          by-order place (count_of between m)
          (λ within_it. made-item author machines before between after (kept m) x xs x.item refl item rest.sees m place p (le m) from (made-between between after rest.sees m place p within_it made))
          (λ behind. added-behind author m (journal_of after m) (kept m) x xs place (rest.made m place p behind made));
    }

pub answers-are-part : (author : Author) (machines : List (List ℕ)) (before after : Sight) (xs : List Exchange) → AsksAll author machines before xs after → IsSeenPart author machines before xs after
answers-are-part author machines before after xs all =
    let part : PartFrom author machines (count_of before) before xs after = part-from author machines (count_of before) before xs after (λ m. omega arith) all in
    record { sees = part.sees; answered = part.answered; made = part.made }

-- ---- a call that found no memory behind them
added-later : (author : Author) (one other : Sight) → SeesMore one other → (m : List ℕ) (kept : ℕ) (xs : List Exchange) (place : ℕ)
    → IsAdded author m (journal_of one m) kept xs place → IsAdded author m (journal_of other m) kept xs place
added-later author one other s m kept xs place a = record {
  before = a.before;
  exchange = a.exchange;
  here = a.here;
  request = a.request;
  asked = a.asked;
  about = a.about;
  adds = adds-later author one other s m (known_after kept m (take a.before xs)) (known_after kept m (take a.before xs)) (omega arith) a.request a.exchange.reply a.adds;
  its_step = a.its_step;
}

pub parts-wait : (author : Author) (machines : List (List ℕ)) (before after left : Sight) (xs : List Exchange) → IsSeenPart author machines before xs after → Waits after left → IsSeenPart author machines before xs left
parts-wait author machines before after left xs part waits = record {
  sees = more-sight before after left part.sees waits.sees;
  answered = λ n x is.
      let known : List ℕ → ℕ = λ m. known_after (count_of before m) m (take n xs) in
      answer-later author machines after left waits.sees known known (λ m. omega arith) x.item x.reply (part.answered n x is);
  made = λ m place p from made.
      by-order place (count_of after m)
      (λ within. added-later author after left waits.sees m (count_of before m) xs place (part.made m place p from (made-between after left waits.sees m place p within made)))
      (λ behind. absurd (waits.nothing m place p behind made));
}
