-- Private: no public contract cites this. What the parts of passes that were joined come to in the whole histories.
use Rattle.std.proofs.Common.{◌≡◌, ◌≢◌, ◌≤◌, ◌+◌, ◌-◌, ℕ, zero, suc, List, [], ◌∷◌, ◌++◌, length, refl, sym, ap, subst, ◌∙◌, Option, Some, None, arith}
use Rattle.std.{specs.Prelude.{take, slice_get, Contains}, proofs.lemmas.List.length-map, proofs.lemmas.Grind.common_steps}
use Rattle.history_lock.specs.{Marks.{AreByOthers, IsOtherMark, entries, marked, unmarked}, declared.view.Marked.Marked}
use Rattle.history_model.specs.declared.entries.{Author.Author, Placed.Placed}
use Rattle.history_model.specs.declared.entries.Author.TheVariants as author
use Rattle.play_fits.specs.{Passes.{Sight, journal_of, count_of, IsMadeBy, SeesMore, IsSeenPart}, Scripts.{IsAnswer, Exchange, known_after, IsAdded}}
use Rattle.request_model.specs.declared.replies.Reply.{Reply}
use Rattle.request_words.specs.Bodies.{Item}
use Rattle.play_model.{specs.Replies.{Adds, is_of_history}, proofs.Replies.{replies-stay, adds-stay}}
use Rattle.play_fits.specs.{Workers.{Crew, MayAdd}, Whole.{longer, Joined, GoesOn, IsMadeByOne, AreAll, journals_of, count_in, FitsIn, AreByCrew}}
use Rattle.play_fits.proofs.{Lists.{stays-before, stands-behind, behind-stands, mapped-back, all-places}, Passes.{answer-later, adds-later, by-order}}

-- ---- marks

pub other-at : (marks : List ℕ) (xs : List (Marked Placed)) (n : ℕ) (x : Marked Placed) → AreByOthers marks xs → slice_get xs n ≡ Some x → IsOtherMark marks x.by
other-at marks [] n x others is = cc
other-at marks (y ∷ xs) zero x others is = let same : y ≡ x = cc in subst (λ (z : Marked Placed). IsOtherMark marks z.by) same others.0
other-at marks (y ∷ xs) (suc n) x others is = other-at marks xs n x others.1 is

own-mark : (mark : ℕ) (by : Option ℕ) → by ≡ Some mark → IsOtherMark (mark ∷ []) by → ⊥
own-mark mark by is other = (subst (IsOtherMark (mark ∷ [])) is other).0 refl

-- ---- an entry that a pass made is one that it has seen

pub is-seen : (crew : Crew) (log : List ℕ → List (Marked Placed)) (v : Joined) → GoesOn crew log v → (m : List ℕ) (place : ℕ) (x : Marked Placed)
    → slice_get (log m) place ≡ Some x → x.by ≡ Some (v.sight.mark m) → IsMadeBy v.sight m place x.entry
is-seen crew log v goes m place x is by = grind (arith, common_steps, slice_get, by-order, stays-before, own-mark, other-at, stands-behind)

-- ---- an entry of an author of this session was made by the author's pass

made-by : (crew : Crew) (kept : List ℕ → List Placed) (log : List ℕ → List (Marked Placed)) (parts : List Joined) (w : Joined) → AreAll crew kept log parts → Contains parts w → w.author ≢ author.Kept
    → (m : List ℕ) (place : ℕ) (p : Placed) → p.author ≡ w.author → slice_get (journals_of log m) place ≡ Some p
    → (count_in kept m ≤ place) × IsMadeBy w.sight m place p
made-by crew kept log parts w all one new m place p of is =
    let back : (x : Marked Placed) × (slice_get (log m) place ≡ Some x) × (x.entry ≡ p) = mapped-back (λ (x : Marked Placed). x.entry) (log m) place p is in
    let x : Marked Placed = back.0 in
    let both : slice_get (unmarked (kept m) ++ all.rest m) place ≡ Some x = ap (λ (l : List (Marked Placed)). slice_get l place) (sym (all.begins m)) ∙ back.1 in
    let len : length (unmarked (kept m)) ≡ count_in kept m = length-map (kept m) (λ (e : Placed). marked e None) in
    by-order place (length (unmarked (kept m)))
    (λ within.
    let there : slice_get (unmarked (kept m)) place ≡ Some x = sym (stays-before (unmarked (kept m)) (all.rest m) place within) ∙ both in
    let old : (e : Placed) × (slice_get (kept m) place ≡ Some e) × (marked e None ≡ x) = mapped-back (λ (e : Placed). marked e None) (kept m) place x there in
    let entry : old.0 ≡ p = ap (λ (y : Marked Placed). y.entry) old.2 ∙ back.2 in
    absurd (new (sym of ∙ ap (λ (e : Placed). e.author) (sym entry) ∙ all.kept_are m place old.0 old.1)))
    (λ behind.
    let made : IsMadeByOne parts m x = all.made m (place - length (unmarked (kept m))) x (stands-behind (unmarked (kept m)) (all.rest m) place x behind both) in
    let v : Joined = made.joined in
    let goes : GoesOn crew log v = all.each v made.one in
    let seen : IsMadeBy v.sight m place x.entry = is-seen crew log v goes m place x back.1 made.mark in
    let same : v ≡ w = all.apart v w made.one one (sym (goes.made m place x.entry seen).0 ∙ ap (λ (e : Placed). e.author) back.2 ∙ of) in
    (omega (arith, behind, len), subst (λ (u : Joined). IsMadeBy u.sight m place p) same (subst (λ (e : Placed). IsMadeBy v.sight m place e) back.2 seen)))

-- ---- a script's part

-- the pass of a script, where it sees the whole histories
abbrev whole : (log : List ℕ → List (Marked Placed)) → Joined → Sight
whole log w = record { seen = log; mark = w.sight.mark }

sees-whole : (crew : Crew) (log : List ℕ → List (Marked Placed)) (w : Joined) → GoesOn crew log w → SeesMore w.sight (whole log w)
sees-whole crew log w goes = record { marks = λ m. refl; more = goes.rest; seen = goes.seen }

-- what a request added is so in another journal too, if the request adds it there
added-in : (author : Author) (m : List ℕ) (j k : List Placed) (had has : ℕ) (xs : List Exchange) (place : ℕ) (a : IsAdded author m j had xs place)
    → Adds author k (known_after has m (take a.before xs)) a.request a.exchange.reply → IsAdded author m k has xs place
added-in author m j k had has xs place a adds = grind (arith, common_steps)

pub seen-parts-fit : (crew : Crew) (machines : List (List ℕ)) (kept : List ℕ → List Placed) (log : List ℕ → List (Marked Placed)) (parts : List Joined) (w : Joined) (before : Sight) (xs : List Exchange)
    → AreAll crew kept log parts → Contains parts w → w.author ≢ author.Kept → ((m : List ℕ) → count_of before m ≡ count_in kept m) → IsSeenPart w.author machines before xs w.sight
    → FitsIn w.author machines (journals_of log) (count_in kept) xs
seen-parts-fit crew machines kept log parts w before xs all one new counts part =
    let sees : SeesMore w.sight (whole log w) = sees-whole crew log w (all.each w one) in
    record {
      answered = λ n x is.
          answer-later w.author machines w.sight (whole log w) sees (λ m. known_after (count_of before m) m (take n xs)) (λ m. known_after (count_in kept m) m (take n xs))
          (λ m. let same : known_after (count_of before m) m (take n xs) ≡ known_after (count_in kept m) m (take n xs) = ap (λ k. known_after k m (take n xs)) (counts m) in omega (arith, same))
          x.item x.reply (part.answered n x is);
      own = λ m place e declared is.
          let made : (count_in kept m ≤ place) × IsMadeBy w.sight m place (record { author = w.author; entry = e }) = made-by crew kept log parts w all one new m place (record { author = w.author; entry = e }) refl is in
          let added : IsAdded w.author m (journal_of w.sight m) (count_of before m) xs place = part.made m place (record { author = w.author; entry = e }) (omega (arith, made.0, counts m)) made.1 in
          added-in w.author m (journal_of w.sight m) (journals_of log m) (count_of before m) (count_in kept m) xs place added
          (adds-later w.author w.sight (whole log w) sees m (known_after (count_of before m) m (take added.before xs)) (known_after (count_in kept m) m (take added.before xs))
          (let same : known_after (count_of before m) m (take added.before xs) ≡ known_after (count_in kept m) m (take added.before xs) = ap (λ k. known_after k m (take added.before xs)) (counts m) in omega (arith, same))
          added.request added.exchange.reply added.adds);
    }

-- ---- authors

entries-unmarked : (es : List Placed) → entries (unmarked es) ≡ es
entries-unmarked [] = refl
entries-unmarked (e ∷ es) = ap (λ (l : List Placed). e ∷ l) (entries-unmarked es)

pub all-by-crew : (crew : Crew) (kept : List ℕ → List Placed) (log : List ℕ → List (Marked Placed)) (parts : List Joined) → AreAll crew kept log parts
    → (m : List ℕ) → AreByCrew crew (kept m) (journals_of log m)
all-by-crew crew kept log parts all m =
    let split : journals_of log m ≡ entries (unmarked (kept m)) ++ entries (all.rest m) = grind (arith, common_steps) in
    record {
      added = entries (all.rest m);
      goes_on = split ∙ ap (λ (l : List Placed). l ++ entries (all.rest m)) (entries-unmarked (kept m));
      may_add = all-places (MayAdd crew) (entries (all.rest m)) (λ n p is.
          let back : (x : Marked Placed) × (slice_get (all.rest m) n ≡ Some x) × (x.entry ≡ p) = mapped-back (λ (x : Marked Placed). x.entry) (all.rest m) n p is in
          let made : IsMadeByOne parts m back.0 = all.made m n back.0 back.1 in
          let place : ℕ = length (unmarked (kept m)) + n in
          let there : slice_get (log m) place ≡ Some back.0 = ap (λ (l : List (Marked Placed)). slice_get l place) (all.begins m) ∙ behind-stands (unmarked (kept m)) (all.rest m) n ∙ back.1 in
          let goes : GoesOn crew log made.joined = all.each made.joined made.one in
          subst (MayAdd crew) back.2 (goes.made m place back.0.entry (is-seen crew log made.joined goes m place back.0 there made.mark)).1);
    }

-- ---- longer journals

answer-stays : (author : Author) (machines : List (List ℕ)) (journal more : List ℕ → List Placed) (known : List ℕ → ℕ) (item : Item) (reply : Reply)
    → IsAnswer author machines journal known item reply → IsAnswer author machines (longer journal more) known item reply
answer-stays author machines journal more known item reply is = grind (arith, common_steps, is_of_history, replies-stay)

pub parts-stay : (author : Author) (machines : List (List ℕ)) (journal more : List ℕ → List Placed) (kept : List ℕ → ℕ) (xs : List Exchange)
    → ((m : List ℕ) (place : ℕ) (p : Placed) → slice_get (more m) place ≡ Some p → p.author ≢ author)
    → FitsIn author machines journal kept xs → FitsIn author machines (longer journal more) kept xs
parts-stay author machines journal more kept xs others fits =
    record {
      answered = λ n x is. answer-stays author machines journal more (λ m. known_after (kept m) m (take n xs)) x.item x.reply (fits.answered n x is);
      own = λ m place e declared is.
          by-order place (length (journal m))
          (λ within.
          let added : IsAdded author m (journal m) (kept m) xs place = fits.own m place e declared (sym (stays-before (journal m) (more m) place within) ∙ is) in
          added-in author m (journal m) (longer journal more m) (kept m) (kept m) xs place added
          (adds-stay author (journal m) (more m) (known_after (kept m) m (take added.before xs)) added.request added.exchange.reply added.adds))
          (λ behind. absurd (others m (place - length (journal m)) (record { author = author; entry = e }) (stands-behind (journal m) (more m) place (record { author = author; entry = e }) behind is) refl));
    }
