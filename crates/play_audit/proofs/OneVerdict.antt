-- Private: no public contract cites this. Files have one verdict.
use Rattle.std.proofs.Common.{◌≡◌, ◌⊎◌, inl, inr, ℕ, zero, suc, ◌^◌, ◌+◌, ◌-◌, ◌<◌, ◌≤◌, Bool, true, false, List, [], ◌∷◌, ◌++◌, length, map, take, drop, Some, Ok, Err, refl, sym, ap, subst, ◌∙◌, arith, append_assoc, append-nil}
use Rattle.std.{specs.Prelude.{slice_get, bytes_eq, if◌then◌else◌, ◌||◌, Contains}, specs.List.AllByRecursion, proofs.lemmas.Grind.common_steps}
use Rattle.std.proofs.lemmas.{Bool.{cases_Bool, cases_order}, List.{take-append-drop, take_all, take-take}}
use Rattle.history_model.specs.{declared.entries.Author.Author, declared.entries.Entry.Entry, declared.entries.Placed.Placed, Laws.CutsGrow, Runs.Series}
use Rattle.history_model.specs.declared.entries.Author.TheVariants as author
use Rattle.request_model.specs.{declared.requests.Request.Request, declared.replies.Refusal.Refusal, declared.replies.Reply.Reply, Requests.machine_of}
use Rattle.request_model.specs.declared.requests.Request.TheVariants as request
use Rattle.request_words.specs.Bodies.{Item}
use Rattle.request_reader.specs.{Reading.OneReading as OneScript, Scripts.{IsScript, cut_off, end}}
use Rattle.reply_text.specs.Replies.{text_of}
use Rattle.track_model.specs.{Counts.is_segment, Outcomes.refuses, Replies.reply_of, Tracks.Track}
use Rattle.play_model.{specs.Laws.RepliesNameEntries, specs.Replies.{Adds, IsReplyOn, IsReplyWhere, Tells, first_of, is_of_history}, proofs.Replies.told-step}
use Rattle.play_fits.specs.{Journals.{history_in, machines_of}, Scripts.{Exchange, IsAdded, items_of, known_after, replies_text}}
use Rattle.reply_laws.specs.{Kinds.{Names, adds_none, asks_only}, Laws.{KindsAreTold, OneAdds, OneTells, RepliesAreNamed}}
use Rattle.journal_lines.{specs.Authors.{Crew, IsOneOf, MayAdd}, proofs.Lacking.behind_same}
use Rattle.journal_reader.specs.{Journals.{Journal, IsJournal, WasKept, crew_with}, Laws.{NoneRefused, OneReading, OneRefusal}}
use Rattle.journal_reader.proofs.{Lists.{all_at, map_take, some_at}, Unique.fits}
use Rattle.audit_model.specs.{Heard.{AreGiven, AreHeard, BeginsWell, IsRefusedAt, IsTold, IsUnasked, IsUnaskedAt, kept_count}, Hearing.Gives}
use Rattle.audit_model.specs.{Verdicts.{AreOf, AreShown, Asks, AskTogether, IsRefusedRequest, IsUnaskedLine, IsVerdict, track_of}, declared.heard.Heard.Heard}
use Rattle.audit_model.{specs.declared.verdict.Verdict.Verdict, proofs.Exchanges.{given_front, given_last}, proofs.Machines.{AreOthers, history_at}}
use Rattle.audit_model.specs.declared.verdict.Verdict.TheVariants as verdict
use Rattle.play_fits.proofs.Lists.{mapped-back}
use Rattle.play_audit.{specs.Known.tracks_of, specs.Laws.{OneCutOff, OneVerdict}, specs.Segments.IsReason, proofs.Answering.{same_steps, told_names}}
use Rattle.play_audit.proofs.{Fronts.names_more, Knowing.tracks_other, Listed.same_at, Reasons.{one_reason, tells_reason}, Scripts.one_script}
use Rattle.play_audit.proofs.Telling.{kind_of_adds, kind_of_tells}

-- what one verdict stands on
pub record Laws : Type 0 where
  pub kinds : KindsAreTold
  pub named : RepliesAreNamed
  pub names : RepliesNameEntries
  pub adds : OneAdds
  pub tells : OneTells
  pub cuts : CutsGrow
  pub scripts : OneScript
  pub texts : OneReading
  pub refusal : OneRefusal
  pub none : NoneRefused

-- ---- one reply in front of a text

record IsSegment (q : Request) : Type 0 where
  machine : List ℕ
  test : List ℕ
  metric : List ℕ
  is : q ≡ request.Segment machine test metric

segment-is : (q : Request) → is_segment q ≡ true → IsSegment q
segment-is q seg = grind (arith, common_steps)

module _ (laws : Laws) (author : Author) (j : List Placed) (known : ℕ) (text : List ℕ) (fits64 : length j < 2 ^ 64) where
  same-step : (q : Request) (a b : Reply) (rest more : List ℕ) → IsReplyOn author j known q a → IsReplyOn author j known q b → text ≡ text_of a ++ rest → text ≡ text_of b ++ more → a.step ≡ b.step
  same-step q a b rest more one two is its =
      let x = laws.names author j known q a one in
      let y = laws.names author j known q b two in
      same_steps laws.named text a b rest more (omega (arith, x.within, fits64)) (omega (arith, y.within, fits64)) is its

  -- not both of the one that adds an entry and of one that adds none
  no-both : (q : Request) (a b : Reply) (rest more : List ℕ) → Adds author j known q a → Tells j known q b → text ≡ text_of a ++ rest → text ≡ text_of b ++ more → ⊥
  no-both q a b rest more one two is its =
      let x = laws.names author j known q a (inl one) in
      let y = laws.names author j known q b (inr two) in
      let own = laws.named b in
      let front : Names text b.step own.letter = subst (λ (l : List ℕ). Names l b.step own.letter) (sym its) (names_more (text_of b) more b.step own.letter own.names) in
      let same = told_names laws.named text a rest b.step own.letter (omega (arith, x.within, fits64)) (omega (arith, y.within, fits64)) is front in
      let added : adds_none q a.answer ≡ false = kind_of_adds laws.kinds author j known q a one in
      let told : adds_none q b.answer ≡ true = kind_of_tells laws.kinds author j known q b two in
      let kinds : adds_none q a.answer ≡ adds_none q b.answer = ap (λ (t : Bool). asks_only q || t) (same.1 ∙ own.kind) in
      absurd (cc)

  -- of a segmentation that adds nothing, one reason
  one-segment : (machine test metric : List ℕ) (a b : Reply) (rest more : List ℕ) → Tells j known (request.Segment machine test metric) a → Tells j known (request.Segment machine test metric) b
      → text ≡ text_of a ++ rest → text ≡ text_of b ++ more → a ≡ b
  one-segment machine test metric a b rest more one two is its =
      let q : Request = request.Segment machine test metric in
      let s : Series = record { test = test; metric = metric } in
      let found = tells_reason j known machine test metric a one in
      let other = tells_reason j known machine test metric b two in
      let steps : a.step ≡ b.step = same-step q a b rest more (inr one) (inr two) is its in
      let counts : two.count ≡ one.count = sym (told-step j known q b two) ∙ sym steps ∙ told-step j known q a one in
      let why : IsReason j known one.count s other.0 = subst (λ (k : ℕ). IsReason j known k s other.0) counts other.1 in
      let reply : b ≡ reply_of (first_of one.count j) (refuses other.0) = other.2 ∙ ap (λ (k : ℕ). reply_of (first_of k j) (refuses other.0)) counts in
      let same : found.0 ≡ other.0 =
      one_reason laws.cuts j known one.count s text rest more (length (first_of one.count j)) found.0 other.0 found.1 why
      (is ∙ ap (λ (r : Reply). text_of r ++ rest) found.2) (its ∙ ap (λ (r : Reply). text_of r ++ more) reply) in
      found.2 ∙ ap (λ (r : Refusal). reply_of (first_of one.count j) (refuses r)) same ∙ sym reply

  one-told : (q : Request) (a b : Reply) (rest more : List ℕ) → Tells j known q a → Tells j known q b → text ≡ text_of a ++ rest → text ≡ text_of b ++ more → a ≡ b
  one-told q a b rest more one two is its = elim (cases_Bool (is_segment q)) [
    | inl seg ↦
        let so : IsSegment q = segment-is q seg in
        one-segment so.machine so.test so.metric a b rest more (subst (λ (r : Request). Tells j known r a) so.is one) (subst (λ (r : Request). Tells j known r b) so.is two) is its
    | inr plain ↦ laws.tells j known q a b plain one two (same-step q a b rest more (inr one) (inr two) is its)
  ]

  one-reply : (q : Request) (a b : Reply) (rest more : List ℕ) → IsReplyOn author j known q a → IsReplyOn author j known q b → text ≡ text_of a ++ rest → text ≡ text_of b ++ more → a ≡ b
  one-reply q a b rest more (inl one) (inl two) is its = laws.adds author j known q a b one two (same-step q a b rest more (inl one) (inl two) is its)
  one-reply q a b rest more (inl one) (inr two) is its = absurd (no-both q a b rest more one two is its)
  one-reply q a b rest more (inr one) (inl two) is its = absurd (no-both q b a more rest two one its is)
  one-reply q a b rest more (inr one) (inr two) is its = one-told q a b rest more one two is its

one-where : Laws → (author : Author) (journal : List ℕ → List Placed) (known : List ℕ → ℕ) (q : Request) (text : List ℕ) → ((m : List ℕ) → length (journal m) < 2 ^ 64) → (named : Bool) (a b : Reply) (rest more : List ℕ)
    → IsReplyWhere named author journal known q a → IsReplyWhere named author journal known q b → text ≡ text_of a ++ rest → text ≡ text_of b ++ more → a ≡ b
one-where laws author journal known q text small true a b rest more one two is its =
    one-reply laws author (journal (machine_of q)) (known (machine_of q)) text (small (machine_of q)) q a b rest more one two is its
one-where laws author journal known q text small false a b rest more one two is its = one ∙ sym two

-- ---- one list of exchanges

abbrev AreSmall : List Track → Type 0
AreSmall ts = (m : List ℕ) → length (history_in ts m) < 2 ^ 64

module _ (laws : Laws) (ts : List Track) (small : AreSmall ts) (i : ℕ) where
  one-given : (xs : List Exchange) (item : Item) (text rest more : List ℕ) (a b : Reply) → Gives ts i xs item a → Gives ts i xs item b → text ≡ text_of a ++ rest → text ≡ text_of b ++ more → a ≡ b
  one-given xs (Ok q) text rest more a b one two is its =
      one-where laws (author.Script i) (history_in ts) (λ m. known_after (kept_count ts m) m xs) q text small (is_of_history (machines_of ts) q) a b rest more one two is its
  one-given xs (Err reason) text rest more a b one two is its = one ∙ sym two

  -- the first of exchanges behind others
  first-given : (front : List Exchange) (x : Exchange) (xs : List Exchange) → AreGiven ts i (front ++ x ∷ xs) → Gives ts i front x.item x.reply
  first-given front x xs given =
      let both : AreGiven ts i ((front ++ x ∷ []) ++ xs) = subst (AreGiven ts i) (sym (append_assoc front (x ∷ []) xs)) given in
      let one : AreGiven ts i (front ++ x ∷ []) = given_front (author.Script i) (machines_of ts) (history_in ts) (kept_count ts) (front ++ x ∷ []) xs both in
      given_last (author.Script i) (machines_of ts) (history_in ts) (kept_count ts) front x one

  same-from : (front xs ys : List Exchange) (text rest more : List ℕ) → items_of xs ≡ items_of ys → AreGiven ts i (front ++ xs) → AreGiven ts i (front ++ ys)
      → text ≡ replies_text xs ++ rest → text ≡ replies_text ys ++ more → xs ≡ ys
  same-from front [] [] text rest more items one two is its = refl
  same-from front [] (y ∷ ys) text rest more items one two is its = absurd (cc)
  same-from front (x ∷ xs) [] text rest more items one two is its = absurd (cc)
  same-from front (x ∷ xs) (y ∷ ys) text rest more items one two is its =
      let item : x.item ≡ y.item = cc in
      let others : items_of xs ≡ items_of ys = cc in
      let split : text ≡ text_of x.reply ++ (replies_text xs ++ rest) = is ∙ append_assoc (text_of x.reply) (replies_text xs) rest in
      let also : text ≡ text_of y.reply ++ (replies_text ys ++ more) = its ∙ append_assoc (text_of y.reply) (replies_text ys) more in
      let gives : Gives ts i front x.item y.reply = subst (λ (it : Item). Gives ts i front it y.reply) (sym item) (first-given front y ys two) in
      let reply : x.reply ≡ y.reply = one-given front x.item text (replies_text xs ++ rest) (replies_text ys ++ more) x.reply y.reply (first-given front x xs one) gives split also in
      let Made : Item → Reply → Exchange = λ it r. record { item = it; reply = r } in
      let same : x ≡ y = ap (λ (it : Item). Made it x.reply) item ∙ ap (Made y.item) reply in
      let behind : replies_text xs ++ rest ≡ replies_text ys ++ more = grind (arith, common_steps, behind_same, split, also, reply) in
      let left : AreGiven ts i ((front ++ x ∷ []) ++ xs) = subst (AreGiven ts i) (sym (append_assoc front (x ∷ []) xs)) one in
      let right : AreGiven ts i ((front ++ x ∷ []) ++ ys) = grind (arith, common_steps) in
      let rest_is : xs ≡ ys = same-from (front ++ x ∷ []) xs ys (replies_text xs ++ rest) rest more others left right refl behind in
      ap (λ (z : Exchange). z ∷ xs) same ∙ ap (λ (l : List Exchange). y ∷ l) rest_is

  pub one_telling : (heard : Heard) (xs ys : List Exchange) → IsTold ts i heard xs → IsTold ts i heard ys → xs ≡ ys
  one_telling heard xs ys one two =
      let items : items_of xs ≡ items_of ys = (one_script laws.scripts heard.script (items_of xs) (items_of ys) end end one.script two.script).0 in
      same-from [] xs ys heard.transcript [] [] items one.given two.given (one.replies ∙ sym (append-nil (replies_text xs))) (two.replies ∙ sym (append-nil (replies_text ys)))

-- ---- one request that is refused

module _ (laws : Laws) (ts : List Track) (i : ℕ) (heard : Heard) where
  begins-less : (items : List Item) (m n : ℕ) → m ≤ n → BeginsWell ts i heard items n → BeginsWell ts i heard items m
  begins-less items m n le well =
      let xs : List Exchange = well.exchanges in
      let split : take m xs ++ drop m xs ≡ xs = take-append-drop m xs in
      record {
        exchanges = take m xs;
        asks = map_take (λ (x : Exchange). x.item) xs m ∙ ap (λ (l : List Item). take m l) well.asks ∙ take-take m n items le;
        rest = replies_text (drop m xs) ++ well.rest;
        replies = grind (arith, common_steps);
        given = given_front (author.Script i) (machines_of ts) (history_in ts) (kept_count ts) (take m xs) (drop m xs) (subst (AreGiven ts i) (sym split) well.given);
      }

  told-begins : (items : List Item) (xs : List Exchange) (n : ℕ) → IsScript heard.script items end → IsTold ts i heard xs → n ≤ length items → BeginsWell ts i heard items n
  told-begins items xs n reads told le =
      let same : items_of xs ≡ items = (one_script laws.scripts heard.script (items_of xs) items end end told.script reads).0 in
      begins-less items n (length items) le
      (record {
        exchanges = xs;
        asks = same ∙ sym (take_all (length items) items (omega arith));
        rest = [];
        replies = told.replies ∙ sym (append-nil (replies_text xs));
        given = told.given;
      })

  -- none is where the script was told well
  not-refused : (xs : List Exchange) (r : ℕ) → IsTold ts i heard xs → IsRefusedAt ts i heard r → ⊥
  not-refused xs r told refused = elim refused.refused [
    | inl cut ↦ cut.1 (told-begins refused.items xs (refused.before + 1) refused.script told (omega (arith, cut.0)))
    | inr past ↦ past.1 xs told
  ]

  no-less : (r s : ℕ) (a : IsRefusedAt ts i heard r) (b : IsRefusedAt ts i heard s) → a.before < b.before → ⊥
  no-less r s a b below =
      let same : b.items ≡ a.items = (one_script laws.scripts heard.script b.items a.items end end b.script a.script).0 in
      let size : length b.items ≡ length a.items = ap length same in
      let within : b.before ≤ length b.items = grind (arith, common_steps) in
      elim a.refused [
        | inl cut ↦ cut.1 (begins-less a.items (a.before + 1) b.before (omega (arith, below)) (subst (λ (l : List Item). BeginsWell ts i heard l b.before) same b.begins))
        | inr past ↦ absurd (omega (arith, past.0, within, below, size))
      ]

  one-refused : (r s : ℕ) → IsRefusedAt ts i heard r → IsRefusedAt ts i heard s → r ≡ s
  one-refused r s a b = elim (cases_order a.before b.before) [
    | inl same ↦ omega (arith, a.number, b.number, same)
    | inr (inl below) ↦ absurd (no-less r s a b below)
    | inr (inr above) ↦ absurd (no-less s r b a above)
  ]

-- ---- whose entries there are

may-script : (crew : Crew) (a : Author) (e : Entry) (k : ℕ) → MayAdd crew (record { author = a; entry = e }) → a ≡ author.Script k → IsOneOf crew.scripts k
may-script crew a e k may is = grind (arith, common_steps)

in-parts : (n : ℕ) (kept made : List Placed) (place : ℕ) (p : Placed) → AllByRecursion WasKept kept → AllByRecursion (MayAdd (crew_with n)) made → slice_get (kept ++ made) place ≡ Some p
    → WasKept p ⊎ MayAdd (crew_with n) p
in-parts n [] made place p each run is = inr (all_at (MayAdd (crew_with n)) made place p run is)
in-parts n (x ∷ kept) made zero p each run is = let same : x ≡ p = cc in inl (subst WasKept same each.0)
in-parts n (x ∷ kept) made (suc place) p each run is = in-parts n kept made place p each.1 run is

script-in : (n : ℕ) (j : Journal) (place k : ℕ) (p : Placed) → IsJournal n j → slice_get j.history place ≡ Some p → p.author ≡ author.Script k → IsOneOf n k
script-in n j place k p is there its = grind (arith, common_steps, in-parts, may-script)

small-of : (n : ℕ) (js : List Journal) → AllByRecursion (IsJournal n) js → AreSmall (tracks_of js)
small-of n [] each m = omega arith
small-of n (j ∷ js) each m = elim (cases_Bool (bytes_eq j.machine m)) [
  | inl hit ↦ subst (λ (b : Bool). length (if b then j.history else history_in (tracks_of js) m) < 2 ^ 64) (sym hit) (fits n j each.0)
  | inr past ↦ subst (λ (b : Bool). length (if b then j.history else history_in (tracks_of js) m) < 2 ^ 64) (sym past) (small-of n js each.1 m)
]

has-machine : (ts : List Track) (at : ℕ) (t : Track) → slice_get ts at ≡ Some t → Contains (machines_of ts) t.machine
has-machine [] zero t is = absurd (cc)
has-machine [] (suc at) t is = absurd (cc)
has-machine (x ∷ ts) zero t is = let same : x ≡ t = cc in (0, omega arith, ap (λ (y : Track). y.machine) same)
has-machine (x ∷ ts) (suc at) t is = let more = has-machine ts at t is in (suc more.0, omega (arith, more.1), more.2)

-- ---- one line that is unasked

module _ (laws : Laws) (bytes : List ℕ) (heard : List Heard) (ts : List Track) (are : AreOf bytes heard ts) where
  small : AreSmall ts
  small = subst AreSmall (sym are.tracks) (small-of (length heard) are.read are.text.are.each)

  others : AreOthers ts
  others = subst AreOthers (sym are.tracks) (tracks_other are.read are.text.are.different)

  its-script : (at place k : ℕ) (t : Track) (p : Placed) → slice_get ts at ≡ Some t → slice_get t.history place ≡ Some p → p.author ≡ author.Script k → IsOneOf (length heard) k
  its-script at place k t p here there its =
      let back = mapped-back track_of are.read at t (subst (λ (l : List Track). slice_get l at ≡ Some t) are.tracks here) in
      let journal : IsJournal (length heard) back.0 = all_at (IsJournal (length heard)) are.read at back.0 are.text.are.each back.1 in
      script-in (length heard) back.0 place k p journal (subst (λ (x : Track). slice_get x.history place ≡ Some p) (sym back.2) there) its

  abbrev AreTold : (ℕ → List Exchange) → Type 0
  AreTold asked = (i : ℕ) (x : Heard) → slice_get heard i ≡ Some x → IsTold ts (i + 1) x (asked (i + 1))

  same-asked : (asked also : ℕ → List Exchange) → AreTold asked → AreTold also → (k : ℕ) → IsOneOf (length heard) k → asked k ≡ also k
  same-asked asked also one two k is =
      let back : k - 1 + 1 ≡ k = omega (arith, is.0) in
      let x = some_at heard (k - 1) (omega (arith, is.0, is.1)) in
      let same : asked (k - 1 + 1) ≡ also (k - 1 + 1) = one_telling laws ts small (k - 1 + 1) x.0 (asked (k - 1 + 1)) (also (k - 1 + 1)) (one (k - 1) x.0 x.1) (two (k - 1) x.0 x.1) in
      subst (λ (n : ℕ). asked n ≡ also n) back same

  unasked-also : (asked also : ℕ → List Exchange) (at place : ℕ) → AreTold asked → AreTold also → IsUnasked ts asked at place → IsUnasked ts also at place
  unasked-also asked also at place one two u =
      let same : asked u.script ≡ also u.script = same-asked asked also one two u.script (its-script at place u.script u.track u.entry u.here u.there u.its) in
      record {
        made = u.made;
        alone = grind (arith, common_steps);
      }

  no-lower : (l m : ℕ) → IsUnaskedAt ts heard l → IsUnaskedAt ts heard m → l < m → ⊥
  no-lower l m a b below =
      b.first a.at a.place (subst (λ (n : ℕ). n < m) a.line below) (unasked-also a.asked b.asked a.at a.place a.told b.told a.unasked)

  one-line : (l m : ℕ) → IsUnaskedAt ts heard l → IsUnaskedAt ts heard m → l ≡ m
  one-line l m a b = elim (cases_order l m) [
    | inl same ↦ same
    | inr (inl below) ↦ absurd (no-lower l m a b below)
    | inr (inr above) ↦ absurd (no-lower m l b a above)
  ]

  -- none is where each entry was asked for
  no-line : (l : ℕ) → AreHeard ts heard → IsUnaskedAt ts heard l → ⊥
  no-line l each u =
      let at = u.unasked in
      let k : ℕ = at.script in
      let is : IsOneOf (length heard) k = its-script u.at u.place k at.track at.entry at.here at.there at.its in
      let back : k - 1 + 1 ≡ k = omega (arith, is.0) in
      let x = some_at heard (k - 1) (omega (arith, is.0, is.1)) in
      let so = each (k - 1) x.0 x.1 in
      let t : Track = at.track in
      let history : history_in ts t.machine ≡ t.history = history_at ts u.at t others at.here in
      let p : Placed = record { author = author.Script (k - 1 + 1); entry = at.entry.entry } in
      let entry : at.entry ≡ p = ap (λ (a : Author). let y : Placed = record { author = a; entry = at.entry.entry } in y) (at.its ∙ ap (λ (n : ℕ). author.Script n) (sym back)) in
      let there : slice_get (history_in ts t.machine) u.place ≡ Some p = grind (arith, common_steps) in
      let by : IsAdded (author.Script (k - 1 + 1)) t.machine (history_in ts t.machine) (kept_count ts t.machine) so.exchanges u.place =
      so.asked t.machine u.place at.entry.entry (has-machine ts u.at t at.here) there in
      let same : so.exchanges ≡ u.asked (k - 1 + 1) =
      one_telling laws ts small (k - 1 + 1) x.0 so.exchanges (u.asked (k - 1 + 1)) so.told (u.told (k - 1) x.0 x.1) in
      let its : IsAdded (author.Script (k - 1 + 1)) t.machine (history_in ts t.machine) (kept_count ts t.machine) (u.asked (k - 1 + 1)) u.place =
      subst (λ (l : List Exchange). IsAdded (author.Script (k - 1 + 1)) t.machine (history_in ts t.machine) (kept_count ts t.machine) l u.place) same by in
      at.alone (subst (λ (n : ℕ). IsAdded (author.Script n) t.machine (history_in ts t.machine) (kept_count ts t.machine) (u.asked n) u.place) back its)

-- ---- one request of one script

-- the refused request, by journals
record IsRefusedBy (ts : List Track) (heard : List Heard) (script request : ℕ) : Type 0 where
  some : 0 < script
  before : (i : ℕ) (x : Heard) → i + 1 < script → slice_get heard i ≡ Some x → (exchanges : List Exchange) × IsTold ts (i + 1) x exchanges
  refused_of : Heard
  here : slice_get heard (script - 1) ≡ Some refused_of
  refused : IsRefusedAt ts script refused_of request

by-journals : (bytes : List ℕ) (heard : List Heard) (ts : List Track) (script request : ℕ) (a : IsRefusedRequest bytes heard script request) → a.journals ≡ ts → IsRefusedBy ts heard script request
by-journals bytes heard ts script request a same = grind (arith, common_steps)

module _ (laws : Laws) (heard : List Heard) (ts : List Track) where
  all-told : (script request : ℕ) → ((i : ℕ) (x : Heard) → slice_get heard i ≡ Some x → (exchanges : List Exchange) × IsTold ts (i + 1) x exchanges) → IsRefusedBy ts heard script request → ⊥
  all-told script request told a =
      let back : script - 1 + 1 ≡ script = omega (arith, a.some) in
      let its = told (script - 1) a.refused_of a.here in
      not-refused laws ts script a.refused_of its.0 request (subst (λ (n : ℕ). IsTold ts n a.refused_of its.0) back its.1) a.refused

  no-earlier : (s t r q : ℕ) → IsRefusedBy ts heard s r → IsRefusedBy ts heard t q → s < t → ⊥
  no-earlier s t r q a b below =
      let back : s - 1 + 1 ≡ s = omega (arith, a.some) in
      let its = b.before (s - 1) a.refused_of (omega (arith, a.some, below)) a.here in
      not-refused laws ts s a.refused_of its.0 r (subst (λ (n : ℕ). IsTold ts n a.refused_of its.0) back its.1) a.refused

  one-script-refused : (s t r q : ℕ) → IsRefusedBy ts heard s r → IsRefusedBy ts heard t q → s ≡ t
  one-script-refused s t r q a b = elim (cases_order s t) [
    | inl same ↦ same
    | inr (inl below) ↦ absurd (no-earlier s t r q a b below)
    | inr (inr above) ↦ absurd (no-earlier t s q r b a above)
  ]

  one-request : (s r q : ℕ) → IsRefusedBy ts heard s r → IsRefusedBy ts heard s q → r ≡ q
  one-request s r q a b =
      let same : b.refused_of ≡ a.refused_of = same_at heard (s - 1) b.refused_of a.refused_of b.here a.here in
      one-refused laws ts s a.refused_of r q a.refused (subst (λ (x : Heard). IsRefusedAt ts s x q) same b.refused)

-- ---- one verdict

one-asked : OneScript → (heard : List Heard) (n m : ℕ) → AskTogether heard n → AskTogether heard m → n ≡ m
one-asked law [] n m one two = one ∙ sym two
one-asked law (x ∷ heard) n m one two =
    let a : Asks x one.0 = one.2 in
    let b : Asks x two.0 = two.2 in
    let items : length a.items ≡ length b.items = ap length (one_script law x.script a.items b.items a.ending b.ending a.script b.script).0 in
    let more : one.1 ≡ two.1 = one-asked law heard one.1 two.1 one.3 two.3 in
    omega (arith, a.counted, b.counted, items, more, one.4, two.4)

module _ (laws : Laws) (bytes : List ℕ) (heard : List Heard) where
  one-reading : (ts us : List Track) → AreOf bytes heard ts → AreOf bytes heard us → us ≡ ts
  one-reading ts us a b = b.tracks ∙ ap (λ (js : List Journal). map track_of js) (laws.texts (length heard) bytes b.read a.read b.text a.text) ∙ sym a.tracks

  no-refused-line : (ts : List Track) (l : ℕ) → AreOf bytes heard ts → IsVerdict bytes heard (verdict.JournalLine l) → IsUnaskedLine bytes heard l
  no-refused-line ts l are (inl refused) = absurd (laws.none (length heard) bytes are.read l are.text refused)
  no-refused-line ts l are (inr unasked) = unasked

  unasked-by : (ts : List Track) (l : ℕ) → AreOf bytes heard ts → IsUnaskedLine bytes heard l → IsUnaskedAt ts heard l
  unasked-by ts l are u = subst (λ (x : List Track). IsUnaskedAt x heard l) (one-reading ts u.journals are u.are) u.unasked

  shown-or-line : (m s r l : ℕ) → AreShown bytes heard m s r → IsVerdict bytes heard (verdict.JournalLine l) → ⊥
  shown-or-line m s r l a b =
      no-line laws bytes heard a.journals a.are l a.told (unasked-by a.journals l a.are (no-refused-line a.journals l a.are b))

  shown-or-request : (m s r script request : ℕ) → AreShown bytes heard m s r → IsRefusedRequest bytes heard script request → ⊥
  shown-or-request m s r script request a b =
      all-told laws heard a.journals script request (λ i x here. (let so = a.told i x here in (so.exchanges, so.told)))
      (by-journals bytes heard a.journals script request b (one-reading a.journals b.journals a.are b.are))

  line-or-request : (l script request : ℕ) → IsVerdict bytes heard (verdict.JournalLine l) → IsRefusedRequest bytes heard script request → ⊥
  line-or-request l script request a b =
      let u : IsUnaskedAt b.journals heard l = unasked-by b.journals l b.are (no-refused-line b.journals l b.are a) in
      all-told laws heard b.journals script request (λ i x here. (u.asked (i + 1), u.told i x here)) (by-journals bytes heard b.journals script request b refl)

  one-line-of : (l m : ℕ) → IsVerdict bytes heard (verdict.JournalLine l) → IsVerdict bytes heard (verdict.JournalLine m) → l ≡ m
  one-line-of l m (inl a) (inl b) = laws.refusal (length heard) bytes l m a b
  one-line-of l m (inl a) (inr b) = absurd (laws.none (length heard) bytes b.are.read l b.are.text a)
  one-line-of l m (inr a) (inl b) = absurd (laws.none (length heard) bytes a.are.read m a.are.text b)
  one-line-of l m (inr a) (inr b) = one-line laws bytes heard a.journals a.are l m a.unasked (unasked-by a.journals m a.are b)

  one-shown : (m s r n t q : ℕ) → AreShown bytes heard m s r → AreShown bytes heard n t q → ◌≡◌ {A = Verdict} (verdict.Shown m s r) (verdict.Shown n t q)
  one-shown m s r n t q a b = grind (arith, common_steps, one-reading, length, one-asked, laws.scripts, heard, verdict.Shown)

  one-request-of : (s t r q : ℕ) → IsRefusedRequest bytes heard s r → IsRefusedRequest bytes heard t q → ◌≡◌ {A = Verdict} (verdict.Request s r) (verdict.Request t q)
  one-request-of s t r q a b =
      let x : IsRefusedBy a.journals heard s r = by-journals bytes heard a.journals s r a refl in
      let y : IsRefusedBy a.journals heard t q = by-journals bytes heard a.journals t q b (one-reading a.journals b.journals a.are b.are) in
      let script : s ≡ t = one-script-refused laws heard a.journals s t r q x y in
      let request : r ≡ q = one-request laws heard a.journals s r q x (subst (λ (n : ℕ). IsRefusedBy a.journals heard n q) (sym script) y) in
      ap (λ (n : ℕ). verdict.Request n r) script ∙ ap (λ (n : ℕ). verdict.Request t n) request

pub one_verdict : Laws → OneVerdict
one_verdict laws bytes heard (verdict.Shown m s r) (verdict.Shown n t q) a b = one-shown laws bytes heard m s r n t q a b
one_verdict laws bytes heard (verdict.Shown m s r) (verdict.JournalLine l) a b = absurd (shown-or-line laws bytes heard m s r l a b)
one_verdict laws bytes heard (verdict.Shown m s r) (verdict.Request i q) a b = absurd (shown-or-request laws bytes heard m s r i q a b)
one_verdict laws bytes heard (verdict.JournalLine l) (verdict.Shown m s r) a b = absurd (shown-or-line laws bytes heard m s r l b a)
one_verdict laws bytes heard (verdict.JournalLine l) (verdict.JournalLine m) a b = ap (λ (n : ℕ). verdict.JournalLine n) (one-line-of laws bytes heard l m a b)
one_verdict laws bytes heard (verdict.JournalLine l) (verdict.Request i q) a b = absurd (line-or-request laws bytes heard l i q a b)
one_verdict laws bytes heard (verdict.Request i q) (verdict.Shown m s r) a b = absurd (shown-or-request laws bytes heard m s r i q b a)
one_verdict laws bytes heard (verdict.Request i q) (verdict.JournalLine l) a b = absurd (line-or-request laws bytes heard l i q b a)
one_verdict laws bytes heard (verdict.Request i q) (verdict.Request k r) a b = one-request-of laws bytes heard i k q r a b

-- ---- one script that is cut off

pub one_cut_off : OneScript → OneCutOff
one_cut_off law heard script other offset place a b = elim (cases_order script other) [
  | inl same ↦
      let cut : b.cut ≡ a.cut = same_at heard (script - 1) b.cut a.cut (subst (λ (n : ℕ). slice_get heard (n - 1) ≡ Some b.cut) (sym same) b.here) a.here in
      let reads : IsScript a.cut.script b.items (cut_off place) = subst (λ (x : Heard). IsScript x.script b.items (cut_off place)) cut b.reads in
      let ends = (one_script law a.cut.script a.items b.items (cut_off offset) (cut_off place) a.reads reads).1 in
      (same, cc)
  | inr (inl below) ↦
      absurd (b.first (script - 1) a.cut (omega (arith, a.some, below)) a.here a.items offset a.reads)
  | inr (inr above) ↦
      absurd (a.first (other - 1) b.cut (omega (arith, b.some, above)) b.here b.items place b.reads)
]
