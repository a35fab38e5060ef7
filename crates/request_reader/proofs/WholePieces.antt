-- A line that has come with its line feed, and the bytes that belong to it.
use Rattle.std.proofs.lemmas.Grind.{common_steps}
use Rattle.std.proofs.Common.{◌≡◌, ℕ, ◌+◌, ◌-◌, ◌<◌, ◌≤◌, ◌⊎◌, true, false, List, [], ◌∷◌, ◌++◌, length, take, drop, refl, sym, ap, ◌∙◌, arith, inl, inr, append_assoc, append-nil, length-append, Option, Some, None, slice_range, suc}
use Rattle.std.{specs.Prelude.IfSome, proofs.Math.Seq.{take-append-add, drop-append-add}, proofs.lemmas.List.{take-append-drop, length-take-le}}
use Rattle.request_reader.specs.declared.{asked.Asked.Asked, stop.ReadStop.TheVariants.CutOff}
use Rattle.request_words.specs.{Bodies.Item, Items.{IsSkipped, Asks, Counts}}
use Rattle.request_reader.specs.{Scripts.{input_limit, IsLine, IsInside, IsBefore, cut_off, inside, more, Reads, Piece, IsPiece, ArePieces}, Unread.Unread}
use Rattle.request_reader.specs.{Next.{items_of, TellsEnd, TakesWhole, ReadsNext, Gave}, Reading.StopsReading, Parts.TakesNext, Filling.Gains}
use Rattle.request_reader.{specs.Needs.{NeedsMore, Gathers}, specs.Begun.HasLine, proofs.Stops.{some_same, none_some}}

-- fewer bytes than the line counts are behind it
inside_of : (bytes line rest behind : List ℕ) (count : ℕ) → bytes ≡ line ++ 10 ∷ rest → IsLine line → Counts line count
    → length (bytes ++ behind) < length line + 1 + count → IsInside (bytes ++ behind)
inside_of bytes line rest behind count is whole counted few = grind (arith, common_steps)

-- it takes more to tell what they ask
pub needs_body : (old : Unread) (ended total count : ℕ) (line : List ℕ) → HasLine old.kept ended line → Counts line count → total ≡ ended + count → NeedsMore old total
needs_body old ended total count line has counted is behind few =
    let within : length (old.kept ++ behind) < length line + 1 + count = omega (arith, few, is, has.size) in
    record {
      front = [];
      back = old.kept ++ behind;
      asked = [];
      last = [];
      split = refl;
      told = refl;
      pieces = ([], (refl, refl));
      ends = more refl (inl (inside_of old.kept line has.rest behind count has.split has.whole counted within)) refl refl;
    }

-- the input ends among them, or before the first of them
pub cut_reads : (at : ℕ) (bytes : List ℕ) → IsInside bytes ⊎ IsBefore bytes → Reads true at bytes [] (cut_off at)
cut_reads at bytes ends =
    let same : at + 0 ≡ at = omega arith in
    record {
      front = [];
      back = bytes;
      asked = [];
      last = [];
      split = refl;
      told = refl;
      pieces = ([], (refl, refl));
      ends = inside refl ends refl (ap cut_off (sym same));
    }

pub stops_inside : (old new : Unread) (before after : Option (List ℕ)) (f g ended total count : ℕ) (line : List ℕ)
    → HasLine old.kept ended line → Counts line count → total ≡ ended + count → Gathers old new before after total false
    → StopsReading old before after f g (CutOff old.before)
stops_inside old new None after f g ended total count line has counted is gathers = tt
stops_inside old new (Some left) None f g ended total count line has counted is gathers = absurd (none_some gathers.gains.gave)
stops_inside old new (Some left) (Some rest) f g ended total count line has counted is gathers =
    let all : left ≡ gathers.given = some_same gathers.gains.gave ∙ ap (λ bs. gathers.given ++ bs) gathers.has.1 ∙ append-nil gathers.given in
    let kept : old.kept ++ left ≡ new.kept = ap (λ bs. old.kept ++ bs) all ∙ sym gathers.gains.kept in
    let size = ap length kept in
    let few : length (old.kept ++ left) < length line + 1 + count = omega (arith, gathers.has.0, size, is, has.size) in
    let within : old.before + length (old.kept ++ left) ≤ input_limit = omega (arith, gathers.gains.within, gathers.gains.place, size) in
    inl (within, cut_reads old.before (old.kept ++ left) (inl (inside_of old.kept line has.rest left count has.split has.whole counted few)))

-- the line and the bytes that belong to it are one piece
pub one_piece : (line body used : List ℕ) (item : Item) → used ≡ line ++ 10 ∷ body → IsLine line → (¬ IsSkipped line) → Counts line (length body)
    → Asks line body item → ArePieces used (item ∷ [])
one_piece line body used item is whole asked counted asks =
    let p : Piece = record { line = line; body = body; asks = item ∷ [] } in
    let piece : IsPiece p = record { line = whole; counted = counted; gives = inr (asked, item, asks, refl) } in
    (p ∷ [], ([], [], is ∙ sym (append-nil (line ++ 10 ∷ body)), refl, piece, (refl, refl)))

-- the bytes behind the line, and all up to their end
body_is : (line zs bytes : List ℕ) (ended total count : ℕ) → bytes ≡ line ++ 10 ∷ zs → ended ≡ length line + 1 → total ≡ ended + count
    → slice_range bytes ended total ≡ take count zs
body_is line zs bytes ended total count is size sum = grind (arith, common_steps, drop, length, drop-append-add)

used_is : (line zs bytes : List ℕ) (ended total count : ℕ) → bytes ≡ line ++ 10 ∷ zs → ended ≡ length line + 1 → total ≡ ended + count
    → take total bytes ≡ line ++ 10 ∷ take count zs
used_is line zs bytes ended total count is size sum =
    let all : total ≡ length line + suc count = omega (arith, size, sum) in
    rw (all, is) (take-append-add line (10 ∷ zs) (suc count))

-- the piece is what was taken, and the rest is left
pub takes_piece : (old mid : Unread) (before after : Option (List ℕ)) (ended total count : ℕ) (line : List ℕ) (item : Item)
    → HasLine old.kept ended line → (¬ IsSkipped line) → Counts line count → total ≡ ended + count → Gathers old mid before after total true
    → Asks line (slice_range mid.kept ended total) item
    → IfSome before (λ left. IfSome after (λ rest. TakesWhole old.before (old.kept ++ left) (item ∷ []) (mid.before + total) (drop total mid.kept ++ rest)))
takes_piece old mid None after ended total count line item has asked counted sum gathers asks = tt
takes_piece old mid (Some left) None ended total count line item has asked counted sum gathers asks = tt
takes_piece old mid (Some left) (Some rest) ended total count line item has asked counted sum gathers asks =
    let given : List ℕ = gathers.given in
    let zs : List ℕ = has.rest ++ given in
    let kept : mid.kept ≡ line ++ 10 ∷ zs = gathers.gains.kept ∙ ap (λ bs. bs ++ given) has.split ∙ append_assoc line (10 ∷ has.rest) given in
    let size : length mid.kept ≡ length line + length (10 ∷ zs) = ap length kept ∙ length-append line (10 ∷ zs) in
    let body : slice_range mid.kept ended total ≡ take count zs = body_is line zs mid.kept ended total count kept has.size sum in
    let used : take total mid.kept ≡ line ++ 10 ∷ take count zs = used_is line zs mid.kept ended total count kept has.size sum in
    let enough : total ≤ length mid.kept = gathers.has in
    let long : length (take count zs) ≡ count = length-take-le count zs (omega (arith, size, enough, sum, has.size)) in
    let taken : length (take total mid.kept) ≡ total = length-take-le total mid.kept enough in
    let counts : Counts line (length (take count zs)) = rw long counted in
    let asks_body : Asks line (take count zs) item = rw body at asks in
    let split : old.kept ++ left ≡ take total mid.kept ++ (drop total mid.kept ++ rest) =
    ap (λ bs. old.kept ++ bs) (some_same gathers.gains.gave) ∙ sym (append_assoc old.kept given rest)
    ∙ ap (λ bs. bs ++ rest) (sym gathers.gains.kept ∙ sym (take-append-drop total mid.kept)) ∙ append_assoc (take total mid.kept) (drop total mid.kept) rest in
    record {
      used = take total mid.kept;
      split = split;
      place = omega (arith, gathers.gains.place, taken);
      pieces = one_piece line (take count zs) (take total mid.kept) item used has.whole asked counts asks_body;
    }

-- what was taken is what comes next
reads_item : (old mid new : Unread) (before after : Option (List ℕ)) (total : ℕ) (item : Item) (asked : Asked)
    → new.kept ≡ drop total mid.kept → new.before ≡ mid.before + total → new.ended ≡ false → items_of asked ≡ item ∷ []
    → IfSome before (λ left. IfSome after (λ rest. TakesWhole old.before (old.kept ++ left) (item ∷ []) (mid.before + total) (drop total mid.kept ++ rest)))
    → ReadsNext old new before after asked
reads_item old mid new before after total item asked kept place goes told takes = grind (arith, common_steps)

-- the first bytes were used, one at least, and the source gave more before
gave_used : (old mid new : Unread) (before after : Option (List ℕ)) (given : List ℕ) (total : ℕ) → Gains old mid before after given
    → 0 < total → total ≤ length mid.kept → new.kept ≡ drop total mid.kept → new.before ≡ mid.before + total → Gave old new before after
gave_used old mid new before after given total gains some enough kept place = grind (arith, common_steps)

pub next_piece : (old mid new : Unread) (before after : Option (List ℕ)) (ended total count : ℕ) (line : List ℕ) (item : Item) (asked : Asked)
    → HasLine old.kept ended line → (¬ IsSkipped line) → Counts line count → total ≡ ended + count → Gathers old mid before after total true
    → Asks line (slice_range mid.kept ended total) item → old.ended ≡ false → new.kept ≡ drop total mid.kept → new.before ≡ mid.before + total
    → new.ended ≡ mid.ended → new.stopped ≡ mid.stopped → items_of asked ≡ item ∷ [] → TellsEnd new asked → TakesNext old new before after asked
next_piece old mid new before after ended total count line item asked has wanted counted sum gathers asks goes kept place same_end same_stop told tells =
    let goes_on : new.ended ≡ false = same_end ∙ gathers.gains.ended ∙ goes in
    record {
      next = reads_item old mid new before after total item asked kept place goes_on told
          (takes_piece old mid before after ended total count line item has wanted counted sum gathers asks);
      tells = tells;
      gave = gave_used old mid new before after gathers.given total gathers.gains (omega (arith, sum, has.size)) gathers.has kept place;
      stopped = same_stop ∙ gathers.gains.stopped;
    }
