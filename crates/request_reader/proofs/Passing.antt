-- A body that is passed and not kept.
use Rattle.std.proofs.lemmas.Grind.{common_steps}
use Rattle.std.proofs.Common.{◌≡◌, ℕ, ◌+◌, ◌-◌, ◌<◌, ◌≤◌, inl, inr, Bool, true, false, List, [], ◌∷◌, ◌++◌, length, take, drop, refl, sym, ap, ◌∙◌, arith, append_assoc, append-nil, length-append, Option, Err}
use Rattle.std.{specs.Io.KnownBytes.prepend_known, proofs.Math.Seq.{take-append_seam, take-append-add, drop-append-add}, proofs.lemmas.List.length-take-le}
use Rattle.track_outside.specs.declared.source.Source.{Ghosts}
use Rattle.request_model.specs.declared.replies.Refusal.TheVariants.{BodyTooLong}
use Rattle.request_reader.specs.declared.asked.Asked.TheVariants as asked
use Rattle.request_reader.specs.declared.stop.ReadStop.{ReadStop, TheVariants.CutOff}
use Rattle.request_words.{specs.Items.{IsSkipped, Asks, formed, long, Counts, body_limit}, proofs.Skipped.skipped_counts}
use Rattle.request_reader.specs.{Scripts.{input_limit, Piece, IsPiece, text_of}, Unread.Unread, Filling.{Gains, StopsFilling}, Reading.StopsReading}
use Rattle.request_reader.specs.{Next.GaveFewFrom, Parts.{TakesNext, Fails}, Needs.{NeedsMore, Gathers}, LineEnds.BeginsWithLine, Begun.HasLine}
use Rattle.request_reader.specs.Passes.{Moves, Passes, PassesFrom, StopsPassing, StopsPassingFrom, seen, PassesPieces}
use Rattle.request_reader.proofs.{Stops.{stops_filling, stops_gain, needs_more, needs_now, few_same}, WholePieces.{needs_body, stops_inside, next_piece}}
use Rattle.request_reader.proofs.Moving.{moves_use, moves_join, moves_size, few_passed}

-- the same bytes were read so far
pub filling_same : (a b : Unread) (before after : Option (List ℕ)) (f g : ℕ) (stop : ReadStop) → a.before + length a.kept ≡ b.before + length b.kept
    → StopsFilling a before after f g stop → StopsFilling b before after f g stop
filling_same a b before after f g stop same why = grind (arith, common_steps)

-- ---- one turn

pub passes_use : (a b : Unread) (n : ℕ) (known : Option (List ℕ)) → n ≤ length a.kept → b.kept ≡ drop n a.kept → b.before ≡ a.before + n
    → b.ended ≡ a.ended → b.stopped ≡ a.stopped → a.before + length a.kept ≤ input_limit → Passes a b known known n true
passes_use a b n known few kept place ended stopped within =
    record { passed = take n a.kept; moves = moves_use a b n known few kept place ended stopped within; has = length-take-le n a.kept few }

-- ---- the loop

pub passing_stops : (old cur : Unread) (before mid after : Option (List ℕ)) (passed : List ℕ) (left total e f g : ℕ) (stop : ReadStop)
    → Moves old cur before mid passed → length passed + left ≡ total → length cur.kept < left → e ≤ f → StopsFilling cur mid after f g stop
    → StopsPassing old before after e g total stop
passing_stops old cur before mid after passed left total e f g stop moves sum few less why =
    let size = moves_size old cur before mid passed moves in
    let same : cur.before + length cur.kept ≡ old.before + length (old.kept ++ moves.given) = omega (arith, size, moves.place) in
    record {
      given = moves.given;
      between = mid;
      faults = f;
      gave = moves.gave;
      few = omega (arith, size, sum, few);
      within = omega (arith, same, moves.within);
      rose = less;
      stops = filling_same cur (seen old moves.given) mid after f g stop same why;
    }

pub passes_gain : (old cur new : Unread) (before mid after : Option (List ℕ)) (passed : List ℕ) (left total : ℕ) (enough : Bool)
    → Moves old cur before mid passed → length passed + left ≡ total → Passes cur new mid after left enough → Passes old new before after total enough
passes_gain old cur new before mid after passed left total true moves sum passes =
    record {
      passed = passed ++ passes.passed;
      moves = moves_join old cur new before mid after passed passes.passed moves passes.moves;
      has = omega (arith, length-append passed passes.passed, passes.has, sum);
    }
passes_gain old cur new before mid after passed left total false moves sum passes =
    record {
      passed = passed ++ passes.passed;
      moves = moves_join old cur new before mid after passed passes.passed moves passes.moves;
      has = (omega (arith, length-append passed passes.passed, passes.has.0, sum), passes.has.1, passes.has.2);
    }

-- ---- the line and its body

-- the bytes behind the line
behind_line : (bytes line : List ℕ) (ended : ℕ) → (has : HasLine bytes ended line) → drop ended bytes ≡ has.rest
behind_line bytes line ended has = grind (arith, common_steps, drop, length, drop-append-add)

seen_gains : (old : Unread) (before after : Option (List ℕ)) (given : List ℕ) → before ≡ prepend_known given after
    → old.before + length (old.kept ++ given) ≤ input_limit → Gains old (seen old given) before after given
seen_gains old before after given gave within = record { kept = refl; place = refl; ended = refl; stopped = refl; gave = gave; within = within }

-- how many bytes came to hand with the line
seen_size : (old a : Unread) (ended : ℕ) (line given : List ℕ) → HasLine old.kept ended line → a.kept ≡ drop ended old.kept
    → length (old.kept ++ given) ≡ ended + length (a.kept ++ given)
seen_size old a ended line given has kept = grind (arith, common_steps)

long_stops : (old a : Unread) (before after : Option (List ℕ)) (e g ended count : ℕ) (line : List ℕ) (stop : ReadStop) → HasLine old.kept ended line
    → Counts line count → a.kept ≡ drop ended old.kept → a.before ≡ old.before + ended → StopsPassing a before after e g count stop
    → StopsReading old before after e g stop
long_stops old a before after e g ended count line stop has counted kept place why =
    let given : List ℕ = why.given in
    let now : Unread = seen old given in
    let total : ℕ = ended + count in
    let size = seen_size old a ended line given has kept in
    let gains : Gains old now before why.between given = seen_gains old before why.between given why.gave (omega (arith, size, place, why.within)) in
    let few : length now.kept < total = omega (arith, size, why.few) in
    let needs : NeedsMore now total = needs_more old now before why.between given total gains (needs_body old ended total count line has counted refl) in
    let same : a.before + length (a.kept ++ given) ≡ old.before + length (old.kept ++ given) = omega (arith, size, place) in
    let fault = filling_same (seen a given) now why.between after why.faults g stop same why.stops in
    stops_gain old now before why.between after given e why.faults g stop gains why.rose
    (stops_filling now why.between after why.faults g stop (needs_now now total needs few) fault)

long_ends : (old a new : Unread) (before after : Option (List ℕ)) (f g ended count : ℕ) (line : List ℕ) → HasLine old.kept ended line
    → Counts line count → a.kept ≡ drop ended old.kept → a.before ≡ old.before + ended → Passes a new before after count false
    → StopsReading old before after f g (CutOff old.before)
long_ends old a new before after f g ended count line has counted kept place passes =
    let given : List ℕ = passes.moves.given in
    let now : Unread = seen old given in
    let total : ℕ = ended + count in
    let size = seen_size old a ended line given has kept in
    let moved = moves_size a new before after passes.passed passes.moves in
    let nothing : length new.kept ≡ 0 = ap length passes.has.1 in
    let within : old.before + length (old.kept ++ given) ≤ input_limit = omega (arith, size, moved, place, passes.moves.place, passes.moves.within) in
    let gathers : Gathers old now before after total false = grind (arith, common_steps) in
    stops_inside old now before after f g ended total count line has counted refl gathers

-- the same bytes were read so far, before and behind the line
same_read : (old a : Unread) (ended : ℕ) (line : List ℕ) → HasLine old.kept ended line → a.kept ≡ drop ended old.kept → a.before ≡ old.before + ended
    → a.before + length a.kept ≡ old.before + length old.kept
same_read old a ended line has kept place = grind (arith, common_steps)

pub long_fails : {S : Type 0} (g : Ghosts S) (old a : Unread) (from to : S) (ended count : ℕ) (line : List ℕ) (stop : ReadStop) → HasLine old.kept ended line
    → Counts line count → a.kept ≡ drop ended old.kept → a.before ≡ old.before + ended → StopsPassingFrom g a from to count stop → GaveFewFrom g a from to
    → Fails g old from to stop
long_fails g old a from to ended count line stop has counted kept place why few =
    record {
      why = long_stops old a (g.left from) (g.left to) (g.faults from) (g.faults to) ended count line stop has counted kept place why;
      few = few_same a old (g.left from) (g.left to) (same_read old a ended line has kept place) few;
    }

pub long_cut : {S : Type 0} (g : Ghosts S) (old a new : Unread) (from to : S) (ended count : ℕ) (line : List ℕ) → HasLine old.kept ended line
    → Counts line count → a.kept ≡ drop ended old.kept → a.before ≡ old.before + ended → PassesFrom g a new from to count false
    → Fails g old from to (CutOff old.before)
long_cut g old a new from to ended count line has counted kept place passes =
    record {
      why = long_ends old a new (g.left from) (g.left to) (g.faults from) (g.faults to) ended count line has counted kept place passes;
      few = few_same a old (g.left from) (g.left to) (same_read old a ended line has kept place) (few_passed a new (g.left from) (g.left to) passes.passed passes.moves);
    }

-- a body that is too long is refused, whatever its bytes
asks_too_long : (line body : List ℕ) (count : ℕ) → Counts line count → body_limit < count → Asks line body (Err BodyTooLong)
asks_too_long line body count (inl of) many = formed of.0 of.1 (long (omega (arith, of.2, many)) refl)
asks_too_long line body count (inr none) many = absurd (omega (arith, none.1, many))

pub long_next : (old a new : Unread) (before after : Option (List ℕ)) (ended count : ℕ) (line : List ℕ) → HasLine old.kept ended line → (¬ IsSkipped line)
    → Counts line count → body_limit < count → old.ended ≡ false → a.kept ≡ drop ended old.kept → a.before ≡ old.before + ended → a.ended ≡ old.ended
    → a.stopped ≡ old.stopped → Passes a new before after count true → TakesNext old new before after (asked.Refused BodyTooLong)
long_next old a new before after ended count line has wanted counted many goes kept place same_end same_stop passes =
    let given : List ℕ = passes.moves.given in
    let now : Unread = seen old given in
    let total : ℕ = ended + count in
    let size = seen_size old a ended line given has kept in
    let moved = moves_size a new before after passes.passed passes.moves in
    let within : old.before + length (old.kept ++ given) ≤ input_limit = omega (arith, size, moved, place, passes.moves.place, passes.moves.within) in
    let gathers : Gathers old now before after total true = grind (arith, common_steps) in
    let rest : a.kept ≡ has.rest = kept ∙ behind_line old.kept line ended has in
    let all : old.kept ++ given ≡ line ++ 10 ∷ (passes.passed ++ new.kept) = grind (arith, common_steps) in
    let front : length (line ++ 10 ∷ passes.passed) ≡ total = omega (arith, length-append line (10 ∷ passes.passed), has.size, passes.has) in
    let joined : line ++ 10 ∷ (passes.passed ++ new.kept) ≡ (line ++ 10 ∷ passes.passed) ++ new.kept = sym (append_assoc line (10 ∷ passes.passed) new.kept) in
    let cut : drop total (old.kept ++ given) ≡ new.kept = grind (arith, common_steps) in
    next_piece old now new before after ended total count line (Err BodyTooLong) (asked.Refused BodyTooLong) has wanted counted refl gathers
    (asks_too_long line _ count counted many) goes (sym cut) (omega (arith, passes.moves.place, place, passes.has)) (passes.moves.ended ∙ same_end)
    (passes.moves.stopped ∙ same_stop) refl tt

-- ---- a line that is skipped

pub skips_piece : (old new : Unread) (known : Option (List ℕ)) (len : ℕ) (begins : BeginsWithLine old.kept len) → IsSkipped begins.line
    → new.kept ≡ drop (len + 1) old.kept → new.before ≡ old.before + (len + 1) → new.ended ≡ old.ended → new.stopped ≡ old.stopped
    → old.before + length old.kept ≤ input_limit → PassesPieces old new known known
skips_piece old new known len begins skipped kept place ended stopped within =
    let line : List ℕ = begins.line in
    let p : Piece = record { line = line; body = []; asks = [] } in
    let piece : IsPiece p = record { line = begins.whole; counted = skipped_counts line skipped; gives = inl (skipped, refl) } in
    let size : length old.kept ≡ length line + length (10 ∷ begins.rest) = ap length begins.split ∙ length-append line (10 ∷ begins.rest) in
    let few : len + 1 ≤ length old.kept = omega (arith, size, begins.counted) in
    let cut : take (length line + 1) (line ++ 10 ∷ begins.rest) ≡ line ++ 10 ∷ [] = take-append-add line (10 ∷ begins.rest) 1 in
    let used : take (len + 1) old.kept ≡ text_of p ++ [] = rw (begins.split, sym begins.counted) (cut ∙ sym (append-nil (line ++ 10 ∷ []))) in
    record {
      passed = take (len + 1) old.kept;
      some = omega (arith, length-take-le (len + 1) old.kept few);
      pieces = (p ∷ [], ([], [], used, refl, piece, (refl, refl)));
      moves = moves_use old new (len + 1) known few kept place ended stopped within;
    }

pub line_taken : (bytes : List ℕ) (len : ℕ) → (begins : BeginsWithLine bytes len) → take len bytes ≡ begins.line
line_taken bytes len begins = rw (begins.split, sym begins.counted) (take-append_seam begins.line (10 ∷ begins.rest))
