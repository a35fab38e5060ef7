-- Bytes that were passed, and what is read behind them.
use Rattle.std.proofs.Common.{◌≡◌, ℕ, ◌+◌, ◌-◌, ◌≤◌, Bool, true, false, List, [], ◌++◌, length, take, drop, refl, sym, ap, ◌∙◌, arith, append_assoc, length-append, Option, Some, None}
use Rattle.std.{specs.Io.KnownBytes.prepend_known, proofs.Math.Seq.take-append-add, proofs.lemmas.Grind.common_steps}
use Rattle.track_outside.specs.declared.source.Source.{Ghosts}
use Rattle.request_reader.specs.declared.{asked.Asked.Asked, stop.ReadStop.ReadStop, stop.ReadStop.TheVariants.{ReadFault, CutOff, InputTooLong, NoMemory}}
use Rattle.request_words.specs.Bodies.{Item}
use Rattle.request_reader.specs.{Scripts.{input_limit, ArePieces, Ending, Reads, ReadsLeft}, Unread.Unread, Filling.Gains}
use Rattle.request_reader.specs.{Next.{items_of, Takes, ReadsNext, Gave, GaveFew}, Reading.{StopsReading, TakesPast}, Parts.{TakesNext, Fails}}
use Rattle.request_reader.{specs.Passes.{Moves, ReadsPiece}, proofs.Stops.{some_same, none_some, prepend_twice}}
use Rattle.request_reader.proofs.PieceLists.{pieces_join, pieces_come_first}

pub moves_none : (a : Unread) (known : Option (List ℕ)) → a.before + length a.kept ≤ input_limit → Moves a a known known []
moves_none a known within = grind (arith, common_steps)

pub moves_gain : (a b : Unread) (before after : Option (List ℕ)) (given : List ℕ) → Gains a b before after given → Moves a b before after []
moves_gain a b before after given gains = grind (arith, common_steps)

-- the first of the bytes that are kept are passed
pub moves_use : (a b : Unread) (n : ℕ) (known : Option (List ℕ)) → n ≤ length a.kept → b.kept ≡ drop n a.kept → b.before ≡ a.before + n
    → b.ended ≡ a.ended → b.stopped ≡ a.stopped → a.before + length a.kept ≤ input_limit → Moves a b known known (take n a.kept)
moves_use a b n known few kept place ended stopped within = grind (arith, common_steps)

pub moves_join : (a b c : Unread) (before mid after : Option (List ℕ)) (first second : List ℕ) → Moves a b before mid first → Moves b c mid after second
    → Moves a c before after (first ++ second)
moves_join a b c before mid after first second one two = grind (arith, common_steps, prepend_known, prepend_twice, append_assoc, length-append)

-- all that was left before is what was passed and what is left
whole_is : (old new : Unread) (before after : Option (List ℕ)) (passed rest : List ℕ) → (moves : Moves old new before after passed)
    → old.kept ++ (moves.given ++ rest) ≡ passed ++ (new.kept ++ rest)
whole_is old new before after passed rest moves = grind (arith, common_steps)

-- how many bytes came to hand
pub moves_size : (old new : Unread) (before after : Option (List ℕ)) (passed : List ℕ) → (moves : Moves old new before after passed)
    → length (old.kept ++ moves.given) ≡ length passed + length new.kept
moves_size old new before after passed moves = ap length moves.split ∙ length-append passed new.kept

-- pieces that ask nothing stand in front
reads_behind : (all : Bool) (at place : ℕ) (passed bytes : List ℕ) (items : List Item) (ending : Ending) → ArePieces passed [] → place ≡ at + length passed
    → Reads all place bytes items ending → Reads all at (passed ++ bytes) items ending
reads_behind all at place passed bytes items ending pieces is reads =
    pieces_come_first all at passed bytes [] items ending pieces (rw is at reads)

cut_behind : (at place : ℕ) (passed bytes : List ℕ) → place ≡ at + length passed → place ≤ input_limit
    → take (input_limit - at) (passed ++ bytes) ≡ passed ++ take (input_limit - place) bytes
cut_behind at place passed bytes is within =
    let sum : input_limit - at ≡ length passed + (input_limit - place) = omega (arith, is, within) in
    rw sum (take-append-add passed bytes (input_limit - place))

left_behind : (at place : ℕ) (passed bytes : List ℕ) (ending : Ending) → ArePieces passed [] → place ≡ at + length passed → place ≤ input_limit
    → ReadsLeft place bytes [] ending → ReadsLeft at (passed ++ bytes) [] ending
left_behind at place passed bytes ending pieces is within x8 = grind (arith, common_steps, length-append, reads_behind, take, cut_behind)

past_behind : (at place : ℕ) (passed bytes : List ℕ) → ArePieces passed [] → place ≡ at + length passed → place ≤ input_limit
    → TakesPast place bytes → TakesPast at (passed ++ bytes)
past_behind at place passed bytes pieces is within past = grind (arith, common_steps, reads_behind, take, length-append, cut_behind)

in_limit : (old new : Unread) (before after : Option (List ℕ)) (passed : List ℕ) → Moves old new before after passed → new.before ≤ input_limit
in_limit old new before after passed moves = omega (arith, moves.within)

-- why reading stops behind them
stops_moved : (old new : Unread) (before mid after : Option (List ℕ)) (passed : List ℕ) (e f g : ℕ) (stop : ReadStop)
    → Moves old new before mid passed → ArePieces passed [] → e ≤ f → StopsReading new mid after f g stop → StopsReading old before after e g stop
stops_moved old new before mid after passed e f g ReadFault moves pieces less why =
    let reads = reads_behind false old.before new.before passed (new.kept ++ why.1.given) [] _ pieces moves.place why.1.reads in
    let whole : old.kept ++ (moves.given ++ why.1.given) ≡ passed ++ (new.kept ++ why.1.given) = whole_is old new before mid passed why.1.given moves in
    let size = ap length whole ∙ length-append passed (new.kept ++ why.1.given) in (
      omega (arith, why.0, less),
      record {
        given = moves.given ++ why.1.given;
        gave = moves.gave ∙ ap (prepend_known moves.given) why.1.gave ∙ prepend_twice moves.given why.1.given after;
        within = omega (arith, size, moves.place, why.1.within);
        reads = rw whole reads;
      },
    )
stops_moved old new None mid after passed e f g (CutOff offset) moves pieces less why = tt
stops_moved old new (Some left) None after passed e f g (CutOff offset) moves pieces less why = absurd (none_some moves.gave)
stops_moved old new (Some left) (Some rest) after passed e f g (CutOff offset) moves pieces less why =
    let is : left ≡ moves.given ++ rest = some_same moves.gave in
    rw (is, whole_is old new (Some left) (Some rest) passed rest moves)
    (left_behind old.before new.before passed (new.kept ++ rest) _ pieces moves.place (in_limit old new (Some left) (Some rest) passed moves) why)
stops_moved old new None mid after passed e f g InputTooLong moves pieces less why = tt
stops_moved old new (Some left) None after passed e f g InputTooLong moves pieces less why = absurd (none_some moves.gave)
stops_moved old new (Some left) (Some rest) after passed e f g InputTooLong moves pieces less why =
    let is : left ≡ moves.given ++ rest = some_same moves.gave in
    rw (is, whole_is old new (Some left) (Some rest) passed rest moves)
    (past_behind old.before new.before passed (new.kept ++ rest) pieces moves.place (in_limit old new (Some left) (Some rest) passed moves) why)
stops_moved old new before mid after passed e f g NoMemory moves pieces less why = tt

takes_behind : (ended : Bool) (at place : ℕ) (passed bytes : List ℕ) (items : List Item) (behind : ℕ) (rest : List ℕ) → ArePieces passed []
    → place ≡ at + length passed → Takes ended place bytes items behind rest → Takes ended at (passed ++ bytes) items behind rest
takes_behind false at place passed bytes items behind rest pieces is takes =
    record {
      used = passed ++ takes.used;
      split = ap (λ bs. passed ++ bs) takes.split ∙ sym (append_assoc passed takes.used rest);
      place = omega (arith, is, takes.place, length-append passed takes.used);
      pieces = (pieces.0 ++ takes.pieces.0, pieces_join pieces.0 takes.pieces.0 passed takes.used [] items pieces.1 takes.pieces.1);
    }
takes_behind true at place passed bytes items behind rest pieces is takes = grind (arith, common_steps, length-append, reads_behind)

-- what comes next behind them
reads_moved : (old cur new : Unread) (before mid after : Option (List ℕ)) (passed : List ℕ) (what : Asked) → Moves old cur before mid passed
    → ArePieces passed [] → ReadsNext cur new mid after what → ReadsNext old new before after what
reads_moved old cur new None mid after passed what moves pieces reads = tt
reads_moved old cur new (Some left) None after passed what moves pieces reads = absurd (none_some moves.gave)
reads_moved old cur new (Some left) (Some rest) None passed what moves pieces reads = tt
reads_moved old cur new (Some left) (Some rest) (Some more) passed what moves pieces reads =
    let is : left ≡ moves.given ++ rest = some_same moves.gave in
    rw (is, whole_is old cur (Some left) (Some rest) passed rest moves)
    (takes_behind new.ended old.before cur.before passed (cur.kept ++ rest) (items_of what) new.before (new.kept ++ more) pieces moves.place reads)

gave_moved : (old cur new : Unread) (before mid after : Option (List ℕ)) (passed : List ℕ) → Moves old cur before mid passed → Gave cur new mid after
    → Gave old new before after
gave_moved old cur new before mid after passed moves gave =
    let size = sym (length-append old.kept moves.given) ∙ moves_size old cur before mid passed moves in
    record {
      given = moves.given ++ gave.given;
      gave = moves.gave ∙ ap (prepend_known moves.given) gave.gave ∙ prepend_twice moves.given gave.given after;
      counted = omega (arith, size, moves.place, gave.counted, length-append moves.given gave.given);
      within = gave.within;
      ahead = λ goes. let further = gave.ahead goes in omega (arith, moves.place, further);
    }

pub takes_moved : (old cur new : Unread) (before mid after : Option (List ℕ)) (passed : List ℕ) (what : Asked) → Moves old cur before mid passed
    → ArePieces passed [] → TakesNext cur new mid after what → TakesNext old new before after what
takes_moved old cur new before mid after passed what moves pieces takes =
    record {
      next = reads_moved old cur new before mid after passed what moves pieces takes.next;
      tells = takes.tells;
      gave = gave_moved old cur new before mid after passed moves takes.gave;
      stopped = takes.stopped ∙ moves.stopped;
    }

-- why reading stops behind them, and how few bytes were given
pub few_moved : (old cur : Unread) (before mid after : Option (List ℕ)) (passed : List ℕ) → Moves old cur before mid passed → GaveFew cur mid after
    → GaveFew old before after
few_moved old cur before mid after passed moves few =
    let size = sym (length-append old.kept moves.given) ∙ moves_size old cur before mid passed moves in
    record {
      given = moves.given ++ few.given;
      gave = moves.gave ∙ ap (prepend_known moves.given) few.gave ∙ prepend_twice moves.given few.given after;
      few = omega (arith, size, moves.place, few.few, length-append moves.given few.given);
    }

-- as many as came to hand
pub few_passed : (old new : Unread) (before after : Option (List ℕ)) (passed : List ℕ) → Moves old new before after passed → GaveFew old before after
few_passed old new before after passed moves =
    let size = sym (length-append old.kept moves.given) ∙ moves_size old new before after passed moves in
    record { given = moves.given; gave = moves.gave; few = omega (arith, size, moves.place, moves.within) }

pub fails_moved : {S : Type 0} (g : Ghosts S) (old cur : Unread) (from mid to : S) (passed : List ℕ) (stop : ReadStop)
    → Moves old cur (g.left from) (g.left mid) passed → ArePieces passed [] → g.faults from ≤ g.faults mid → Fails g cur mid to stop → Fails g old from to stop
fails_moved g old cur from mid to passed stop moves pieces less fails =
    record {
      why = stops_moved old cur (g.left from) (g.left mid) (g.left to) passed (g.faults from) (g.faults mid) (g.faults to) stop moves pieces less fails.why;
      few = few_moved old cur (g.left from) (g.left mid) (g.left to) passed moves fails.few;
    }

pub no_pieces : ArePieces [] []
no_pieces = ([], (refl, refl))

pub pieces_pass : (one two : List ℕ) → ArePieces one [] → ArePieces two [] → ArePieces (one ++ two) []
pieces_pass one two first second = (first.0 ++ second.0, pieces_join first.0 second.0 one two [] [] first.1 second.1)

-- a piece, after some bytes were given
pub piece_gain : (old cur new : Unread) (before mid after : Option (List ℕ)) (given : List ℕ) (piece : Option Asked) → Gains old cur before mid given
    → ReadsPiece cur new mid after piece → ReadsPiece old new before after piece
piece_gain old cur new before mid after given (Some what) gains takes =
    takes_moved old cur new before mid after [] what (moves_gain old cur before mid given gains) no_pieces takes
piece_gain old cur new before mid after given None gains passes = grind (arith, common_steps)
