-- What an input gave since a first state, which a reader has.
use Rattle.std.proofs.Common.{◌≡◌, ℕ, ◌+◌, ◌-◌, ◌^◌, ◌≤◌, List, [], ◌++◌, length, Option, None, Some, IfSome, Result, Ok, Err, OnOk, refl, sym, ap, subst, ◌∙◌, arith, append-nil, append_assoc, length-append}
use Rattle.std.specs.Io.KnownBytes.{prepend_known, IsAtEnd}
use Rattle.track_outside.specs.{declared.source.Source.Ghosts, Calls.GaveAtMost, Counts.Rose}
use Rattle.line_pieces.specs.{declared.stop.Stop.Stop, declared.stop.Stop.TheVariants.{Fault, TooLong, Refused, NoMemory}, Stops.{Rules, StopsFor}}
use Rattle.line_pieces.specs.Pieces.{Reading, HasCause, MoreRefused, MoreHasCause, IsOpen, Gave, TakesAll, TakesPiece}

prepend_known-nil : (known : Option (List ℕ)) → known ≡ prepend_known [] known
prepend_known-nil None = refl
prepend_known-nil (Some bytes) = refl

prepend_known-append : (front back : List ℕ) (known : Option (List ℕ)) → prepend_known front (prepend_known back known) ≡ prepend_known (front ++ back) known
prepend_known-append front back None = refl
prepend_known-append front back (Some bytes) = ap Some (sym (append_assoc front back bytes))

-- what holds however the given bytes go on
given_all : (P : List ℕ → Type 0) (initial now : Option (List ℕ)) (given : List ℕ) → initial ≡ prepend_known given now → ((rest : List ℕ) → P (given ++ rest)) → IfSome initial P
given_all P None now given gave holds = tt
given_all P (Some bytes) None given gave holds = cc
given_all P (Some bytes) (Some rest) given gave holds = let is : bytes ≡ given ++ rest = cc in subst P (sym is) (holds rest)

-- all bytes were given
given_whole : (P : List ℕ → Type 0) (initial now : Option (List ℕ)) (given : List ℕ) → initial ≡ prepend_known given now → IsAtEnd now → P given
    → IfSome initial P
given_whole P None now given gave end holds = tt
given_whole P (Some bytes) None given gave end holds = cc
given_whole P (Some bytes) (Some rest) given gave end holds =
    let is : bytes ≡ given ++ rest = cc in
    subst P (sym (is ∙ ap (λ bs. given ++ bs) end ∙ append-nil given)) holds

-- some bytes show the stop, so it is no fault, and those of the input do
stops : {I : Type 0} (g : Ghosts I) (rules : Rules) (first new : I) (stop : Stop) (bytes : List ℕ) → HasCause rules bytes stop → IfSome (g.left first) (λ bs. HasCause rules bs stop)
    → StopsFor rules g first new stop
stops g rules first new (Refused why k) bytes is shown = shown
stops g rules first new TooLong bytes is shown = shown
stops g rules first new NoMemory bytes is shown = tt
stops g rules first new Fault bytes is shown = absurd is

-- what holds whatever the answer
pub always : {A E : Type 0} {P : Type 0} (r : Result A E) → P → OnOk r P
always (Ok x) holds = holds
always (Err e) holds = tt

module _ {I R : Type 0} (g : Ghosts I) (kind : Reading R) where
  pub gave_none : (first : I) (reader : R) → kind.whole_lines reader ≡ 0 → kind.has_read [] reader → Gave g kind first first reader (2 ^ 30)
  gave_none first reader whole has =
      record { read = []; has = has; short = refl; gave = prepend_known-nil (g.left first); lines = omega arith; counts = omega arith }

  module _ (first old new : I) (reader : R) (allowed : ℕ) (gave : Gave g kind first old reader allowed) where
    more : (piece : List ℕ) → g.left old ≡ prepend_known piece (g.left new) → g.left first ≡ prepend_known (gave.read ++ piece) (g.left new)
    more piece next = gave.gave ∙ ap (prepend_known gave.read) next ∙ prepend_known-append gave.read piece (g.left new)

    kept : g.left new ≡ g.left old → g.left first ≡ prepend_known gave.read (g.left new)
    kept same = gave.gave ∙ ap (prepend_known gave.read) (sym same)

    -- the bytes that were given and a piece more show this, whatever comes behind them
    piece_shows : (P : List ℕ → Type 0) (piece bytes : List ℕ) → g.left old ≡ prepend_known piece (g.left new) → bytes ≡ piece
        → ((rest : List ℕ) → P ((gave.read ++ bytes) ++ rest)) → IfSome (g.left first) P
    piece_shows P piece bytes next is shown =
        given_all P (g.left first) (g.left new) (gave.read ++ piece) (more piece next) (subst (λ bs. (rest : List ℕ) → P ((gave.read ++ bs) ++ rest)) is shown)

    -- they and a piece more show the stop
    pub piece_stops : (stop : Stop) (piece bytes : List ℕ) → g.left old ≡ prepend_known piece (g.left new) → bytes ≡ piece
        → MoreHasCause kind bytes allowed reader stop → StopsFor (kind.rules (kind.most reader)) g first new stop
    piece_stops stop piece bytes next is told =
        let rules = kind.rules (kind.most reader) in
        let shown : (rest : List ℕ) → HasCause rules ((gave.read ++ bytes) ++ rest) stop = λ rest. told gave.read rest gave.has gave.short in
        stops g rules first new stop ((gave.read ++ bytes) ++ []) (shown []) (piece_shows (λ bs. HasCause rules bs stop) piece bytes next is shown)

    -- the input failed
    pub faulted : g.left new ≡ g.left old → Rose (g.faults old) (g.faults new) → IsOpen kind reader → StopsFor (kind.rules (kind.most reader)) g first new Fault
    faulted same rose may =
        (omega (arith, rose, gave.counts), record { given = gave.read; gave = kept same; may_go_on = may gave.read gave.has })

    pub faulted_refused : (stop : Stop) → g.left new ≡ g.left old → MoreRefused kind [] reader stop → StopsFor (kind.rules (kind.most reader)) g first new stop
    faulted_refused stop same told =
        piece_stops stop [] [] (sym same ∙ prepend_known-nil (g.left new)) refl (λ read rest has short. told read rest has (omega (arith, short, length-append read [])))

    pub gave_few : (piece : List ℕ) → g.left old ≡ prepend_known piece (g.left new) → length piece ≤ allowed + 1 → GaveAtMost (2 ^ 30 + 1) (g.left first) (g.left new)
    gave_few piece next few =
        let all : length (gave.read ++ piece) ≡ length gave.read + length piece = length-append gave.read piece in
        let sum : length (gave.read ++ piece) ≤ 2 ^ 30 + 1 = omega (arith, gave.short) in
        record { given = gave.read ++ piece; gave = more piece next; few = sum }

    piece_given : (next_reader : R) (count : ℕ) (piece bytes : List ℕ) → g.left old ≡ prepend_known piece (g.left new) → bytes ≡ piece
        → g.faults old ≤ g.faults new → TakesAll kind bytes allowed reader next_reader count → Gave g kind first new next_reader (allowed - count)
    piece_given next_reader count piece bytes next is counts takes =
        let all : length (gave.read ++ bytes) ≡ length gave.read + length bytes = length-append gave.read bytes in
        let sum : length (gave.read ++ bytes) + (allowed - count) ≡ 2 ^ 30 = omega (arith, gave.short, takes.counted, takes.few) in
        let whole : kind.whole_lines next_reader ≤ length (gave.read ++ bytes) = omega (arith, gave.lines, takes.lines) in
        record {
          read = gave.read ++ bytes;
          has = takes.reads gave.read gave.has;
          short = sum;
          gave = more piece next ∙ ap (λ bs. prepend_known (gave.read ++ bs) (g.left new)) (sym is);
          lines = whole;
          counts = omega (arith, gave.counts, counts);
        }

  -- the reader takes the piece that an input gave
  pub piece_taken : (old new : I) (reader next_reader : R) (allowed count : ℕ) (piece bytes : List ℕ) → g.left old ≡ prepend_known piece (g.left new) → bytes ≡ piece
      → g.faults old ≤ g.faults new → (length bytes ≡ 0 → IsAtEnd (g.left new)) → TakesAll kind bytes allowed reader next_reader count
      → TakesPiece g kind old new reader next_reader allowed count
  piece_taken old new reader next_reader allowed count piece bytes next is counts end takes = record {
    more = λ first gave. piece_given first old new reader allowed gave next_reader count piece bytes next is counts takes;
    few = takes.few;
    end = λ none. end (sym takes.counted ∙ none);
  }

  -- the bytes that were given are all
  pub whole_shows : (P : List ℕ → Type 0) (first now : I) (reader : R) (allowed : ℕ) (gave : Gave g kind first now reader allowed) → IsAtEnd (g.left now) → P gave.read → IfSome (g.left first) P
  whole_shows P first now reader allowed gave end holds = given_whole P (g.left first) (g.left now) gave.read gave.gave end holds

  -- and they show the stop
  pub end_stops : (stop : Stop) (first now : I) (reader : R) (allowed : ℕ) (gave : Gave g kind first now reader allowed) → IsAtEnd (g.left now)
      → HasCause (kind.rules (kind.most reader)) gave.read stop → StopsFor (kind.rules (kind.most reader)) g first now stop
  end_stops stop first now reader allowed gave end shown =
      stops g (kind.rules (kind.most reader)) first now stop gave.read shown
      (whole_shows (λ bs. HasCause (kind.rules (kind.most reader)) bs stop) first now reader allowed gave end shown)
