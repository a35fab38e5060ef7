-- What a reader has of an input that is read in pieces.
use Rattle.std.specs.{Prelude.{◌≡◌, ◌≢◌, ℕ, ◌+◌, ◌-◌, ◌^◌, ◌≤◌, List, [], ◌∷◌, ◌++◌, length, All}, Io.KnownBytes.{prepend_known, IsAtEnd}}
use Rattle.track_outside.specs.{declared.source.Source.Ghosts, Calls.GaveAtMost}
use Rattle.line_pieces.specs.declared.stop.{Refusal.Refusal, Stop.Stop, Stop.TheVariants.{Refused, NoMemory}}
use Rattle.line_pieces.specs.Stops.{Rules, BytesShow, StopsFor}

-- bytes within a line
abbrev pub HasNoLineFeed : List ℕ → Type 0
HasNoLineFeed bytes = All (λ b. b ≢ 10) bytes

-- a line is refused, of which this holds, or memory is wanting
abbrev pub OnRefused : (Refusal → ℕ → Type 0) → Stop → Type 0
OnRefused Holds (Refused why k) = Holds why k
OnRefused Holds NoMemory = Unit {0}
OnRefused Holds stop = ⊥

-- a kind of reader: what it is to have read some bytes, how many whole lines one counts, and what
-- lines must be, by a limit that it has
pub record Reading (R : Type 0) : Type 1 where
  pub has_read : List ℕ → R → Type 0
  pub whole_lines : R → ℕ
  pub most : R → ℕ
  pub rules : ℕ → Rules

-- the bytes show the stop, or memory is wanting
abbrev pub HasCause : Rules → List ℕ → Stop → Type 0
HasCause rules bytes NoMemory = Unit {0}
HasCause rules bytes stop = BytesShow rules bytes stop

-- ---- what a call does to a reader, whatever it had read before

-- it has read these bytes more
abbrev pub ReadsMore : {R : Type 0} → Reading R → List ℕ → R → R → Type 0
ReadsMore kind bytes old new =
    (read : List ℕ) → kind.has_read read old → kind.has_read (read ++ bytes) new

-- these bytes more show that a line is refused, whatever comes behind them
abbrev pub MoreRefused : {R : Type 0} → Reading R → List ℕ → R → Stop → Type 0
MoreRefused kind bytes old stop =
    (read rest : List ℕ) → kind.has_read read old → length (read ++ bytes) ≤ 2 ^ 30
    → HasCause (kind.rules (kind.most old)) ((read ++ bytes) ++ rest) stop

-- its last line is refused, where the bytes end
abbrev pub EndRefused : {R : Type 0} → Reading R → R → Stop → Type 0
EndRefused kind old stop =
    (read : List ℕ) → kind.has_read read old → length read ≤ 2 ^ 30
    → HasCause (kind.rules (kind.most old)) read stop

-- its last line is refused, where the bytes end and where a line feed comes
abbrev pub LastRefused : {R : Type 0} → Reading R → R → Stop → Type 0
LastRefused kind old stop = EndRefused kind old stop × MoreRefused kind (10 ∷ []) old stop

-- what it has read may go on
abbrev pub IsOpen : {R : Type 0} → Reading R → R → Type 0
IsOpen kind old =
    (read : List ℕ) → kind.has_read read old → (kind.rules (kind.most old)).goes_on read

-- whatever it had read of an input, of which this many bytes more are allowed, these bytes more
-- have the cause of the stop, whatever comes behind them
abbrev pub MoreHasCause : {R : Type 0} → Reading R → List ℕ → ℕ → R → Stop → Type 0
MoreHasCause kind bytes allowed old stop =
    (read rest : List ℕ) → kind.has_read read old → length read + allowed ≡ 2 ^ 30
    → HasCause (kind.rules (kind.most old)) ((read ++ bytes) ++ rest) stop

-- ---- an input and its reader

-- the input gave some bytes since the first state, the reader has them, and this many more are
-- allowed
pub record Gave {I R : Type 0} (g : Ghosts I) (kind : Reading R) (first now : I) (reader : R)
    (allowed : ℕ) : Type 0 where
  pub read : List ℕ
  pub has : kind.has_read read reader
  pub short : length read + allowed ≡ 2 ^ 30
  pub gave : g.left first ≡ prepend_known read (g.left now)
  pub lines : kind.whole_lines reader ≤ length read
  pub counts : g.faults first ≤ g.faults now

-- it gave all that it has
pub record ReadsWhole {I R : Type 0} (g : Ghosts I) (kind : Reading R) (first now : I) (reader : R)
    : Type 0 where
  pub allowed : ℕ
  pub gave : Gave g kind first now reader allowed
  pub whole : IsAtEnd (g.left now)

-- the reader took all of the bytes, which are as many as this and no more than are allowed
pub record TakesAll {R : Type 0} (kind : Reading R) (bytes : List ℕ) (allowed : ℕ) (old new : R)
    (count : ℕ) : Type 0 where
  pub counted : count ≡ length bytes
  pub few : count ≤ allowed
  pub lines : kind.whole_lines new ≤ kind.whole_lines old + length bytes
  pub reads : (read : List ℕ) → kind.has_read read old → kind.has_read (read ++ bytes) new

-- the reader took the bytes that the input gave next, this many and no more than are allowed: none
-- only at the end. Whatever the input gave since a first state, it has that and these
pub record TakesPiece {I R : Type 0} (g : Ghosts I) (kind : Reading R) (old new : I)
    (before after : R) (allowed count : ℕ) : Type 0 where
  pub more : (first : I) → Gave g kind first old before allowed
      → Gave g kind first new after (allowed - count)
  pub few : count ≤ allowed
  pub end : count ≡ 0 → IsAtEnd (g.left new)

-- whatever it gave since a first state, it gave no more than an input may be asked for
abbrev pub GivesFew : {I R : Type 0} → Ghosts I → Reading R → I → I → R → ℕ → Type 0
GivesFew {I} g kind old new before allowed =
    (first : I) → Gave g kind first old before allowed
    → GaveAtMost (2 ^ 30 + 1) (g.left first) (g.left new)

-- whatever it gave since a first state, it stopped for this
abbrev pub GivesStop : {I R : Type 0} → Ghosts I → Reading R → I → I → R → ℕ → Stop → Type 0
GivesStop {I} g kind old new before allowed stop =
    (first : I) → Gave g kind first old before allowed
    → StopsFor (kind.rules (kind.most before)) g first new stop
