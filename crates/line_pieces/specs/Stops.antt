-- Why reading of the lines of an input stops.
use Rattle.std.specs.{Prelude.{◌≡◌, ℕ, ◌^◌, ◌<◌, List, length, take, Option, IfSome}, Io.KnownBytes.prepend_known}
use Rattle.track_outside.specs.{declared.source.Source.Ghosts, Counts.Rose}
use Rattle.line_pieces.specs.declared.stop.{Refusal.Refusal, Stop.Stop, Stop.TheVariants.{Fault, TooLong, Refused, NoMemory}}

-- what lines must be: the bytes of an input refuse line k, counted from 1, for this reason, and the
-- first bytes of one may go on
pub record Rules : Type 1 where
  pub refuses : Refusal → List ℕ → ℕ → Type 0
  pub goes_on : List ℕ → Type 0

-- the bytes of an input that are read at most
abbrev pub within_limit : List ℕ → List ℕ
within_limit bytes = take (2 ^ 30) bytes

-- no line within the limit is refused, and there are more bytes
abbrev pub IsTooLong : Rules → List ℕ → Type 0
IsTooLong rules bytes = (2 ^ 30 < length bytes) × rules.goes_on (within_limit bytes)

-- the bytes of an input show that reading stops so; they never show a fault or want of memory
abbrev pub BytesShow : Rules → List ℕ → Stop → Type 0
BytesShow rules bytes TooLong = IsTooLong rules bytes
BytesShow rules bytes (Refused why k) = rules.refuses why bytes k
BytesShow rules bytes stop = ⊥

-- no bytes show two stops
abbrev pub OneStop : Rules → Type 0
OneStop rules =
    (bytes : List ℕ) (one other : Stop) → BytesShow rules bytes one → BytesShow rules bytes other
    → one ≡ other

-- the bytes that an input gave may go on, where it tells those that are left before and after
pub record GaveMayGoOn (rules : Rules) (before after : Option (List ℕ)) : Type 0 where
  pub given : List ℕ
  pub gave : before ≡ prepend_known given after
  pub may_go_on : rules.goes_on given

-- why reading of an input stopped: at a fault its count rose, and what it gave may go on; else its
-- bytes show the stop, where it tells them; and of want of memory nothing is said
abbrev pub StopsFor : Rules → {I : Type 0} → Ghosts I → I → I → Stop → Type 0
StopsFor rules g old new Fault =
    Rose (g.faults old) (g.faults new) × GaveMayGoOn rules (g.left old) (g.left new)
StopsFor rules g old new NoMemory = Unit {0}
StopsFor rules g old new stop = IfSome (g.left old) (λ bytes. BytesShow rules bytes stop)
