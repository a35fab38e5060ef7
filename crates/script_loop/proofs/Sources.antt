-- The same of an input, which may tell its bytes or not.
use Rattle.std.proofs.Common.{◌≡◌, ℕ, ◌+◌, ◌≤◌, inl, inr, Bool, true, false, List, [], ◌∷◌, ◌++◌, length, Option, None, Some, IfSome, Err, refl, sym, ap, subst, ◌∙◌, arith, append_assoc, length-append}
use Rattle.std.{specs.Io.KnownBytes.{prepend_known, IsAtEnd}, proofs.lemmas.Option.none-some}
use Rattle.track_outside.specs.{declared.source.Source.Ghosts, Calls.GaveAtMost}
use Rattle.request_reader.specs.{declared.asked.Asked.Asked, declared.stop.ReadStop.ReadStop, Scripts.{end, cut_off, unfinished, Reads, IsScript, input_limit}}
use Rattle.request_reader.specs.declared.stop.ReadStop.TheVariants as stop
use Rattle.request_words.specs.Bodies.{Item}
use Rattle.request_reader.specs.{Unread.{Unread, nothing_read, GivesOpen}, Next.{items_of, Takes, TakesWhole, TakesLast, ReadsNext, Gave, GaveFew}}
use Rattle.request_reader.specs.Reading.{PiecesComeFirst, PiecesJoin, StopsReading, TakesPast}
use Rattle.script_loop.specs.{Stops.stop_of, Outputs.AsksFirst, Endings.{GaveOpen, HasRead}, Turns.HasTaken}
use Rattle.script_loop.proofs.Reading.{whole_join, whole_asks, script_ends, script_stops, gave_open}

prepend_known-append : (given more : List ℕ) (known : Option (List ℕ)) → prepend_known given (prepend_known more known) ≡ prepend_known (given ++ more) known
prepend_known-append given more None = refl
prepend_known-append given more (Some bytes) = ap Some (sym (append_assoc given more bytes))

prepend_known-nil : (known : Option (List ℕ)) → known ≡ prepend_known [] known
prepend_known-nil None = refl
prepend_known-nil (Some bytes) = refl

-- ---- from what is said of bytes to what is said where they are told
module _ {P Q R : List ℕ → List ℕ → Type 0} (f : (bytes left rest : List ℕ) → P bytes left → Q left rest → R bytes rest) where
  joined : (before between after : Option (List ℕ)) (given : List ℕ) → before ≡ prepend_known given between
      → IfSome before (λ b. IfSome between (P b)) → IfSome between (λ l. IfSome after (Q l)) → IfSome before (λ b. IfSome after (R b))
  joined None between after given gave one two = tt
  joined (Some bytes) None after given gave one two = absurd (none-some bytes (sym gave))
  joined (Some bytes) (Some left) None given gave one two = tt
  joined (Some bytes) (Some left) (Some rest) given gave one two = f bytes left rest one two

module _ {P : List ℕ → List ℕ → Type 0} {Q R : List ℕ → Type 0} (f : (bytes left : List ℕ) → P bytes left → Q left → R bytes) where
  onto : (before between : Option (List ℕ)) (given : List ℕ) → before ≡ prepend_known given between
      → IfSome before (λ b. IfSome between (P b)) → IfSome between Q → IfSome before R
  onto None between given gave one two = tt
  onto (Some bytes) None given gave one two = absurd (none-some bytes (sym gave))
  onto (Some bytes) (Some left) given gave one two = f bytes left one two

-- what is said of all that is left, and of nothing behind it
always : (known : Option (List ℕ)) → IfSome known (λ bytes. Unit {0})
always None = tt
always (Some bytes) = tt

drop_after : (Q : List ℕ → Type 0) (between after : Option (List ℕ)) (given : List ℕ) → between ≡ prepend_known given after
    → IfSome between (λ l. IfSome after (λ rest. Q l)) → IfSome between Q
drop_after Q None after given gave told = tt
drop_after Q (Some left) None given gave told = absurd (none-some left (sym gave))
drop_after Q (Some left) (Some rest) given gave told = told

nil_behind : (kept rest : List ℕ) → kept ++ rest ≡ [] → rest ≡ []
nil_behind [] rest is = is
nil_behind (b ∷ kept) rest is = absurd (let no : length (b ∷ (kept ++ rest)) ≡ 0 = ap length is in omega (arith, no))

open_left : (first : PiecesComeFirst) (before between after : Option (List ℕ)) (given : List ℕ) (lines : Unread) (items : List Item) → before ≡ prepend_known given between
    → IfSome before (λ bytes. IfSome between (λ left. TakesWhole 0 bytes items lines.before (lines.kept ++ left)))
    → GivesOpen lines between after → IfSome before (λ bytes. GaveOpen bytes after items)
open_left first None between after given lines items gave whole told = tt
open_left first (Some bytes) None after given lines items gave whole told = absurd (none-some bytes (sym gave))
open_left first (Some bytes) (Some left) None given lines items gave whole told = absurd (none-some left (sym told.gave))
open_left first (Some bytes) (Some left) (Some rest) given lines items gave whole told =
    let is : left ≡ told.given ++ rest = let same : Some left ≡ Some (told.given ++ rest) = told.gave in cc in
    gave_open bytes (lines.kept ++ left) items lines.before whole first lines.kept told.given rest (ap (λ bs. lines.kept ++ bs) is) told.within told.reads

-- ---- an input, call by call
module _ {I : Type 0} (g : Ghosts I) (start : I) where
  pub taken_none : (lines : Unread) → lines ≡ nothing_read → HasTaken g start start lines []
  taken_none lines is = subst (λ l. HasTaken g start start l []) (sym is) (record {
    takes = none (g.left start);
    given = [];
    gave = prepend_known-nil (g.left start);
    counted = refl;
    within = omega arith;
    counts = omega arith;
  })
    where
      none : (known : Option (List ℕ)) → IfSome known (λ bytes. IfSome known (λ left. TakesWhole 0 bytes [] 0 ([] ++ left)))
      none None = tt
      none (Some bytes) = record { used = []; split = refl; place = refl; pieces = ([], (refl, refl)) }

  module _ (old new : I) (lines after : Unread) (items : List Item) (taken : HasTaken g start old lines items) where
    gave_next : (given : List ℕ) → g.left old ≡ prepend_known given (g.left new) → g.left start ≡ prepend_known (taken.given ++ given) (g.left new)
    gave_next given next = taken.gave ∙ ap (prepend_known taken.given) next ∙ prepend_known-append taken.given given (g.left new)

    pub taken_next : PiecesJoin → (asked : Asked) → ReadsNext lines after (g.left old) (g.left new) asked → Gave lines after (g.left old) (g.left new)
        → g.faults old ≤ g.faults new → after.ended ≡ false → HasTaken g start new after (items ++ items_of asked)
    taken_next join asked next gave counts goes = record {
      takes = joined (λ bytes left rest one two. whole_join bytes (lines.kept ++ left) items lines.before one join (items_of asked) after.before (after.kept ++ rest)
          (subst (λ b. Takes b lines.before (lines.kept ++ left) (items_of asked) after.before (after.kept ++ rest)) goes two))
          (g.left start) (g.left old) (g.left new) taken.given taken.gave taken.takes next;
      given = taken.given ++ gave.given;
      gave = gave_next gave.given gave.gave;
      counted = omega (arith, gave.counted, taken.counted, length-append taken.given gave.given);
      within = gave.within;
      counts = omega (arith, taken.counts, counts);
    }

    pub asks_these : IfSome (g.left start) (λ bytes. AsksFirst bytes items)
    asks_these = onto {Q = λ left. Unit {0}} (λ bytes left one two. whole_asks bytes (lines.kept ++ left) items lines.before one (omega (arith, taken.within))) (g.left start) (g.left old) taken.given taken.gave taken.takes (always (g.left old))

    pub ends_here : PiecesComeFirst → (asked : Asked) → ReadsNext lines after (g.left old) (g.left new) asked → Gave lines after (g.left old) (g.left new)
        → after.ended ≡ true → IfSome (g.left start) (λ bytes. IsScript bytes (items ++ items_of asked) end)
    ends_here first asked next gave stopped =
        onto (λ bytes left one two. script_ends bytes (lines.kept ++ left) items lines.before one first (items_of asked) end two.0 two.1)
        (g.left start) (g.left old) taken.given taken.gave taken.takes
        (drop_after (λ left. (lines.before + length (lines.kept ++ left) ≤ input_limit) × Reads true lines.before (lines.kept ++ left) (items_of asked) end) (g.left old) (g.left new) gave.given gave.gave (last (g.left old) (g.left new) next))
      where
        last : (between behind : Option (List ℕ)) → ReadsNext lines after between behind asked
            → IfSome between (λ left. IfSome behind (λ rest. (lines.before + length (lines.kept ++ left) ≤ input_limit) × Reads true lines.before (lines.kept ++ left) (items_of asked) end))
        last None behind told = tt
        last (Some left) None told = tt
        last (Some left) (Some rest) told =
            let it : TakesLast lines.before (lines.kept ++ left) (items_of asked) (after.kept ++ rest) =
            subst (λ b. Takes b lines.before (lines.kept ++ left) (items_of asked) after.before (after.kept ++ rest)) stopped told in
            (it.short, it.reads)

    pub nothing_left : (asked : Asked) → ReadsNext lines after (g.left old) (g.left new) asked → Gave lines after (g.left old) (g.left new) → after.ended ≡ true
        → IsAtEnd (g.left new)
    nothing_left asked next gave stopped = none (g.left old) (g.left new) gave.gave next
      where
        none : (between behind : Option (List ℕ)) → between ≡ prepend_known gave.given behind → ReadsNext lines after between behind asked → IsAtEnd behind
        none between None gives told = tt
        none None (Some rest) gives told = absurd (none-some (gave.given ++ rest) gives)
        none (Some left) (Some rest) gives told =
            let it : TakesLast lines.before (lines.kept ++ left) (items_of asked) (after.kept ++ rest) =
            subst (λ b. Takes b lines.before (lines.kept ++ left) (items_of asked) after.before (after.kept ++ rest)) stopped told in
            nil_behind after.kept rest it.none

    -- what was read is asked first, whether reading goes on or not
    pub asks_more : PiecesComeFirst → PiecesJoin → (asked : Asked) → ReadsNext lines after (g.left old) (g.left new) asked → Gave lines after (g.left old) (g.left new)
        → g.faults old ≤ g.faults new → IfSome (g.left start) (λ bytes. AsksFirst bytes (items ++ items_of asked))
    asks_more first join asked next gave counts = by (after.ended) refl
      where
        by : (b : Bool) → after.ended ≡ b → IfSome (g.left start) (λ bytes. AsksFirst bytes (items ++ items_of asked))
        by true is = whole (g.left start) (ends_here first asked next gave is)
          where
            whole : (known : Option (List ℕ)) → IfSome known (λ bytes. IsScript bytes (items ++ items_of asked) end) → IfSome known (λ bytes. AsksFirst bytes (items ++ items_of asked))
            whole None told = tt
            whole (Some bytes) told = inr told
        by false is =
            let more : HasTaken g start new after (items ++ items_of asked) = taken_next join asked next gave counts is in
            onto {Q = λ left. Unit {0}} (λ bytes left one two. whole_asks bytes (after.kept ++ left) (items ++ items_of asked) after.before one (omega (arith, more.within)))
            (g.left start) (g.left new) more.given more.gave more.takes (always (g.left new))

    pub stops : PiecesComeFirst → (why : ReadStop) → g.faults old ≤ g.faults new → StopsReading lines (g.left old) (g.left new) (g.faults old) (g.faults new) why
        → HasRead g start new items (Err (stop_of why))
    stops first stop.ReadFault counts told =
        (omega (arith, told.0, taken.counts), open_left first (g.left start) (g.left old) (g.left new) taken.given lines items taken.gave taken.takes told.1)
    stops first (stop.CutOff offset) counts told =
        onto (λ bytes left one two. script_stops bytes (lines.kept ++ left) items lines.before one first (cut_off offset) (omega (arith, taken.within)) two)
        (g.left start) (g.left old) taken.given taken.gave taken.takes told
    stops first stop.InputTooLong counts told =
        onto {Q = λ left. TakesPast lines.before (lines.kept ++ left)} (λ bytes left one two. script_stops bytes (lines.kept ++ left) items lines.before one first unfinished (omega (arith, taken.within)) (inr (two.long, two.reads)))
        (g.left start) (g.left old) taken.given taken.gave taken.takes told
    stops first stop.NoMemory counts told = asks_these

    pub few_stop : GaveFew lines (g.left old) (g.left new) → GaveAtMost (input_limit + 1) (g.left start) (g.left new)
    few_stop gave = record {
      given = taken.given ++ gave.given;
      gave = gave_next gave.given gave.gave;
      few = omega (arith, gave.few, taken.counted, length-append taken.given gave.given);
    }

    pub few_next : Gave lines after (g.left old) (g.left new) → GaveAtMost (input_limit + 1) (g.left start) (g.left new)
    few_next gave = record {
      given = taken.given ++ gave.given;
      gave = gave_next gave.given gave.gave;
      few = omega (arith, gave.counted, gave.within, taken.counted, length-append taken.given gave.given);
    }

  pub asks_none : IfSome (g.left start) (λ bytes. AsksFirst bytes [])
  asks_none = none (g.left start)
    where
      none : (known : Option (List ℕ)) → IfSome known (λ bytes. AsksFirst bytes [])
      none None = tt
      none (Some bytes) = inl ([], bytes, refl, omega arith, ([], (refl, refl)))
