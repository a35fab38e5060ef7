-- Why reading stops at the line that bytes begin with.
use Rattle.std.proofs.Common.{◌≡◌, ℕ, ◌+◌, ◌-◌, ◌<◌, ◌≤◌, inl, inr, ⊎_elim, Bool, true, false, List, [], ◌++◌, length, take, refl, arith, append-nil, length-append, Option, Some, None}
use Rattle.std.{proofs.lemmas.Bool.cases_lt, specs.Io.KnownBytes.prepend_known, proofs.lemmas.List.take-append-le, proofs.lemmas.Grind.common_steps}
use Rattle.std.proofs.Math.Seq.{take-append-add}
use Rattle.track_outside.specs.declared.source.Source.{Ghosts}
use Rattle.request_reader.specs.declared.stop.ReadStop.{ReadStop, TheVariants.{ReadFault, CutOff, InputTooLong, NoMemory}}
use Rattle.request_reader.specs.{Scripts.{input_limit, IsLine, IsTooLong, Ending, cut_off, unfinished, Ends, long, more, Reads, ReadsLeft}, Unread.Unread}
use Rattle.request_reader.specs.{Filling.{Gains, IsPast, IsFault, StopsFilling}, Next.GaveFew, Reading.StopsReading, Parts.Fails, Needs.NeedsMore}

pub nothing_given : (known : Option (List ℕ)) → known ≡ prepend_known [] known
nothing_given known = grind (arith, common_steps)

-- bytes with no whole piece in front read by their end
reads_end : (all : Bool) (at : ℕ) (bytes : List ℕ) (ending : Ending) → Ends all (at + 0) bytes [] ending → Reads all at bytes [] ending
reads_end all at bytes ending ends =
    record { front = []; back = bytes; asked = []; last = []; split = refl; told = refl; pieces = ([], (refl, refl)); ends = ends }

-- a line that has begun takes more to tell
pub line_reads : (at : ℕ) (bytes : List ℕ) → IsLine bytes → Reads false at bytes [] unfinished
line_reads at bytes line = reads_end false at bytes unfinished (more refl (inr line) refl refl)

-- a line that is too long reads so
long_reads : (all : Bool) (at : ℕ) (bytes : List ℕ) → IsTooLong bytes → Reads all at bytes [] (cut_off at)
long_reads all at bytes over = grind (arith, common_steps, reads_end)

-- a line stays too long
long_goes_on : (bytes behind : List ℕ) → IsTooLong bytes → IsTooLong (bytes ++ behind)
long_goes_on bytes behind over =
    let front : take 4_097 (bytes ++ behind) ≡ take 4_097 bytes = take-append-le 4_097 bytes behind (omega (arith, over.long)) in
    record { long = omega (arith, over.long, length-append bytes behind); no_feed = rw front over.no_feed }

-- the line is too long, whatever is left behind it
pub stops_long : (old : Unread) (before after : Option (List ℕ)) (f g : ℕ) → IsTooLong old.kept → old.before + length old.kept ≤ input_limit
    → StopsReading old before after f g (CutOff old.before)
stops_long old None after f g over within = tt
stops_long old (Some left) after f g over within =
    let all : List ℕ = old.kept ++ left in
    let gone_on : IsTooLong all = long_goes_on old.kept left over in
    by_le (old.before + length all) input_limit (ReadsLeft old.before all [] (cut_off old.before))
    (λ few. inl (few, long_reads true old.before all gone_on))
    (λ many. inr (many, long_reads false old.before (take (input_limit - old.before) all) (cut_to_limit old left over within)))
  where
    by_le : (m n : ℕ) (P : Type 0) → (m ≤ n → P) → (n < m → P) → P
    by_le m n P few many = ⊎_elim many few (cases_lt n m)

    cut_to_limit : (old : Unread) (left : List ℕ) → IsTooLong old.kept → old.before + length old.kept ≤ input_limit → IsTooLong (take (input_limit - old.before) (old.kept ++ left))
    cut_to_limit old left over within =
        let spare : ℕ = input_limit - old.before - length old.kept in
        let room : input_limit - old.before ≡ length old.kept + spare = omega (arith, within) in
        rw (room, take-append-add old.kept left spare) (long_goes_on old.kept (take spare left) over)

-- the source failed where it takes more to tell
stops_fault : (old : Unread) (before after : Option (List ℕ)) (f g : ℕ) → Reads false old.before old.kept [] unfinished
    → IsFault old before after f g → StopsReading old before after f g ReadFault
stops_fault old before after f g reads fault = grind (arith, common_steps)

pub some_same : {xs ys : List ℕ} → Some xs ≡ Some ys → xs ≡ ys
some_same same = cc

pub none_some : {xs : List ℕ} → Some xs ≡ None → ⊥
none_some same = cc

-- the limit came where it takes more to tell, and there is more behind it
stops_past : (old : Unread) (before after : Option (List ℕ)) (f g : ℕ) → Reads false old.before old.kept [] unfinished → IsPast old before after
    → StopsReading old before after f g InputTooLong
stops_past old before after f g reads past = grind (arith, common_steps)

-- why no more bytes were kept where it takes more to tell
pub stops_filling : (old : Unread) (before after : Option (List ℕ)) (f g : ℕ) (stop : ReadStop) → Reads false old.before old.kept [] unfinished
    → StopsFilling old before after f g stop → StopsReading old before after f g stop
stops_filling old before after f g ReadFault reads why = stops_fault old before after f g reads why
stops_filling old before after f g InputTooLong reads why = stops_past old before after f g reads why
stops_filling old before after f g (CutOff offset) reads why = absurd why
stops_filling old before after f g NoMemory reads why = tt

-- what was given came in two parts
pub prepend_twice : (one two : List ℕ) (known : Option (List ℕ)) → prepend_known one (prepend_known two known) ≡ prepend_known (one ++ two) known
prepend_twice one two known = grind (arith, common_steps)

-- nothing was given yet
pub gains_none : (a : Unread) (known : Option (List ℕ)) → a.before + length a.kept ≤ input_limit → Gains a a known known []
gains_none a known within = grind (arith, common_steps)

-- why reading stops after some bytes were given
pub stops_gain : (old new : Unread) (before mid after : Option (List ℕ)) (given : List ℕ) (e f g : ℕ) (stop : ReadStop)
    → Gains old new before mid given → e ≤ f → StopsReading new mid after f g stop → StopsReading old before after e g stop
stops_gain old new before mid after given e f g stop gains less why = grind (arith, common_steps)

-- it takes more still after some bytes were given
pub needs_more : (old new : Unread) (before after : Option (List ℕ)) (given : List ℕ) (total : ℕ) → Gains old new before after given
    → NeedsMore old total → NeedsMore new total
needs_more old new before after given total gains needs behind few = grind (arith, common_steps)

-- with fewer bytes than are needed it takes more
pub needs_now : (old : Unread) (total : ℕ) → NeedsMore old total → length old.kept < total → Reads false old.before old.kept [] unfinished
needs_now old total needs few = rw (append-nil old.kept) at (needs [] (rw (append-nil old.kept) few))

-- ---- few bytes were given

-- so far none was
pub few_none : (old : Unread) (known : Option (List ℕ)) → old.before + length old.kept ≤ input_limit → GaveFew old known known
few_none old known within = record { given = []; gave = nothing_given known; few = omega (arith, within) }

-- as many as are kept
pub few_kept : (old new : Unread) (before after : Option (List ℕ)) (given : List ℕ) → Gains old new before after given → GaveFew old before after
few_kept old new before after given gains = grind (arith, common_steps)

-- the same bytes were read so far
pub few_same : (a b : Unread) (before after : Option (List ℕ)) → a.before + length a.kept ≡ b.before + length b.kept
    → GaveFew a before after → GaveFew b before after
few_same a b before after same few = record { given = few.given; gave = few.gave; few = omega (arith, same, few.few) }

-- after some bytes were given
pub few_gain : (old new : Unread) (before mid after : Option (List ℕ)) (given : List ℕ) → Gains old new before mid given
    → GaveFew new mid after → GaveFew old before after
few_gain old new before mid after given gains few = grind (arith, common_steps, length, length-append, prepend_known, prepend_twice)

pub fails_gain : {S : Type 0} (g : Ghosts S) (old new : Unread) (from mid to : S) (given : List ℕ) (stop : ReadStop)
    → Gains old new (g.left from) (g.left mid) given → g.faults from ≤ g.faults mid → Fails g new mid to stop → Fails g old from to stop
fails_gain g old new from mid to given stop gains less fails = grind (arith, common_steps, stops_gain, few_gain)
