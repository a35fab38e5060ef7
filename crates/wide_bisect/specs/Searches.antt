-- A search by rounds: where it stands after each. Places count from 0 to n; the first is stated good, the last one bad.
use Rattle.std.specs.Prelude.{ℕ, ◌+◌, ◌-◌, ◌*◌, ◌/◌, Bool, true, false, not, ◌&&◌, ◌==◌, nat_lt, if◌then◌else◌, min, List, [], ◌∷◌, length, slice_index, slice_index_or, Option, Some, None, map, filter}
use Rattle.std.specs.List.{range_with_len}
use Rattle.wide_bisect.specs.declared.{said.Said.Said, outcome.WideOutcome.WideOutcome, outcome.WideOutcome.TheVariants.{Asks, Found, Undecided, Faulted}}
use Rattle.wide_bisect.specs.{declared.outcome.WideAnswered.WideAnswered, Answers.{is_among, bad_places, good_places, skipped_places, ending, greatest, least}}
use Rattle.wide_bisect.specs.declared.outcome.WideAnswered.TheVariants as answered

-- what is known of a search
pub record Search : Type 0 where
  -- how many places it asks at once, at most
  pub width : ℕ
  -- the last place known as good, and the first known as bad
  pub low : ℕ
  pub high : ℕ
  -- the places strictly between them that no round answered 125
  pub left : List ℕ
  -- how many rounds were answered
  pub rounds : ℕ
  pub outcome : WideOutcome

-- a search of these parts
abbrev pub search_of : (width low high : ℕ) (left : List ℕ) (rounds : ℕ) (outcome : WideOutcome) → Search
search_of width low high left rounds outcome = record {
  width = width;
  low = low;
  high = high;
  left = left;
  rounds = rounds;
  outcome = outcome;
}

abbrev pub is_running : WideOutcome → Bool
is_running Asks = true
is_running (Found lo hi skipped) = false
is_running (Undecided place status) = false
is_running (Faulted place) = false

-- it has found its ends where no place is open
abbrev pub settled : ℕ → ℕ → List ℕ → WideOutcome
settled low high left = if length left == 0 then Found low high (high - low - 1) else Asks

-- before any round
abbrev pub begun : ℕ → ℕ → Search
begun n k = record {
  width = k;
  low = 0;
  high = n;
  left = range_with_len 1 (n - 1);
  rounds = 0;
  outcome = settled 0 n (range_with_len 1 (n - 1));
}

-- how many places the next round asks: as many as it may, of those that are open
abbrev pub asks : Search → ℕ
asks s = if is_running s.outcome then min s.width (length s.left) else 0

-- the i-th of them, counted from 1: of m open places, those of q number i * (m + 1) / (q + 1), rounded down
abbrev pub place_in_round : Search → ℕ → ℕ
place_in_round s i = slice_index s.left (i * (length s.left + 1) / (asks s + 1) - 1)

abbrev pub asked : Search → List ℕ
asked s = map (place_in_round s) (range_with_len 1 (asks s))

-- the i-th place of the round with the i-th status
abbrev pub said_at : Search → List (Option ℕ) → ℕ → Said
said_at s statuses i = record { place = place_in_round s i; status = slice_index_or statuses (i - 1) None }

-- what the statuses say of the places of the round
abbrev pub said_of : Search → List (Option ℕ) → List Said
said_of s statuses = map (said_at s statuses) (range_with_len 1 (asks s))

-- how an answer ends the search
abbrev pub end_by : ℕ → Option ℕ → WideOutcome
end_by place None = Faulted place
end_by place (Some status) = Undecided place status

-- the least place answered bad becomes high
abbrev pub high_by : Search → List Said → ℕ
high_by s said = least s.high (bad_places said)

-- then the greatest place below it that was answered good becomes low
abbrev pub low_by : Search → List Said → ℕ
low_by s said = greatest s.low (filter (λ place. nat_lt place (high_by s said)) (good_places said))

-- a place stays open strictly between the ends, unless it was answered 125
abbrev pub stays : ℕ → ℕ → List Said → ℕ → Bool
stays low high said place = nat_lt low place && nat_lt place high && not (is_among place (skipped_places said))

abbrev pub open_by : Search → List Said → List ℕ
open_by s said = filter (stays (low_by s said) (high_by s said) said) s.left

-- after answers of which none ends it
abbrev pub moved : Search → List Said → Search
moved s said = record {
  width = s.width;
  low = low_by s said;
  high = high_by s said;
  left = open_by s said;
  rounds = s.rounds + 1;
  outcome = settled (low_by s said) (high_by s said) (open_by s said);
}

-- after an answer that ends it
abbrev pub ended : Search → Said → Search
ended s end = record s { rounds = s.rounds + 1; outcome = end_by end.place end.status }

abbrev pub after_end : Search → List Said → Option Said → Search
after_end s said None = moved s said
after_end s said (Some end) = ended s end

-- after a round: all its answers are taken together
abbrev pub after : Search → List (Option ℕ) → Search
after s statuses = after_end s (said_of s statuses) (ending (said_of s statuses))

-- what is answered to so many statuses
abbrev pub answer_to : Search → ℕ → WideAnswered
answer_to s count =
    if is_running s.outcome then (if count == asks s then answered.Ok else answered.WrongCount (asks s))
    else answered.Closed s.outcome

-- after some rounds
abbrev pub after_all : Search → List (List (Option ℕ)) → Search
after_all s [] = s
after_all s (statuses ∷ rounds) = after_all (after s statuses) rounds
