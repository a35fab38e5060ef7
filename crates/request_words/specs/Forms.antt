-- The forms of a request line, and the words of each.
use Rattle.std.specs.Prelude.{◌≡◌, ℕ, ◌^◌, ◌<◌, ◌≤◌, Bool, true, false, List, [], ◌∷◌, length, map, option_to_list, decimal, codes, Option, IfSome}
use Rattle.std.specs.{List.AllByRecursion, Str.Parse.digits_value}
use Rattle.percent_encoding.specs.Percent.{percent_decode}
use Rattle.line_text.specs.{Lines.words_of, Names.Spells, Numbers.IsNumber}
use Rattle.regression_state.specs.{declared.states.State.State, Moves.word}
use Rattle.segment_model.specs.Limits.{IsLength}
use Rattle.request_model.specs.Factors.{IsFactor}
use Rattle.request_words.specs.declared.verb.{JobVerb.JobVerb, JobVerb.TheVariants.{Resume, Job}, MachineVerb.MachineVerb, NumberVerb.NumberVerb, SeriesVerb.SeriesVerb}
use Rattle.request_words.specs.declared.verb.MachineVerb.TheVariants as of_machine
use Rattle.request_words.specs.declared.verb.{NumberVerb.TheVariants.{Calibrate, Regress}, SeriesVerb.TheVariants.{Segment, Changes, Verify}}

-- a form, with its words that spell names or a number of any size, its numbers, and what else its words say
pub data Form : Type 0 where
  machine : (m : List ℕ) → Form
  commit : (m : List ℕ) (number : ℕ) (name : List ℕ) → Form
  submit_go : (m c r : List ℕ) (len : ℕ) → Form
  submit_lnt : (m r : List ℕ) (len : ℕ) → Form
  retract : (m r : List ℕ) → Form
  tune : (m metric penalty : List ℕ) (given : Option ℕ) → Form
  of_number : (asked : NumberVerb) (m test metric : List ℕ) (number : ℕ) → Form
  of_series : (asked : SeriesVerb) (m test metric : List ℕ) → Form
  set_state : (m : List ℕ) (regression : ℕ) (state : State) → Form
  bisect : (m lo hi : List ℕ) → Form
  answer : (m : List ℕ) (job : ℕ) (c : List ℕ) (status : ℕ) → Form
  of_job : (asked : JobVerb) (m : List ℕ) (job : ℕ) → Form
  runs : (m : List ℕ) → Form
  report : (m : List ℕ) (json : Bool) → Form

-- the word by which a machine is made or its runs are listed, and the form of such a line
abbrev pub machine_word : MachineVerb → List ℕ
machine_word of_machine.Machine = codes "machine"
machine_word of_machine.Runs = codes "runs"

abbrev pub machine_form : MachineVerb → List ℕ → Form
machine_form of_machine.Machine m = machine m
machine_form of_machine.Runs m = runs m

-- the word by which a series is segmented, its changes are listed or its certificate is shown
abbrev pub series_word : SeriesVerb → List ℕ
series_word Segment = codes "segment"
series_word Changes = codes "changes"
series_word Verify = codes "verify"

-- the word by which a penalty is made of a series' noise, or a change of it is raised
abbrev pub number_verb : NumberVerb → List ℕ
number_verb Calibrate = codes "calibrate"
number_verb Regress = codes "regress"

-- the word by which a bisection is resumed or shown
abbrev pub job_word : JobVerb → List ℕ
job_word Resume = codes "resume"
job_word Job = codes "job"

-- the word for a report as JSON or as text
abbrev pub report_word : Bool → List ℕ
report_word true = codes "json"
report_word false = codes "text"

-- the words of a line of the form
abbrev pub words_in : Form → List (List ℕ)
words_in (machine m) = codes "machine" ∷ m ∷ []
words_in (commit m number name) = codes "commit" ∷ m ∷ decimal number ∷ name ∷ []
words_in (submit_go m c r len) = codes "submit" ∷ codes "go" ∷ m ∷ c ∷ r ∷ decimal len ∷ []
words_in (submit_lnt m r len) = codes "submit" ∷ codes "lnt" ∷ m ∷ r ∷ decimal len ∷ []
words_in (retract m r) = codes "retract" ∷ m ∷ r ∷ []
words_in (tune m metric penalty given) = codes "tune" ∷ m ∷ metric ∷ penalty ∷ map decimal (option_to_list given)
words_in (of_number asked m test metric number) = number_verb asked ∷ m ∷ test ∷ metric ∷ decimal number ∷ []
words_in (of_series asked m test metric) = series_word asked ∷ m ∷ test ∷ metric ∷ []
words_in (set_state m regression state) = codes "state" ∷ m ∷ decimal regression ∷ word state ∷ []
words_in (bisect m lo hi) = codes "bisect" ∷ m ∷ lo ∷ hi ∷ []
words_in (answer m job c status) = codes "answer" ∷ m ∷ decimal job ∷ c ∷ decimal status ∷ []
words_in (of_job asked m job) = job_word asked ∷ m ∷ decimal job ∷ []
words_in (runs m) = codes "runs" ∷ m ∷ []
words_in (report m json) = codes "report" ∷ m ∷ report_word json ∷ []

-- the words that must spell names
abbrev pub names_in : Form → List (List ℕ)
names_in (machine m) = m ∷ []
names_in (commit m number name) = m ∷ name ∷ []
names_in (submit_go m c r len) = m ∷ c ∷ r ∷ []
names_in (submit_lnt m r len) = m ∷ r ∷ []
names_in (retract m r) = m ∷ r ∷ []
names_in (tune m metric penalty given) = m ∷ metric ∷ []
names_in (of_number asked m test metric number) = m ∷ test ∷ metric ∷ []
names_in (of_series asked m test metric) = m ∷ test ∷ metric ∷ []
names_in (set_state m regression state) = m ∷ []
names_in (bisect m lo hi) = m ∷ lo ∷ hi ∷ []
names_in (answer m job c status) = m ∷ c ∷ []
names_in (of_job asked m job) = m ∷ []
names_in (runs m) = m ∷ []
names_in (report m json) = m ∷ []

-- the numbers, which must fit 64 bits
abbrev pub numbers_in : Form → List ℕ
numbers_in (commit m number name) = number ∷ []
numbers_in (submit_go m c r len) = len ∷ []
numbers_in (submit_lnt m r len) = len ∷ []
numbers_in (tune m metric penalty given) = option_to_list given
numbers_in (of_number asked m test metric number) = number ∷ []
numbers_in (set_state m regression state) = regression ∷ []
numbers_in (answer m job c status) = job ∷ status ∷ []
numbers_in (of_job asked m job) = job ∷ []
numbers_in form = []

-- a status fits 8 bits
abbrev pub HasStatus : Form → Type 0
HasStatus (answer m job c status) = status < 2 ^ 8
HasStatus form = Unit {0}

-- the words that must be numbers, of any size
abbrev pub amounts_in : Form → List (List ℕ)
amounts_in (tune m metric penalty given) = penalty ∷ []
amounts_in form = []

-- how many bytes behind the line belong to it
abbrev pub body_length : Form → ℕ
body_length (submit_go m c r len) = len
body_length (submit_lnt m r len) = len
body_length form = 0

-- the line is of the form
pub record IsOfForm (line : List ℕ) (form : Form) : Type 0 where
  pub words : words_of line ≡ words_in form
  pub numbers : AllByRecursion (λ n. n < 2 ^ 64) (numbers_in form)
  pub amounts : AllByRecursion IsNumber (amounts_in form)
  pub status : HasStatus form

-- the line is of no form
abbrev pub HasNoForm : List ℕ → Type 0
HasNoForm line = (form : Form) → ¬ IsOfForm line form

-- the bytes that a word stands for
abbrev pub name_of : List ℕ → List ℕ
name_of word = percent_decode word

-- the word spells a name
abbrev pub SpellsName : List ℕ → Type 0
SpellsName word = Spells word (name_of word)

-- a metric's name has at most 64 bytes
abbrev pub HasShortMetric : Form → Type 0
HasShortMetric (tune m metric penalty given) = length (name_of metric) ≤ 64
HasShortMetric (of_number asked m test metric number) = length (name_of metric) ≤ 64
HasShortMetric (of_series asked m test metric) = length (name_of metric) ≤ 64
HasShortMetric form = Unit {0}

-- the words that must spell names do, and that of a metric a short one
pub record IsNamed (form : Form) : Type 0 where
  pub names : AllByRecursion SpellsName (names_in form)
  pub metric : HasShortMetric form

-- a factor that a penalty is made by is from 1 to 1,000, and a change has any number
abbrev pub IsNumberOf : NumberVerb → ℕ → Type 0
IsNumberOf Calibrate number = IsFactor number
IsNumberOf Regress number = Unit {0}

-- a penalty is at most 10^36
abbrev pub IsInRange : Form → Type 0
IsInRange (tune m metric penalty given) = digits_value 10 penalty ≤ 10 ^ 36
IsInRange (of_number asked m test metric number) = IsNumberOf asked number
IsInRange form = Unit {0}

-- a least length, where one is given, is from 1 to 64
abbrev pub HasLength : Form → Type 0
HasLength (tune m metric penalty given) = IfSome given IsLength
HasLength form = Unit {0}
