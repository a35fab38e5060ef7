-- A machine with its history, and what a request makes of it.
use Rattle.std.specs.Prelude.{◌≡◌, ◌≢◌, ℕ, ◌==◌, Bool, true, ◌&&◌, if◌then◌else◌, List, [], ◌∷◌, ◌++◌, Option, Some, None}
use Rattle.std.specs.{Coded.{Coded, code_by, coded×, coded_list, coded_ℕ}, Ordering.int_eq}
use Rattle.std.specs.FinSet as set
use mathlib.Core.Path.{refl}
use Rattle.history_model.specs.{SeriesOrder.series_cmp, declared.entries.Author.Author, declared.entries.Entry.Entry, declared.entries.Placed.Placed}
use Rattle.request_model.specs.declared.{replies.Reply.Reply, requests.Request.Request}
use Rattle.history_model.specs.{Entries.entries_of, declared.setting.Setting.Setting, Runs.Series, declared.publication.Publication.Publication}
use Rattle.track_model.specs.Following as following
use Rattle.track_model.specs.Forms as forms
use Rattle.track_model.specs.{Outcomes.{Outcome, tells}, Publishing.{CalibrateComesTo, SegmentComesTo, ChangesComeTo, VerifyComesTo}, Reports.ReportComesTo}
use Rattle.request_model.specs.declared.requests.Request.TheVariants as request
use Rattle.request_model.specs.declared.replies.Answer.TheVariants as answer
use Rattle.history_model.specs.declared.entries.Entry.TheVariants as entry
use Rattle.history_model.specs.{Penalties.setting_of, Publications.{last_publication, published, spoken_of}}
use Rattle.track_model.specs.Replies.{reply_of}

-- a machine, whether the store had it, its history, and the series whose tables are home
pub record Track : Type 0 where
  pub machine : List ℕ
  pub kept : Bool
  pub history : List Placed
  pub home : set.FinSet series_cmp

-- how contracts tell such sets apart
abbrev pub coded_series : Coded Series
coded_series = code_by (List ℕ × List ℕ) (coded× (coded_list coded_ℕ) (coded_list coded_ℕ)) (λ s. (s.test, s.metric)) (λ p. record { test = p.0; metric = p.1 }) (λ s. refl)

abbrev pub coded_home : Coded (set.FinSet series_cmp)
coded_home = set.code coded_series

-- a machine of which nothing is known yet
abbrev pub new_track : List ℕ → Bool → Track
new_track machine kept = record { machine = machine; kept = kept; history = []; home = set.empty }

-- the track with an entry more
abbrev pub with_entry : Author → Track → Entry → Track
with_entry author t e =
    record { machine = t.machine; kept = t.kept; history = t.history ++ record { author = author; entry = e } ∷ []; home = t.home }

-- the track with the entry of an outcome, if it has one
abbrev pub with_added : Author → Track → Option Entry → Track
with_added author t None = t
with_added author t (Some e) = with_entry author t e

abbrev pub with_outcome : Author → Track → Outcome → Track
with_outcome author t o = with_added author t o.adds

-- a request came to an outcome: the track has its entry, and the reply tells its answer
pub record IsStep (old : Track) (author : Author) (o : Outcome) (new : Track) (reply : Reply) : Type 0 where
  pub track : new ≡ with_outcome author old o
  pub told : reply ≡ reply_of (entries_of old.history) o

-- a request came to an outcome that adds nothing, and the reply tells its answer
pub record IsTold (old : Track) (o : Outcome) (reply : Reply) : Type 0 where
  pub adds : o.adds ≡ None
  pub told : reply ≡ reply_of (entries_of old.history) o

-- ---- tables at home

-- the track with these tables at home
abbrev pub with_home : set.FinSet series_cmp → Track → Track
with_home home t = record { machine = t.machine; kept = t.kept; history = t.history; home = home }

-- two settings are one
abbrev pub is_setting : Setting → Setting → Bool
is_setting a b = int_eq a.penalty b.penalty && (a.length == b.length)

-- the version of a publication, where its metric's setting there is the present one; else 0
abbrev pub version_at : List Entry → Option Publication → ℕ
version_at h None = 0
version_at h (Some p) = if is_setting (setting_of p.metric (spoken_of h p)) (setting_of p.metric h) then p.version else 0

-- the base of a series' next segmentation: that of its last publication, where the table of that is home
abbrev pub base_of : Track → Series → ℕ
base_of t s = if set.contains t.home s then version_at (entries_of t.history) (last_publication s (entries_of t.history)) else 0

-- the track once a segmentation of a series has begun: it took the table of its base, if it has one
abbrev pub with_taken : Series → Track → Track
with_taken s t = if base_of t s == 0 then t else with_home (set.remove t.home s) t

-- the track with a publication, whose table is home
abbrev pub with_publication : Author → Track → Publication → Track
with_publication author t p = with_home (set.insert t.home (published p)) (with_entry author t (entry.Publish p))

-- the track once a segmentation came to an outcome: what it took comes home with the publication alone
abbrev pub with_segmented : Author → Series → Track → Outcome → Track
with_segmented author s t o = ended o.adds
  where
    ended : Option Entry → Track
    ended None = with_taken s t
    ended (Some e) = with_home (set.insert (with_taken s t).home s) (with_entry author t e)

-- the track once a finished segmentation of a series came to an outcome: the table of what is published is home
abbrev pub with_finished : Author → Series → Track → Outcome → Track
with_finished author s t o = ended o.adds
  where
    ended : Option Entry → Track
    ended None = t
    ended (Some e) = with_home (set.insert t.home s) (with_entry author t e)

-- a finished segmentation came to an outcome: the track is then so, and the reply tells its answer
pub record IsFinishStep (old : Track) (author : Author) (s : Series) (o : Outcome) (new : Track) (reply : Reply) : Type 0 where
  pub track : new ≡ with_finished author s old o
  pub told : reply ≡ reply_of (entries_of old.history) o

-- a segmentation came to an outcome: the track is then so, and the reply tells its answer
pub record IsSegmentStep (old : Track) (author : Author) (s : Series) (o : Outcome) (new : Track) (reply : Reply) : Type 0 where
  pub track : new ≡ with_segmented author s old o
  pub told : reply ≡ reply_of (entries_of old.history) o

-- nothing changed but that tables went
pub record IsSameButTables (old new : Track) : Type 0 where
  pub machine : new.machine ≡ old.machine
  pub kept : new.kept ≡ old.kept
  pub history : new.history ≡ old.history
  pub fewer : set.is_subset new.home old.home ≡ true

-- ---- any request

-- the series of a test and a metric
abbrev series : List ℕ → List ℕ → Series
series test metric = record { test = test; metric = metric }

-- what a request comes to on the history of its machine, a segmentation from a base
abbrev pub ComesTo : List Entry → ℕ → Request → Outcome → Type 0
ComesTo h base (request.Machine machine) o = o ≡ tells (answer.Machine machine)
ComesTo h base (request.Commit machine number name) o = o ≡ forms.commit h number name
ComesTo h base (request.Submit machine commit run samples ignored stated) o = o ≡ forms.submit h machine commit run samples ignored stated
ComesTo h base (request.Retract machine run) o = o ≡ forms.retract h run
ComesTo h base (request.Tune machine metric penalty given) o = o ≡ forms.tune_to h metric penalty given
ComesTo h base (request.Calibrate machine test metric factor) o = CalibrateComesTo h (series test metric) factor o
ComesTo h base (request.Segment machine test metric) o = SegmentComesTo h base (series test metric) o
ComesTo h base (request.Changes machine test metric) o = ChangesComeTo h (series test metric) o
ComesTo h base (request.Verify machine test metric) o = VerifyComesTo h (series test metric) o
ComesTo h base (request.Regress machine test metric change) o = following.RegressComesTo h (series test metric) change o
ComesTo h base (request.SetState machine number state) o = o ≡ following.set_state h number state
ComesTo h base (request.Bisect machine lo hi) o = o ≡ following.bisect h lo hi
ComesTo h base (request.Answer machine number commit status) o = o ≡ following.answer_job h number commit status
ComesTo h base (request.Resume machine number) o = o ≡ following.resume h number
ComesTo h base (request.Job machine number) o = o ≡ following.job h number
ComesTo h base (request.Runs machine) o = o ≡ forms.runs h
ComesTo h base (request.Report machine json) o = ReportComesTo h machine json o

-- the base of what a request segments
abbrev pub base_asked : Track → Request → ℕ
base_asked t (request.Segment machine test metric) = base_of t (series test metric)
base_asked t q = 0

-- the track once a request came to an outcome
abbrev pub with_answered : Author → Request → Track → Outcome → Track
with_answered author (request.Segment machine test metric) t o = with_segmented author (series test metric) t o
with_answered author q t o = with_outcome author t o

-- a request came to an outcome on a track, which is then so, and the reply tells its answer
pub record IsAnswered (old : Track) (author : Author) (q : Request) (new : Track) (reply : Reply) : Type 0 where
  pub outcome : Outcome
  pub comes : ComesTo (entries_of old.history) (base_asked old q) q outcome
  pub track : new ≡ with_answered author q old outcome
  pub told : reply ≡ reply_of (entries_of old.history) outcome

-- the request is about a machine that is declared, and its state alone answers it
abbrev pub IsAsked : Request → Type 0
IsAsked q = (machine : List ℕ) → q ≢ request.Machine machine
