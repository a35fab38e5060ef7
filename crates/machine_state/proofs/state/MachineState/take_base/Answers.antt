use Rattle.std.proofs.lemmas.Grind.{common_steps}
use Rattle.std.{proofs.Common.{◌≡◌, ℕ, ◌<◌, List, refl, sym, ap, subst, ◌∙◌, Some, true, false, arith}, specs.Prelude.option_copied}
use Rattle.std.specs.FinSet as set
use Rattle.history_model.specs.{Allowed.Legal, SeriesOrder.series_cmp, declared.entries.Entry.Entry, Entries.entries_of, Penalties.setting_of}
use Rattle.publication_index.specs.{Standing.IsKeptTable, Homes.homes, Kept.{kept, kept_at_home}}
use Rattle.machine_state.specs.{declared.base.Base.Base, Made.setting_in, State.{BeginsWith, IsKept}}
use Rattle.history_model.specs.{Publications.last_publication, Runs.Series}
use Rattle.track_model.specs.Tracks.{Track, is_setting, base_of, with_home}
use Rattle.machine_state.proofs.{Bases.{base-none, base-other, begins, taken-none, taken-some}, OneMore.stays}
use Rattle.machine_state.proofs.state.MachineState.take_base.Goals as goal
use Rattle.machine_state.proofs.state.MachineState.take_base.Goals.{After-is_made_at}

abbrev asked : List ℕ → List ℕ → Series
asked test metric = record { test = test; metric = metric }

none : (c : goal.In_default) → base_of c.args.self.now (asked c.args.test.now c.args.metric.now) ≡ 0
none c =
    let t : Track = c.args.self.now in
    let s : Series = asked c.args.test.now c.args.metric.now in
    let h_is : entries_of c.self.inside.history.items ≡ entries_of t.history = ap (λ (u : Track). entries_of u.history) c.self.view_is in
    let is : IsKept (entries_of t.history) (last_publication s (entries_of t.history)) (kept s c.self.inside.published) =
    subst (λ (h : List Entry). IsKept h (last_publication s h) (kept s c.self.inside.published)) h_is (c.self.invariant.published_are s) in
    base-none t s c.self.inside.published (ap (λ (u : Track). u.home) c.self.view_is) is (sym c.at_home.ensures ∙ ap option_copied c.in_default.is)

pub returns-in_default-clause-begun : goal.returns-in_default-clause-begun
returns-in_default-clause-begun c = none c

pub returns-in_default-clause-taken : goal.returns-in_default-clause-taken
returns-in_default-clause-taken c = taken-none c.args.self.now (asked c.args.test.now c.args.metric.now) (none c)

module _ (c : After-is_made_at) where
  abbrev t : Track
  t = c.args.self.now

  abbrev s : Series
  s = asked c.args.test.now c.args.metric.now

  h_is : entries_of c.self.inside.history.items ≡ entries_of t.history
  h_is = ap (λ (u : Track). entries_of u.history) c.self.view_is

  home-is : homes c.self.inside.published ≡ t.home
  home-is = ap (λ (u : Track). u.home) c.self.view_is

  is : IsKept (entries_of t.history) (last_publication s (entries_of t.history)) (kept s c.self.inside.published)
  is = subst (λ (h : List Entry). IsKept h (last_publication s h) (kept s c.self.inside.published)) h_is (c.self.invariant.published_are s)

  some : kept_at_home s c.self.inside.published ≡ Some c.in-Some.done.now
  some = sym c.at_home.ensures ∙ ap option_copied c.in-Some.is

  legal : Legal (entries_of t.history)
  legal = subst (λ (h : List Entry). Legal h) h_is c.self.invariant.legal

  setting : setting_of s.metric (entries_of t.history) ≡ c.get.result
  setting = sym (c.get.ensures ∙ c.self.invariant.settings_are s.metric ∙ ap (setting_of s.metric) h_is)

  told : c.is_made_at.result ≡ is_setting (setting_in c.in-Some.done.now) c.get.result
  told = c.is_made_at.ensures

  other : c.is_made_at.result ≡ false → base_of t s ≡ 0
  other differs = base-other t s c.self.inside.published home-is c.in-Some.done.now is some c.publication_law.ensures.last_stands legal c.get.result setting (sym told ∙ differs)

  begun : c.is_made_at.result ≡ true → (b : Base) → b.version ≡ c.in-Some.done.now.version → b.points ≡ c.in-Some.done.now.points → IsKeptTable b.table (kept s c.self.inside.published) → BeginsWith t s b
  begun same = begins t s c.self.inside.published home-is c.in-Some.done.now is some c.publication_law.ensures.last_stands legal c.get.result setting (sym told ∙ same)

pub returns-then-not-is_made_at-clause-begun : goal.returns-then-not-is_made_at-clause-begun
returns-then-not-is_made_at-clause-begun c = other (goal.at.returns-then-not-is_made_at-clause-begun c).After-is_made_at c.if-not-is_made_at.true

pub returns-then-not-is_made_at-clause-taken : goal.returns-then-not-is_made_at-clause-taken
returns-then-not-is_made_at-clause-taken c = grind (arith, common_steps, taken-none, asked, other, goal.at.returns-then-not-is_made_at-clause-taken)

pub invariant_of-self : goal.invariant_of-self
invariant_of-self c =
    let x = c.self.inside in
    stays (entries_of x.history.items) x.commits x.runs x.series x.series x.known x.settings x.settings x.published c.take_table.new.self x.cuts x.following x.following
    c.self.invariant (λ s. refl) (λ metric. refl) c.take_table.ensures.kept refl

pub returns-clause-begun : goal.returns-clause-begun
returns-clause-begun c =
    begun (goal.at.returns-clause-begun c).After-is_made_at c.if-not-is_made_at.false
    (record { version = c.in-Some.done.now.version; points = c.in_ok-points.points; table = c.in-Some-take_table.table })
    refl c.in_ok-points.ensures c.in-Some-take_table.ensures.stands

pub returns-clause-taken : goal.returns-clause-taken
returns-clause-taken c =
    let s : Series = asked c.args.test.now c.args.metric.now in
    let first =
    begun (goal.at.returns-clause-taken c).After-is_made_at c.if-not-is_made_at.false
    (record { version = c.in-Some.done.now.version; points = c.in_ok-points.points; table = c.in-Some-take_table.table })
    refl c.in_ok-points.ensures c.in-Some-take_table.ensures.stands in
    let some : 0 < base_of c.args.self.now s = subst (λ (n : ℕ). 0 < n) first.version first.some in
    ap (λ (hs : set.FinSet series_cmp). let t : Track = record { machine = c.self.inside.machine; kept = c.self.inside.kept; history = c.self.inside.history.items; home = hs } in t) c.take_table.ensures.left
    ∙ ap (λ (t : Track). with_home (set.remove t.home s) t) c.self.view_is
    ∙ taken-some c.args.self.now s some
