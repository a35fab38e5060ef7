use Rattle.metric_table.specs.declared.limits.Limit.TheVariants as limit
use Rattle.std.{proofs.Common.{◌≡◌, ℕ, ◌≤◌, ◌+◌, List, [], ◌∷◌, ◌++◌, length, sym, ap, subst, ◌∙◌, arith}, specs.Prelude.option_to_list}
use Rattle.std.proofs.lemmas.{List.length-map, Grind.common_steps}
use Rattle.history_model.specs.{declared.entries.Entry.Entry, declared.entries.Placed.Placed, Allowed.Allowed}
use Rattle.history_model.specs.{Commits.{declaration, declarations}, Entries.entries_of, Runs.{Series, known_series}}
use Rattle.machine_state.{specs.Following.IsFollowed, proofs.Followed.followed-after, specs.Indexes.{runs_after, seen_after, given_after}}
use Rattle.track_model.specs.Tracks.{Track}
use Rattle.publication_index.specs.Given.{given}
use Rattle.series_index.specs.Seen.{seen}
use Rattle.machine_state.proofs.{Series.takes-in, OneMore.follows, Publishing.{plain-kept, plain-counted}, Ready.ready}
use Rattle.machine_state.proofs.state.MachineState.add.Goals.{In_ok-reserve}
use Rattle.machine_state.proofs.state.MachineState.add.Goals as goal

-- the entry, which the history that is kept allows
module _ (c : In_ok-reserve) where
  abbrev h : List Entry
  h = entries_of c.self.inside.history.items

  h-is : entries_of c.args.self.now.history ≡ h
  h-is = ap (λ (t : Track). entries_of t.history) (sym c.self.view_is)

  allowed : Allowed h c.args.entry
  allowed = subst (λ (before : List Entry). Allowed before c.args.entry) h-is c.requires.allowed

  size : length h ≡ c.self.inside.history.len
  size = length-map c.self.inside.history.items (λ (p : Placed). p.entry) ∙ sym c.self.inside.history.ok.0

pub follow-requires-clause-indexes : goal.follow-requires-clause-indexes
follow-requires-clause-indexes c = grind (arith, common_steps, goal.at.follow-requires-clause-indexes, ready, h, allowed)

pub follow-requires-clause-series : goal.follow-requires-clause-series
follow-requires-clause-series c = grind (arith, common_steps, goal.at.follow-requires-clause-series, length, h, size, takes-in, allowed)

pub invariant_of-self-2 : goal.invariant_of-self-2
invariant_of-self-2 c =
    let at = (goal.at.invariant_of-self-2 c).In_ok-reserve in
    let e : Entry = c.args.entry in
    let h : List Entry = entries_of c.self.inside.history.items in
    let step_is : c.len.result ≡ length h = omega (arith, c.len.ensures, c.reserve.ensures.len, size at) in
    let entries_are : entries_of c.push_reserved.new.self.items ≡ h ++ e ∷ [] = grind (arith, common_steps) in
    let commits_are : c.follow.new.commits ≡ c.self.inside.commits ++ option_to_list (declaration (length h + 1) e) = rw (← step_is) c.in_ok-follow.ensures.commits in
    let runs_are : c.follow.new.runs ≡ runs_after (length h + 1) e c.self.inside.runs = rw (← step_is) c.in_ok-follow.ensures.runs in
    let series_are : (s : Series) → seen s c.follow.new.series ≡ seen_after (length h + 1) e c.self.inside.runs s (seen s c.self.inside.series) =
    rw (← step_is) c.in_ok-follow.ensures.series in
    let grown : length (known_series (h ++ e ∷ [])) ≡ length (known_series h) + c.args.more = rw (h-is at) at c.requires.more in
    let given_are : (metric : List ℕ) → given metric c.follow.new.settings ≡ given_after e metric (given metric c.self.inside.settings) = c.in_ok-follow.ensures.settings in
    let followed : IsFollowed (declarations h) e c.self.inside.following c.follow.new.following = grind (arith, common_steps) in
    rw (entries_are, commits_are, runs_are)
    (follows c.growth_law.ensures.legal c.positions_law.ensures.accept c.positions_law.ensures.retract c.positions_law.ensures.untouched c.retraction_law.ensures
    c.setting_law.ensures.set c.setting_law.ensures.stays
    h e c.self.inside.commits c.self.inside.runs c.self.inside.series c.follow.new.series c.self.inside.known c.args.more
    c.self.inside.settings c.follow.new.settings c.self.inside.published c.self.inside.published c.self.inside.cuts c.self.inside.cuts c.self.inside.following c.follow.new.following
    c.self.invariant (allowed at) grown series_are given_are
    (plain-kept c.publication_law.ensures.stays c.publication_law.ensures.versions h e c.self.inside.published c.requires.plain c.self.invariant.published_are)
    (plain-counted c.publication_law.ensures.cuts h e c.self.inside.cuts c.requires.plain c.self.invariant.cuts_are)
    (followed-after c.regressions_law.ensures.raised c.regressions_law.ensures.moved c.regressions_law.ensures.stays c.regressions_law.ensures.new c.jobs_law.ensures.stay c.jobs_law.ensures.begun c.jobs_law.ensures.go_on
    h e c.self.inside.following c.follow.new.following c.self.invariant.legal c.self.invariant.followed_are followed))

pub overflow_add-self : goal.overflow_add-self
overflow_add-self c =
    let few : length (known_series (entries_of c.args.self.now.history ++ c.args.entry ∷ [])) ≤ 16_384 = c.requires.allowed.1 limit.Series in
    let known_is : c.self.inside.known ≡ length (known_series (entries_of c.args.self.now.history)) = c.self.invariant.known_are ∙ ap (λ (t : Track). length (known_series (entries_of t.history))) c.self.view_is in
    record { fits = omega (arith, few, known_is, c.requires.more) }
