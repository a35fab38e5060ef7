use Rattle.std.proofs.Common.{◌≡◌, ◌∙◌, List, ℕ, Option, Some, cond, ap, ap₂}
use Rattle.name_index.specs.Pairs.{Pairs}
use Rattle.history_model.{specs.Runs.{Series, same_series}, proofs.Cases.any-err}
use Rattle.publication_index.specs.{declared.held.Held.Held, Kept.{held, done_in, table_in, series_of}}
use Rattle.publication_index.proofs.{Homes.{same-homes, homes-with}, Written.read-written}
use Rattle.publication_index.proofs.published.PublicationIndex.insert.Goals as goal
use Rattle.publication_index.proofs.published.PublicationIndex.insert.Goals.{In_err-put, In_ok-put}

stays : {A : Type 0} (g : Option Held → A) (c : In_err-put) (s : Series) → g (held s c.put.new.self) ≡ g (held s c.args.self.now)
stays g c s = ap g (c.in_err-put.ensures.err s.test s.metric) ∙ ap (λ (es : Pairs Held). g (held s es)) c.self.view_is

pub returns-in_err-put-clause-same : goal.returns-in_err-put-clause-same
returns-in_err-put-clause-same c = any-err c.from_residual-in_err-put.result (stays done_in (goal.at.returns-in_err-put-clause-same c).In_err-put)

pub returns-in_err-put-clause-stay : goal.returns-in_err-put-clause-stay
returns-in_err-put-clause-stay c =
    any-err c.from_residual-in_err-put.result (same-homes c.args.self.now c.put.new.self (stays table_in (goal.at.returns-in_err-put-clause-stay c).In_err-put))

written : {A : Type 0} (g : Option Held → A) (x : A) (c : In_ok-put) → g (Some c.in_ok-held.held) ≡ x
    → (s : Series) → g (held s c.put.new.self) ≡ cond (same_series (series_of c.args.done) s) x (g (held s c.args.self.now))
written g x c is s =
    read-written g (record { test = c.in_ok-test.test; metric = c.in_ok-metric.metric }) (Some c.in_ok-held.held) c.self.inside.0 c.args.self.now c.put.new.self c.self.view_is
    c.in_ok-put.ensures.ok x is s
    ∙ ap₂ (λ (t m : List ℕ). cond (same_series (record { test = t; metric = m }) s) x (g (held s c.args.self.now))) c.in_ok-test.ensures c.in_ok-metric.ensures

pub returns-clause-kept : goal.returns-clause-kept
returns-clause-kept c = written done_in (Some c.args.done) (goal.at.returns-clause-kept c).In_ok-put (ap (λ (h : Held). Some h.done) c.in_ok-held.ensures)

pub returns-clause-home : goal.returns-clause-home
returns-clause-home c =
    homes-with c.args.self.now c.put.new.self (series_of c.args.done) c.args.table (written table_in (Some c.args.table) (goal.at.returns-clause-home c).In_ok-put (ap (λ (h : Held). h.table) c.in_ok-held.ensures))
