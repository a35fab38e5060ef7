-- Jobs that can be run, and what running them makes of them.
use Rattle.std.specs.{Prelude.{◌≡◌, List, length, zip}, List.{AllByRecursion, AllZip}}

-- each job can be run
abbrev pub AllCanRun : {J : Type 0} → (J → Type 0) → List J → Type 0
AllCanRun CanRun jobs = AllByRecursion CanRun jobs

-- there are as many tools as workers, and each can work with the tool in its place
pub record AllCanWork {W T : Type 0} (CanWork : W → T → Type 0) (workers : List W) (tools : List T) : Type 0 where
  pub paired : length tools ≡ length workers
  pub can : AllByRecursion (λ p. CanWork p.0 p.1) (zip workers tools)

-- each worker worked with the tool in its place, and both are in their places
pub record AllWorked {W T : Type 0} (ComesTo : W → T → W → T → Type 0) (workers : List W) (tools : List T)
    (workers' : List W) (tools' : List T) : Type 0 where
  pub workers_kept : length workers' ≡ length workers
  pub tools_kept : length tools' ≡ length tools
  pub worked : AllZip (λ old new. ComesTo old.0 old.1 new.0 new.1) (zip workers tools) (zip workers' tools')
