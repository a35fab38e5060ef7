-- How the search for a key that comes again goes on.
use Rattle.std.proofs.lemmas.Grind.{common_steps}
use Rattle.std.{proofs.Common.{◌≡◌, ℕ, List, ◌∷◌, Bool, false, ◌||◌, cond, Option, Some, None, is_some, refl, arith}, specs.List.list_any, specs.Str.bytes_eq}
use Rattle.json_text.specs.Tree.{Tree, Members, member}
use Rattle.lnt_report.specs.{Look.Entry, Rules.{repeated_key, repeated_in_members}}

-- one key more is in the map
pub with_key : {A : Type 0} (same : Bool) (value : A) (found : Option A) (among : Bool) → is_some found ≡ among → is_some (cond same (Some value) found) ≡ (same || among)
with_key same value found among e = grind (arith, common_steps)

-- a member whose key is new, and in whose value no key comes again
pub next_member : (keys : List (List ℕ)) (entry : Entry) (key : List ℕ) (tree : Tree) (rest : Members) → key ≡ entry.0 → tree ≡ entry.1
    → list_any (λ k. bytes_eq k key) keys ≡ false → repeated_key tree ≡ None
    → repeated_in_members keys (member entry.0 entry.1 rest) ≡ repeated_in_members (key ∷ keys) rest
next_member keys entry key tree rest e f g h = rw (← e, ← f, g, h) refl
