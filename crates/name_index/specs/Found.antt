-- What is found of a key in a list of keys, each with what belongs to it.
use Rattle.std.specs.{Prelude.{◌≡◌, List, if◌then◌else◌, Option, Some}, declared.cmp.Ordering.Ordering, Ordering.is_eq, Map.lookup}

module _ {K T : Type 0} (cmp : K → K → Ordering) where
  abbrev pub found : K → List (K × T) → Option T
  found key es = lookup (λ (k : K). is_eq (cmp key k)) es

  -- afterwards this is found of a key, and of each other what was found before
  abbrev pub IsWritten : K → Option T → List (K × T) → List (K × T) → Type 0
  IsWritten key value before after = (q : K) → found q after ≡ (if is_eq (cmp key q) then value else found q before)

  -- the same, of a key of which something was found before
  abbrev pub IsWrittenThere : K → List (K × T) → T → List (K × T) → Type 0
  IsWrittenThere key before value after = (v : T) → Some v ≡ found key before → IsWritten key (Some value) before after
