-- Texts that are lent, as their bytes, what may be there, and what is found.
use Rattle.std.specs.{Prelude.{ℕ, List, map, Option, Some, None, option_map, String, string_bytes, Vec}, Borrow.Bor, declared.alloc.Global.Global}

-- the bytes of the words
abbrev pub texts : {A : Type 0} → List (String A) → List (List ℕ)
texts words = map string_bytes words

-- the bytes of texts that are lent
abbrev pub shown : List (Bor (List ℕ)) → List (List ℕ)
shown texts = map (λ (text : Bor (List ℕ)). text.now) texts

-- the bytes of a text that is lent, if it is there
abbrev pub shown_if : Option (Bor (List ℕ)) → Option (List ℕ)
shown_if text = option_map (λ (t : Bor (List ℕ)). t.now) text

-- the items of a vector, if it is there
abbrev pub items_if : {T : Type 0} → Option (Vec T Global) → Option (List T)
items_if {T} items = option_map (λ (v : Vec T Global). v.items) items

-- what is found is it, and where nothing is found, nothing is it
abbrev pub Finds : {T : Type 0} → (T → Type 0) → Option T → Type 0
Finds {T} IsIt None = (x : T) → ¬ IsIt x
Finds IsIt (Some x) = IsIt x
