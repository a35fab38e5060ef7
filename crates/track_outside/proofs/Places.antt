-- The first place of a name, and what is read there.
use Rattle.std.proofs.Common.{◌≡◌, ℕ, zero, suc, ◌+◌, ◌<◌, ◌≤◌, true, false, inl, inr, List, [], ◌∷◌, length, get_or, set, Some, refl, sym, ap, ◌∙◌, arith}
use Rattle.std.{specs.Prelude.bytes_eq, proofs.lemmas.Bool.{cases_Bool, cases_order}, proofs.lemmas.Slice.Eq.bytes_eq-Decides, proofs.lemmas.Grind.common_steps}
use Rattle.track_outside.specs.{Named.{NamedBytes, bytes_at, with_bytes}, declared.mem_files.MemFile.MemFile, Folders.{file_of, files_of, IsPlace, IsAbsent}}

-- no place below i has the name
abbrev pub NoneBelow : List ℕ → List NamedBytes → ℕ → Type 0
NoneBelow name files i = (k : ℕ) (other : NamedBytes) → k < i → (get_or files k other).name ≡ name → ⊥

later : (name : List ℕ) (file : NamedBytes) (files : List NamedBytes) (i : ℕ) → NoneBelow name (file ∷ files) (suc i) → NoneBelow name files i
later name file files i none k other below is = none (suc k) other (omega arith) is

differs : (one other : List ℕ) → (one ≡ other → ⊥) → bytes_eq one other ≡ false
differs one other h = grind (arith, common_steps, cases_Bool, bytes_eq, bytes_eq-Decides)

equals : (one other : List ℕ) → one ≡ other → bytes_eq one other ≡ true
equals one other h = (bytes_eq-Decides one other).1 h

pub found : (name : List ℕ) (files : List NamedBytes) (i : ℕ) (at : NamedBytes) → i < length files → NoneBelow name files i → (get_or files i at).name ≡ name → IsPlace name files i
found name [] i at within none is = absurd (omega arith)
found name (file ∷ files) zero at within none is = grind (arith, common_steps, bytes_eq, equals, set)
found name (file ∷ files) (suc i) at within none is =
    let here : bytes_eq file.name name ≡ false = differs file.name name (none zero file (omega arith)) in
    let rest : IsPlace name files i = found name files i at (omega arith) (later name file files i none) is in
    record {
      within = within;
      named = λ (other : NamedBytes). rest.named other;
      bytes = λ (other : NamedBytes). rw here (rest.bytes other);
      set = λ (bytes : List ℕ). rw here (ap (λ (l : List NamedBytes). file ∷ l) (rest.set bytes));
    }

pub absent : (name : List ℕ) (files : List NamedBytes) → NoneBelow name files (length files) → IsAbsent name files
absent name [] none = record { none = refl; added = λ (bytes : List ℕ). refl }
absent name (file ∷ files) none =
    let here : bytes_eq file.name name ≡ false = differs file.name name (none zero file (omega arith)) in
    let rest : IsAbsent name files = absent name files (later name file files (length files) none) in
    record {
      none = rw here rest.none;
      added = λ (bytes : List ℕ). rw here (ap (λ (l : List NamedBytes). file ∷ l) (rest.added bytes));
    }

same_self : (name : List ℕ) → bytes_eq name name ≡ true
same_self name = equals name name refl

-- a name has the bytes that it was given
pub bytes_at-with_bytes : (name bytes : List ℕ) (files : List NamedBytes) → bytes_at name (with_bytes name bytes files) ≡ Some bytes
bytes_at-with_bytes name bytes [] = rw (same_self name) refl
bytes_at-with_bytes name bytes (file ∷ files) = grind (arith, common_steps, cases_Bool, bytes_eq, same_self, bytes_at-with_bytes name bytes files)

-- ---- of files in memory

length_same : (files : List MemFile) → length (files_of files) ≡ length files
length_same [] = refl
length_same (f ∷ files) = ap suc (length_same files)

pub is_within : (files : List MemFile) (i : ℕ) → i < length (files_of files) → i < length files
is_within files i h = omega (arith, length_same files)

pub reads : (files : List MemFile) (i : ℕ) (x : MemFile) (other : NamedBytes) → i < length files → x ≡ get_or files i x → get_or (files_of files) i other ≡ file_of x
reads [] i x other within is = absurd (omega arith)
reads (f ∷ files) zero x other within is = ap file_of (sym is)
reads (f ∷ files) (suc i) x other within is = reads files i x other (omega arith) is

pub sets : (files : List MemFile) (i : ℕ) (x : MemFile) → files_of (set files i x) ≡ set (files_of files) i (file_of x)
sets [] i x = refl
sets (f ∷ files) zero x = refl
sets (f ∷ files) (suc i) x = ap (λ (l : List NamedBytes). file_of f ∷ l) (sets files i x)

pub found_in : (name : List ℕ) (files : List MemFile) (i : ℕ) (x : MemFile) → i < length files → x ≡ get_or files i x → x.name.items ≡ name
    → NoneBelow name (files_of files) i → IsPlace name (files_of files) i
found_in name files i x within is named none =
    found name (files_of files) i (file_of x) (omega (arith, length_same files)) none (ap (λ (f : NamedBytes). f.name) (reads files i x (file_of x) within is) ∙ named)

pub none_more : (name : List ℕ) (files : List MemFile) (i : ℕ) (x : MemFile) → i < length files → x ≡ get_or files i x → (x.name.items ≡ name → ⊥)
    → NoneBelow name (files_of files) i → NoneBelow name (files_of files) (i + 1)
none_more name files i x within is differs none k other below same = elim (cases_order k i) [
  | inl here ↦ differs (sym (ap (λ (f : NamedBytes). f.name) (reads files i x other within is)) ∙ ap (λ (j : ℕ). (get_or (files_of files) j other).name) (sym here) ∙ same)
  | inr (inl before) ↦ none k other before same
  | inr (inr behind) ↦ absurd (omega (arith, behind))
]

pub absent_in : (name : List ℕ) (files : List MemFile) (i : ℕ) → length files ≤ i → NoneBelow name (files_of files) i → IsAbsent name (files_of files)
absent_in name files i all none = absent name (files_of files) (λ (k : ℕ) (other : NamedBytes) (below : k < length (files_of files)). none k other (omega (arith, length_same files)))
