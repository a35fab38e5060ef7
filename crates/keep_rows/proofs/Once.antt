-- A row leads from what is stored to one other at most.
use Rattle.std.proofs.Common.{◌≡◌, ℕ, zero, suc, List, inl, inr, sym, ap, subst, ◌∙◌, arith, slice_index_or}
use Rattle.history_model.specs.declared.entries.Author.TheVariants as author
use Rattle.history_model.specs.declared.entries.Entry.{Entry}
use Rattle.store_rows.specs.{Rows.{Row, machine_row, entry_row, IsRowOf}, Laws.{RowsAreUnique, IsDetermined}}
use Rattle.track_entry.specs.{Texts.IsOneEntry, Versions.IsOneEntryV1}
use Rattle.track_model.specs.Tracks.{Track, with_entry}
use Rattle.keep_rows.specs.{Machines.changed, Loading.{Stored, SpellsIn, Adds, AddsRow, Makes}, Rows.format_row}

-- no text spells two entries in one version
pub one_in : IsOneEntry → IsOneEntryV1 → (version : ℕ) (text : List ℕ) (e other : Entry) → SpellsIn version text e → SpellsIn version text other → e ≡ other
one_in law first zero text e other a b = first text e other a b
one_in law first (suc zero) text e other a b = first text e other a b
one_in law first (suc (suc n)) text e other a b = law text e other a b

-- the row of the version is no other
pub no_format : (row : Row) → IsRowOf format_row row → ⊥
no_format (machine_row machine) is = absurd (omega (arith, ap (λ (bytes : List ℕ). slice_index_or bytes 0 0) is.text))
no_format (entry_row machine text) is = absurd (omega (arith, ap (λ (bytes : List ℕ). slice_index_or bytes 0 0) is.text))

adds_once : IsOneEntry → IsOneEntryV1 → (version : ℕ) (before : List Track) (row : Row) (one other : List Track) → Adds version before row one → Adds version before row other → one ≡ other
adds_once law first version before (machine_row machine) one other a b = a.last ∙ sym b.last
adds_once law first version before (entry_row machine text) one other a b =
    let same : a.entry ≡ b.entry = one_in law first version text a.entry b.entry a.spelled b.spelled in
    a.behind ∙ ap (λ (e : Entry). changed machine (λ t. with_entry author.Kept t e) before) same ∙ sym b.behind

same_rows : RowsAreUnique → IsOneEntry → IsOneEntryV1 → (version : ℕ) (before : List Track) (bytes : List ℕ) (one other : List Track)
    → AddsRow version before bytes one → AddsRow version before bytes other → one ≡ other
same_rows rows law first version before bytes one other a b =
    let same : b.0 ≡ a.0 = rows bytes b.0 a.0 b.1 a.1 in
    adds_once law first version before a.0 one other a.2 (subst (λ (r : Row). Adds version before r other) same b.2)

-- the same machines and the same version
pub same_stored : (one other : Stored) → one.machines ≡ other.machines → one.version ≡ other.version → one ≡ other
same_stored one other machines version = λ i. record { machines = machines i; version = version i }

pub determined : RowsAreUnique → IsOneEntry → IsOneEntryV1 → IsDetermined Makes
determined rows law first before bytes one other (inl a) (inl b) = a.2 ∙ sym b.2
determined rows law first before bytes one other (inl a) (inr b) = absurd (no_format b.0.0 (subst (λ (bs : List ℕ). IsRowOf bs b.0.0) a.0 b.0.1))
determined rows law first before bytes one other (inr a) (inl b) = absurd (no_format a.0.0 (subst (λ (bs : List ℕ). IsRowOf bs a.0.0) b.0 a.0.1))
determined rows law first before bytes one other (inr a) (inr b) =
    same_stored one other (same_rows rows law first before.version before.machines bytes one.machines other.machines a.0 b.0) (a.1 ∙ sym b.1)
