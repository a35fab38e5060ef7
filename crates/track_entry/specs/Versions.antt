-- The text of an entry in version 1, in which a setting has no least length.
use Rattle.std.specs.{Prelude.{◌≡◌, ℕ, List, [], ◌∷◌, codes}, Fmt.signed_decimal}
use Rattle.line_text.specs.Names.{spelling}
use Rattle.history_model.specs.declared.entries.Entry.{Entry, TheVariants.Tune}
use Rattle.track_entry.specs.Texts.{spaced, entry_words, IsEntry}

-- the words of an entry: those of version 2, but for a setting
abbrev pub words_v1 : Entry → List (List ℕ)
words_v1 (Tune metric penalty len) = codes "tune" ∷ spelling metric ∷ signed_decimal penalty ∷ []
words_v1 e = entry_words e

-- the least length of a setting is 1
abbrev pub IsOfV1 : Entry → Type 0
IsOfV1 (Tune metric penalty len) = len ≡ 1
IsOfV1 e = Unit {0}

-- what the text spells
abbrev pub SpellsV1 : List ℕ → Entry → Type 0
SpellsV1 text e = IsEntry e × IsOfV1 e × (text ≡ spaced (words_v1 e))

-- no text spells two entries
abbrev pub IsOneEntryV1 : Type 0
IsOneEntryV1 = (text : List ℕ) (e other : Entry) → SpellsV1 text e → SpellsV1 text other → e ≡ other
