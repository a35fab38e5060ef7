-- The fields of a line.
use Rattle.std.specs.{Prelude.{ℕ, Bool, not, ◌==◌, List, map, filter, length}, Char.is_whitespace, List.slice_split, Str.{chars, encode_utf8_all}}

-- not empty
abbrev pub is_field : List ℕ → Bool
is_field part = not (length part == 0)

-- the longest runs of characters other than white space
abbrev pub fields_of_chars : List ℕ → List (List ℕ)
fields_of_chars cs = map encode_utf8_all (filter is_field (slice_split is_whitespace cs))

-- the same of a text, each as its bytes
abbrev pub fields_of : List ℕ → List (List ℕ)
fields_of text = fields_of_chars (chars text)
