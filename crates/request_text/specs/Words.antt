-- No public contract cites this. The words of a line, as they are written.
use Rattle.std.specs.{Prelude.{ℕ, List, [], ◌∷◌, ◌++◌, decimal}, List.flat_map, Fmt.signed_decimal}
use Rattle.line_text.specs.Names.{spelling}
use Rattle.request_text.specs.declared.write_line.Word.{Word, TheVariants.{Said, Named, Number, Amount}}

-- a word as it is written
abbrev pub spelled : Word → List ℕ
spelled (Said text) = text.now
spelled (Named name) = spelling name.now
spelled (Number n) = decimal n
spelled (Amount z) = signed_decimal z

-- a word behind a space
abbrev pub next : Word → List ℕ
next word = 32 ∷ spelled word

-- a line of a first word and of these
abbrev pub written : List ℕ → List Word → List ℕ
written first words = first ++ (flat_map next words ++ 10 ∷ [])
