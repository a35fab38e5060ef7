-- No public contract cites this. The bytes of a name's text, wherever it lies.
use Rattle.std.specs.Prelude.{ℕ, List, string_bytes}
use Rattle.line_text.specs.declared.name_text.NameText.{NameText}
use Rattle.line_text.specs.declared.name_text.NameText.TheVariants as text

abbrev pub bytes_of : NameText → List ℕ
bytes_of (text.Short short) = short.bytes
bytes_of (text.Long long) = string_bytes long
