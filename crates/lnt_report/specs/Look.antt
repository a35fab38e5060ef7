-- What is looked up in a JSON tree.
use Rattle.std.specs.Prelude.{ℕ, Bool, true, false, ◌&&◌, List, [], ◌∷◌, length, nat_lt, nat_le, Option, Some, None, codes, if◌then◌else◌}
use Rattle.std.specs.Str.{bytes_eq, is_utf8}
use Rattle.json_text.specs.Tree.{Tree, text, list, object, Items, no_items, item, Members, no_members, member}

-- a member: its key and its value
abbrev pub Entry : Type 0
Entry = List ℕ × Tree

-- the members in their order, each with its key and its value
abbrev pub entries : Members → List Entry
entries no_members = []
entries (member key tree members) = (key, tree) ∷ entries members

-- the items in their order
abbrev pub trees : Items → List Tree
trees no_items = []
trees (item tree items) = tree ∷ trees items

-- the value of the first member with this key
abbrev pub value_at : List ℕ → List Entry → Option Tree
value_at key [] = None
value_at key (entry ∷ more) = if bytes_eq entry.0 key then Some entry.1 else value_at key more

-- the members of an object; any other value has none
abbrev pub fields : Option Tree → List Entry
fields (Some (object members)) = entries members
fields _ = []

-- the items of a list; any other value has none
abbrev pub items_in : Option Tree → List Tree
items_in (Some (list items)) = trees items
items_in _ = []

-- the value at this key of an object
abbrev pub at : Option Tree → List ℕ → Option Tree
at value key = value_at key (fields value)

-- whether there is a value, and it is an object
abbrev pub is_object : Option Tree → Bool
is_object (Some (object _)) = true
is_object _ = false

-- whether there is a value, and it is a list
abbrev pub is_list : Option Tree → Bool
is_list (Some (list _)) = true
is_list _ = false

-- UTF-8 text of 1 to 256 bytes
abbrev pub is_name : List ℕ → Bool
is_name bytes = is_utf8 bytes && (nat_lt 0 (length bytes) && nat_le (length bytes) 256)

-- the text that a value is
abbrev pub text_in : Option Tree → Option (List ℕ)
text_in (Some (text content)) = Some content
text_in _ = None

-- a text that is a name
abbrev pub named : Option (List ℕ) → Option (List ℕ)
named None = None
named (Some content) = if is_name content then Some content else None

-- the name that a value is
abbrev pub name_in : Option Tree → Option (List ℕ)
name_in value = named (text_in value)

-- whether there is a text, and it is this one
abbrev pub is_text : List ℕ → Option (List ℕ) → Bool
is_text content None = false
is_text content (Some found) = bytes_eq found content

-- the key of a name, which is no metric
abbrev pub is_name_key : List ℕ → Bool
is_name_key key = bytes_eq key (codes "name")

-- the length that a metric may have
abbrev pub has_metric_length : List ℕ → Bool
has_metric_length key = nat_lt 0 (length key) && nat_le (length key) 64
