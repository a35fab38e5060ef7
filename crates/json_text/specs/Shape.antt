-- One level of a value, with what is inside it seen as trees.
use Rattle.std.specs.Prelude.{map}
use Rattle.json_text.specs.{Tree.{Tree, null, boolean, number, text, list, object}, View.{tree_of, entry_of, items_of, members_of}, declared.shape.Shape.Shape}
use Rattle.json_text.specs.declared.shape.Shape.TheVariants as shape

-- the tree of a value of this level
abbrev pub tree_of_shape : Shape → Tree
tree_of_shape shape.Null = null
tree_of_shape (shape.Bool truth) = boolean truth
tree_of_shape (shape.Number spelling) = number spelling.now
tree_of_shape (shape.Text content) = text content.now
tree_of_shape (shape.List items) = list (items_of (map tree_of items.now))
tree_of_shape (shape.Object members) = object (members_of (map entry_of members.now))
