-- The text that is written of a run: the compact text of its tree.
use Rattle.std.specs.Prelude.{ℕ, List, [], ◌∷◌, ◌++◌, true, false, map, codes}
use Rattle.json_text.specs.Bytes as byte
use Rattle.json_text.specs.{Tree.{Tree, null, boolean, number, text, list, object, Items, no_items, item, Members, no_members, member}, View.items_of}
use Rattle.metric_value.specs.Values.{value_text}
use Rattle.sample_model.specs.Samples.{Measurement}
use Rattle.lnt_report.specs.Quoted.{quoted}

-- The text of a tree, with no white space. Items and members stand between commas: `more_items` and `more_members` are
-- those behind the first, each behind a comma.
abbrev mutual
  pub compact : Tree → List ℕ
  compact null = byte.null_letters
  compact (boolean true) = byte.true_letters
  compact (boolean false) = byte.false_letters
  compact (number spelling) = spelling
  compact (text content) = quoted content
  compact (list items) = byte.open_list ∷ (compact_items items ++ byte.close_list ∷ [])
  compact (object members) = byte.open_object ∷ (compact_members members ++ byte.close_object ∷ [])

  pub compact_items : Items → List ℕ
  compact_items no_items = []
  compact_items (item tree items) = compact tree ++ more_items items

  pub more_items : Items → List ℕ
  more_items no_items = []
  more_items (item tree items) = byte.comma ∷ (compact tree ++ more_items items)

  pub compact_members : Members → List ℕ
  compact_members no_members = []
  compact_members (member key tree members) = (quoted key ++ byte.colon ∷ compact tree) ++ more_members members

  pub more_members : Members → List ℕ
  more_members no_members = []
  more_members (member key tree members) = byte.comma ∷ ((quoted key ++ byte.colon ∷ compact tree) ++ more_members members)

-- a sample: the test's name, and the value by the metric
abbrev pub test_tree : Measurement → Tree
test_tree m = object (member (codes "name") (text m.test) (member m.metric (number (value_text m.metric m.value)) no_members))

-- what stands before the first sample
abbrev pub head_members : List ℕ → List ℕ → Members → Members
head_members machine commit rest =
    member (codes "format_version") (text (codes "2"))
    (member (codes "machine") (object (member (codes "name") (text machine) no_members))
    (member (codes "run") (object (member (codes "llvm_project_revision") (text commit) no_members)) rest))

-- the tree of a run
abbrev pub run_tree : List ℕ → List ℕ → List Measurement → Tree
run_tree machine commit samples =
    object (head_members machine commit (member (codes "tests") (list (items_of (map test_tree samples))) no_members))
