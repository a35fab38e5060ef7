-- The rules of an LNT run, in their order, and the member at which one is broken.
use Rattle.std.specs.Prelude.{◌≡◌, ℕ, ◌+◌, Bool, true, false, List, [], ◌∷◌, ◌++◌, Option, Some, None, is_some, decimal, codes, if◌then◌else◌}
use Rattle.std.specs.{Option.{option_map, option_or}, List.{list_any, list_all}, Str.bytes_eq}
use Rattle.json_text.specs.Bytes as byte
use Rattle.json_text.specs.Tree.{Tree, null, boolean, number, text, list, object, Items, no_items, item, Members, no_members, member}
use Rattle.lnt_report.specs.Look.{Entry, trees, fields, items_in, value_at, at, is_object, is_list, text_in, name_in, is_text, is_name_key, has_metric_length}

-- a rule, and the path of the member at which it is broken
pub record Break : Type 0 where
  pub rule : ℕ
  pub member : List ℕ

-- this rule is broken at the member of this path
abbrev pub break : ℕ → List ℕ → Break
break rule path = record { rule = rule; member = path }

-- a path and one more part of it, behind a point
abbrev pub under : List ℕ → List ℕ → List ℕ
under path part = path ++ byte.point ∷ part

-- the rule is broken at the member, unless the condition holds
abbrev pub unless : Bool → ℕ → List ℕ → Option Break
unless holds rule path = if holds then None else Some (break rule path)

-- The path of the first member in the order of the text whose key an earlier member of its object has. Of an object,
-- `before` are the keys of the members before; of a list, `place` is the place of its first item.
abbrev mutual
  pub repeated_key : Tree → Option (List ℕ)
  repeated_key null = None
  repeated_key (boolean truth) = None
  repeated_key (number spelling) = None
  repeated_key (text content) = None
  repeated_key (list items) = repeated_in_items 0 items
  repeated_key (object members) = repeated_in_members [] members

  pub repeated_in_items : ℕ → Items → Option (List ℕ)
  repeated_in_items place no_items = None
  repeated_in_items place (item tree items) = option_or (option_map (under (decimal place)) (repeated_key tree)) (repeated_in_items (place + 1) items)

  pub repeated_in_members : List (List ℕ) → Members → Option (List ℕ)
  repeated_in_members before no_members = None
  repeated_in_members before (member key tree members) =
      if list_any (λ k. bytes_eq k key) before then Some key
      else option_or (option_map (under key) (repeated_key tree)) (repeated_in_members (key ∷ before) members)

-- whether a value is a number
abbrev pub is_number : Tree → Bool
is_number (number spelling) = true
is_number _ = false

-- a number, a list of numbers, a text or null
abbrev pub may_stand : Tree → Bool
may_stand null = true
may_stand (boolean truth) = false
may_stand (number spelling) = true
may_stand (text content) = true
may_stand (list items) = list_all is_number (trees items)
may_stand (object _) = false

-- rules 12 and 13, of a member of the test at this path
abbrev pub metric_break : List ℕ → Entry → Option Break
metric_break path entry =
    if is_name_key entry.0 then None
    else option_or (unless (has_metric_length entry.0) 12 path) (unless (may_stand entry.1) 13 (under path entry.0))

-- rules 12 and 13, member by member
abbrev pub metrics_break : List ℕ → List Entry → Option Break
metrics_break path [] = None
metrics_break path (entry ∷ more) = option_or (metric_break path entry) (metrics_break path more)

-- rules 10 and 11, then 12 and 13, of the test at this path
abbrev pub test_break : List ℕ → Tree → Option Break
test_break path test =
    option_or (unless (is_object (Some test)) 10 path)
    (option_or (unless (is_some (name_in (at (Some test) (codes "name")))) 11 (under path (codes "name")))
    (metrics_break path (fields (Some test))))

-- the same of tests, of which the first has this place
abbrev pub tests_break : ℕ → List Tree → Option Break
tests_break place [] = None
tests_break place (test ∷ tests) = option_or (test_break (under (codes "tests") (decimal place)) test) (tests_break (place + 1) tests)

-- of the members at the top, the name of the machine
abbrev pub machine_name : List Entry → Option (List ℕ)
machine_name top = name_in (at (value_at (codes "machine") top) (codes "name"))

-- of the members at the top, the name of the commit
abbrev pub commit_name : List Entry → Option (List ℕ)
commit_name top = name_in (at (value_at (codes "run") top) (codes "llvm_project_revision"))

-- of the members at the top, the tests
abbrev pub tests_in : List Entry → Option Tree
tests_in top = value_at (codes "tests") top

-- rules 7 to 13, of the members at the top
abbrev pub run_break : List Entry → Option Break
run_break top =
    option_or (unless (is_object (value_at (codes "run") top)) 7 (codes "run"))
    (option_or (unless (is_some (commit_name top)) 8 (codes "run.llvm_project_revision"))
    (option_or (unless (is_list (tests_in top)) 9 (codes "tests"))
    (tests_break 0 (items_in (tests_in top)))))

-- rules 3 to 5, then 7 to 13
abbrev pub head_break : List Entry → Option Break
head_break top =
    option_or (unless (is_text (codes "2") (text_in (value_at (codes "format_version") top))) 3 (codes "format_version"))
    (option_or (unless (is_object (value_at (codes "machine") top)) 4 (codes "machine"))
    (option_or (unless (is_some (machine_name top)) 5 (codes "machine.name"))
    (run_break top)))

-- the first rule that is broken, and where; rule 6 speaks of a request, and isn't of the tree
abbrev pub first_break : Tree → Option Break
first_break tree =
    option_or (unless (is_object (Some tree)) 1 (codes "."))
    (option_or (option_map (break 2) (repeated_key tree))
    (head_break (fields (Some tree))))

-- the members at the top have what the rules demand of them
pub record IsSound (top : List Entry) : Type 0 where
  pub machine : is_some (machine_name top) ≡ true
  pub commit : is_some (commit_name top) ≡ true
  pub tests : is_list (tests_in top) ≡ true
