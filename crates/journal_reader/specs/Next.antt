-- No public contract cites this. The next journal of a text, and where it is refused.
use Rattle.std.specs.{Prelude.{◌≡◌, ℕ, ◌+◌, ◌<◌, ◌^◌, List, [], ◌++◌, length}, List.AllByRecursion}
use Rattle.metric_table.specs.{Limits.most, declared.limits.Limit.TheVariants.Machines}
use Rattle.line_text.specs.Names.{IsName}
use Rattle.history_model.specs.{Allowed.Legal, Entries.entries_of}
use Rattle.journal_lines.specs.{Coming.MayComeAfter, Lines.HasLine, Texts.{head_line, text_of}, declared.head.Head.Head, Unread.Unread}
use Rattle.journal_reader.specs.{Journals.{Journal, IsOther}, Reading.IsRefusedBehind}

-- a journal as it is read: each entry may come behind those before it, and is allowed there
pub record IsRead (scripts : ℕ) (j : Journal) : Type 0 where
  pub named : IsName j.machine
  pub lines : AllByRecursion HasLine j.history
  pub come : MayComeAfter scripts [] j.history
  pub legal : Legal (entries_of j.history)

-- the line of a new machine stands in front of the text, behind some journals
pub record IsNewHead (before : List Journal) (old new : Unread) (head : Head) : Type 0 where
  pub text : old.rest ≡ head_line head.machine head.count ++ new.rest
  pub count : new.count ≡ old.count + 1
  pub named : IsName head.machine
  pub fits : head.count < 2 ^ 64
  pub fresh : AllByRecursion (IsOther head.machine) before
  pub room : length before < most Machines

-- the next journal stands in front of the text, behind some
pub record IsNext (scripts : ℕ) (before : List Journal) (old new : Unread) (j : Journal) : Type 0 where
  pub text : old.rest ≡ text_of j ++ new.rest
  pub count : new.count ≡ old.count + 1 + length j.history
  pub read : IsRead scripts j
  pub fresh : AllByRecursion (IsOther j.machine) before
  pub room : length before < most Machines

-- a line of it is refused
pub record IsRefusedNext (scripts : ℕ) (before : List Journal) (old : Unread) (l : ℕ) : Type 0 where
  pub more : ℕ
  pub number : l ≡ old.count + more + 1
  pub refused : IsRefusedBehind scripts (record { journals = before; due = 0 }) old.rest more
