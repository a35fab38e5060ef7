-- Private: no public contract cites this. One entry more in front of a text.
use Rattle.std.proofs.Common.{◌≡◌, inl, inr, ℕ, suc, ◌+◌, ◌-◌, ◌≤◌, ◌<◌, List, [], ◌∷◌, ◌++◌, length, refl, sym, ap, ◌∙◌, subst, Bool, true, ◌↔◌, IsTrue, Option, Some, None, IfSome, IfNone, arith, append_assoc, append-nil, length-append}
use Rattle.std.specs.List.{AllByRecursion}
use Rattle.history_model.specs.declared.entries.{Author.Author, Placed.Placed}
use Rattle.history_model.specs.declared.entries.Author.TheVariants as author
use Rattle.journal_lines.specs.{Authors.{Crew, MayAdd}, Coming.{AreRead, HasNoNext, MayCome, MayComeAfter, WasKept, crew_with}, Lines.HasLine, Unread.Unread}
use Rattle.journal_lines.specs.Texts.{entry_line, lines_from}

lines_more : (step : ℕ) (h : List Placed) (p : Placed) → lines_from step (h ++ p ∷ []) ≡ lines_from step h ++ entry_line (step + length h) p
lines_more step [] p = let place : step + 0 ≡ step = omega arith in rw place (append-nil (entry_line step p))
lines_more step (x ∷ h) p =
    let place : step + suc (length h) ≡ step + 1 + length h = omega arith in
    rw place (ap (λ (l : List ℕ). entry_line step x ++ l) (lines_more (step + 1) h p) ∙ sym (append_assoc (entry_line step x) (lines_from (step + 1) h) (entry_line (step + 1 + length h) p)))

pub all_more : {A : Type 0} (P : A → Type 0) (xs : List A) (x : A) → AllByRecursion P xs → P x → AllByRecursion P (xs ++ x ∷ [])
all_more P [] x each one = (one, tt)
all_more P (y ∷ xs) x each one = (each.0, all_more P xs x each.1 one)

pub all_fewer : {A : Type 0} (P : A → Type 0) (xs : List A) (x : A) → AllByRecursion P (xs ++ x ∷ []) → AllByRecursion P xs × P x
all_fewer P [] x each = (tt, each.0)
all_fewer P (y ∷ xs) x each = let rest = all_fewer P xs x each.1 in ((each.0, rest.0), rest.1)

come_more : (scripts : ℕ) (before h : List Placed) (p : Placed) → MayComeAfter scripts before h → MayCome scripts (before ++ h) p → MayComeAfter scripts before (h ++ p ∷ [])
come_more scripts before [] p come may = (subst (λ (l : List Placed). MayCome scripts l p) (append-nil before) may, tt)
come_more scripts before (x ∷ h) p come may =
    (come.0, come_more scripts (before ++ x ∷ []) h p come.1 (subst (λ (l : List Placed). MayCome scripts l p) (sym (append_assoc before (x ∷ []) h)) may))

-- what was read so far
pub record ReadSoFar (scripts count : ℕ) (text rest : List ℕ) (entries : List Placed) : Type 0 where
  pub is : text ≡ lines_from 1 entries ++ rest
  pub few : length entries ≤ count
  pub lines : AllByRecursion HasLine entries
  pub come : MayComeAfter scripts [] entries

pub nothing_so_far : (scripts count : ℕ) (text : List ℕ) → ReadSoFar scripts count text text []
nothing_so_far scripts count text = record { is = refl; few = omega arith; lines = tt; come = tt }

pub read_more : (scripts count : ℕ) (text rest more : List ℕ) (h : List Placed) (p : Placed) → ReadSoFar scripts count text rest h
    → length h < count → HasLine p → MayCome scripts h p → rest ≡ entry_line (length h + 1) p ++ more
    → ReadSoFar scripts count text more (h ++ p ∷ [])
read_more scripts count text rest more h p so within line may is =
    let place : length h + 1 ≡ 1 + length h = omega arith in
    record {
      is = so.is ∙ ap (λ (l : List ℕ). lines_from 1 h ++ l) (is ∙ ap (λ (n : ℕ). entry_line n p ++ more) place)
          ∙ sym (append_assoc (lines_from 1 h) (entry_line (1 + length h) p) more) ∙ sym (ap (λ (l : List ℕ). l ++ more) (lines_more 1 h p));
      few = omega (arith, within, length-append h (p ∷ []));
      lines = all_more HasLine h p so.lines line;
      come = come_more scripts [] h p so.come may;
    }

pub read_whole : (scripts count : ℕ) (text rest : List ℕ) (h : List Placed) → ReadSoFar scripts count text rest h → count ≤ length h → AreRead scripts count text rest h
read_whole scripts count text rest h so many =
    record { is = so.is; few = so.few; lines = so.lines; come = so.come; whole = inl (omega (arith, so.few, many)) }

pub read_part : (scripts count : ℕ) (text rest : List ℕ) (h : List Placed) → ReadSoFar scripts count text rest h → HasNoNext scripts h rest → AreRead scripts count text rest h
read_part scripts count text rest h so none =
    record { is = so.is; few = so.few; lines = so.lines; come = so.come; whole = inr none }

-- ---- entries that were all kept

made_not : (crew : Crew) (p : Placed) → p.author ≡ author.Kept → MayAdd crew p → ⊥
made_not crew p same may = subst (λ (a : Author). MayAdd crew (record { author = a; entry = p.entry })) same may

-- with one that may come, all were kept exactly where it was
pub kept_all : (scripts : ℕ) (before : List Placed) (p : Placed) → MayCome scripts before p → p.author ≡ author.Kept → AllByRecursion WasKept (before ++ p ∷ [])
kept_all scripts before p (inl (each, one)) same = all_more WasKept before p each one
kept_all scripts before p (inr may) same = absurd (made_not (crew_with scripts) p same may)

pub kept_last : (before : List Placed) (p : Placed) → AllByRecursion WasKept (before ++ p ∷ []) → p.author ≡ author.Kept
kept_last before p each = (all_fewer WasKept before p each).1.author

-- and whether all of it was kept is known
pub record Loop (scripts count : ℕ) (old new : Unread) (kept : Bool) (h : List Placed) : Type 0 where
  pub so : ReadSoFar scripts count old.rest new.rest h
  pub counted : new.count ≡ old.count + length h
  pub all : IsTrue kept ↔ AllByRecursion WasKept h

pub no_loop : (scripts count : ℕ) (old : Unread) (h : List Placed) → h ≡ [] → Loop scripts count old old true h
no_loop scripts count old [] none = record { so = nothing_so_far scripts count old.rest; counted = omega arith; all = (λ t. tt, λ each. refl) }
no_loop scripts count old (p ∷ h) none = absurd (omega (arith, ap length none))

pub loop_more : (scripts count : ℕ) (old now new : Unread) (kept still : Bool) (h more : List Placed) (p : Placed) → Loop scripts count old now kept h
    → length h < count → HasLine p × MayCome scripts h p × (now.rest ≡ entry_line (length h + 1) p ++ new.rest) × (new.count ≡ now.count + 1)
    → (IsTrue still ↔ (p.author ≡ author.Kept)) → more ≡ h ++ p ∷ [] → Loop scripts count old new still more
loop_more scripts count old now new kept still h more p loop within next last is =
    let all : Loop scripts count old new still (h ++ p ∷ []) = record {
      so = read_more scripts count old.rest now.rest new.rest h p loop.so within next.0 next.1 next.2;
      counted = omega (arith, next.3, loop.counted, length-append h (p ∷ []));
      all = (λ t. kept_all scripts h p next.1 (last.0 t), λ each. last.1 (kept_last h p each));
    } in
    subst (λ (l : List Placed). Loop scripts count old new still l) (sym is) all

pub longer : (h more : List Placed) (p : Placed) (count : ℕ) → length h < count → more ≡ h ++ p ∷ [] → count - length more < count - length h
longer h more p count within is = omega (arith, within, ap length is, length-append h (p ∷ []))

-- ---- what a call gave

of_none : {A : Type 0} {P : Type 0} (o : Option A) → o ≡ None → IfNone o P → P
of_none None same holds = holds
of_none (Some x) same holds = absurd (cc)

of_some : {A : Type 0} (P : A → Type 0) (o : Option A) (x : A) → o ≡ Some x → IfSome o P → P x
of_some P None x same holds = absurd (cc)
of_some P (Some y) x same holds = let one : y ≡ x = cc in subst P one holds

-- the next entry
pub next_more : (scripts count : ℕ) (old now new : Unread) (kept still : Bool) (before h more : List Placed) (o : Option Placed) (p : Placed) → before ≡ h → o ≡ Some p
    → Loop scripts count old now kept h → length h < count
    → IfSome o (λ p. HasLine p × MayCome scripts before p × (now.rest ≡ entry_line (length before + 1) p ++ new.rest) × (new.count ≡ now.count + 1))
    → (IsTrue still ↔ (p.author ≡ author.Kept)) → more ≡ h ++ p ∷ [] → Loop scripts count old new still more
next_more scripts count old now new kept still before h more o p same some loop within next last is =
    loop_more scripts count old now new kept still h more p loop within
    (subst (λ (l : List Placed). HasLine p × MayCome scripts l p × (now.rest ≡ entry_line (length l + 1) p ++ new.rest) × (new.count ≡ now.count + 1)) same
    (of_some (λ (p : Placed). HasLine p × MayCome scripts before p × (now.rest ≡ entry_line (length before + 1) p ++ new.rest) × (new.count ≡ now.count + 1)) o p some next))
    last is

-- or none
pub none_more : (scripts count : ℕ) (old now new : Unread) (kept : Bool) (before h : List Placed) (o : Option Placed) → before ≡ h → o ≡ None
    → Loop scripts count old now kept h → IfNone o (HasNoNext scripts before now.rest × (new ≡ now))
    → AreRead scripts count old.rest new.rest h × (new.count ≡ old.count + length h)
none_more scripts count old now new kept before h o same none loop next =
    let both : HasNoNext scripts before now.rest × (new ≡ now) = of_none o none next in
    let no : HasNoNext scripts h now.rest = subst (λ (l : List Placed). HasNoNext scripts l now.rest) same both.0 in (
      subst (λ (u : Unread). AreRead scripts count old.rest u.rest h) (sym both.1) (read_part scripts count old.rest now.rest h loop.so no),
      ap (λ (u : Unread). u.count) both.1 ∙ loop.counted,
    )
