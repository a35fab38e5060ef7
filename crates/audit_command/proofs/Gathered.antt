-- Files that are read one after another.
use Rattle.std.proofs.Common.{◌≡◌, ◌∙◌, ℕ, zero, suc, ◌+◌, ◌-◌, ◌^◌, ◌<◌, ◌≤◌, length, List, [], ◌∷◌, ◌++◌, take, Option, Some, None, Ok, Err, refl, sym, ap, subst, arith, append_assoc, append-nil, length-append}
use Rattle.std.specs.{Prelude.{All, Result, IfErr, IfSome, IsSome, OnOk, sum_by, unwrap_or}, List.AllZip, Io.KnownBytes.{prepend_known, IsAtEnd}}
use Rattle.std.proofs.lemmas.List.Sums.{sum_by-cons}
use Rattle.track_outside.specs.{Calls.GaveAtMost, Counts.Rose, Named.{NamedBytes, bytes_at}}
use Rattle.track_outside.specs.declared.files.Files as files
use Rattle.track_outside.specs.declared.source.Source as source
use Rattle.audit_model.specs.declared.heard.Heard.{Heard}
use Rattle.audit_command.specs.declared.end.FileStop.{FileStop, TheVariants.{ReadFault, TooLong, NoMemory}}
use Rattle.audit_command.specs.{Endings.{AreTexts, HasText, HaveAll, IsPastAt, size_of, texts_of}, Opening.{IsOpen, files_of, names_of}}
use Rattle.audit_command.specs.Reading.{HasRead, IsPast, IsTextOf, ReadsAll, ReadsMore, StopsAll, StopsBehind}

-- ---- one file

prepend_more : (known : Option (List ℕ)) (a b : List ℕ) → prepend_known a (prepend_known b known) ≡ prepend_known (a ++ b) known
prepend_more None a b = refl
prepend_more (Some rest) a b = ap Some (sym (append_assoc a b rest))

prepend_none : (known : Option (List ℕ)) → known ≡ prepend_known [] known
prepend_none None = refl
prepend_none (Some rest) = refl

module _ {I : Type 0} (i : source.Ghosts I) where
  pub read_none : (first : I) (room : ℕ) → HasRead i first first [] room
  read_none first room = record { gave = prepend_none (i.left first); fits = omega arith; counts = omega arith }

  pub read_more : (first now new : I) (before after : List ℕ) (room count : ℕ) → HasRead i first now before room → ReadsMore i now new before after room count
      → i.faults now ≤ i.faults new → HasRead i first new after room
  read_more first now new before after room count has more counts = record {
    gave = has.gave ∙ ap (prepend_known before) more.gave ∙ prepend_more (i.left new) before more.piece ∙ ap (λ (l : List ℕ). prepend_known l (i.left new)) (sym more.grown);
    fits = more.fits;
    counts = omega (arith, has.counts, counts);
  }

  whole : (known rest : Option (List ℕ)) (text : List ℕ) → known ≡ prepend_known text rest → IsAtEnd rest → IfSome known (λ bytes. bytes ≡ text)
  whole known None text is end = subst (λ (o : Option (List ℕ)). IfSome o (λ bytes. bytes ≡ text)) (sym is) tt
  whole known (Some rest) text is end = subst (λ (o : Option (List ℕ)). IfSome o (λ bytes. bytes ≡ text)) (sym is) (ap (λ (l : List ℕ). text ++ l) end ∙ append-nil text)

  -- at the end the text is all
  pub read_all : (first now : I) (text : List ℕ) (room : ℕ) → HasRead i first now text room → IsAtEnd (i.left now) → IsTextOf i first text
  read_all first now text room has end = whole (i.left first) (i.left now) text has.gave end

  longer : (known rest : Option (List ℕ)) (text : List ℕ) (room : ℕ) → known ≡ prepend_known text rest → IfSome rest (λ bytes. room < length text + length bytes)
      → IfSome known (λ bytes. room < 0 + length bytes)
  longer known None text room is more = subst (λ (o : Option (List ℕ)). IfSome o (λ bytes. room < 0 + length bytes)) (sym is) tt
  longer known (Some rest) text room is more =
      subst (λ (o : Option (List ℕ)). IfSome o (λ bytes. room < 0 + length bytes)) (sym is) (omega (arith, more, length-append text rest))

  -- what stops reading behind a text stops it
  pub stops_since : (first now new : I) (text : List ℕ) (room place : ℕ) (stop : FileStop) → HasRead i first now text room
      → StopsBehind i now new (length text) room place stop → StopsBehind i first new 0 room place stop
  stops_since first now new text room place ReadFault has stops = let counts = has.counts in omega (arith, counts, stops)
  stops_since first now new text room place (TooLong p) has stops = (stops.0, longer (i.left first) (i.left now) text room has.gave stops.1)
  stops_since first now new text room place NoMemory has stops = tt

  -- no more bytes were given than there is room for, and one
  pub gave_nothing : (old new : I) (most : ℕ) → i.left new ≡ i.left old → GaveAtMost most (i.left old) (i.left new)
  gave_nothing old new most same = record { given = []; gave = sym same ∙ prepend_none (i.left new); few = omega arith }

  pub gave_text : (first now : I) (text : List ℕ) (room : ℕ) → HasRead i first now text room → GaveAtMost (room + 1) (i.left first) (i.left now)
  gave_text first now text room has = let fits = has.fits in record { given = text; gave = has.gave; few = omega (arith, fits) }

  pub gave_more : (first now new : I) (text : List ℕ) (room : ℕ) → HasRead i first now text room → GaveAtMost (room - length text + 1) (i.left now) (i.left new)
      → GaveAtMost (room + 1) (i.left first) (i.left new)
  gave_more first now new text room has more =
      let fits = has.fits in
      let few = more.few in
      record {
        given = text ++ more.given;
        gave = has.gave ∙ ap (prepend_known text) more.gave ∙ prepend_more (i.left new) text more.given;
        few = omega (arith, fits, few, length-append text more.given);
      }

  -- ---- all files

  pub reads_none : (room : ℕ) (old : List (List ℕ)) → ReadsAll i [] room old old
  reads_none room old = record { more = []; grown = sym (append-nil old); are = tt; fits = omega arith }

  reads_then : (x : I) (inputs : List I) (room : ℕ) (text : List ℕ) (old new : List (List ℕ)) → IsTextOf i x text → length text ≤ room
      → ReadsAll i inputs (room - length text) (old ++ text ∷ []) new → ReadsAll i (x ∷ inputs) room old new
  reads_then x inputs room text old new is few rest = record {
    more = text ∷ rest.more;
    grown = rest.grown ∙ append_assoc old (text ∷ []) rest.more;
    are = (is, rest.are);
    fits = omega (arith, few, rest.fits, sum_by-cons length text rest.more);
  }

  pub reads_then_ok : {E : Type 0} (x : I) (inputs : List I) (room : ℕ) (text : List ℕ) (old new : List (List ℕ)) (result : Result (Unit {0}) E) → IsTextOf i x text → length text ≤ room
      → OnOk result (ReadsAll i inputs (room - length text) (old ++ text ∷ []) new) → OnOk result (ReadsAll i (x ∷ inputs) room old new)
  reads_then_ok x inputs room text old new (Ok done) is few rest = reads_then x inputs room text old new is few rest
  reads_then_ok x inputs room text old new (Err e) is few rest = tt

  later : (inputs : List I) (room before : ℕ) (text : List ℕ) (known : Option (List ℕ)) → IfSome known (λ bytes. bytes ≡ text) → length text ≤ room
      → IsPast i inputs (room - length text) before → IfSome known (λ bytes. (length bytes ≤ room) × IsPast i inputs (room - length bytes) before)
  later inputs room before text None is few past = tt
  later inputs room before text (Some bytes) is few past =
      subst (λ (l : List ℕ). (length l ≤ room) × IsPast i inputs (room - length l) before) (sym is) (few, past)

  plainly : (room : ℕ) (known : Option (List ℕ)) → IfSome known (λ bytes. room < 0 + length bytes) → IfSome known (λ bytes. room < length bytes)
  plainly room None more = tt
  plainly room (Some bytes) more = omega (arith, more)

  module _ {F O : Type 0} (g : files.Ghosts F I O) where
    -- what stops the reading of the first file
    pub stops_first : (x now : I) (inputs : List I) (room count : ℕ) (old mid new : F) (stop : FileStop) → StopsBehind i x now 0 room (count + 1) stop
        → (Rose (i.faults x) (i.faults now) → Rose (g.read_faults old) (g.read_faults mid)) → g.read_faults mid ≤ g.read_faults new → StopsAll g i (x ∷ inputs) room count old new stop
    stops_first x now inputs room count old mid new ReadFault stops rose counts = let r = rose stops in omega (arith, r, counts)
    stops_first x now inputs room count old mid new (TooLong p) stops rose counts = (0, omega (arith, stops.0), plainly room (i.left x) stops.1)
    stops_first x now inputs room count old mid new NoMemory stops rose counts = tt

    -- and of the others
    stops_then : (x : I) (inputs : List I) (room count more : ℕ) (text : List ℕ) (old mid new : F) (stop : FileStop) → IsTextOf i x text → length text ≤ room → g.read_faults old ≤ g.read_faults mid
        → more ≡ count + 1 → StopsAll g i inputs (room - length text) more mid new stop → StopsAll g i (x ∷ inputs) room count old new stop
    stops_then x inputs room count more text old mid new ReadFault is few counts one stops = omega (arith, counts, stops)
    stops_then x inputs room count more text old mid new (TooLong p) is few counts one stops =
        (suc stops.0, omega (arith, one, stops.1), later inputs room stops.0 text (i.left x) is few stops.2)
    stops_then x inputs room count more text old mid new NoMemory is few counts one stops = tt

    pub stops_then_err : {T : Type 0} (x : I) (inputs : List I) (room count more : ℕ) (text : List ℕ) (old mid new : F) (result : Result T FileStop) → IsTextOf i x text → length text ≤ room
        → g.read_faults old ≤ g.read_faults mid → more ≡ count + 1 → IfErr result (StopsAll g i inputs (room - length text) more mid new) → IfErr result (StopsAll g i (x ∷ inputs) room count old new)
    stops_then_err x inputs room count more text old mid new (Ok done) is few counts one stops = tt
    stops_then_err x inputs room count more text old mid new (Err stop) is few counts one stops = stops_then x inputs room count more text old mid new stop is few counts one stops

  -- ---- what the files tell

  has_text : (files : List NamedBytes) (name text : List ℕ) (known found : Option (List ℕ)) → IsSome found → known ≡ found → IfSome known (λ bytes. bytes ≡ text) → found ≡ Some text
  has_text files name text known None there is text_is = absurd (cc)
  has_text files name text known (Some bytes) there is text_is =
      ap Some (subst (λ (o : Option (List ℕ)). IfSome o (λ b. b ≡ text)) is text_is)

  each_text : (files : List NamedBytes) (names : List (List ℕ)) (inputs : List I) (texts : List (List ℕ)) → AllZip (IsOpen i (Some files)) names inputs
      → AllZip (IsTextOf i) inputs texts → AllZip (HasText files) names texts
  each_text files [] [] [] opened are = tt
  each_text files [] [] (text ∷ texts) opened are = absurd are
  each_text files [] (x ∷ inputs) texts opened are = absurd opened
  each_text files (name ∷ names) [] texts opened are = absurd opened
  each_text files (name ∷ names) (x ∷ inputs) [] opened are = absurd are
  each_text files (name ∷ names) (x ∷ inputs) (text ∷ texts) opened are =
      (has_text files name text (i.left x) (bytes_at name files) opened.0.0 opened.0.1 are.0, each_text files names inputs texts opened.1 are.1)

  as_many : (told : Option (List NamedBytes)) (names : List (List ℕ)) (inputs : List I) (texts : List (List ℕ)) → AllZip (IsOpen i told) names inputs → AllZip (IsTextOf i) inputs texts
      → length texts ≡ length names
  as_many told [] [] [] opened are = refl
  as_many told [] [] (text ∷ texts) opened are = absurd are
  as_many told [] (x ∷ inputs) texts opened are = absurd opened
  as_many told (name ∷ names) [] texts opened are = absurd opened
  as_many told (name ∷ names) (x ∷ inputs) [] opened are = absurd are
  as_many told (name ∷ names) (x ∷ inputs) (text ∷ texts) opened are = ap suc (as_many told names inputs texts opened.1 are.1)

  told_texts : (told : Option (List NamedBytes)) (names : List (List ℕ)) (inputs : List I) (texts : List (List ℕ)) → AllZip (IsOpen i told) names inputs → AllZip (IsTextOf i) inputs texts
      → IfSome told (λ files. AllZip (HasText files) names texts)
  told_texts None names inputs texts opened are = tt
  told_texts (Some files) names inputs texts opened are = each_text files names inputs texts opened are

  pub have_all : (told : Option (List NamedBytes)) (names : List (List ℕ)) (inputs : List I) (texts : List (List ℕ)) → AllZip (IsOpen i told) names inputs → ReadsAll i inputs (2 ^ 30) [] texts
      → HaveAll told names texts
  have_all told names inputs texts opened reads =
      subst (HaveAll told names) (sym reads.grown) (record {
        many = as_many told names inputs reads.more opened reads.are;
        are = told_texts told names inputs reads.more opened reads.are;
        fits = reads.fits;
      })

  -- ---- the file that is past the limit

  size_cons : (files : List NamedBytes) (name : List ℕ) (names : List (List ℕ)) → size_of files (name ∷ names) ≡ length (unwrap_or (bytes_at name files) []) + size_of files names
  size_cons files name names = sum_by-cons (λ (n : List ℕ). length (unwrap_or (bytes_at n files) [])) name names

  length_of : (name : List ℕ) (files : List NamedBytes) (known : Option (List ℕ)) (P : List ℕ → Type 0) → IsSome (bytes_at name files) → known ≡ bytes_at name files → IfSome known P
      → P (unwrap_or (bytes_at name files) [])
  length_of name files known P there is holds = by (bytes_at name files) there is
    where
      by : (found : Option (List ℕ)) → IsSome found → known ≡ found → P (unwrap_or found [])
      by None there' is' = absurd (cc)
      by (Some bytes) there' is' = subst (λ (o : Option (List ℕ)). IfSome o P) is' holds

  abbrev IsPastIn : List NamedBytes → List (List ℕ) → (room before : ℕ) → Type 0
  IsPastIn files names room before = (before < length names) × (size_of files (take before names) ≤ room) × (room < size_of files (take (suc before) names))

  past_in : (files : List NamedBytes) (names : List (List ℕ)) (inputs : List I) (room before : ℕ) → AllZip (IsOpen i (Some files)) names inputs → IsPast i inputs room before
      → IsPastIn files names room before
  past_in files [] [] room before opened past = absurd past
  past_in files [] (x ∷ inputs) room before opened past = absurd opened
  past_in files (name ∷ names) [] room before opened past = absurd opened
  past_in files (name ∷ names) (x ∷ inputs) room zero opened past =
      let long = length_of name files (i.left x) (λ bytes. room < length bytes) opened.0.0 opened.0.1 past in
      (omega arith, omega arith, omega (arith, long, size_cons files name []))
  past_in files (name ∷ names) (x ∷ inputs) room (suc before) opened past =
      let size = length (unwrap_or (bytes_at name files) []) in
      let here = length_of name files (i.left x) (λ bytes. (length bytes ≤ room) × IsPast i inputs (room - length bytes) before) opened.0.0 opened.0.1 past in
      let rest = past_in files names inputs (room - size) before opened.1 here.1 in
      (omega (arith, rest.0), omega (arith, here.0, rest.1, size_cons files name (take before names)), omega (arith, here.0, rest.2, size_cons files name (take (suc before) names)))

  pub past_at : (told : Option (List NamedBytes)) (names : List (List ℕ)) (inputs : List I) (place before : ℕ) → AllZip (IsOpen i told) names inputs → place ≡ before + 1
      → IsPast i inputs (2 ^ 30) before → IfSome told (λ files. IsPastAt files names place)
  past_at None names inputs place before opened number past = tt
  past_at (Some files) names inputs place before opened number past =
      let is = past_in files names inputs (2 ^ 30) before opened past in
      let place_is : place ≡ suc before = omega (arith, number) in
      record {
        before = before;
        number = number;
        there = is.0;
        fits = is.1;
        past = subst (λ (n : ℕ). 2 ^ 30 < size_of files (take n names)) (sym place_is) is.2;
      }

-- ---- in pairs

-- so many texts are those of as many scripts
pub pairs_of : (scripts : List (List ℕ)) (texts : List (List ℕ)) → length texts ≡ length (files_of scripts) → (whole : List Heard) × (texts ≡ texts_of whole) × (length whole ≡ length scripts)
pairs_of [] [] many = ([], refl, refl)
pairs_of [] (a ∷ texts) many = absurd (omega (arith, many))
pairs_of (s ∷ scripts) [] many = absurd (omega (arith, many))
pairs_of (s ∷ scripts) (a ∷ []) many = absurd (omega (arith, many))
pairs_of (s ∷ scripts) (a ∷ b ∷ texts) many =
    let rest = pairs_of scripts texts (omega (arith, many)) in
    (record { script = a; transcript = b } ∷ rest.0, ap (λ (l : List (List ℕ)). a ∷ b ∷ l) rest.1, ap suc rest.2)

-- each script is as long as all may be
pub each_short : (heard : List Heard) (limit : ℕ) → sum_by length (texts_of heard) ≤ limit → All (λ (h : Heard). length h.script ≤ limit) heard
each_short heard limit fits = by heard fits
  where
    by : (heard : List Heard) → sum_by length (texts_of heard) ≤ limit → All (λ (h : Heard). length h.script ≤ limit) heard
    by [] few = λ k d below. absurd (omega (arith, below))
    by (x ∷ heard) few = each heard (omega (arith, few, sum_by-cons length x.script (x.transcript ∷ texts_of heard)))
        (by heard (omega (arith, few, sum_by-cons length x.script (x.transcript ∷ texts_of heard), sum_by-cons length x.transcript (texts_of heard))))
      where
        each : (rest : List Heard) → length x.script ≤ limit → All (λ (h : Heard). length h.script ≤ limit) rest → All (λ (h : Heard). length h.script ≤ limit) (x ∷ rest)
        each rest is all zero d below = is
        each rest is all (suc k) d below = all k d (omega (arith, below))

pub nothing_left : {X : Type 0} (l : List X) → length l ≡ 0 → l ≡ []
nothing_left [] none = refl
nothing_left (x ∷ xs) none = absurd (omega (arith, none))

pub none_whole : (items : List (List ℕ)) (whole : List Heard) → items ≡ texts_of whole → length items ≡ 0 → whole ≡ []
none_whole items [] is none = refl
none_whole items (x ∷ whole) is none = absurd (omega (arith, ap length is, none))

pub odd_whole : (a : List ℕ) (rest : List (List ℕ)) (whole : List Heard) → a ∷ rest ≡ texts_of whole → length rest ≡ 0 → ⊥
odd_whole a rest [] is none = absurd (omega (arith, ap length is))
odd_whole a rest (x ∷ whole) is none = omega (arith, ap length is, none)

heads : (a b c d : List ℕ) (rest more : List (List ℕ)) → a ∷ b ∷ rest ≡ c ∷ d ∷ more → (a ≡ c) × (b ≡ d) × (rest ≡ more)
heads a b c d rest more is = (cc, cc, cc)

-- the first pair, and the others
pub two_whole : (a b : List ℕ) (rest : List (List ℕ)) (whole : List Heard) → a ∷ b ∷ rest ≡ texts_of whole
    → (more : List Heard) × (whole ≡ record { script = a; transcript = b } ∷ more) × (rest ≡ texts_of more)
two_whole a b rest [] is = absurd (omega (arith, ap length is))
two_whole a b rest (x ∷ whole) is =
    let same = heads a b x.script x.transcript rest (texts_of whole) is in
    (whole, (λ i. record { script = sym same.0 i; transcript = sym same.1 i } ∷ whole), same.2)

pub pairs_then : {E : Type 0} (result : Result (Unit {0}) E) (old mid new more whole : List Heard) (x : Heard) → mid ≡ old ++ x ∷ [] → whole ≡ x ∷ more
    → OnOk result (new ≡ mid ++ more) → OnOk result (new ≡ old ++ whole)
pairs_then (Ok done) old mid new more whole x pushed is rest =
    rest ∙ ap (λ (l : List Heard). l ++ more) pushed ∙ append_assoc old (x ∷ []) more ∙ ap (λ (l : List Heard). old ++ l) (sym is)
pairs_then (Err e) old mid new more whole x pushed is rest = tt

pub pushed_one : {X : Type 0} (old new : List X) (x : X) → new ≡ old ++ x ∷ [] → length new ≡ length old + 1
pushed_one old new x is = ap length is ∙ length-append old (x ∷ [])

-- all texts are those of the journals, and of scripts with their transcripts
pub in_parts : (told : Option (List NamedBytes)) (journal : List ℕ) (scripts found : List (List ℕ)) → HaveAll told (names_of journal scripts) found
    → (bytes : List ℕ) × (whole : List Heard) × (found ≡ bytes ∷ texts_of whole) × AreTexts told journal scripts bytes whole
in_parts told journal scripts [] have = absurd (omega (arith, have.many))
in_parts told journal scripts (bytes ∷ rest) have =
    let pairs = pairs_of scripts rest (omega (arith, have.many)) in
    let same : bytes ∷ rest ≡ bytes ∷ texts_of pairs.0 = ap (λ (l : List (List ℕ)). bytes ∷ l) pairs.1 in
    (bytes, pairs.0, same, record { many = pairs.2; have = subst (HaveAll told (names_of journal scripts)) same have })

pub short_scripts : (told : Option (List NamedBytes)) (journal : List ℕ) (scripts : List (List ℕ)) (bytes : List ℕ) (heard : List Heard) → AreTexts told journal scripts bytes heard
    → All (λ (h : Heard). length h.script ≤ 2 ^ 30) heard
short_scripts told journal scripts bytes heard are =
    let fits = are.have.fits in each_short heard (2 ^ 30) (omega (arith, fits, sum_by-cons length bytes (texts_of heard)))
