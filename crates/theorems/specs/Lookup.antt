-- Request #103: the line over the typed members.
-- (Theorems that rest on these stand in `proofs/Lookup.antt`.)
use Rattle.std.proofs.Common.{sym, ap₂, ◌∙◌, true≢false, append_assoc, append-nil, zero-add, take-append-drop, ◌+◌, ◌-◌, ◌≡◌, ◌∷◌, ◌++◌}
use Rattle.std.proofs.Math.Path.{ap}
use Rattle.std.specs.Prelude.{◌↔◌, ◌⊎◌, ◌≤◌}
use Rattle.std.proofs.Math.Logic.{inl, inr}
use Rattle.std.proofs.lemmas.Bool.{false≢true}
use native.Mathlib.Omega.{arith}
use Rattle.std.proofs.Math.ListN.{length-append}
use Rattle.std.proofs.Math.Seq.{take-append_seam, drop-append_seam}
use Rattle.definitions.specs.Basics.{ℕ, zero, suc, refl, Bool, true, false, cond, Option, none, some, option_get_or, List, [], map, length, take, drop, text}
use Rattle.definitions.specs.Basics.{flatten, eqb, same, is_some, any}
use Rattle.definitions.specs.Syntax.{Table}
use Rattle.definitions.specs.Layout.{whole, number, exactly, lines, items, table_line}
use Rattle.definitions.specs.Spelling.{decimal, hyphen_or_decimal, bracketed, spell_table, spellable}
use Rattle.definitions.specs.Questions.{first_no, entry_asks, region_of, check_of}
use Rattle.definitions.specs.Lookup.{FilePart, bytes_at, typed_right, typed_members, is_over, first_line, line_over, asked_by_line, part_unless_refused, line_found, line_outcome}
use Rattle.definitions.specs.Boundary.{room_for_numbers, result_after, line_call_of, line_call}
use Rattle.lists.specs.Tests.{both, join, same_answer}
use Rattle.lists.specs.Every.{any_false}
use Rattle.lists.specs.Maps.{flatten_append}
use Rattle.lists.specs.Members.{◌∈◌, here, there}
use Rattle.theorems.specs.Readers.{one_front, whole_takes, exactly_reads}
use Rattle.theorems.specs.Lines.{flatten_lines}
use Rattle.theorems.specs.Items.{some_all}
use Rattle.theorems.specs.Forms.{line_spelt, members_read, table_takes}
use Rattle.theorems.specs.Accepted.{some_of}
use Rattle.theorems.specs.Refusals.{line_says_lem, line_call_says}
use Rattle.theorems.specs.Yields.{asked_after}
use Rattle.theorems.specs.Sameness.{numbers_tests}

-- ---- a table line is over the typed members where it begins with them

-- What a table line over the typed members begins with; whether a line does.
abbrev pub opening : List ℕ → List ℕ
opening typed = text "(cost " ++ typed ++ text " ("

unfoldable pub begins : List ℕ → List ℕ → Bool
begins typed line = is_some (exactly (opening typed) line)

pub begins_each : (typed rest : List ℕ) → begins typed (opening typed ++ rest) ≡ true
unfolding begins
begins_each typed rest = ap is_some ((exactly_reads (opening typed)).each tt rest refl tt)

pub begins_only : (typed line : List ℕ) → begins typed line ≡ true → (rest : List ℕ) × (line ≡ opening typed ++ rest)
unfolding begins
begins_only typed line h =
    let read = some_of (exactly (opening typed) line) (tt, []) h in
    ((option_get_or (exactly (opening typed) line) (tt, [])).1, ((exactly_reads (opening typed)).only read).1)

opening_is : (typed rest : List ℕ) → opening typed ++ rest ≡ text "(cost " ++ (typed ++ 32 ∷ 40 ∷ rest)
opening_is typed rest = ap (λ (l : List ℕ). text "(cost " ++ l) (append_assoc typed (text " (") rest)

bracket_first : (ps : List (List ℕ)) → (rest : List ℕ) × (bracketed ps ≡ 40 ∷ rest)
bracket_first [] = (_, refl)
bracket_first (p ∷ ps) = (_, refl)

-- The line of a table begins with its members.
table_opening : (t : Table) → (rest : List ℕ) × (spell_table t ≡ opening (bracketed (map decimal t.members)) ++ rest)
unfolding spell_table
table_opening t =
    let members = bracketed (map decimal t.members) in
    let entries = bracketed (map hyphen_or_decimal t.entries) in
    let (rest, is) = bracket_first (map hyphen_or_decimal t.entries) in (
      rest ++ 41 ∷ 10 ∷ [],
      sym (append-nil (spell_table t)) ∙ line_spelt (text "cost") (members ∷ entries ∷ []) []
          ∙ ap (λ (l : List ℕ). text "(cost " ++ (members ++ 32 ∷ (l ++ 41 ∷ 10 ∷ []))) is
          ∙ sym (opening_is members (rest ++ 41 ∷ 10 ∷ [])),
    )

-- The typed bytes are the one spelling of the typed members.
pub typed_spelt : (typed : List ℕ) → typed_right typed ≡ true
    → (some_all spellable (typed_members typed) ≡ true) × (typed ≡ bracketed (map decimal (typed_members typed)))
unfolding typed_right typed_members
typed_spelt typed right = (whole_takes members_read tt).only (some_of (whole (items number) typed) [] right)

-- A table line that begins with them has these members.
opened_members : (typed line : List ℕ) (t : Table) → whole table_line line ≡ some t → typed_right typed ≡ true → begins typed line ≡ true
    → t.members ≡ typed_members typed
opened_members typed line t e right h =
    let (ok, typed_is) = typed_spelt typed right in
    let (ok_t, line_is) = table_takes.only e in
    let (after, opened) = begins_only typed line h in
    let (rest, table_is) = table_opening t in
    let members = bracketed (map decimal t.members) in
    let both_ways : opening members ++ rest ≡ opening typed ++ after = sym table_is ∙ sym line_is ∙ opened in
    let at_front : members ++ 32 ∷ 40 ∷ rest ≡ typed ++ 32 ∷ 40 ∷ after = ap (drop 6) (sym (opening_is members rest) ∙ both_ways ∙ opening_is typed after) in
    one_front members_read (32 ∷ 40 ∷ rest) (32 ∷ 40 ∷ after) (both (some_all spellable t.members) ok_t).0 ok (at_front ∙ ap (λ (l : List ℕ). l ++ 32 ∷ 40 ∷ after) typed_is)

over_is : (line : List ℕ) {t : Table} → whole table_line line ≡ some t → (members : List ℕ) → is_over members line ≡ same eqb t.members members
unfolding is_over
over_is line e members = rw (e, is_over)

pub line_prefix : (typed line : List ℕ) (t : Table) → whole table_line line ≡ some t → typed_right typed ≡ true
    → is_over (typed_members typed) line ≡ begins typed line
line_prefix typed line t e right = over_is line e (typed_members typed) ∙ same_answer opened named
  where
    opened : same eqb t.members (typed_members typed) ≡ true → begins typed line ≡ true
    opened h =
        let members = numbers_tests.alike_same t.members (typed_members typed) h in
        let spelt : bracketed (map decimal t.members) ≡ typed = ap (λ (ss : List ℕ). bracketed (map decimal ss)) members ∙ sym (typed_spelt typed right).1 in
        let (rest, is) = table_opening t in
        ap (begins typed) ((table_takes.only e).1 ∙ is ∙ ap (λ (l : List ℕ). opening l ++ rest) spelt) ∙ begins_each typed rest

    named : begins typed line ≡ true → same eqb t.members (typed_members typed) ≡ true
    named h = numbers_tests.same_alike t.members (typed_members typed) (opened_members typed line t e right h)

-- The same in plain words: the line's first bytes are `(cost `, the typed bytes and ` (`.
pub line_opening : (typed line : List ℕ) (t : Table) → whole table_line line ≡ some t → typed_right typed ≡ true
    → (is_over (typed_members typed) line ≡ true) ↔ (take (length typed + 8) line ≡ opening typed)
line_opening typed line t e right = (
  λ h. let (rest, is) = begins_only typed line (sym prefix ∙ h) in ap₂ take (sym long) is ∙ take-append_seam (opening typed) rest,
  λ h. prefix ∙ ap (begins typed) (sym (take-append-drop (length typed + 8) line) ∙ ap (λ (l : List ℕ). l ++ drop (length typed + 8) line) h) ∙ begins_each typed _,
)
  where
    prefix : is_over (typed_members typed) line ≡ begins typed line
    prefix = line_prefix typed line t e right

    long : length (opening typed) ≡ length typed + 8
    long = omega (arith, length-append typed (text " ("))

-- ---- the line over the typed members, for whoever reads lines from the left

-- Two tests that agree on every line find the same line.
pub first_line_same : (test other : List ℕ → Bool) (start : ℕ) (ls : List (List ℕ)) → ((l : List ℕ) → l ∈ ls → test l ≡ other l)
    → first_line test start ls ≡ first_line other start ls
first_line_same test other start [] agree = refl
first_line_same test other start (l ∷ ls) agree =
    rw (agree l (here refl), first_line_same test other (start + length l) ls (λ k i. agree k (there i)))

-- ---- what is found

-- A line is that of a table over the typed members.
pub record Over (typed line : List ℕ) : Type 0 where
  pub table : Table
  pub line_says : whole table_line line ≡ some table
  pub typed_says : whole (items number) typed ≡ some table.members

-- The part is a line of the file without its line end, over the typed members, and no line before it is.
pub record TheLine (file typed : List ℕ) (p : FilePart) : Type 0 where
  pub before : List (List ℕ)
  pub line : List ℕ
  pub after : List (List ℕ)
  pub in_file : lines file ≡ before ++ (line ++ text "\n") ∷ after
  pub over : Over typed (line ++ text "\n")
  pub first : (l : List ℕ) → l ∈ before → Over typed l → ⊥
  pub start : p.start ≡ length (flatten before)
  pub size : p.size ≡ length line

-- No line of the file is over the typed members, and the part is the empty one at the file's end.
pub record NoLine (file typed : List ℕ) (p : FilePart) : Type 0 where
  pub none : (l : List ℕ) → l ∈ lines file → Over typed l → ⊥
  pub at_end : p ≡ record { start = length file; size = 0 }

-- The test of the definitions finds such lines, ..
pub is_over_lem : (typed line : List ℕ) → typed_right typed ≡ true → (is_over (typed_members typed) line ≡ true) ↔ Over typed line
unfolding is_over typed_right typed_members
is_over_lem typed line right = (only (whole table_line line) refl, each)
  where
    only : (o : Option Table) → whole table_line line ≡ o → elim o [ none ↦ false | some t ↦ same eqb t.members (typed_members typed) ] ≡ true → Over typed line
    only none e h = absurd (false≢true h)
    only (some t) e h = record {
      table = t;
      line_says = e;
      typed_says = some_of (whole (items number) typed) [] right ∙ ap {B = Option (List ℕ)} some (sym (numbers_tests.alike_same t.members (typed_members typed) h));
    }

    each : Over typed line → is_over (typed_members typed) line ≡ true
    each o = over_is line o.line_says (typed_members typed) ∙ numbers_tests.same_alike o.table.members (typed_members typed)
        (sym (ap (λ (r : Option (List ℕ)). option_get_or r []) o.typed_says))

no_over : (typed : List ℕ) → typed_right typed ≡ true → (ls : List (List ℕ)) → any (is_over (typed_members typed)) ls ≡ false
    → (l : List ℕ) → l ∈ ls → Over typed l → ⊥
no_over typed right ls out l i o = true≢false (sym ((is_over_lem typed l right).1 o) ∙ (any_false _ ls).0 out l i)

-- .. and its search the first that passes a test, where there is one.
module _ (test : List ℕ → Bool) where
  record First (start : ℕ) (ls : List (List ℕ)) (p : FilePart) : Type 0 where
    before : List (List ℕ)
    line : List ℕ
    after : List (List ℕ)
    are : ls ≡ before ++ line ∷ after
    passes : test line ≡ true
    none_before : any test before ≡ false
    at : p.start ≡ start + length (flatten before)
    long : p.size ≡ length line - 1

  record NoneOf (start : ℕ) (ls : List (List ℕ)) (p : FilePart) : Type 0 where
    none_all : any test ls ≡ false
    at : p.start ≡ start + length (flatten ls)
    empty : p.size ≡ 0

  abbrev Sought : ℕ → List (List ℕ) → FilePart → Type 0
  Sought start ls p = First start ls p ⊎ NoneOf start ls p

  first_line_is : (start : ℕ) (ls : List (List ℕ)) → Sought start ls (first_line test start ls)
  unfolding flatten
  first_line_is start [] = inr (record { none_all = refl; at = omega arith; empty = refl })
  first_line_is start (l ∷ ls) = by (test l) refl (first_line test (start + length l) ls) (first_line_is (start + length l) ls)
    where
      by : (b : Bool) → test l ≡ b → (later : FilePart) → Sought (start + length l) ls later
          → Sought start (l ∷ ls) (cond b (record { start = start; size = length l - 1 }) later)
      by true e later s = inl (record { before = []; line = l; after = ls; are = refl; passes = e; none_before = refl; at = omega arith; long = refl })
      by false e later (inl f) = inl (record {
        before = l ∷ f.before;
        line = f.line;
        after = f.after;
        are = ap {B = List (List ℕ)} (λ k. l ∷ k) f.are;
        passes = f.passes;
        none_before = rw e f.none_before;
        at = omega (arith, f.at, length-append l (flatten f.before));
        long = f.long;
      })
      by false e later (inr n) = inr (record { none_all = rw e n.none_all; at = omega (arith, n.at, length-append l (flatten ls)); empty = n.empty })

  -- The part lies within the lines.
  first_line_within : (start : ℕ) (ls : List (List ℕ)) → (first_line test start ls).start + (first_line test start ls).size ≤ start + length (flatten ls)
  unfolding flatten
  first_line_within start ls = elim (first_line_is start ls) [
    | inl f ↦ omega (arith, f.at, f.long, ap (λ (ks : List (List ℕ)). length (flatten ks)) f.are, lengths f.before f.line f.after)
    | inr n ↦ omega (arith, n.at, n.empty)
  ]
    where
      lengths : (before : List (List ℕ)) (l : List ℕ) (after : List (List ℕ))
          → length (flatten (before ++ l ∷ after)) ≡ length (flatten before) + (length l + length (flatten after))
      lengths before l after =
          ap length (flatten_append before (l ∷ after)) ∙ length-append (flatten before) (l ++ flatten after)
          ∙ ap (λ (n : ℕ). length (flatten before) + n) (length-append l (flatten after))

-- Number 0 says that the file is accepted and that members are typed; the part is then what the search finds.
module _ (file typed : List ℕ) where
  pub line_fine : ((line_outcome file typed).number ≡ 0) ↔ ((check_of file ≡ 0) × (typed_right typed ≡ true))
  unfolding asked_by_line
  line_fine = (
    λ e. let (h, k) = (asked_after file _).0 ((line_says_lem file typed).accepted.0 e) in (h, (both (typed_right typed) k).0),
    λ (h, k). (line_says_lem file typed).accepted.1 ((asked_after file _).1 (h, join k refl)),
  )

  part_found : (line_outcome file typed).number ≡ 0 → (line_outcome file typed).part ≡ line_over file typed
  unfolding line_outcome line_found
  part_found e = ap (λ (n : ℕ). part_unless_refused n file (line_over file typed)) e

  -- The part lies within the file, whatever the number.
  pub part_within : (line_outcome file typed).part.start + (line_outcome file typed).part.size ≤ length file
  unfolding line_outcome line_found line_over
  part_within = by (first_no (entry_asks (asked_by_line file typed)))
    where
      by : (n : ℕ) → (part_unless_refused n file (line_over file typed)).start + (part_unless_refused n file (line_over file typed)).size ≤ length file
      by zero = omega (arith, first_line_within (is_over (typed_members typed)) 0 (lines file), ap length (flatten_lines file))
      by (suc q) = omega arith

  pub line_found_lem : (line_outcome file typed).number ≡ 0 → TheLine file typed (line_outcome file typed).part ⊎ NoLine file typed (line_outcome file typed).part
  unfolding line_over spell_table
  line_found_lem e = rw (part_found e) (elim (first_line_is (is_over (typed_members typed)) 0 (lines file)) [ inl f ↦ inl (the_line f) | inr n ↦ inr (no_line_lem n) ])
    where
      right : typed_right typed ≡ true
      right = (line_fine.0 e).1

      the_line : First (is_over (typed_members typed)) 0 (lines file) (line_over file typed) → TheLine file typed (line_over file typed)
      the_line f =
          let over = (is_over_lem typed f.line right).0 f.passes in
          let t = over.table in
          let form = bracketed (text "cost" ∷ bracketed (map decimal t.members) ∷ bracketed (map hyphen_or_decimal t.entries) ∷ []) in
          let is : f.line ≡ form ++ text "\n" = (table_takes.only over.line_says).1 in
          record {
            before = f.before;
            line = form;
            after = f.after;
            in_file = f.are ∙ ap (λ (l : List ℕ). f.before ++ l ∷ f.after) is;
            over = record { table = t; line_says = ap (whole table_line) (sym is) ∙ over.line_says; typed_says = over.typed_says };
            first = no_over typed right f.before f.none_before;
            start = f.at ∙ zero-add _;
            size = omega (arith, f.long, ap length is, length-append form (text "\n"));
          }

      no_line_lem : NoneOf (is_over (typed_members typed)) 0 (lines file) (line_over file typed) → NoLine file typed (line_over file typed)
      no_line_lem n = record {
        none = no_over typed right (lines file) n.none_all;
        at_end = λ i. record { start = (n.at ∙ zero-add _ ∙ ap length (flatten_lines file)) i; size = n.empty i };
      }

-- The bytes of the part are the line.
pub line_bytes : (file typed : List ℕ) (p : FilePart) (t : TheLine file typed p) → bytes_at p file ≡ t.line
unfolding flatten
line_bytes file typed p t =
    rw (t.start, t.size, file_is) (ap (take (length t.line)) (drop-append_seam (flatten t.before) (t.line ++ rest)) ∙ take-append_seam t.line rest)
  where
    rest : List ℕ
    rest = text "\n" ++ flatten t.after

    file_is : file ≡ flatten t.before ++ (t.line ++ rest)
    file_is =
        sym (flatten_lines file) ∙ ap flatten t.in_file ∙ flatten_append t.before ((t.line ++ text "\n") ∷ t.after)
        ∙ ap (λ (l : List ℕ). flatten t.before ++ l) (append_assoc t.line (text "\n") (flatten t.after))

-- Of the region that the file says: the line is that of one of its tables, and where there is no line, none of them is over the typed members.
module _ (file typed : List ℕ) (fine : (line_outcome file typed).number ≡ 0) where
  abbrev pub TheTable : FilePart → Type 0
  TheTable p = (t : TheLine file typed p) → t.over.table ∈ (region_of file).tables

  abbrev pub NoTable : FilePart → Type 0
  NoTable p = NoLine file typed p → (t : Table) → t ∈ (region_of file).tables → whole (items number) typed ≡ some t.members → ⊥

-- The call from C: number 0 says that line's is 0 too, and the result is the start and the length of its part.
pub line_call_found : (file typed result : List ℕ) → (line_call file typed result).number ≡ 0
    → ((line_outcome file typed).number ≡ 0) × ((line_call file typed result).result ≡ result_after ((line_outcome file typed).part.start ∷ (line_outcome file typed).part.size ∷ []) result)
unfolding line_call line_call_of line_found asked_by_line
line_call_found file typed result e =
    let (checked, others) = (asked_after file _).0 ((line_call_says file typed result).accepted.0 e) in
    let right = (both (typed_right typed) (both (room_for_numbers 2 result) others).1).0 in
    let fine = (line_fine file typed).1 (checked, right) in
    (fine, rw (e, part_found file typed fine) refl)
