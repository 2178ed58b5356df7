-- The four forms of lines: each has one spelling.
use Rattle.std.proofs.Common.{sym, ap, ◌∙◌, append_assoc, append-nil, ne_eqb, arith, ◌≡◌, ◌&&◌, ◌∷◌, ◌++◌}
use Rattle.definitions.specs.Basics.{ℕ, refl, Bool, true, Option, none, some, List, [], map, flat_map, text, every, none_or}
use Rattle.definitions.specs.Syntax.{Patient, Table}
use Rattle.definitions.specs.Layout.{whole, is_digit, number, hyphen_or_number, items, region_line, patient_line, table_line, end_line}
use Rattle.definitions.specs.Spelling.{decimal, hyphen_or_decimal, bracketed, line, spell_patient, spell_table, spellable}
use Rattle.lists.specs.Tests.{both, join}
use Rattle.lists.specs.Every.{every_weaken}
use Rattle.theorems.specs.Readers.{Takes, Reads, Anything, then_only, then_each, gives_same, whole_takes, word_reads}
use Rattle.theorems.specs.Numbers.{digit_bounds, decimal_digits, number_reads, hyphen_reads}
use Rattle.theorems.specs.Items.{some_all, in_item, items_reads}

-- A line from the left, as a reader meets it: the word, each part after a space, the closing bracket and the line end.
abbrev pub from_left : List (List ℕ) → List ℕ → List ℕ
from_left [] rest = rest
from_left (p ∷ ps) rest = 32 ∷ (p ++ from_left ps rest)

parts_spelt : (ps : List (List ℕ)) (rest : List ℕ) → flat_map (λ q. 32 ∷ q) ps ++ rest ≡ from_left ps rest
unfolding flat_map
parts_spelt [] rest = refl
parts_spelt (p ∷ ps) rest =
    append_assoc (32 ∷ p) (flat_map (λ q. 32 ∷ q) ps) rest ∙ ap (λ (l : List ℕ). 32 ∷ (p ++ l)) (parts_spelt ps rest)

pub line_spelt : (word : List ℕ) (ps : List (List ℕ)) (rest : List ℕ) → line (word ∷ ps) ++ rest ≡ 40 ∷ (word ++ from_left ps (41 ∷ 10 ∷ rest))
line_spelt word ps rest =
    let parts = flat_map (λ q. 32 ∷ q) ps in
    ap (λ (l : List ℕ). 40 ∷ l) (append_assoc (word ++ (parts ++ text ")")) (text "\n") rest
    ∙ append_assoc word (parts ++ text ")") (10 ∷ rest)
    ∙ ap (λ (l : List ℕ). word ++ l) (append_assoc parts (text ")") (10 ∷ rest) ∙ parts_spelt ps (41 ∷ 10 ∷ rest)))

-- The first line.
abbrev pub spell_head : ℕ × ℕ × ℕ → List ℕ
spell_head h = line (text "region" ∷ decimal h.0 ∷ decimal h.1 ∷ decimal h.2 ∷ [])

abbrev pub ok_head : ℕ × ℕ × ℕ → Bool
ok_head h = every spellable (h.0 ∷ h.1 ∷ h.2 ∷ [])

head_only : {xs rest : List ℕ} {h : ℕ × ℕ × ℕ} → region_line xs ≡ some (h, rest) → (ok_head h ≡ true) × (xs ≡ spell_head h ++ rest)
unfolding region_line
head_only {xs} {rest} {h} e =
    then_only (word_reads "(region ") _ xs e λ _ r₁ _ is₁ e₁.
    then_only number_reads _ r₁ e₁ λ v r₂ ok_v is₂ e₂.
    then_only (word_reads " ") _ r₂ e₂ λ _ r₃ _ is₃ e₃.
    then_only number_reads _ r₃ e₃ λ t r₄ ok_t is₄ e₄.
    then_only (word_reads " ") _ r₄ e₄ λ _ r₅ _ is₅ e₅.
    then_only number_reads _ r₅ e₅ λ m r₆ ok_m is₆ e₆.
    then_only (word_reads ")\n") _ r₆ e₆ λ _ r₇ _ is₇ e₇.
    let (same, rest_is) = gives_same e₇ in
    rw (← same, ← rest_is, is₁, is₂, is₃, is₄, is₅, is₆, is₇)
    (rw (ok_v, ok_t, ok_m) refl, sym (line_spelt (text "region") (decimal v ∷ decimal t ∷ decimal m ∷ []) r₇))

head_each : (h : ℕ × ℕ × ℕ) (rest : List ℕ) → ok_head h ≡ true → Anything rest → region_line (spell_head h ++ rest) ≡ some (h, rest)
unfolding region_line
head_each h rest ok any =
    let (ok_v, ok_tm) = both (spellable h.0) ok in
    let (ok_t, ok_m) = both (spellable h.1) ok_tm in
    ap region_line (line_spelt (text "region") (decimal h.0 ∷ decimal h.1 ∷ decimal h.2 ∷ []) rest)
    ∙ then_each (word_reads "(region ") _ tt _ refl tt
    ∙ then_each number_reads _ h.0 _ ok_v refl
    ∙ then_each (word_reads " ") _ tt _ refl tt
    ∙ then_each number_reads _ h.1 _ ok_t refl
    ∙ then_each (word_reads " ") _ tt _ refl tt
    ∙ then_each number_reads _ h.2 _ (both (spellable h.2) ok_m).0 refl
    ∙ then_each (word_reads ")\n") _ tt _ refl tt

pub head_takes : Takes (whole region_line) spell_head ok_head
head_takes = whole_takes (record { only = head_only; each = head_each }) tt

-- A patient's line.
abbrev pub ok_patient : Patient → Bool
ok_patient p = spellable p.clinic && spellable p.bed_count && none_or spellable p.parent && none_or spellable p.fixed_bed

patient_only : {xs rest : List ℕ} {p : Patient} → patient_line xs ≡ some (p, rest) → (ok_patient p ≡ true) × (xs ≡ spell_patient p ++ rest)
unfolding patient_line spell_patient
patient_only {xs} {rest} {p} e =
    then_only (word_reads "(patient ") _ xs e λ _ r₁ _ is₁ e₁.
    then_only number_reads _ r₁ e₁ λ c r₂ ok_c is₂ e₂.
    then_only (word_reads " ") _ r₂ e₂ λ _ r₃ _ is₃ e₃.
    then_only number_reads _ r₃ e₃ λ d r₄ ok_d is₄ e₄.
    then_only (word_reads " ") _ r₄ e₄ λ _ r₅ _ is₅ e₅.
    then_only hyphen_reads _ r₅ e₅ λ q r₆ ok_q is₆ e₆.
    then_only (word_reads " ") _ r₆ e₆ λ _ r₇ _ is₇ e₇.
    then_only hyphen_reads _ r₇ e₇ λ b r₈ ok_b is₈ e₈.
    then_only (word_reads ")\n") _ r₈ e₈ λ _ r₉ _ is₉ e₉.
    let (same, rest_is) = gives_same e₉ in
    rw (← same, ← rest_is, is₁, is₂, is₃, is₄, is₅, is₆, is₇, is₈, is₉)
    (rw (ok_c, ok_d, ok_q, ok_b) refl, sym (line_spelt (text "patient") (decimal c ∷ decimal d ∷ hyphen_or_decimal q ∷ hyphen_or_decimal b ∷ []) r₉))

patient_each : (p : Patient) (rest : List ℕ) → ok_patient p ≡ true → Anything rest → patient_line (spell_patient p ++ rest) ≡ some (p, rest)
unfolding patient_line spell_patient
patient_each p rest ok any =
    let (ok_cdq, ok_b) = both (spellable p.clinic && spellable p.bed_count && none_or spellable p.parent) ok in
    let (ok_cd, ok_q) = both (spellable p.clinic && spellable p.bed_count) ok_cdq in
    let (ok_c, ok_d) = both (spellable p.clinic) ok_cd in
    ap patient_line (line_spelt (text "patient") (decimal p.clinic ∷ decimal p.bed_count ∷ hyphen_or_decimal p.parent ∷ hyphen_or_decimal p.fixed_bed ∷ []) rest)
    ∙ then_each (word_reads "(patient ") _ tt _ refl tt
    ∙ then_each number_reads _ p.clinic _ ok_c refl
    ∙ then_each (word_reads " ") _ tt _ refl tt
    ∙ then_each number_reads _ p.bed_count _ ok_d refl
    ∙ then_each (word_reads " ") _ tt _ refl tt
    ∙ then_each hyphen_reads _ p.parent _ ok_q refl
    ∙ then_each (word_reads " ") _ tt _ refl tt
    ∙ then_each hyphen_reads _ p.fixed_bed _ ok_b refl
    ∙ then_each (word_reads ")\n") _ tt _ refl tt

pub patient_takes : Takes (whole patient_line) spell_patient ok_patient
patient_takes = whole_takes (record { only = patient_only; each = patient_each }) tt

-- The members and the entries of a table; its line.
digit_in_item : (b : ℕ) → is_digit b ≡ true → in_item b ≡ true
digit_in_item b h = let (low, high) = digit_bounds b h in rw (ne_eqb b 32 (omega arith), ne_eqb b 41 (omega arith)) refl

decimal_in_item : (n : ℕ) → every in_item (decimal n) ≡ true
decimal_in_item n = every_weaken is_digit in_item digit_in_item (decimal n) (decimal_digits n)

hyphen_in_item : (p : Option ℕ) → every in_item (hyphen_or_decimal p) ≡ true
hyphen_in_item none = refl
hyphen_in_item (some n) = decimal_in_item n

pub members_read : Reads (items number) (λ l. bracketed (map decimal l)) (some_all spellable) Anything
members_read = items_reads number (whole_takes number_reads tt) decimal_in_item

entries_read_lem : Reads (items hyphen_or_number) (λ l. bracketed (map hyphen_or_decimal l)) (some_all (none_or spellable)) Anything
entries_read_lem = items_reads hyphen_or_number (whole_takes hyphen_reads tt) hyphen_in_item

abbrev pub ok_table : Table → Bool
ok_table t = some_all spellable t.members && some_all (none_or spellable) t.entries

table_only : {xs rest : List ℕ} {t : Table} → table_line xs ≡ some (t, rest) → (ok_table t ≡ true) × (xs ≡ spell_table t ++ rest)
unfolding table_line spell_table
table_only {xs} {rest} {t} e =
    then_only (word_reads "(cost ") _ xs e λ _ r₁ _ is₁ e₁.
    then_only members_read _ r₁ e₁ λ ss r₂ ok_s is₂ e₂.
    then_only (word_reads " ") _ r₂ e₂ λ _ r₃ _ is₃ e₃.
    then_only entries_read_lem _ r₃ e₃ λ es r₄ ok_e is₄ e₄.
    then_only (word_reads ")\n") _ r₄ e₄ λ _ r₅ _ is₅ e₅.
    let (same, rest_is) = gives_same e₅ in
    rw (← same, ← rest_is, is₁, is₂, is₃, is₄, is₅) (
      join ok_s ok_e,
      sym (line_spelt (text "cost") (bracketed (map decimal ss) ∷ bracketed (map hyphen_or_decimal es) ∷ []) r₅),
    )

table_each : (t : Table) (rest : List ℕ) → ok_table t ≡ true → Anything rest → table_line (spell_table t ++ rest) ≡ some (t, rest)
unfolding table_line spell_table
table_each t rest ok any =
    let (ok_s, ok_e) = both (some_all spellable t.members) ok in
    ap table_line (line_spelt (text "cost") (bracketed (map decimal t.members) ∷ bracketed (map hyphen_or_decimal t.entries) ∷ []) rest)
    ∙ then_each (word_reads "(cost ") _ tt _ refl tt
    ∙ then_each members_read _ t.members _ ok_s tt
    ∙ then_each (word_reads " ") _ tt _ refl tt
    ∙ then_each entries_read_lem _ t.entries _ ok_e tt
    ∙ then_each (word_reads ")\n") _ tt _ refl tt

pub table_takes : Takes (whole table_line) spell_table ok_table
table_takes = whole_takes (record { only = table_only; each = table_each }) tt

-- The end line.
abbrev pub spell_end : ℕ → List ℕ
spell_end n = line (text "end" ∷ decimal n ∷ [])

pub end_spelt : (n : ℕ) → spell_end n ≡ text "(end " ++ (decimal n ++ text ")\n")
end_spelt n = sym (append-nil (spell_end n)) ∙ line_spelt (text "end") (decimal n ∷ []) []

end_only : {xs rest : List ℕ} {n : ℕ} → end_line xs ≡ some (n, rest) → (spellable n ≡ true) × (xs ≡ spell_end n ++ rest)
unfolding end_line
end_only {xs} {rest} {n} e =
    then_only (word_reads "(end ") _ xs e λ _ r₁ _ is₁ e₁.
    then_only number_reads _ r₁ e₁ λ m r₂ ok_m is₂ e₂.
    then_only (word_reads ")\n") _ r₂ e₂ λ _ r₃ _ is₃ e₃.
    let (same, rest_is) = gives_same e₃ in
    rw (← same, ← rest_is, is₁, is₂, is₃) (ok_m, sym (line_spelt (text "end") (decimal m ∷ []) r₃))

end_each : (n : ℕ) (rest : List ℕ) → spellable n ≡ true → Anything rest → end_line (spell_end n ++ rest) ≡ some (n, rest)
unfolding end_line
end_each n rest ok any =
    ap end_line (line_spelt (text "end") (decimal n ∷ []) rest)
    ∙ then_each (word_reads "(end ") _ tt _ refl tt
    ∙ then_each number_reads _ n _ ok refl
    ∙ then_each (word_reads ")\n") _ tt _ refl tt

pub end_takes : Takes (whole end_line) spell_end spellable
end_takes = whole_takes (record { only = end_only; each = end_each }) tt
