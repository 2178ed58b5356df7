-- How long the lines of an accepted region are: a file that is written has at most `most_written` bytes.
use Rattle.std.specs.Prelude.{◌≡◌, refl, ◌≤◌}
use Rattle.std.proofs.Common.{sym, ap, ◌∙◌, ◌+◌, ◌*◌, ◌<◌, ◌∷◌, ◌++◌}
use Rattle.std.proofs.Math.Nat.{mul-le-mul_right}
use native.Mathlib.Omega.{arith}
use Rattle.std.proofs.Math.ListN.{length-append}
use Rattle.definitions.specs.Basics.{ℕ, suc, Option, none, some, none_or, List, [], map, flat_map, length, replicate}
use Rattle.definitions.specs.Basics.{text, sum}
use Rattle.definitions.specs.Limits.{Field, patient_count, table_count, plans_wanted, clinic, bed_count, member_count, entry_count, entry, limits, within}
use Rattle.definitions.specs.Syntax.{Patient, Table, Region}
use Rattle.definitions.specs.Spelling.{digits_within, decimal, hyphen_or_decimal, bracketed, line, spell_patient, spell_table, spell_body, spell}
use Rattle.lists.specs.Members.{◌∈◌, here, there}
use Rattle.lists.specs.Every.{every_in}
use Rattle.lists.specs.Rows.{sum_each}
use Rattle.theorems.specs.Numbers.{decimal_leads, decimal_longer}
use Rattle.theorems.specs.Accepted.{Accepted, TableRight, at_most, patient_right, counts_within_lem, patients_counted_lem, tables_counted_lem, parent_known, entries_few, entries_some, table_right}
use Rattle.theorems.specs.Lengths.{most_written}

-- ---- lines

-- The bytes of some parts, each with a space.
abbrev spaced : List (List ℕ) → ℕ
spaced ps = sum (map (λ p. suc (length p)) ps)

later_parts : (ps : List (List ℕ)) → length (flat_map (λ q. 32 ∷ q) ps) ≡ spaced ps
unfolding flat_map
later_parts [] = refl
later_parts (p ∷ ps) = omega (arith, length-append p (flat_map (λ q. 32 ∷ q) ps), later_parts ps)

bracketed_long : (p : List ℕ) (ps : List (List ℕ)) → length (bracketed (p ∷ ps)) ≡ suc (spaced (p ∷ ps))
bracketed_long p ps =
    let later = flat_map (λ q. 32 ∷ q) ps in
    omega (arith, length-append p (later ++ text ")"), length-append later (text ")"), later_parts ps)

line_long : (p : List ℕ) (ps : List (List ℕ)) → length (line (p ∷ ps)) ≡ 2 + spaced (p ∷ ps)
line_long p ps = omega (arith, length-append (bracketed (p ∷ ps)) (text "\n"), bracketed_long p ps)

-- Parts of at most k bytes each.
spaced_most : {A : Type 0} (f : A → List ℕ) (k : ℕ) (xs : List A) → ((x : A) → x ∈ xs → length (f x) ≤ k) → spaced (map f xs) ≤ length xs * suc k
spaced_most f k [] each = omega arith
spaced_most f k (x ∷ xs) each = omega (arith, each x (here refl), spaced_most f k xs (λ y i. each y (there i)))

bracketed_most : {A : Type 0} (f : A → List ℕ) (k : ℕ) (xs : List A) → 0 < length xs → ((x : A) → x ∈ xs → length (f x) ≤ k)
    → length (bracketed (map f xs)) ≤ suc (length xs * suc k)
bracketed_most f k [] some_x each = absurd (omega arith)
bracketed_most f k (x ∷ xs) some_x each = omega (arith, bracketed_long (f x) (map f xs), spaced_most f k (x ∷ xs) each)

-- Lines one after the other, each of at most so many bytes.
lines_most : {A : Type 0} (f : A → List ℕ) (most : A → ℕ) (xs : List A) → ((x : A) → x ∈ xs → length (f x) ≤ most x) → length (flat_map f xs) ≤ sum (map most xs)
unfolding flat_map
lines_most f most [] each = omega arith
lines_most f most (x ∷ xs) each =
    omega (arith, length-append (f x) (flat_map f xs), each x (here refl), lines_most f most xs (λ y i. each y (there i)))

sum_both : {A : Type 0} (j k : ℕ) (f : A → ℕ) (xs : List A) → sum (map (λ x. j + f x * k) xs) ≡ length xs * j + sum (map f xs) * k
sum_both j k f [] = omega arith
sum_both j k f (x ∷ xs) = omega (arith, sum_both j k f xs)

-- ---- the longest lines, from the limits

-- The most digits of a field; the longest region, patient, table (without entries) and end line, and an entry with the space behind it.
abbrev longest : Field → List ℕ
longest field = decimal (limits field).highest

unfoldable region_most : ℕ
region_most = length (line (text "region" ∷ longest patient_count ∷ longest table_count ∷ longest plans_wanted ∷ []))

unfoldable patient_most : ℕ
patient_most = length (line (text "patient" ∷ longest clinic ∷ longest bed_count ∷ longest patient_count ∷ longest bed_count ∷ []))

unfoldable table_most : ℕ
table_most = length (line (text "cost" ∷ bracketed (replicate (limits member_count).highest (longest patient_count)) ∷ text "()" ∷ []))

unfoldable entry_most : ℕ
entry_most = suc (length (longest entry))

unfoldable end_most : ℕ
end_most = length (line (text "end" ∷ decimal 65_520 ∷ []))

most_written_lem : most_written ≡ region_most + (limits patient_count).highest * patient_most + (limits table_count).highest * table_most + (limits entry_count).highest * entry_most + end_most
unfolding limits digits_within flat_map region_most patient_most table_most entry_most end_most
most_written_lem = refl

-- ---- the lines of an accepted region

-- A number has no more digits than its field's highest.
digits_most : (field : Field) (n : ℕ) → n ≤ (limits field).highest → length (decimal n) ≤ length (longest field)
digits_most field n h = decimal_longer n (limits field).highest h

hyphen_most : (field : Field) (o : Option ℕ) → ((n : ℕ) → o ≡ some n → n ≤ (limits field).highest) → length (hyphen_or_decimal o) ≤ length (longest field)
hyphen_most field none h = (decimal_leads (limits field).highest).1
hyphen_most field (some n) h = digits_most field n (h n refl)

module _ (r : Region) (a : Accepted r) where
  counted_most : (r.patient_count ≤ (limits patient_count).highest) × (r.table_count ≤ (limits table_count).highest) × (r.plans_wanted ≤ (limits plans_wanted).highest)
  counted_most =
      let (v, t, m) = counts_within_lem r a in
      (at_most patient_count r.patient_count v, at_most table_count r.table_count t, at_most plans_wanted r.plans_wanted m)

  region_most_lem : length (line (text "region" ∷ decimal r.patient_count ∷ decimal r.table_count ∷ decimal r.plans_wanted ∷ [])) ≤ region_most
  unfolding region_most
  region_most_lem =
      omega (
        arith,
        line_long (text "region") (decimal r.patient_count ∷ decimal r.table_count ∷ decimal r.plans_wanted ∷ []),
        line_long (text "region") (longest patient_count ∷ longest table_count ∷ longest plans_wanted ∷ []),
        digits_most patient_count r.patient_count counted_most.0,
        digits_most table_count r.table_count counted_most.1,
        digits_most plans_wanted r.plans_wanted counted_most.2,
      )

  patient_most_lem : (p : Patient) → p ∈ r.patients → length (spell_patient p) ≤ patient_most
  unfolding patient_most spell_patient
  patient_most_lem p k =
      let right = patient_right r a.patients_fit k in
      let beds = at_most bed_count p.bed_count right.beds_fit in
      omega (
        arith,
        line_long (text "patient") (decimal p.clinic ∷ decimal p.bed_count ∷ hyphen_or_decimal p.parent ∷ hyphen_or_decimal p.fixed_bed ∷ []),
        line_long (text "patient") (longest clinic ∷ longest bed_count ∷ longest patient_count ∷ longest bed_count ∷ []),
        digits_most clinic p.clinic (at_most clinic p.clinic right.clinic_fits),
        digits_most bed_count p.bed_count beds,
        hyphen_most patient_count p.parent (λ q e. omega (arith, parent_known r a k q e, patients_counted_lem r a, counted_most.0)),
        hyphen_most bed_count p.fixed_bed (λ b e. omega (arith, right.fixed_fits b e)),
      )

  members_most : (t : Table) → TableRight r t → length (bracketed (map decimal t.members)) ≤ length (bracketed (replicate (limits member_count).highest (longest patient_count)))
  unfolding limits
  members_most t right =
      let each : (s : ℕ) → s ∈ t.members → length (decimal s) ≤ length (longest patient_count) =
      λ s k. digits_most patient_count s (omega (arith, right.known k, patients_counted_lem r a, counted_most.0)) in
      let most = bracketed_most decimal (length (longest patient_count)) t.members right.some each in
      let few = mul-le-mul_right (suc (length (longest patient_count))) right.few in
      omega (arith, bracketed_long (longest patient_count) (replicate 3 (longest patient_count)))

  table_most_lem : (t : Table) → t ∈ r.tables → length (spell_table t) ≤ table_most + length t.entries * entry_most
  unfolding table_most entry_most spell_table
  table_most_lem t k =
      let right = table_right r a k in
      let entries = bracketed_most hyphen_or_decimal (length (longest entry)) t.entries (entries_some r a k) (λ o i. hyphen_most entry o (λ e is. at_most entry e (ap (none_or (within entry)) (sym is) ∙ every_in _ t.entries right.within i))) in
      omega (
        arith,
        line_long (text "cost") (bracketed (map decimal t.members) ∷ bracketed (map hyphen_or_decimal t.entries) ∷ []),
        line_long (text "cost") (bracketed (replicate (limits member_count).highest (longest patient_count)) ∷ text "()" ∷ []),
        members_most t right,
      )

  patients_most : length (flat_map spell_patient r.patients) ≤ (limits patient_count).highest * patient_most
  patients_most =
      let few : length r.patients ≤ (limits patient_count).highest = omega (arith, patients_counted_lem r a, counted_most.0) in
      omega (arith, lines_most spell_patient (λ p. patient_most) r.patients patient_most_lem, sum_each patient_most r.patients, mul-le-mul_right patient_most few)

  tables_most : length (flat_map spell_table r.tables) ≤ (limits table_count).highest * table_most + (limits entry_count).highest * entry_most
  unfolding limits
  tables_most =
      let few : length r.tables ≤ (limits table_count).highest = omega (arith, tables_counted_lem r a, counted_most.1) in
      omega (
        arith,
        lines_most spell_table (λ t. table_most + length t.entries * entry_most) r.tables table_most_lem,
        sum_both table_most entry_most (λ t. length t.entries) r.tables,
        mul-le-mul_right table_most few,
        mul-le-mul_right entry_most (entries_few r a),
      )

  -- So is the file that spells it, where its sum has at most five digits.
  pub spelling_most : r.stated_sum ≤ 65_520 → length (spell r) ≤ most_written
  unfolding spell spell_body end_most
  spelling_most sum_few =
      let body = flat_map spell_patient r.patients ++ flat_map spell_table r.tables in
      let head = line (text "region" ∷ decimal r.patient_count ∷ decimal r.table_count ∷ decimal r.plans_wanted ∷ []) in
      let end = line (text "end" ∷ decimal r.stated_sum ∷ []) in
      omega (
        arith,
        length-append (head ++ body) end,
        length-append head body,
        length-append (flat_map spell_patient r.patients) (flat_map spell_table r.tables),
        line_long (text "end") (decimal r.stated_sum ∷ []),
        line_long (text "end") (decimal 65_520 ∷ []),
        decimal_longer r.stated_sum 65_520 sum_few,
        region_most_lem,
        patients_most,
        tables_most,
        most_written_lem,
      )
