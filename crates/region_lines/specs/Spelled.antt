-- The lines of a held region, in the parts in which they are written.
use Rattle.std.specs.Prelude.{◌≡◌}
use Rattle.std.proofs.Math.Path.{sym, ap, ap₂}
use Rattle.std.proofs.Common.{◌∙◌, append_assoc, append-nil, arith, ◌+◌, ◌&&◌, ◌∷◌, ◌++◌}
use Rattle.std.proofs.lemmas.Simd.{map-map}
use Rattle.definitions.specs.Basics.{ℕ, true, Option, none, some, none_or, List, [], map, flat_map, flatten, get_or, below, text, every}
use Rattle.definitions.specs.Syntax as Said
use Rattle.definitions.specs.Spelling.{decimal, hyphen_or_decimal, bracketed, line, spell_patient, spell_table, spell_body, spell, spellable}
use Rattle.definitions.specs.Questions.{checksum}
use Rattle.lists.specs.Tests.{both}
use Rattle.lists.specs.Every.{every_in}
use Rattle.lists.specs.Maps.{map_same}
use Rattle.theorems.specs.Forms.{line_spelt, ok_head, ok_patient}
use Rattle.held_region.specs.declared.Patient.{Patient}
use Rattle.held_region.specs.declared.Table.{Table}
use Rattle.held_region.specs.declared.Region.{Region}
use Rattle.held_region.specs.AsHeld.{sum_said}
use Rattle.held_region.specs.Meaning.{optional, code_of, said_by, patient_of, patient_in, members_of, table_said, said}
use Rattle.line_reader.specs.Forms.{number_unmarked}
use Rattle.text_writer.specs.Parts.{apart, bracketed_apart}
use Rattle.region_lines.specs.Codes.{spell_code, mark_spelled, number_spelled}

-- ---- numbers and codes

-- The code of what a file can say is spelled as that is; that of a field is its value.
number_code : (n : ℕ) → spellable n ≡ true → decimal n ≡ spell_code n
number_code n h = sym (number_spelled n (λ e. let l = number_unmarked n h in omega arith))

option_code : (o : Option ℕ) {value : ℕ} → none_or spellable o ≡ true → value ≡ code_of o → hyphen_or_decimal o ≡ spell_code value
option_code none {value} h is = sym (mark_spelled value is)
option_code (some n) h is = number_code n h ∙ ap spell_code (sym is)

number_codes : (ns : List ℕ) → every spellable ns ≡ true → map decimal ns ≡ map spell_code ns
number_codes ns all = map_same decimal spell_code ns (λ n k. number_code n (every_in spellable ns all k))

-- ---- the first line, and a patient's

pub head_codes : (v t m : ℕ) → ok_head (v, t, m) ≡ true → line (text "region" ∷ decimal v ∷ decimal t ∷ decimal m ∷ []) ≡ line (text "region" ∷ map spell_code (v ∷ t ∷ m ∷ []))
head_codes v t m ok = ap (λ (fields : List (List ℕ)). line (text "region" ∷ fields)) (number_codes (v ∷ t ∷ m ∷ []) ok)

pub patient_codes : (p : Patient) (parent fixed : ℕ) → ok_patient (patient_of p) ≡ true → parent ≡ code_of (optional p.parent) → fixed ≡ code_of (optional p.fixed)
    → spell_patient (patient_of p) ≡ line (text "patient" ∷ map spell_code (p.clinic ∷ p.beds ∷ parent ∷ fixed ∷ []))
unfolding spell_patient
patient_codes p parent fixed ok parent_is fixed_is =
    let (three, fourth) = both (spellable p.clinic && spellable p.beds && none_or spellable (optional p.parent)) ok in
    let (two, third) = both (spellable p.clinic && spellable p.beds) three in
    let (first, second) = both (spellable p.clinic) two in
    let parent_spelled = option_code (optional p.parent) third parent_is in
    let fixed_spelled = option_code (optional p.fixed) fourth fixed_is in
    (λ i. line (text "patient" ∷ number_code p.clinic first i ∷ number_code p.beds second i ∷ parent_spelled i ∷ fixed_spelled i ∷ []))

-- ---- a table's line

-- The codes of so many entries, which stand in the store from a place on; a table with them.
abbrev pub codes_from : List ℕ → ℕ → ℕ → List ℕ
codes_from store start count = map (λ k. get_or store (start + k) 0) (below count)

abbrev pub table_from : List ℕ → ℕ → Table → Said.Table
table_from store start t = record { members = members_of t; entries = map (λ k. said_by (get_or store (start + k) 0)) (below t.entries) }

-- A list in brackets, and what follows it.
bracketed_then : (ps : List (List ℕ)) (rest : List ℕ) → bracketed ps ++ rest ≡ 40 ∷ (apart 0 ps ++ (41 ∷ rest))
unfolding flatten
bracketed_then ps rest = ap (λ (l : List ℕ). l ++ rest) (bracketed_apart ps) ∙ ap (λ (l : List ℕ). 40 ∷ l) (append_assoc (apart 0 ps) (41 ∷ []) rest)

lists_apart : (ms es : List (List ℕ))
    → line (text "cost" ∷ bracketed ms ∷ bracketed es ∷ []) ≡ flatten (text "(cost (" ∷ apart 0 ms ∷ text ") (" ∷ apart 0 es ∷ text "))\n" ∷ [])
unfolding flatten
lists_apart ms es =
    sym (append-nil (line (text "cost" ∷ bracketed ms ∷ bracketed es ∷ []))) ∙ line_spelt (text "cost") (bracketed ms ∷ bracketed es ∷ []) []
    ∙ ap (λ (l : List ℕ). text "(cost " ++ l)
    (ap (λ (l : List ℕ). bracketed ms ++ (32 ∷ l)) (bracketed_then es (text ")\n")) ∙ bracketed_then ms (text " (" ++ (apart 0 es ++ text "))\n")))

pub table_parts : (store : List ℕ) (start : ℕ) (t : Table) → every spellable (members_of t) ≡ true
    → spell_table (table_from store start t)
    ≡ flatten (text "(cost (" ∷ apart 0 (map spell_code (members_of t)) ∷ text ") (" ∷ apart 0 (map spell_code (codes_from store start t.entries)) ∷ text "))\n" ∷ [])
unfolding spell_table
table_parts store start t ok =
    let entries = map-map hyphen_or_decimal (λ k. said_by (get_or store (start + k) 0)) (below t.entries) ∙ sym (map-map spell_code (λ k. get_or store (start + k) 0) (below t.entries)) in
    ap₂ (λ (ms es : List (List ℕ)). line (text "cost" ∷ bracketed ms ∷ bracketed es ∷ [])) (number_codes (members_of t) ok) entries
    ∙ lists_apart (map spell_code (members_of t)) (map spell_code (codes_from store start t.entries))

-- ---- the whole file

abbrev pub patients_said : Region → List Said.Patient
patients_said h = map (λ s. patient_of (patient_in h s)) (below h.v)

abbrev pub patient_lines : Region → List ℕ
patient_lines h = flat_map spell_patient (patients_said h)

abbrev pub table_lines : Region → List ℕ → List ℕ
table_lines h store = flat_map spell_table (map (table_said h store) (below h.t))

module _ (h : Region) (store : List ℕ) where
  pub body_parts : ok_head (h.v, h.t, h.m) ≡ true
      → spell_body (said h store) ≡ flatten (line (text "region" ∷ map spell_code (h.v ∷ h.t ∷ h.m ∷ [])) ∷ patient_lines h ∷ table_lines h store ∷ [])
  unfolding spell_body said flatten
  body_parts ok =
      ap₂ (λ (head tables : List ℕ). head ++ (patient_lines h ++ tables)) (head_codes h.v h.t h.m ok) (sym (append-nil (table_lines h store)))

  pub file_parts : (sum : ℕ) → sum ≡ checksum (spell_body (said h store)) → spellable (said h store).stated_sum ≡ true
      → spell (said h store) ≡ flatten (spell_body (said h store) ∷ line (text "end" ∷ map spell_code (sum ∷ [])) ∷ [])
  unfolding spell flatten
  file_parts sum is ok =
      let same : (said h store).stated_sum ≡ sum = sum_said h store ∙ sym is in
      let digits : decimal (said h store).stated_sum ≡ spell_code sum = number_code (said h store).stated_sum ok ∙ ap spell_code same in
      ap (λ (d : List ℕ). spell_body (said h store) ++ line (text "end" ∷ d ∷ [])) digits
      ∙ ap (λ (l : List ℕ). spell_body (said h store) ++ l) (sym (append-nil (line (text "end" ∷ spell_code sum ∷ []))))
