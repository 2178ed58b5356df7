-- The lines of a whole file, in their order.
use Rattle.std.specs.Prelude.{◌≡◌, ◌∷◌}
use Rattle.definitions.specs.Basics.{ℕ, refl, true, Option, none, some, [], map}
use Rattle.definitions.specs.Basics.{text, every}
use Rattle.definitions.specs.Syntax.{Patient, Table, Region}
use Rattle.definitions.specs.Spelling.{decimal, hyphen_or_decimal, bracketed, spell_patient, spell_table}
use Rattle.lists.specs.Every.{every_image}
use Rattle.theorems.specs.Lines.{in_form, Line, AllLines, all_map, all_append}
use Rattle.theorems.specs.Forms.{spell_head, spell_end}
use Rattle.theorems.specs.Files.{head_of, body_lines, file_lines, form_bytes, line_is, decimal_bytes, end_line_lem}

hyphen_bytes : (p : Option ℕ) → every in_form (hyphen_or_decimal p) ≡ true
hyphen_bytes none = refl
hyphen_bytes (some n) = decimal_bytes n

head_line : (h : ℕ × ℕ × ℕ) → Line (spell_head h)
head_line h =
    line_is (text "region" ∷ decimal h.0 ∷ decimal h.1 ∷ decimal h.2 ∷ [])
    (rw (decimal_bytes h.0, decimal_bytes h.1, decimal_bytes h.2))

patient_line_lem : (p : Patient) → Line (spell_patient p)
unfolding spell_patient
patient_line_lem p =
    line_is (text "patient" ∷ decimal p.clinic ∷ decimal p.bed_count ∷ hyphen_or_decimal p.parent ∷ hyphen_or_decimal p.fixed_bed ∷ [])
    (rw (decimal_bytes p.clinic, decimal_bytes p.bed_count, hyphen_bytes p.parent, hyphen_bytes p.fixed_bed))

table_line_lem : (t : Table) → Line (spell_table t)
unfolding spell_table
table_line_lem t =
    let members = form_bytes (map decimal t.members) (every_image (every in_form) decimal decimal_bytes t.members) in
    let entries = form_bytes (map hyphen_or_decimal t.entries) (every_image (every in_form) hyphen_or_decimal hyphen_bytes t.entries) in
    line_is (text "cost" ∷ bracketed (map decimal t.members) ∷ bracketed (map hyphen_or_decimal t.entries) ∷ []) (rw (members, entries))

pub body_lines_lem : (r : Region) → AllLines (body_lines r)
body_lines_lem r =
    let patients = all_map spell_patient patient_line_lem r.patients in
    let tables = all_map spell_table table_line_lem r.tables in
    (head_line (head_of r), all_append (map spell_patient r.patients) (map spell_table r.tables) patients tables)

pub file_lines_lem : (r : Region) → AllLines (file_lines r)
file_lines_lem r = all_append (body_lines r) (spell_end r.stated_sum ∷ []) (body_lines_lem r) (end_line_lem r.stated_sum, tt)
