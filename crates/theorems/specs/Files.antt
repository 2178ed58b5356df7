-- The lines of a whole file, in their order.
-- (Theorems that rest on these stand in `proofs/Files.antt`.)
use Rattle.std.proofs.Common.{sym, ap, ◌∙◌, append_assoc, append-nil, ◌≡◌, ◌&&◌, ◌∷◌, ◌++◌}
use Rattle.definitions.specs.Basics.{ℕ, refl, Bool, true, none, some, bind, List, [], map, flatten}
use Rattle.definitions.specs.Basics.{text, every, none_or}
use Rattle.definitions.specs.Syntax.{Table, Region}
use Rattle.definitions.specs.Layout.{is_digit, whole, patient_line, table_line, region_lines}
use Rattle.definitions.specs.Spelling.{decimal, bracketed, line, spell_patient, spell_table, spell_body, spell, spellable, well_formed}
use Rattle.lists.specs.Tests.{both, join}
use Rattle.lists.specs.Every.{every_append, every_split, every_both, every_weaken}
use Rattle.lists.specs.Maps.{flatten_append, flatten_map}
use Rattle.theorems.specs.Readers.{Reads, Anything, Stops, then_only, then_each, gives_same, one_reads, many_reads}
use Rattle.theorems.specs.Numbers.{decimal_digits}
use Rattle.theorems.specs.Items.{spaced, bracketed_is, every_spaced, some_all}
use Rattle.theorems.specs.Lines.{in_form, Line}
use Rattle.theorems.specs.Forms.{spell_head, ok_head, ok_patient, ok_table, spell_end, head_takes, patient_takes, table_takes, end_takes}

-- The lines that spell a tree.
abbrev pub head_of : Region → ℕ × ℕ × ℕ
head_of r = (r.patient_count, r.table_count, r.plans_wanted)

abbrev pub body_lines : Region → List (List ℕ)
body_lines r = spell_head (head_of r) ∷ (map spell_patient r.patients ++ map spell_table r.tables)

abbrev pub file_lines : Region → List (List ℕ)
file_lines r = body_lines r ++ spell_end r.stated_sum ∷ []

file_lines_spelt : (r : Region) (rest : List (List ℕ))
    → file_lines r ++ rest
    ≡ spell_head (head_of r) ∷ (map spell_patient r.patients ++ (map spell_table r.tables ++ spell_end r.stated_sum ∷ rest))
file_lines_spelt r rest =
    let patients = map spell_patient r.patients in
    let tables = map spell_table r.tables in
    append_assoc (body_lines r) (spell_end r.stated_sum ∷ []) rest
    ∙ ap (λ (l : List (List ℕ)). spell_head (head_of r) ∷ l) (append_assoc patients tables (spell_end r.stated_sum ∷ rest))

-- A tree is well formed where each of its lines is.
pub record LinesOk (r : Region) : Type 0 where
  pub head : ok_head (head_of r) ≡ true
  pub patients : every ok_patient r.patients ≡ true
  pub tables : every ok_table r.tables ≡ true
  pub end : spellable r.stated_sum ≡ true

abbrev numbers_before : Region → List ℕ
numbers_before r = r.patient_count ∷ r.table_count ∷ r.plans_wanted ∷ []

abbrev ok_members : Table → Bool
ok_members t = some_all spellable t.members

abbrev ok_entries : Table → Bool
ok_entries t = some_all (none_or spellable) t.entries

pub well_formed_lines : (r : Region) → well_formed r ≡ true → LinesOk r
unfolding well_formed
well_formed_lines r h =
    let numbers = every spellable (numbers_before r ++ r.stated_sum ∷ []) in
    let (h₁, ok_entries_lem) = both (numbers && every ok_patient r.patients && every ok_members r.tables) h in
    let (h₂, ok_members_lem) = both (numbers && every ok_patient r.patients) h₁ in
    let (ok_numbers, ok_patients) = both numbers h₂ in
    let (ok_head_lem, ok_end) = every_split spellable (numbers_before r) (r.stated_sum ∷ []) ok_numbers in
    record {
      head = ok_head_lem;
      patients = ok_patients;
      tables = every_both ok_members ok_entries r.tables ∙ join ok_members_lem ok_entries_lem;
      end = (both (spellable r.stated_sum) ok_end).0;
    }

lines_well_formed : (r : Region) → LinesOk r → well_formed r ≡ true
unfolding well_formed
lines_well_formed r h =
    let (ok_members_lem, ok_entries_lem) = both (every ok_members r.tables) (sym (every_both ok_members ok_entries r.tables) ∙ h.tables) in
    let ok_numbers = every_append spellable (numbers_before r) (r.stated_sum ∷ []) h.head (join h.end refl) in
    join (join (join ok_numbers h.patients) ok_members_lem) ok_entries_lem

-- None of the readers of lines takes another's line.
no_patient_lem : (ts : List Table) (n : ℕ) (rest : List (List ℕ)) → Stops (whole patient_line) (map spell_table ts ++ spell_end n ∷ rest)
unfolding patient_line spell_table bind
no_patient_lem [] n rest = refl
no_patient_lem (t ∷ ts) n rest = refl

no_table_lem : (n : ℕ) → whole table_line (spell_end n) ≡ none
unfolding table_line bind
no_table_lem n = refl

file_only : {ls rest : List (List ℕ)} {r : Region} → region_lines ls ≡ some (r, rest) → (well_formed r ≡ true) × (ls ≡ file_lines r ++ rest)
unfolding region_lines
file_only {ls} {rest} {r} e =
    then_only (one_reads head_takes) _ ls e λ h l₁ ok_h is₁ e₁.
    then_only (many_reads patient_takes) _ l₁ e₁ λ ps l₂ ok_ps is₂ e₂.
    then_only (many_reads table_takes) _ l₂ e₂ λ ts l₃ ok_ts is₃ e₃.
    then_only (one_reads end_takes) _ l₃ e₃ λ n l₄ ok_n is₄ e₄.
    let (same, rest_is) = gives_same e₄ in
    let tree : Region = record { patient_count = h.0; table_count = h.1; plans_wanted = h.2; patients = ps; tables = ts; stated_sum = n } in
    rw (← same, ← rest_is, is₁, is₂, is₃, is₄)
    (lines_well_formed tree (record { head = ok_h; patients = ok_ps; tables = ok_ts; end = ok_n }), sym (file_lines_spelt tree l₄))

file_each : (r : Region) (rest : List (List ℕ)) → well_formed r ≡ true → Anything rest → region_lines (file_lines r ++ rest) ≡ some (r, rest)
unfolding region_lines
file_each r rest ok any =
    let lines_ok = well_formed_lines r ok in
    ap region_lines (file_lines_spelt r rest)
    ∙ then_each (one_reads head_takes) _ (head_of r) _ lines_ok.head tt
    ∙ then_each (many_reads patient_takes) _ r.patients _ lines_ok.patients (no_patient_lem r.tables r.stated_sum rest)
    ∙ then_each (many_reads table_takes) _ r.tables _ lines_ok.tables (no_table_lem r.stated_sum)
    ∙ then_each (one_reads end_takes) _ r.stated_sum _ lines_ok.end tt

pub file_reads : Reads region_lines file_lines well_formed Anything
file_reads = record { only = file_only; each = file_each }

-- The lines of a tree, one after the other, are its spelling.
pub flatten_body : (r : Region) → flatten (body_lines r) ≡ spell_body r
unfolding flatten spell_body
flatten_body r =
    ap (λ (l : List ℕ). spell_head (head_of r) ++ l)
    (flatten_append (map spell_patient r.patients) (map spell_table r.tables)
    ∙ λ i. flatten_map spell_patient r.patients i ++ flatten_map spell_table r.tables i)

pub flatten_file : (r : Region) → flatten (file_lines r) ≡ spell r
unfolding flatten spell
flatten_file r =
    let end = spell_end r.stated_sum in
    flatten_append (body_lines r) (end ∷ []) ∙ λ i. flatten_body r i ++ append-nil end i

-- Each of them is a whole line.
pub form_bytes : (ps : List (List ℕ)) → every (every in_form) ps ≡ true → every in_form (bracketed ps) ≡ true
form_bytes [] h = refl
form_bytes (p ∷ ps) h =
    ap (every in_form) (bracketed_is p ps) ∙ every_append in_form (spaced (p ∷ ps)) (text ")") (every_spaced in_form refl (p ∷ ps) h) refl

pub line_is : (ps : List (List ℕ)) → every (every in_form) ps ≡ true → Line (line ps)
line_is ps h = record { form = bracketed ps; is = refl; bytes = form_bytes ps h }

pub decimal_bytes : (n : ℕ) → every in_form (decimal n) ≡ true
decimal_bytes n = every_weaken is_digit in_form (λ b h. rw h) (decimal n) (decimal_digits n)

pub end_line_lem : (n : ℕ) → Line (spell_end n)
end_line_lem n = line_is (text "end" ∷ decimal n ∷ []) (rw (decimal_bytes n))
