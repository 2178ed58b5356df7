-- Request #103: the line over the typed members.
use Rattle.std.proofs.Common.{sym, ◌∙◌, ◌≡◌, ◌++◌}
use Rattle.std.proofs.Math.Path.{ap}
use Rattle.std.specs.Prelude.{◌⊎◌}
use Rattle.std.proofs.Math.Logic.{inl, inr}
use Rattle.std.proofs.Math.Option.{some-injective, none-ne-some}
use Rattle.definitions.specs.Basics.{ℕ, refl, true, false, none, some, bind, List, map, text}
use Rattle.definitions.specs.Syntax.{Patient, Table, Region}
use Rattle.definitions.specs.Layout.{whole, lines, table_line}
use Rattle.definitions.specs.Spelling.{spell_patient, spell_table}
use Rattle.definitions.specs.Questions.{laid_out, region_of}
use Rattle.definitions.specs.Lookup.{FilePart, typed_right, typed_members, is_over, first_line, line_over, line_outcome}
use Rattle.lists.specs.Every.{every_in}
use Rattle.lists.specs.Members.{◌∈◌, here, there, here_or_there, none_in_nil, in_append_left, in_append_right, in_append_cases, in_map, in_map_cases, in_cast}
use Rattle.theorems.specs.Forms.{spell_head, spell_end, ok_table, table_takes}
use Rattle.theorems.specs.Files.{body_lines, file_lines, well_formed_lines}
use Rattle.theorems.proofs.Spelling.{laid_out_spelt, lines_spelt}
use Rattle.theorems.specs.Accepted.{accepted}
use Rattle.theorems.specs.Lookup.{begins, line_prefix, first_line_same, line_fine, TheTable, NoTable}

-- ---- the line over the typed members, for whoever reads lines from the left

-- A line of a file is that of one of its tables, or another, which is no table line and does not begin as one.
record Other (l : List ℕ) : Type 0 where
  no_table : whole table_line l ≡ none
  not_begun : (typed : List ℕ) → begins typed l ≡ false

head_other : (h : ℕ × ℕ × ℕ) → Other (spell_head h)
unfolding begins table_line bind
head_other h = record { no_table = refl; not_begun = λ typed. refl }

patient_other : (p : Patient) → Other (spell_patient p)
unfolding begins table_line spell_patient bind
patient_other p = record { no_table = refl; not_begun = λ typed. refl }

end_other : (n : ℕ) → Other (spell_end n)
unfolding begins table_line bind
end_other n = record { no_table = refl; not_begun = λ typed. refl }

file_line : (r : Region) {l : List ℕ} → l ∈ file_lines r → ((t : Table) × (t ∈ r.tables) × (spell_table t ≡ l)) ⊎ Other l
file_line r i = elim (in_append_cases (body_lines r) i) [
  | inl body ↦ elim (here_or_there body) [
    | inl e ↦ inr (rw e (head_other (r.patient_count, r.table_count, r.plans_wanted)))
    | inr later ↦ elim (in_append_cases (map spell_patient r.patients) later) [
      | inl patient ↦ (let (p, _, e) = in_map_cases spell_patient r.patients patient in inr (rw (← e) (patient_other p)))
      | inr table ↦ inl (in_map_cases spell_table r.tables table)
    ]
  ]
  | inr end ↦ elim (here_or_there end) [ inl e ↦ inr (rw e (end_other r.stated_sum)) | inr k ↦ absurd (none_in_nil k) ]
]

-- A laid-out file has the lines of its region, and its tables have one spelling.
module _ (file : List ℕ) (laid : laid_out file ≡ true) where
  file_cut : lines file ≡ file_lines (region_of file)
  file_cut = ap lines (laid_out_spelt file laid).1 ∙ lines_spelt (region_of file)

  table_read : {t : Table} → t ∈ (region_of file).tables → whole table_line (spell_table t) ≡ some t
  table_read {t} k = table_takes.each t (every_in ok_table (region_of file).tables (well_formed_lines (region_of file) (laid_out_spelt file laid).0).tables k)

  line_agrees : (typed : List ℕ) → typed_right typed ≡ true → (l : List ℕ) → l ∈ file_lines (region_of file) → is_over (typed_members typed) l ≡ begins typed l
  unfolding is_over
  line_agrees typed right l i = elim (file_line (region_of file) i) [
    | inl found ↦ (let (t, k, e) = found in line_prefix typed l t (ap (whole table_line) (sym e) ∙ table_read k) right)
    | inr other ↦ rw (other.no_table, is_over) (sym (other.not_begun typed))
  ]

  pub over_begins : (typed : List ℕ) → typed_right typed ≡ true → line_over file typed ≡ first_line (begins typed) 0 (lines file)
  unfolding line_over
  over_begins typed right = rw file_cut (first_line_same _ _ 0 (file_lines (region_of file)) (line_agrees typed right))

-- ---- what is found

-- Of the region that the file says: the line is that of one of its tables, and where there is no line, none of them is over the typed members.
module _ (file typed : List ℕ) (fine : (line_outcome file typed).number ≡ 0) where
  laid : laid_out file ≡ true
  laid = (accepted file ((line_fine file typed).0 fine).0).laid

  pub the_table : {p : FilePart} → TheTable file typed fine p
  the_table t =
      let i : (t.line ++ text "\n") ∈ lines file = rw t.in_file (in_append_right t.before (here refl)) in
      elim (file_line (region_of file) (rw (file_cut file laid) at i)) [
        | inl found ↦ (let (u, k, e) = found in in_cast (some-injective _ _ (sym t.over.line_says ∙ ap (whole table_line) (sym e) ∙ table_read file laid k)) k)
        | inr other ↦ absurd (none-ne-some _ (sym other.no_table ∙ t.over.line_says))
      ]

  pub no_table_lem : {p : FilePart} → NoTable file typed fine p
  no_table_lem n t k e =
      let r = region_of file in
      let in_body = there (in_append_right (map spell_patient r.patients) (in_map spell_table k)) in
      n.none (spell_table t) (rw (file_cut file laid) (in_append_left _ in_body)) (record { table = t; line_says = table_read file laid k; typed_says = e })
