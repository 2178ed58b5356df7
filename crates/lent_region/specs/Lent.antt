-- What is held of a lent region: its first patients, tables and entries, with their numbers cut off.
use Rattle.std.specs.Prelude.{◌≡◌, ◌≤◌}
use Rattle.std.proofs.Math.Path.{refl, sym, ap, ap₂}
use Rattle.std.proofs.Common.{◌∙◌, arith, ◌+◌, ◌*◌, ◌/◌, ◌%◌, ◌<◌, ◌&&◌, ◌∷◌, ◌++◌}
use Rattle.std.proofs.lemmas.Simd.{map-map}
use Rattle.std.proofs.Math.Decide.{dec_le}
use Rattle.std.proofs.Math.ListN.{length-map, get_or-map}
use Rattle.std.proofs.Math.Seq.{take-nil}
use borrow.Author.Tests.{eqb-true, eq-eqb, lt-ltb}
use Rattle.definitions.specs.Basics.{ℕ, zero, suc, min, true, Option, none, some, none_or, List, [], map, length, get_or, take, eqb, ltb, sum, below, every}
use Rattle.definitions.specs.Syntax as Said
use Rattle.definitions.specs.Spelling.{spell_body}
use Rattle.definitions.specs.Questions.{counts_true, checksum}
use Rattle.definitions.specs.Writer.{region_from}
use Rattle.definitions.specs.Boundary.{number_at, option_at, lent_patient, lent_patients, lent_table_count, lent_members, lent_entry_count, lent_entries_before, lent_table, lent_tables, lent_region, lent_whole}
use Rattle.lists.specs.Tests.{both, join}
use Rattle.lists.specs.Every.{every_image}
use Rattle.lists.specs.Filling.{Filled}
use Rattle.lists.specs.Below.{length_by_places, at_place, below_more}
use Rattle.held_region.specs.declared.Patient.{Patient}
use Rattle.held_region.specs.declared.Table.{Table}
use Rattle.held_region.specs.declared.Region.{Region}
use Rattle.held_region.specs.Meaning.{no_patient, patient_of, mark, code_of, no_table, said}
use Rattle.held_region.specs.Stores.{start_of, entries_of, start_next, start_most, HasEntries}
use Rattle.held_region.specs.HeldFrom.{none_said, no_table_said, HoldsTable, HeldPatients, TablesHeld, unmarked, HeldFrom}
use Rattle.held_region.specs.StandsFor.{StandsFor, stands_through}
use Rattle.held_region.specs.Faithful.{stands_for}
use Rattle.lent_region.specs.CutOff.{cut, cut_option, cut_patient, cut_table, cut_off}
use Rattle.lent_region.specs.CutStands.{cut_stands}

-- ---- the first of what is lent

-- A patient of an area is held with its numbers cut off.
abbrev pub PatientsLent : List ℕ → ℕ → List Patient → Type 0
PatientsLent patients = Filled (λ s p. patient_of p ≡ cut_patient (lent_patient patients s)) no_patient

-- So are a table's first four members. Its counts are held as they are.
pub record TableLent (tables : List ℕ) (i : ℕ) (h : Table) : Type 0 where
  pub members : h.members ≡ number_at tables (i * 6)
  pub first : h.first ≡ cut (number_at tables (i * 6 + 1)) ∷ cut (number_at tables (i * 6 + 2)) ∷ cut (number_at tables (i * 6 + 3)) ∷ cut (number_at tables (i * 6 + 4)) ∷ []
  pub entries : h.entries ≡ lent_entry_count tables i

abbrev pub TablesLent : List ℕ → ℕ → List Table → Type 0
TablesLent tables = Filled (TableLent tables) no_table

-- The number of the store for an entry of an area.
abbrev pub code_lent : List ℕ → ℕ → ℕ
code_lent entries k = code_of (cut_option (option_at entries k))

abbrev pub EntriesLent : List ℕ → ℕ → List ℕ → Type 0
EntriesLent entries = Filled (λ k code. code ≡ code_lent entries k) 0

-- ---- how many entries there are

sum_last : (l : List ℕ) (n : ℕ) → sum (l ++ n ∷ []) ≡ sum l + n
sum_last [] n = omega arith
sum_last (x ∷ l) n = omega (arith, sum_last l n)

pub before_next : (tables : List ℕ) (i : ℕ) → lent_entries_before tables (suc i) ≡ lent_entries_before tables i + lent_entry_count tables i
before_next tables i = ap sum (below_more (lent_entry_count tables) i) ∙ sum_last (map (lent_entry_count tables) (below i)) (lent_entry_count tables i)

pub before_most : (tables : List ℕ) (i n : ℕ) → i ≤ n → lent_entries_before tables i ≤ lent_entries_before tables n
before_most tables i zero l = let same : i ≡ 0 = omega arith in omega (arith, ap (lent_entries_before tables) same)
before_most tables i (suc n) l = go (dec_le i n) (before_most tables i n)
  where
    go : Dec (i ≤ n) → (i ≤ n → lent_entries_before tables i ≤ lent_entries_before tables n) → lent_entries_before tables i ≤ lent_entries_before tables (suc n)
    go (yes k) less = omega (arith, before_next tables n, less k)
    go (no k) less = let same : i ≡ suc n = omega arith in omega (arith, ap (lent_entries_before tables) same)

-- ---- tables as they are held

-- The first four members, however many are counted.
first_four : (f : ℕ → ℕ) (c : ℕ) → take c (f 0 ∷ f 1 ∷ f 2 ∷ f 3 ∷ []) ≡ take 4 (map f (below c))
first_four f zero = refl
first_four f (suc zero) = refl
first_four f (suc (suc zero)) = refl
first_four f (suc (suc (suc zero))) = refl
first_four f (suc (suc (suc (suc c)))) = ap (λ l. f 0 ∷ f 1 ∷ f 2 ∷ f 3 ∷ l) (take-nil c)

module _ (tables entries : List ℕ) where
  abbrev lent_tables_lem : List Said.Table
  lent_tables_lem = map cut_table (lent_tables tables entries)

  table_at : (i : ℕ) → i < lent_table_count tables → get_or lent_tables_lem i no_table_said ≡ cut_table (lent_table tables entries i)
  unfolding lent_tables
  table_at i l =
      get_or-map cut_table (lent_tables tables entries) i no_table_said
      ∙ ap cut_table (at_place (lent_table tables entries) no_table_said (lent_table_count tables) i l)

  tables_long : length lent_tables_lem ≡ lent_table_count tables
  unfolding lent_tables
  tables_long = length-map (lent_tables tables entries) cut_table ∙ length_by_places (lent_table tables entries) 0 (lent_table_count tables)

  entries_long : (i : ℕ) → length (cut_table (lent_table tables entries i)).entries ≡ lent_entry_count tables i
  entries_long i =
      length-map (lent_table tables entries i).entries cut_option
      ∙ length_by_places (λ j. option_at entries (lent_entries_before tables i + j)) 0 (lent_entry_count tables i)

  entry_at : (i q : ℕ) → i < lent_table_count tables → q < lent_entry_count tables i → code_lent entries (lent_entries_before tables i + q) ≡ code_of (get_or (get_or lent_tables_lem i no_table_said).entries q none)
  entry_at i q inside l =
      rw (table_at i inside) (ap code_of (sym (
      get_or-map cut_option (lent_table tables entries i).entries q none
      ∙ ap cut_option (at_place (λ j. option_at entries (lent_entries_before tables i + j)) none (lent_entry_count tables i) q l)
      )))

  holds_lent : (i : ℕ) (h : Table) → TableLent tables i h → HoldsTable h (cut_table (lent_table tables entries i))
  holds_lent i h lent = record {
    member_count = lent.members ∙ sym count;
    members = ap₂ (λ n l. take n l) count lent.first ∙ first_four (λ j. cut (number_at tables (i * 6 + suc j))) (number_at tables (i * 6)) ∙ ap (take 4) (sym twice);
    entry_count = lent.entries ∙ sym (entries_long i);
  }
    where
      one : ℕ → ℕ
      one j = number_at tables (i * 6 + suc j)

      count : length (map cut (lent_members tables i)) ≡ number_at tables (i * 6)
      count = length-map (lent_members tables i) cut ∙ length_by_places one 0 (number_at tables (i * 6))

      twice : map cut (map one (below (number_at tables (i * 6)))) ≡ map (λ j. cut (one j)) (below (number_at tables (i * 6)))
      twice = map-map cut one (below (number_at tables (i * 6)))

  tables_held_lem : (held : List Table) → TablesLent tables (min (lent_table_count tables) 64) held → TablesHeld held lent_tables_lem
  tables_held_lem held lent i l k =
      let inside : i < lent_table_count tables = omega (arith, tables_long) in
      rw (table_at i inside) (holds_lent i (get_or held i no_table) (lent.each i (omega arith)))

  starts_lent : (i : ℕ) → i ≤ lent_table_count tables → start_of lent_tables_lem i ≡ lent_entries_before tables i
  starts_lent zero l = unfold start_of in refl
  starts_lent (suc i) l =
      start_next lent_tables_lem i
      ∙ ap₂ (λ a b. a + b) (starts_lent i (omega arith)) (ap (λ t. length t.entries) (table_at i (omega arith)) ∙ entries_long i)
      ∙ sym (before_next tables i)

  -- Where the entries are as many as the tables count, those of table i stand in the store from its start on.
  entries_held : (store : List ℕ) → length entries ≡ lent_entries_before tables (lent_table_count tables) * 8 → EntriesLent entries (min (length entries / 8) 4096) store
      → entries_of lent_tables_lem ≤ 4096 → HasEntries store lent_tables_lem
  entries_held store whole lent most_of i q l m =
      let inside : i < lent_table_count tables = omega (arith, tables_long) in
      let counted : q < lent_entry_count tables i = omega (arith, ap (λ t. length t.entries) (table_at i inside), entries_long i) in
      let start = starts_lent i (omega arith) in
      let last : lent_entries_before tables (suc i) ≤ lent_entries_before tables (lent_table_count tables) = before_most tables (suc i) (lent_table_count tables) (omega arith) in
      let stored : lent_entries_before tables i + q < 4096 = omega (arith, start_most lent_tables_lem (suc i), starts_lent (suc i) (omega arith), before_next tables i) in
      ap (λ k. get_or store (k + q) 0) start
      ∙ lent.each (lent_entries_before tables i + q) (omega (arith, before_next tables i))
      ∙ entry_at i q inside counted

  -- No number is the mark once it is cut off.
  none_marked : every unmarked lent_tables_lem ≡ true
  none_marked = every_image unmarked cut_table (λ t. every_image (none_or (λ e. ltb e mark)) cut_option small t.entries) (lent_tables tables entries)
    where
      small : (o : Option ℕ) → none_or (λ e. ltb e mark) (cut_option o) ≡ true
      small none = refl
      small (some n) = lt-ltb (cut n) mark (omega arith)

-- ---- patients as they are held

patients_held_lem : (patients : List ℕ) (held : List Patient) → PatientsLent patients (min (length patients / 32) 32) held → HeldPatients held (map cut_patient (lent_patients patients))
unfolding lent_patients
patients_held_lem patients held lent s l k =
    let inside : s < length patients / 32 = omega (arith, patients_long) in
    lent.each s (omega arith) ∙ ap cut_patient (sym (at_place (lent_patient patients) none_said (length patients / 32) s inside))
    ∙ sym (get_or-map cut_patient (lent_patients patients) s none_said)
  where
    patients_long : length (map cut_patient (map (lent_patient patients) (below (length patients / 32)))) ≡ length patients / 32
    patients_long = length-map (map (lent_patient patients) (below (length patients / 32))) cut_patient ∙ length_by_places (lent_patient patients) 0 (length patients / 32)

-- ---- the region

module _ (patients tables entries : List ℕ) (m : ℕ) where
  abbrev lent : Said.Region
  lent = lent_region patients tables entries m

  abbrev pub region_held : List Patient → List Table → Region
  region_held first_patients first_tables = record { v = length patients / 32; t = length tables / 48; m = m; patients = first_patients; tables = first_tables }

  counted : counts_true lent ≡ true
  unfolding counts_true lent_region region_from
  counted = join (eq-eqb (length (lent_patients patients)) _ refl) (eq-eqb (length (lent_tables tables entries)) _ refl)

  true_sum : lent.stated_sum ≡ checksum (spell_body lent)
  unfolding lent_region region_from spell_body
  true_sum = refl

  whole_entries_lem : lent_whole patients tables entries ≡ true → length entries ≡ lent_entries_before tables (lent_table_count tables) * 8
  unfolding lent_whole
  whole_entries_lem whole = eqb-true _ _ (both (eqb (length patients % 32) 0 && eqb (length tables % 48) 0) whole).1

  module _ (whole : lent_whole patients tables entries ≡ true) {first_patients : List Patient} {first_tables : List Table} {store : List ℕ}
      (ps : PatientsLent patients (min (length patients / 32) 32) first_patients)
      (ts : TablesLent tables (min (length tables / 48) 64) first_tables)
      (es : EntriesLent entries (min (length entries / 8) 4096) store) where
    held_from : HeldFrom (region_held first_patients first_tables) store (cut_off lent)
    unfolding cut_off lent_region region_from lent_patients lent_tables spell_body
    held_from = record {
      patient_count = sym (length_by_places (lent_patient patients) 0 (length patients / 32));
      table_count = sym (length_by_places (lent_table tables entries) 0 (length tables / 48));
      plans_wanted = refl;
      counted = counted_cut;
      summed = refl;
      patients = patients_held_lem patients first_patients ps;
      tables = tables_held_lem tables entries first_tables ts;
      entries = entries_held tables entries store (whole_entries_lem whole) es;
      unmarked = none_marked tables entries;
    }
      where
        counted_cut : counts_true (cut_off lent) ≡ true
        counted_cut = unfold counts_true in join (eq-eqb _ _ (length-map (lent_patients patients) cut_patient)) (eq-eqb _ _ (length-map (lent_tables tables entries) cut_table))

    pub lent_stands : StandsFor true (said (region_held first_patients first_tables) store) lent
    lent_stands = stands_through (stands_for held_from true) (cut_stands lent counted true_sum)
