-- What is held of the joined region: the patients and the tables of both, and the entries of both in one store.
use Rattle.std.specs.Prelude.{◌≡◌, ◌≤◌, set}
use Rattle.std.proofs.Math.Path.{refl, sym, ap, ap₂}
use Rattle.std.proofs.Common.{subst, ◌∙◌, arith, length-take-le, get_or-take, get_or-append-add, ◌+◌, ◌-◌, ◌<◌, ◌&&◌, ◌++◌}
use Rattle.std.proofs.lemmas.Simd.{map-map}
use Rattle.std.proofs.Math.ListN.{length-append, get_or-append}
use Rattle.std.proofs.lemmas.List.{length-map}
use Rattle.definitions.specs.Basics.{ℕ, zero, suc, min, Bool, true, not, Option, none, some, List, [], map, length, get_or, take, eqb, below, every}
use Rattle.definitions.specs.Limits.{patient_count, table_count, entry_count, limits, within}
use Rattle.definitions.specs.Syntax as Said
use Rattle.definitions.specs.Syntax.{patient_at}
use Rattle.definitions.specs.Questions.{entries_of, clinic_present}
use Rattle.definitions.specs.Writer.{with_sum, region_from}
use Rattle.definitions.specs.Joining.{patient_after, table_after, joined_region, clinics_apart, join_within}
use Rattle.std.proofs.Math.Decide.{dec_lt}
use Rattle.lists.specs.Tests.{both}
use Rattle.lists.specs.Every.{none_passes, every_map}
use Rattle.lists.specs.Below.{by_places_lem, below_same}
use Rattle.lists.specs.Filling.{Filled, filled_more}
use Rattle.theorems.specs.Accepted.{Accepted, at_most, parent_below, entries_few}
use Rattle.joining.specs.Joined.{joined_counted, joined_many, first_patient, second_patient}
use Rattle.held_region.specs.declared.Patient.{Patient}
use Rattle.held_region.specs.declared.Table.{Table}
use Rattle.held_region.specs.declared.Region.{Region}
use Rattle.held_region.specs.Meaning.{optional, no_patient, patient_of, patient_in, said_by, table_in, members_of, start_in, table_said, said}
use Rattle.held_region.specs.Sound.{HasPlaces, has_places, accepted_sound, member_below, members_held}
use Rattle.held_region.specs.Entries.{CountsSmall, counts_match_lem, counts_small, total_said}
use Rattle.held_region.specs.Stores.{table_at, start_of, start_next, start_most, SaysEntries}
use Rattle.held_region.specs.HeldFrom.{none_said, no_table_said}
use Rattle.held_region.specs.Asked.{patients_said_lem, patient_said_lem, tables_said, table_said_lem, entries_count, says}
use Rattle.joined_region.specs.Behind.{entries_behind, at_front, at_behind, says_together, at_moved, entries_moved, says_moved}

-- ---- what the functions rely on, and what they give

-- What counting patients, tables and entries relies on.
pub record Countable (h : Region) : Type 0 where
  pub places : HasPlaces h
  pub counts : CountsSmall h
  pub few : start_in h h.t ≤ 4096

-- A parent's number, v more, is a 32-bit number.
abbrev pub ParentMoves : Option ℕ → ℕ → Type 0
ParentMoves parent v = (q : ℕ) → parent ≡ some q → v + q < 4_294_967_296

-- So are the members of a table.
pub record MembersMove (t : Table) (v : ℕ) : Type 0 where
  pub few : t.members ≤ 4
  pub small : (j : ℕ) → j < t.members → v + get_or t.first j 0 < 4_294_967_296

-- Two regions that have their places together.
pub record Fitting (first second : Region) : Type 0 where
  pub patients : first.v + second.v ≤ 32
  pub tables : first.t + second.t ≤ 64
  pub entries : start_in first first.t + start_in second second.t ≤ 4096
  pub first_counts : CountsSmall first
  pub second_counts : CountsSmall second
  pub parents : (q : ℕ) → q < second.v → ParentMoves (optional (patient_in second q).parent) first.v
  pub members : (i : ℕ) → i < second.t → MembersMove (table_in second i) first.v

-- A table whose members are each v more.
pub record TableMoved (v : ℕ) (t moved : Table) : Type 0 where
  pub members : members_of moved ≡ map (λ s. v + s) (members_of t)
  pub entries : moved.entries ≡ t.entries

-- A table has the members and the count of entries that are said.
pub record SameTable (t : Table) (u : Said.Table) : Type 0 where
  pub members : members_of t ≡ u.members
  pub entries : t.entries ≡ length u.entries

-- The first patients and tables of the joined region, whatever the stores say.
abbrev pub PatientsJoined : Region → Region → ℕ → List Patient → Type 0
PatientsJoined first second n patients =
    (store other : List ℕ) → Filled (λ q p. patient_of p ≡ patient_at (joined_region (said first store) (said second other)) q) no_patient n patients

abbrev pub TablesJoined : Region → Region → ℕ → List Table → Type 0
TablesJoined first second n tables =
    (store other : List ℕ) → Filled (λ i t. SameTable t (table_at (joined_region (said first store) (said second other)) i)) (record { first = []; members = 0; entries = 0 }) n tables

-- What stands past the last table.
abbrev pub none_there : Table
none_there = record { first = []; members = 0; entries = 0 }

-- The first numbers of a store and, behind them, those of another: the first n of both are there.
abbrev pub EntriesJoined : List ℕ → ℕ → List ℕ → ℕ → List ℕ → Type 0
EntriesJoined store at other n after = Filled (λ k code. code ≡ get_or (take at store ++ other) k 0) 0 n after

-- ---- sizes

module _ (first second : Region) (store other : List ℕ) where
  abbrev r : Said.Region
  r = said first store

  abbrev s : Said.Region
  s = said second other

  abbrev joined : Said.Region
  joined = joined_region r s

  patients_many : length joined.patients ≡ first.v + second.v
  patients_many = joined_many r s ∙ ap₂ (λ a b. a + b) (patients_said_lem first store) (patients_said_lem second other)

  tables_many : length joined.tables ≡ first.t + second.t
  unfolding joined_region region_from
  tables_many =
      length-append r.tables (map (table_after (length r.patients)) s.tables)
      ∙ ap₂ (λ a b. a + b) (tables_said first store) (length-map s.tables (table_after (length r.patients)) ∙ tables_said second other)

  entries_many : entries_of joined.tables ≡ start_in first first.t + start_in second second.t
  unfolding joined_region region_from
  entries_many =
      entries_behind r.tables (map (table_after (length r.patients)) s.tables)
      ∙ ap₂ (λ a b. a + b) (total_said first store) (entries_moved (length r.patients) s.tables ∙ total_said second other)

  -- Question 17, by its answers to these sizes.
  pub within_asked : {a b c : Bool} → within patient_count (first.v + second.v) ≡ a → within table_count (first.t + second.t) ≡ b
      → within entry_count (start_in first first.t + start_in second second.t) ≡ c → join_within r s ≡ (a && b && c)
  unfolding join_within
  within_asked is_a is_b is_c =
      ap₂ ◌&&◌
      (ap₂ ◌&&◌ (ap (within patient_count) (sym (joined_counted r s).0 ∙ patients_many) ∙ is_a) (ap (within table_count) (sym (joined_counted r s).1 ∙ tables_many) ∙ is_b))
      (ap (within entry_count) entries_many ∙ is_c)

-- ---- question 16

-- Has a patient another clinic?
abbrev pub other_clinic : Region → ℕ → ℕ → Bool
other_clinic h c q = not (eqb (patient_in h q).clinic c)

pub lacks_asked : (h : Region) (store : List ℕ) (c : ℕ) → not (clinic_present (said h store) c) ≡ every (other_clinic h c) (below h.v)
unfolding clinic_present said
lacks_asked h store c =
    none_passes (λ p. eqb p.clinic c) (map (λ q. patient_of (patient_in h q)) (below h.v))
    ∙ every_map (λ p. not (eqb p.clinic c)) (λ q. patient_of (patient_in h q)) (below h.v)

pub apart_asked : (first second : Region) (store other : List ℕ)
    → clinics_apart (said first store) (said second other) ≡ every (λ q. not (clinic_present (said second other) (patient_in first q).clinic)) (below first.v)
unfolding clinics_apart said
apart_asked first second store other = every_map (λ p. not (clinic_present (said second other) p.clinic)) (λ q. patient_of (patient_in first q)) (below first.v)

-- ---- what is accepted can be counted, and fits where question 17 is answered yes

pub accepted_countable : (h : Region) (store : List ℕ) → Accepted (said h store) → Countable h
accepted_countable h store a = record {
  places = has_places h store a.counts_fit;
  counts = counts_small h (accepted_sound h store a) store (counts_match_lem (said h store) a.entry_counts_fit);
  few = omega (arith, total_said h store, entries_few (said h store) a);
}

pub fitting : (first second : Region) (store other : List ℕ) → Accepted (said first store) → Accepted (said second other) → join_within (said first store) (said second other) ≡ true
    → Fitting first second
unfolding limits
fitting first second store other a b together =
    let (two, entries) = both (within patient_count (first.v + second.v) && within table_count (first.t + second.t)) (sym (within_asked first second store other refl refl refl) ∙ together) in
    let (patients, tables) = both (within patient_count (first.v + second.v)) two in
    let few : first.v + second.v ≤ 32 = at_most patient_count _ patients in
    let sound = accepted_sound second other b in
    record {
      patients = few;
      tables = at_most table_count _ tables;
      entries = at_most entry_count _ entries;
      first_counts = (accepted_countable first store a).counts;
      second_counts = (accepted_countable second other b).counts;
      parents = λ q l p e.
          let above = (parent_below (said second other) b.parents_fit q p (ap (λ (x : Said.Patient). x.parent) (patient_said_lem second other q l) ∙ e)).1 in
          omega arith;
      members = λ i l. record { few = members_held second sound i l; small = λ j m. omega (arith, member_below second sound i l j m) };
    }

-- ---- the patients and the tables of both, by where they stand

module _ (first second : Region) where
  pub patients_joined : (patients : List Patient) → ((q : ℕ) → q < first.v → get_or patients q no_patient ≡ patient_in first q)
      → ((k : ℕ) → k < second.v → patient_of (get_or patients (first.v + k) no_patient) ≡ patient_after first.v (patient_of (patient_in second k)))
      → PatientsJoined first second (first.v + second.v) patients
  patients_joined patients front behind store other = record { each = λ q l. go q l (dec_lt q first.v) }
    where
      r : Said.Region
      r = said first store

      s : Said.Region
      s = said second other

      go : (q : ℕ) → q < first.v + second.v → Dec (q < first.v) → patient_of (get_or patients q no_patient) ≡ patient_at (joined_region r s) q
      go q l (yes h) = ap patient_of (front q h) ∙ sym (first_patient r s q (omega (arith, patients_said_lem first store)) ∙ patient_said_lem first store q h)
      go q l (no h) =
          let k = q - first.v in
          let here : first.v + k ≡ q = omega arith in
          let place : length r.patients + k ≡ q = omega (arith, patients_said_lem first store) in
          ap (λ n. patient_of (get_or patients n no_patient)) (sym here) ∙ behind k (omega arith)
          ∙ ap₂ (λ v x. patient_after v x) (sym (patients_said_lem first store)) (sym (patient_said_lem second other k (omega arith)))
          ∙ sym (second_patient r s k (omega (arith, patients_said_lem second other))) ∙ ap (patient_at (joined_region r s)) place

  pub patients_kept_lem : {q : ℕ} {patients : List Patient} → PatientsJoined first second q patients → q < first.v → q < length patients
      → PatientsJoined first second (q + 1) (set patients q (patient_in first q))
  patients_kept_lem {q} joined_so_far l room store other =
      filled_more (patient_in first q) (joined_so_far store other) room
      (sym (first_patient (said first store) (said second other) q (omega (arith, patients_said_lem first store)) ∙ patient_said_lem first store q l))

  pub patients_more : {q : ℕ} {patients : List Patient} (p : Patient) → PatientsJoined first second q patients → first.v ≤ q → q < first.v + second.v → q < length patients
      → patient_of p ≡ patient_after first.v (patient_of (patient_in second (q - first.v))) → PatientsJoined first second (q + 1) (set patients q p)
  patients_more {q} p joined_so_far from to room is store other =
      let r = said first store in
      let s = said second other in
      let k = q - first.v in
      let place : length r.patients + k ≡ q = omega (arith, patients_said_lem first store) in
      let stands = second_patient r s k (omega (arith, patients_said_lem second other)) in
      filled_more p (joined_so_far store other) room (
      is ∙ ap₂ (λ v x. patient_after v x) (sym (patients_said_lem first store)) (sym (patient_said_lem second other k (omega arith)))
      ∙ sym stands ∙ ap (patient_at (joined_region r s)) place)

  -- The tables of the joined region by number: those of the first, and those of the second, moved.
  module _ (store other : List ℕ) where
    first_table : (i : ℕ) → i < first.t → table_at (joined_region (said first store) (said second other)) i ≡ table_said first store i
    unfolding joined_region region_from
    first_table i l =
        at_front (said first store).tables _ i (omega (arith, tables_said first store)) ∙ table_said_lem first store i l

    second_table_lem : (k : ℕ) → k < second.t → table_at (joined_region (said first store) (said second other)) (first.t + k) ≡ table_after first.v (table_said second other k)
    unfolding joined_region region_from
    second_table_lem k l =
        let us = map (table_after (length (said first store).patients)) (said second other).tables in
        ap (λ n. table_at (joined_region (said first store) (said second other)) (n + k)) (sym (tables_said first store))
        ∙ at_behind (said first store).tables us k
        ∙ at_moved (length (said first store).patients) (said second other).tables k
        ∙ ap₂ table_after (patients_said_lem first store) (table_said_lem second other k l)

  same_first : (store : List ℕ) (i : ℕ) → SameTable (table_in first i) (table_said first store i)
  same_first store i = record { members = refl; entries = sym (entries_count first store i) }

  same_second : (other : List ℕ) (k : ℕ) (t : Table) → TableMoved first.v (table_in second k) t → SameTable t (table_after first.v (table_said second other k))
  same_second other k t moved = record { members = moved.members; entries = moved.entries ∙ sym (entries_count second other k) }

  pub tables_kept_lem : {i : ℕ} {tables : List Table} → TablesJoined first second i tables → i < first.t → i < length tables
      → TablesJoined first second (i + 1) (set tables i (table_in first i))
  tables_kept_lem {i} joined_so_far l room store other =
      filled_more (table_in first i) (joined_so_far store other) room (subst (SameTable (table_in first i)) (sym (first_table store other i l)) (same_first store i))

  pub tables_more : {i : ℕ} {tables : List Table} (t : Table) → TablesJoined first second i tables → first.t ≤ i → i < first.t + second.t → i < length tables
      → TableMoved first.v (table_in second (i - first.t)) t → TablesJoined first second (i + 1) (set tables i t)
  tables_more {i} t joined_so_far from to room moved store other =
      let place : first.t + (i - first.t) ≡ i = omega arith in
      let is = sym (second_table_lem store other (i - first.t) (omega arith)) ∙ ap (table_at (joined_region (said first store) (said second other))) place in
      filled_more t (joined_so_far store other) room (subst (SameTable t) is (same_second other (i - first.t) t moved))

  pub tables_joined : (tables : List Table) → ((i : ℕ) → i < first.t → get_or tables i none_there ≡ table_in first i)
      → ((k : ℕ) → k < second.t → TableMoved first.v (table_in second k) (get_or tables (first.t + k) none_there)) → TablesJoined first second (first.t + second.t) tables
  tables_joined tables front behind store other = record { each = λ i l. go i l (dec_lt i first.t) }
    where
      go : (i : ℕ) → i < first.t + second.t → Dec (i < first.t) → SameTable (get_or tables i none_there) (table_at (joined_region (said first store) (said second other)) i)
      go i l (yes h) = rw (front i h) (subst (SameTable (table_in first i)) (sym (first_table store other i h)) (same_first store i))
      go i l (no h) =
          let k = i - first.t in
          let here : first.t + k ≡ i = omega arith in
          subst (λ n. SameTable (get_or tables n none_there) (table_at (joined_region (said first store) (said second other)) n)) here
          (subst (SameTable (get_or tables (first.t + k) none_there)) (sym (second_table_lem store other k (omega arith))) (same_second other k _ (behind k (omega arith))))

-- ---- members that are moved

pub table_moved : {v : ℕ} {t moved : Table} → Filled (λ j s. s ≡ v + get_or t.first j 0) 0 t.members moved.first → moved.members ≡ t.members → moved.entries ≡ t.entries
    → TableMoved v t moved
table_moved {v} {t} {moved} filled count entries = record {
  members =
      ap (λ n. map (λ j. get_or moved.first j 0) (below n)) count
      ∙ below_same _ (λ j. v + get_or t.first j 0) t.members (λ j l. filled.each j l)
      ∙ sym (map-map (λ s. v + s) (λ j. get_or t.first j 0) (below t.members));
  entries = entries;
}

-- ---- the joined region is said

module _ (first second : Region) (store other after : List ℕ) (patients : List Patient) (tables : List Table)
    (ps : PatientsJoined first second (first.v + second.v) patients) (ts : TablesJoined first second (first.t + second.t) tables)
    (es : EntriesJoined store (start_in first first.t) other (start_in first first.t + start_in second second.t) after)
    (room : start_in first first.t ≤ length store) where
  abbrev held : Region
  held = record { v = first.v + second.v; t = first.t + second.t; m = min first.m second.m; patients = patients; tables = tables }

  abbrev whole : Said.Region
  whole = joined_region (said first store) (said second other)

  same_table_lem : (i : ℕ) → i < first.t + second.t → SameTable (table_in held i) (table_at whole i)
  same_table_lem i l = (ts store other).each i l

  starts : (i : ℕ) → i ≤ first.t + second.t → start_in held i ≡ start_of whole.tables i
  starts zero l = unfold start_of in refl
  starts (suc i) l = ap₂ (λ a b. a + b) (starts i (omega arith)) (same_table_lem i (omega arith)).entries ∙ sym (start_next whole.tables i)

  -- Both stores together say the entries of both.
  both_say : SaysEntries (take (start_in first first.t) store ++ other) whole.tables
  unfolding joined_region region_from
  both_say =
      let r = said first store in
      let v = length r.patients in
      let own = total_said first store in
      rw own at (says_together r.tables (map (table_after v) (said second other).tables) store other (omega (arith, own)) (says first store) (says_moved v (said second other).tables other (says second other)))

  entry_same : (i : ℕ) → i < first.t + second.t → (k : ℕ) → k < (table_in held i).entries → said_by (get_or after (start_in held i + k) 0) ≡ get_or (table_at whole i).entries k none
  entry_same i l k m =
      let own : k < length (table_at whole i).entries = omega (arith, (same_table_lem i l).entries) in
      let inside : start_of whole.tables i + k < start_in first first.t + start_in second second.t =
      omega (arith, start_next whole.tables i, start_most whole.tables (suc i), entries_many first second store other) in
      ap (λ n. said_by (get_or after (n + k) 0)) (starts i (omega arith))
      ∙ ap said_by (es.each (start_of whole.tables i + k) inside)
      ∙ both_say i k (omega (arith, tables_many first second store other)) own

  table_same : (i : ℕ) → i < first.t + second.t → table_said held after i ≡ table_at whole i
  table_same i l =
      ap₂ (λ ms entries. record { members = ms; entries = entries }) (same_table_lem i l).members
      (by_places_lem _ none (table_in held i).entries (table_at whole i).entries (sym (same_table_lem i l).entries) (entry_same i l))

  said_joined : said held after ≡ whole
  unfolding said joined_region region_from patient_at
  said_joined =
      let patients_same = by_places_lem (λ q. patient_of (patient_in held q)) none_said held.v whole.patients (patients_many first second store other) (λ q l. (ps store other).each q l) in
      let tables_same = by_places_lem (table_said held after) no_table_said held.t whole.tables (tables_many first second store other) table_same in
      ap₂ (summed held.v held.t) patients_same tables_same
      ∙ ap₂ (λ v t. summed v t whole.patients whole.tables) (sym (patients_many first second store other)) (sym (tables_many first second store other))
    where
      summed : ℕ → ℕ → List Said.Patient → List Said.Table → Said.Region
      summed v t patients tables = with_sum (record { patient_count = v; table_count = t; plans_wanted = held.m; patients = patients; tables = tables; stated_sum = 0 })

-- The same, by what the functions give.
pub join_said : (first second : Region) (store other after : List ℕ) (m at n : ℕ) {patients : List Patient} {tables : List Table}
    → m ≡ min first.m second.m → at ≡ start_in first first.t → n ≡ start_in second second.t
    → PatientsJoined first second (first.v + second.v) patients → TablesJoined first second (first.t + second.t) tables
    → EntriesJoined store at other (at + n) after → at ≤ length store
    → said (record { v = first.v + second.v; t = first.t + second.t; m = m; patients = patients; tables = tables }) after ≡ joined_region (said first store) (said second other)
join_said first second store other after m at n {patients} {tables} is_m is_at is_n ps ts es room =
    ap (λ k. said (record { v = first.v + second.v; t = first.t + second.t; m = k; patients = patients; tables = tables }) after) is_m
    ∙ said_joined first second store other after patients tables ps ts (rw (is_at, is_n) at es) (rw is_at at room)

-- ---- one more entry

module _ (store other : List ℕ) (at : ℕ) (room : at ≤ length store) where
  pub entries_first : EntriesJoined store at other at store
  entries_first = record {
    each = λ k l. sym (get_or-append (take at store) other 0 k (omega (arith, length-take-le at store room)) ∙ get_or-take at store k 0 l);
  }

  pub entries_more : {k : ℕ} {after : List ℕ} → EntriesJoined store at other k after → at ≤ k → k < length after
      → EntriesJoined store at other (k + 1) (set after k (get_or other (k - at) 0))
  entries_more {k} joined_so_far from inside =
      let place : length (take at store) + (k - at) ≡ k = omega (arith, length-take-le at store room) in
      filled_more _ joined_so_far inside (sym (get_or-append-add (take at store) other (k - at) 0) ∙ ap (λ n. get_or (take at store ++ other) n 0) place)
