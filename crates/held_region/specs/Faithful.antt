-- What is held of a region stands for the region.
use Rattle.std.specs.Prelude.{◌≡◌, ◌≤◌}
use Rattle.std.proofs.Math.Path.{refl, sym, ap, ap₂, fun_ext}
use Rattle.std.proofs.Common.{◌∙◌, arith, get_or-take, ◌+◌, ◌<◌, ◌&&◌, ◌||◌, ◌∷◌}
use borrow.Author.Tests.{eqb-true, ltb-true, eq-eqb, ne_eqb}
use Rattle.definitions.specs.Basics.{ℕ, zero, suc, Bool, true, false, not, cond, Option, none, some, none_or, List, [], map, length, get_or, eqb, ltb, product, below, every, every_two}
use Rattle.definitions.specs.Limits.{limits, within, patient_count, table_count, plans_wanted, member_count, entry_count}
use Rattle.definitions.specs.Syntax as Said
use Rattle.definitions.specs.Syntax.{patient_at, bed_counts}
use Rattle.definitions.specs.Spelling.{spell_body}
use Rattle.definitions.specs.Questions.{counts_true, counts_within, patients_within, parents_smaller, members_right, entry_counts_right, entries_within, members_related}
use Rattle.definitions.specs.Writer.{with_sum}
use Rattle.lists.specs.Tests.{both}
use Rattle.lists.specs.Below.{length_by_places, by_places_lem, same_default, every_place, every_by_places, same_tests}
use Rattle.theorems.specs.Accepted.{at_most}
use Rattle.held_region.specs.declared.Region.{Region}
use Rattle.held_region.specs.Meaning.{no_patient, patient_of, patient_in, mark, said_by, code_of, no_table, table_in, members_of, start_in, table_said, said}
use Rattle.held_region.specs.Stores.{start_of, entries_of, table_at, start_next, start_all}
use Rattle.held_region.specs.Asked.{patient_fits, none_or_below, tables_by_places}
use Rattle.held_region.specs.Members.{members_fit, members_asked}
use Rattle.held_region.specs.Entries.{counts_match, counts_by_places, total_said, total_most}
use Rattle.held_region.specs.Refusals.{asked, last_asked}
use Rattle.held_region.specs.HeldFrom.{HoldsTable, unmarked, HeldFrom}
use Rattle.held_region.specs.StandsFor.{Alike, same_left, one_asked, same_first, asked_yes, StandsFor}

-- ---- one table, one entry

-- A held table has as many members and entries as the one that is said, and where they are at most four, its members.
module _ (h : Region) (t : Said.Table) (i : ℕ) (holds : HoldsTable (get_or h.tables i no_table) t) where
  entries_counted : (table_in h i).entries ≡ length t.entries
  entries_counted = same_default (λ u. u.entries) _ no_table refl h.tables i ∙ holds.entry_count

  same_members : members_of (table_in h i) ≡ members_of (get_or h.tables i no_table)
  same_members = same_default members_of _ no_table refl h.tables i

  members_counted : length (members_of (table_in h i)) ≡ length t.members
  members_counted =
      ap length same_members ∙ length_by_places (λ j. get_or (get_or h.tables i no_table).first j 0) 0 (get_or h.tables i no_table).members ∙ holds.member_count

  members_whole : length t.members ≤ 4 → members_of (table_in h i) ≡ t.members
  members_whole few =
      same_members
      ∙ by_places_lem (λ j. get_or (get_or h.tables i no_table).first j 0) 0 (get_or h.tables i no_table).members t.members (sym holds.member_count)
      (λ j l. sym (get_or-take (length t.members) (get_or h.tables i no_table).first j 0 (omega (arith, holds.member_count))) ∙ ap (λ m. get_or m j 0) holds.members
      ∙ get_or-take 4 t.members j 0 (omega (arith, holds.member_count)))

  members_fit_same : (v : ℕ) → members_fit v (members_of (table_in h i)) ≡ members_fit v t.members
  unfolding limits
  members_fit_same v = go (within member_count (length t.members)) refl
    where
      go : (b : Bool) → within member_count (length t.members) ≡ b → members_fit v (members_of (table_in h i)) ≡ members_fit v t.members
      go true e = ap (members_fit v) (members_whole (at_most member_count (length t.members) e))
      go false e =
          ap (λ b. b && every (λ s. ltb s v) (members_of (table_in h i)) && every_two ltb (members_of (table_in h i))) (ap (within member_count) members_counted ∙ e)
          ∙ sym (ap (λ b. b && every (λ s. ltb s v) t.members && every_two ltb t.members) e)

-- The entry that the number of an entry stands for, where that is not the mark.
entry_back : (o : Option ℕ) → none_or (λ e. ltb e mark) o ≡ true → said_by (code_of o) ≡ o
entry_back none small = ap (λ b. cond b none (some mark)) (eq-eqb mark mark refl)
entry_back (some e) small = ap (λ b. cond b none (some e)) (ne_eqb e mark (λ same. omega (arith, ltb-true e mark small)))

-- ---- the region

module _ (h : Region) (store : List ℕ) (r : Said.Region) (held : HeldFrom h store r) where
  patient_lines_lem : length r.patients ≡ h.v
  unfolding counts_true
  patient_lines_lem = eqb-true _ _ (both (eqb (length r.patients) r.patient_count) held.counted).0 ∙ sym held.patient_count

  table_lines_lem : length r.tables ≡ h.t
  unfolding counts_true
  table_lines_lem = eqb-true _ _ (both (eqb (length r.patients) r.patient_count) held.counted).1 ∙ sym held.table_count

  counts_same : counts_within (said h store) ≡ counts_within r
  unfolding counts_within said
  counts_same =
      ap₂ (λ x y. within patient_count x && within table_count y && within plans_wanted h.m) held.patient_count held.table_count
      ∙ ap (λ x. within patient_count r.patient_count && within table_count r.table_count && within plans_wanted x) held.plans_wanted

  -- Where question 5 is answered yes, all patients and tables are held.
  module _ (five : counts_within r ≡ true) where
    few : (r.patient_count ≤ 32) × (r.table_count ≤ 64)
    unfolding counts_within limits
    few =
        let (v, t) = both (within patient_count r.patient_count) (both (within patient_count r.patient_count && within table_count r.table_count) five).0 in
        (at_most patient_count r.patient_count v, at_most table_count r.table_count t)

    patients_same : (said h store).patients ≡ r.patients
    unfolding said patient_at
    patients_same =
        by_places_lem (λ s. patient_of (patient_in h s)) (patient_of no_patient) h.v r.patients patient_lines_lem
        (λ s l. held.patients s (omega (arith, few.0, held.patient_count)) (omega (arith, patient_lines_lem)))

    patient_same : (s : ℕ) → patient_at (said h store) s ≡ patient_at r s
    unfolding patient_at
    patient_same s = ap (λ ps. get_or ps s (patient_of no_patient)) patients_same

    patients_within_same : patients_within (said h store) ≡ patients_within r
    unfolding patients_within
    patients_within_same = ap (every patient_fits) patients_same

    parents_smaller_same : parents_smaller (said h store) ≡ parents_smaller r
    unfolding parents_smaller patient_at
    parents_smaller_same = ap (λ ps. every (λ s. none_or_below (get_or ps s (patient_of no_patient)).parent s) (below (length ps))) patients_same

    holds_table : (i : ℕ) → i < h.t → HoldsTable (get_or h.tables i no_table) (table_at r i)
    holds_table i l = held.tables i (omega (arith, few.1, held.table_count)) (omega (arith, table_lines_lem))

    -- A test of all tables of the file, place by place.
    all_tables : (f : Said.Table → Bool) → every f r.tables ≡ every (λ i. f (table_at r i)) (below h.t)
    all_tables f = every_by_places f (record { members = []; entries = [] }) h.t r.tables table_lines_lem

    members_right_same : members_right (said h store) ≡ members_right r
    unfolding members_right
    members_right_same =
        members_asked h store
        ∙ same_tests _ _ h.t (λ i l. ap (λ v. members_fit v (members_of (table_in h i))) held.patient_count ∙ members_fit_same h (table_at r i) i (holds_table i l) r.patient_count)
        ∙ sym (all_tables (λ t. members_fit r.patient_count t.members))

    starts_same : (i : ℕ) → i ≤ h.t → start_in h i ≡ start_of r.tables i
    starts_same zero l = unfold start_of in refl
    starts_same (suc i) l =
        ap₂ (λ a b. a + b) (starts_same i (omega arith)) (entries_counted h (table_at r i) i (holds_table i (omega arith)))
        ∙ sym (start_next r.tables i)

    total_same : entries_of (said h store).tables ≡ entries_of r.tables
    total_same = total_said h store ∙ starts_same h.t (omega arith) ∙ ap (start_of r.tables) (sym table_lines_lem) ∙ start_all r.tables

    -- Where question 7 is too, all members are.
    module _ (seven : members_right r ≡ true) where
      members_same : (i : ℕ) → i < h.t → members_of (table_in h i) ≡ (table_at r i).members
      unfolding members_right limits
      members_same i l =
          let fits : members_fit r.patient_count (table_at r i).members ≡ true = every_place _ h.t i (sym (all_tables (λ t. members_fit r.patient_count t.members)) ∙ seven) l in
          let two = both (within member_count (length (table_at r i).members) && every (λ s. ltb s r.patient_count) (table_at r i).members) fits in
          members_whole h (table_at r i) i (holds_table i l) (at_most member_count _ (both (within member_count (length (table_at r i).members)) two.0).0)

      entry_counts_same : entry_counts_right (said h store) ≡ entry_counts_right r
      unfolding entry_counts_right
      entry_counts_same = ap₂ (λ a n. a && within entry_count n) match total_same
        where
          match : counts_match (said h store) ≡ counts_match r
          match =
              counts_by_places h store
              ∙ same_tests _ _ h.t
              (λ i l.
              ap₂ (λ n beds. eqb n (product beds)) (entries_counted h (table_at r i) i (holds_table i l))
              (ap (bed_counts (said h store)) (members_same i l) ∙ ap (λ (at : ℕ → Said.Patient). map (λ s. (at s).bed_count) (table_at r i).members) (fun_ext patient_same)))
              ∙ sym (all_tables (λ t. eqb (length t.entries) (product (bed_counts r t.members))))

      -- Where question 8 is too, all entries have their place, and the tables are those that are said.
      module _ (eight : entry_counts_right r ≡ true) where
        entry_same : (i : ℕ) → i < h.t → (k : ℕ) → k < (table_in h i).entries → said_by (get_or store (start_in h i + k) 0) ≡ get_or (table_at r i).entries k none
        entry_same i l k m =
            let inside : k < length (table_at r i).entries = omega (arith, entries_counted h (table_at r i) i (holds_table i l)) in
            ap (λ n. said_by (get_or store (n + k) 0)) (starts_same i (omega arith))
            ∙ ap said_by (held.entries (total_most r eight) i k (omega (arith, table_lines_lem)) inside)
            ∙ entry_back (get_or (table_at r i).entries k none) (each_unmarked i l k inside)
          where
            each_unmarked : (i : ℕ) → i < h.t → (k : ℕ) → k < length (table_at r i).entries → none_or (λ e. ltb e mark) (get_or (table_at r i).entries k none) ≡ true
            each_unmarked i l k m =
                let one : unmarked (table_at r i) ≡ true = every_place _ h.t i (sym (all_tables unmarked) ∙ held.unmarked) l in
                every_place _ _ k (sym (every_by_places (none_or (λ e. ltb e mark)) none _ (table_at r i).entries refl) ∙ one) m

        table_same : (i : ℕ) → i < h.t → table_said h store i ≡ table_at r i
        table_same i l =
            ap₂ (λ ms es. record { members = ms; entries = es }) (members_same i l)
            (by_places_lem _ none (table_in h i).entries (table_at r i).entries (sym (entries_counted h (table_at r i) i (holds_table i l))) (entry_same i l))

        tables_same : (said h store).tables ≡ r.tables
        tables_same = tables_by_places h store ∙ by_places_lem (table_said h store) (record { members = []; entries = [] }) h.t r.tables table_lines_lem table_same

        all_same : said h store ≡ r
        unfolding said spell_body
        all_same =
            ap₂ (λ ps ts. summed h.v h.t h.m ps ts) patients_same tables_same
            ∙ ap₂ (λ v t. summed v t h.m r.patients r.tables) held.patient_count held.table_count
            ∙ ap (λ m. summed r.patient_count r.table_count m r.patients r.tables) held.plans_wanted
            ∙ ap (λ n. record { patient_count = r.patient_count; table_count = r.table_count; plans_wanted = r.plans_wanted; patients = r.patients; tables = r.tables; stated_sum = n }) (sym held.summed)
          where
            summed : ℕ → ℕ → ℕ → List Said.Patient → List Said.Table → Said.Region
            summed v t m patients tables = with_sum (record { patient_count = v; table_count = t; plans_wanted = m; patients = patients; tables = tables; stated_sum = 0 })

-- ---- the questions

module _ {h : Region} {store : List ℕ} {r : Said.Region} (held : HeldFrom h store r) where
  alike : (parents : Bool) → Alike (asked parents (said h store)) (asked parents r)
  unfolding asked last_asked
  alike parents =
      one_asked (counts_same h store r held) λ five.
      one_asked (ap₂ (λ a b. a && (not parents || b)) (patients_within_same h store r held five) (parents_smaller_same h store r held five)) λ six.
      one_asked (members_right_same h store r held five) λ seven.
      one_asked (entry_counts_same h store r held five seven) λ eight.
      same_left (ap (λ x. (9, entries_within x) ∷ cond parents ((10, members_related x) ∷ []) []) (all_same h store r held five seven eight))

  pub stands_for : (parents : Bool) → StandsFor parents (said h store) r
  unfolding asked last_asked
  stands_for parents = record {
    asks = same_first (alike parents);
    says = λ none_no. let (five, (six, (seven, (eight, rest)))) = asked_yes parents r none_no in all_same h store r held five seven eight;
  }
