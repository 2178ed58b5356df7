-- The region with only the tables that pass a test: it is accepted where the region is, and its terms are the region's.
use Rattle.std.specs.Prelude.{◌≡◌, ◌≤◌}
use Rattle.std.proofs.Math.Path.{refl, ap, fun_ext}
use Rattle.std.proofs.Common.{◌∙◌, arith, ◌+◌, ◌||◌, ◌∷◌}
use borrow.Author.Tests.{le-leb, eq-eqb}
use Rattle.definitions.specs.Basics.{ℕ, zero, suc, Bool, true, false, cond, Option, none, some, List, [], length, every, every_two, keep, contains}
use Rattle.definitions.specs.Limits.{limits, within}
use Rattle.definitions.specs.Syntax.{Table, Region, patient_at}
use Rattle.definitions.specs.Plans.{entry_for}
use Rattle.definitions.specs.Questions.{counts_true, counts_within, patients_within, parents_smaller, members_right, entry_counts_right, entries_within, following, ancestors, members_related}
use Rattle.lists.specs.Tests.{join}
use Rattle.lists.specs.Every.{every_all}
use Rattle.lists.specs.Keep.{keep_out, keep_all, keep_short, every_keep}
use Rattle.theorems.specs.Accepted.{Accepted, patients_counted_lem, tables_counted_lem, counts_within_lem, table_right, tables_few, entries_few}
use Rattle.buckets.specs.Terms.{Term}
use Rattle.held_region.specs.Stores.{entries_of}
use Rattle.bucket_words.specs.declared.TableTerm.{TableTerm}

abbrev pub with_tables : Region → (Table → Bool) → Region
with_tables r test = record {
  patient_count = r.patient_count;
  table_count = length (keep test r.tables);
  plans_wanted = r.plans_wanted;
  patients = r.patients;
  tables = keep test r.tables;
  stated_sum = r.stated_sum;
}

-- Fewer tables have no more entries together.
entries_keep : (f : Table → Bool) (tables : List Table) → entries_of (keep f tables) ≤ entries_of tables
entries_keep f [] = omega arith
entries_keep f (t ∷ tables) = go (f t) (entries_keep f tables)
  where
    go : (b : Bool) → entries_of (keep f tables) ≤ entries_of tables → entries_of (cond b (t ∷ keep f tables) (keep f tables)) ≤ length t.entries + entries_of tables
    go true h = omega arith
    go false h = omega arith

module _ (r : Region) (test : Table → Bool) where
  -- Parents are those of the patients, so ancestors stay as they are.
  following_same : (steps : ℕ) (parent : Option ℕ) → following (with_tables r test) steps parent ≡ following r steps parent
  unfolding following patient_at
  following_same zero parent = refl
  following_same (suc steps) none = refl
  following_same (suc steps) (some p) = ap (λ l. p ∷ l) (following_same steps (patient_at r p).parent)

  ancestors_same : (s : ℕ) → ancestors (with_tables r test) s ≡ ancestors r s
  unfolding ancestors patient_at
  ancestors_same s = following_same (length r.patients) (patient_at r s).parent

  module _ (a : Accepted r) where
    -- Questions 5, 8 and 10, and then all.
    counts_with : counts_within (with_tables r test) ≡ true
    unfolding counts_within within limits
    counts_with =
        let (patients, tables, plans) = counts_within_lem r a in
        let count = length (keep test r.tables) in
        let few : count ≤ 64 = omega (arith, keep_short test r.tables, tables_few r a) in
        join (join patients (join (le-leb 0 count (omega arith)) (le-leb count 64 few))) plans

    entries_with : entry_counts_right (with_tables r test) ≡ true
    unfolding entry_counts_right within limits patient_at
    entries_with =
        let count = entries_of (keep test r.tables) in
        let few : count ≤ 4_096 = omega (arith, entries_keep test r.tables, entries_few r a) in
        join (every_all _ (keep test r.tables) (λ t k. eq-eqb _ _ (table_right r a (keep_out test r.tables k).0).counted)) (join (le-leb 0 count (omega arith)) (le-leb count 4_096 few))

    related_with : members_related (with_tables r test) ≡ true
    unfolding members_related
    related_with =
        ap (λ f. every (λ (t : Table). every_two (λ a b. contains (f a) b || contains (f b) a) t.members) (keep test r.tables)) (fun_ext ancestors_same)
        ∙ every_keep _ test r.tables a.related

    pub accepted_with : Accepted (with_tables r test)
    unfolding counts_true patients_within parents_smaller members_right entries_within patient_at
    accepted_with =
        let count = length (keep test r.tables) in
        record {
          counted = join (eq-eqb _ _ (patients_counted_lem r a)) (eq-eqb count count refl);
          counts_fit = counts_with;
          patients_fit = a.patients_fit;
          parents_fit = a.parents_fit;
          members_fit = every_keep _ test r.tables a.members_fit;
          entry_counts_fit = entries_with;
          entries_fit = every_keep _ test r.tables a.entries_fit;
          related = related_with;
        }

-- A term of one of its tables.
pub term_with : (r : Region) (test : Table → Bool) (store : List ℕ) (terms : List TableTerm) (k : ℕ) (t : Table) → Term r store terms k t → Term (with_tables r test) store terms k t
unfolding entry_for patient_at
term_with r test store terms k t term =
    record { known = term.known; near = term.near; starts = term.starts; inside = term.inside; finds = term.finds; small = term.small; place = term.place; beside = term.beside }

-- Where all tables pass, it is the region itself.
pub with_all : (r : Region) (test : Table → Bool) → Accepted r → every test r.tables ≡ true → with_tables r test ≡ r
with_all r test a passed = λ i. record {
  patient_count = r.patient_count;
  table_count = count i;
  plans_wanted = r.plans_wanted;
  patients = r.patients;
  tables = all i;
  stated_sum = r.stated_sum;
}
  where
    all : keep test r.tables ≡ r.tables
    all = keep_all test r.tables passed

    count : length (keep test r.tables) ≡ r.table_count
    count = ap length all ∙ tables_counted_lem r a
