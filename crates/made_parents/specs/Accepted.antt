-- A region that passes the questions that parents asks is accepted with the parents that are made.
use Rattle.std.specs.Prelude.{◌≡◌, refl}
use Rattle.std.proofs.Math.Path.{sym, ap}
use Rattle.std.proofs.Common.{◌∙◌, arith, ◌<◌, ◌&&◌, ◌||◌}
use Rattle.std.proofs.Math.Bool.{or-true}
use borrow.Author.Tests.{lt-ltb, ltb-true}
use Rattle.definitions.specs.Basics.{ℕ, Bool, true, List, length, eqb, ltb, product, every, contains}
use Rattle.definitions.specs.Limits.{member_count, entry_count, within}
use Rattle.definitions.specs.Syntax.{Table, Region, patient_numbers, patient_at, bed_counts}
use Rattle.definitions.specs.Questions.{short_enough, laid_out, counts_true, sum_true, counts_within, patients_within, parents_smaller, members_right, entries_of, entry_counts_right, entries_within, ancestors, members_related}
use Rattle.definitions.specs.Questions.{region_of}
use Rattle.definitions.specs.Writer.{region_from}
use Rattle.definitions.specs.Parents.{shared_tables, parents_made, with_parents, asked_to_make}
use Rattle.lists.specs.Tests.{both, join}
use Rattle.lists.specs.Members.{◌∈◌, in_map}
use Rattle.lists.specs.Every.{every_in, every_all, every_map, contains_in}
use Rattle.lists.specs.Maps.{map_same}
use Rattle.lists.specs.Rising.{two_all}
use Rattle.lists.specs.Below.{every_by_places}
use Rattle.theorems.specs.Answers.{all_yes}
use Rattle.theorems.specs.Accepted.{Accepted, counts_true_lem}
use Rattle.theorems.specs.Writer.{none_or_lem}
use Rattle.made_parents.specs.Made.{made_smaller, made_related}
use Rattle.made_parents.specs.Chosen.{chosen_patient_count, chosen_table_count, chosen_counted, chosen_alike, chosen_parent, parent_chosen}

-- Questions 3 and 5 to 9 of a region are answered yes, of 6 not the parents' half.
pub record PassesNine (r : Region) : Type 0 where
  pub counted : counts_true r ≡ true
  pub counts_fit : counts_within r ≡ true
  pub patients_fit : patients_within r ≡ true
  pub members_fit : members_right r ≡ true
  pub entry_counts_fit : entry_counts_right r ≡ true
  pub entries_fit : entries_within r ≡ true

-- What the file's questions say.
pub asked_nine : (file : List ℕ) → all_yes (asked_to_make file) ≡ true → PassesNine (region_of file)
asked_nine file all =
    let r = region_of file in
    let (q1, r1) = both (short_enough file) all in
    let (q2, r2) = both (laid_out file) r1 in
    let (q3, r3) = both (counts_true r) r2 in
    let (q4, r4) = both (sum_true file r) r3 in
    let (q5, r5) = both (counts_within r) r4 in
    let (q6, r6) = both (patients_within r) r5 in
    let (q7, r7) = both (members_right r) r6 in
    let (q8, r8) = both (entry_counts_right r) r7 in
    record { counted = q3; counts_fit = q5; patients_fit = q6; members_fit = q7; entry_counts_fit = q8; entries_fit = (both (entries_within r) r8).0 }

-- 6, the parents' half, of any region: a made parent is smaller.
pub made_parents_smaller : (r : Region) → parents_smaller (with_parents r (parents_made r)) ≡ true
unfolding parents_smaller
made_parents_smaller r =
    let made = with_parents r (parents_made r) in
    every_all _ (patient_numbers made) (λ s k. none_or_lem (patient_at made s).parent (λ p e.
    lt-ltb p s (made_smaller (shared_tables r) (length r.patients) s p (parent_chosen r (parents_made r) s p e))))

module _ (r : Region) (n : PassesNine r) where
  abbrev made : Region
  made = with_parents r (parents_made r)

  counts : (length r.patients ≡ r.patient_count) × (length r.tables ≡ r.table_count)
  counts = counts_true_lem r n.counted

  -- The tables are the same.
  tables_fit : (f : Table → Bool) → ((t : Table) → t ∈ r.tables → f t ≡ true) → every f made.tables ≡ true
  tables_fit f each = ap (every f) (chosen_alike r (parents_made r)).tables ∙ every_all f r.tables each

  -- 5: V and T are the same.
  counts_fit_lem : counts_within made ≡ true
  unfolding counts_within
  counts_fit_lem =
      let same = chosen_alike r (parents_made r) in
      rw (chosen_patient_count r (parents_made r), chosen_table_count r (parents_made r), same.plans_wanted, counts.0, counts.1) n.counts_fit

  -- 6: nothing else of a patient changes.
  patients_fit_lem : patients_within made ≡ true
  unfolding patients_within with_parents region_from patient_at
  patients_fit_lem = every_map _ _ (patient_numbers r) ∙ sym (every_by_places _ _ (length r.patients) r.patients refl) ∙ n.patients_fit

  -- 7: the members are as they were, and V too.
  members_fit_lem : members_right made ≡ true
  unfolding members_right
  members_fit_lem = rw ((chosen_alike r (parents_made r)).tables, chosen_patient_count r (parents_made r), counts.0) n.members_fit

  -- 8: the members' bed counts are as they were.
  entry_counts_fit_lem : entry_counts_right made ≡ true
  unfolding entry_counts_right
  entry_counts_fit_lem =
      let same = chosen_alike r (parents_made r) in
      let (each, few) = both (every (λ t. eqb (length t.entries) (product (bed_counts r t.members))) r.tables) n.entry_counts_fit in
      join (tables_fit _ (λ t k. ap (λ l. eqb (length t.entries) (product l)) (map_same _ _ t.members (λ s i. same.bed_count s)) ∙ every_in _ r.tables each k))
      (ap (λ l. within entry_count (entries_of l)) same.tables ∙ few)

  entries_fit_lem : entries_within made ≡ true
  unfolding entries_within
  entries_fit_lem = tables_fit _ (λ t k. every_in _ r.tables n.entries_fit k)

  -- 10: the members of one table are one group of the graph.
  related_fit : members_related made ≡ true
  unfolding members_related members_right
  related_fit = tables_fit _ (λ t k.
      let (two, rising) = both (within member_count (length t.members) && every (λ s. ltb s r.patient_count) t.members) (every_in _ r.tables n.members_fit k) in
      let known = (both (within member_count (length t.members)) two).1 in
      let related : (a b : ℕ) → a ∈ t.members → b ∈ t.members → a < b → a ∈ ancestors made b =
      λ a b i j h. made_related made (made_parents_smaller r) (shared_tables r) (length r.patients) (chosen_parent r (parents_made r)) t.members (in_map (λ t. t.members) k) a b i j h
      (omega (arith, counts.0, ltb-true b r.patient_count (every_in _ t.members known j))) in
      two_all _ t.members rising (λ a b i j h. ap (λ c. contains (ancestors made a) b || c) (contains_in (ancestors made b) (related a b i j h)) ∙ or-true (contains (ancestors made a) b)))

-- With the parents made, the region is accepted.
pub made_accepted : (r : Region) → PassesNine r → Accepted (with_parents r (parents_made r))
made_accepted r n = record {
  counted = chosen_counted r (parents_made r);
  counts_fit = counts_fit_lem r n;
  patients_fit = patients_fit_lem r n;
  parents_fit = made_parents_smaller r;
  members_fit = members_fit_lem r n;
  entry_counts_fit = entry_counts_fit_lem r n;
  entries_fit = entries_fit_lem r n;
  related = related_fit r n;
}
