-- The buckets of the tables from a place on, as they are filled from the last table down.
use mathlib.Core.Path.{◌≡◌, refl, sym, ap, ap₂, ◌∙◌, subst, subst⁻¹}
use mathlib.Core.Bool.{true≢false}
use Prim.Native.Nat.{◌≤◌}
use native.Mathlib.Decide.{ℕ_discrete}
use native.Mathlib.Nat.{le_refl, add_comm}
use native.Mathlib.Omega.{arith}
use borrow.Author.Tests.{eq-eqb, ne_eqb}
use lib.ListN.{drop, replicate, length-replicate, get_or-replicate, drop_of_length-le}
use lib.Seq.{drop-cons}
use Rattle.std.specs.Prelude.{◌+◌, ◌-◌, ◌<◌, ◌∷◌}
use Rattle.definitions.specs.Basics.{ℕ, suc, Bool, true, false, cond, List, [], map, length, get_or, eqb, sum, keep}
use Rattle.definitions.specs.Syntax as Said
use Rattle.definitions.specs.Syntax.{patient_at}
use Rattle.theorems.specs.Accepted.{Accepted, member_at_lem, patients_few, tables_few, entries_few, beds_few}
use Rattle.partial_rows.specs.Bounds.{least_entry}
use Rattle.held_region.specs.declared.Table.{Table}
use Rattle.held_region.specs.declared.Region.{Region}
use Rattle.held_region.specs.Stores.{table_at, start_of, start_next, start_most}
use Rattle.held_region.specs.Meaning.{table_in, start_in, said}
use Rattle.held_region.specs.Asked.{patients_said_lem, patient_said_lem, starts_said, stands}
use Rattle.held_region.specs.Sound.{accepted_sound}
use Rattle.held_region.specs.Entries.{CountsSmall, counts_match_lem, counts_small}
use Rattle.bucket_words.specs.declared.TermMember.{TermMember}
use Rattle.bucket_words.specs.Words.{no_member, no_term, beds_at, first_bed_at, bed_end_at, least_at, first_at}
use Rattle.bucket_words.specs.Kept.{Bounded}
use Rattle.buckets.specs.Permitted.{first_permitted, permitted_end}
use Rattle.buckets.specs.Terms.{Term, Chain, Prepared, highest, bucket_of, least_in}
use Rattle.buckets.specs.Least.{least_number}
use Rattle.buckets.specs.Places.{stride_of, stride_same}
use Rattle.buckets.specs.Highest.{in_bucket}
use Rattle.buckets.specs.Chains.{term_right, term_kept, chain_kept, chain_lower}
use Rattle.buckets.specs.WithTables.{with_tables, accepted_with, term_with}
use Rattle.buckets.specs.Counting.{PreparedFor}
use Rattle.buckets.specs.Written.{PatientsWritten, last_of, TermKnown, TermAdded}
use Rattle.buckets.proofs.Held.{held_lines, least_fits, held_place, held_right, members_same, entries_same, count_same}
use Rattle.buckets.proofs.Held.{first_same, last_same, last_known, least_in_store, least_one}
use Rattle.bucket_words.specs.declared.PatientBucket.{PatientBucket}
use Rattle.bucket_words.specs.declared.TableTerm.{TableTerm}

-- The tables that pass a test, from place i on, of which s is the highest member.
abbrev pub bucket_from : (Said.Table → Bool) → Said.Region → ℕ → ℕ → List Said.Table
bucket_from test r i s = keep (highest s) (keep test (drop i r.tables))

-- Held are the buckets of the tables that pass a test from place i on.
pub record Filled (test : Said.Table → Bool) (r : Said.Region) (store : List ℕ) (i start : ℕ) (patients : List PatientBucket) (terms : List TableTerm) : Type 0 where
  pub starts : start ≡ start_of r.tables i
  pub beds : (s : ℕ) → s < length r.patients → beds_at patients s ≡ (patient_at r s).bed_count
  pub first_bed : (s : ℕ) → s < length r.patients → first_bed_at patients s ≡ first_permitted (patient_at r s)
  pub bed_end : (s : ℕ) → s < length r.patients → bed_end_at patients s ≡ permitted_end (patient_at r s)
  pub least : (s : ℕ) → s < length r.patients → least_at patients s ≡ sum (map least_entry (bucket_from test r i s))
  pub bucket : (s : ℕ) → s < length r.patients → Chain (with_tables r test) store terms i (first_at patients s) (bucket_from test r i s)
  pub term : (k : ℕ) → i ≤ k → k < length r.tables → test (table_at r k) ≡ true → Term r store terms k (table_at r k)

module _ (h : Region) (store : List ℕ) (test : Said.Table → Bool) (a : Accepted (said h store)) where
  abbrev r : Said.Region
  r = said h store

  -- No table yet.
  pub filled_none : (start : ℕ) (written : List PatientBucket) (terms : List TableTerm) → PatientsWritten h.patients h.v written → start ≡ start_in h h.t
      → Filled test r store h.t start written terms
  unfolding Chain
  filled_none start written terms w total =
      record {
        starts = total ∙ sym (starts_said h store h.t (omega arith));
        beds = λ s l. w.beds s (known s l) ∙ ap (λ p. p.bed_count) (sym (patient_said_lem h store s (known s l)));
        first_bed = λ s l. w.first_bed s (known s l) ∙ ap first_permitted (sym (patient_said_lem h store s (known s l)));
        bed_end = λ s l. w.bed_end s (known s l) ∙ ap permitted_end (sym (patient_said_lem h store s (known s l)));
        least = λ s l. w.least s ∙ sym (ap (λ ts. sum (map least_entry (keep (highest s) (keep test ts)))) none_left);
        bucket = λ s l. subst (λ ts. Chain (with_tables r test) store terms h.t (first_at written s) (keep (highest s) (keep test ts))) (sym none_left) (w.first s (known s l));
        term = λ k l m. absurd (omega (arith, held_lines h store a));
      }
    where
      known : (s : ℕ) → s < length r.patients → s < h.v
      known s l = omega (arith, patients_said_lem h store)

      none_left : drop h.t r.tables ≡ []
      none_left = drop_of_length-le r.tables {i = h.t} (omega (arith, held_lines h store a))

  -- All tables.
  pub filled_all : (start : ℕ) (patients : List PatientBucket) (terms : List TableTerm) → Filled test r store 0 start patients terms → Prepared (with_tables r test) store patients terms
  unfolding bucket_of least_in patient_at
  filled_all start patients terms f = record { accepted = accepted_with r test a; beds = f.beds; first_bed = f.first_bed; bed_end = f.bed_end; least = f.least; bucket = f.bucket }

  -- One more table.
  module _ (i : ℕ) (l : i < h.t) (start : ℕ) (patients : List PatientBucket) (terms : List TableTerm) (f : Filled test r store (suc i) start patients terms) where
    abbrev table : Table
    table = table_in h i

    abbrev t : Said.Table
    t = table_at r i

    abbrev from : ℕ
    from = start - table.entries

    start_down : start ≡ start_of r.tables i + table.entries
    start_down = omega (arith, f.starts, start_next r.tables i, entries_same h store a i l)

    pub start_enough : table.entries ≤ start
    start_enough = omega (arith, start_down)

    from_is : from ≡ start_of r.tables i
    from_is = omega (arith, start_down)

    least_is : least_number store from (from + table.entries) ≡ least_entry t
    least_is = ap (λ n. least_number store n (n + table.entries)) from_is ∙ least_in_store h store a i l

    next_table : (s : ℕ) → bucket_from test r i s
        ≡ keep (highest s) (cond (test t) (t ∷ keep test (drop (suc i) r.tables)) (keep test (drop (suc i) r.tables)))
    next_table s = ap (λ ts. keep (highest s) (keep test ts)) (drop-cons r.tables i (record { members = []; entries = [] }) (held_place h store a i l))

    member_known : (j : ℕ) → j < table.members → get_or table.first j 0 < length r.patients
    member_known j m =
        omega (arith, first_same h store a i l j m, member_at_lem (held_right h store a i l) j (omega (arith, count_same h store a i l)))

    pub term_known : length patients ≡ 32 → length terms ≡ 64 → TermKnown store table i from patients terms
    term_known wide terms_wide =
        record {
          members =
              record {
                few = omega (arith, count_same h store a i l, (held_right h store a i l).few);
                known = λ j m. omega (arith, member_known j m, patients_few r a);
                small = λ j m. omega (arith, f.beds _ (member_known j m), beds_few r a _ (member_known j m));
              };
          term = omega (arith, held_place h store a i l, tables_few r a);
          wide = wide;
          terms_wide = terms_wide;
          last =
              record {
                some = omega (arith, count_same h store a i l, (held_right h store a i l).some);
                few = omega (arith, count_same h store a i l, (held_right h store a i l).few);
                patient = omega (arith, last_known h store a i l, patients_few r a);
              };
          inside = omega (arith, start_down, f.starts, start_most r.tables (suc i), entries_few r a);
          fits =
              omega (
                arith,
                least_is,
                least_one h store a i l,
                least_fits h store a _ test (suc i) _ (f.least (last_of table) (last_known h store a i l)),
              );
        }

    -- A table that does not pass is passed over.
    pub filled_over : test t ≡ false → Filled test r store i from patients terms
    filled_over out =
        record {
          starts = from_is;
          beds = f.beds;
          first_bed = f.first_bed;
          bed_end = f.bed_end;
          least = λ s m. f.least s m ∙ sym (ap (λ ts. sum (map least_entry ts)) (over s));
          bucket = λ s m.
              subst (λ ts. Chain (with_tables r test) store terms i (first_at patients s) ts) (sym (over s))
              (chain_lower (with_tables r test) store terms (suc i) i (first_at patients s) (bucket_from test r (suc i) s) (omega arith) (f.bucket s m));
          term = λ k n m own. later k n m own (ℕ_discrete k i);
        }
      where
        later : (k : ℕ) → i ≤ k → k < length r.tables → test (table_at r k) ≡ true → Dec (k ≡ i) → Term r store terms k (table_at r k)
        later k n m own (yes e) = absurd (true≢false (sym own ∙ ap (λ j. test (table_at r j)) e ∙ out))
        later k n m own (no e) = f.term k (omega (arith, e)) m own

        over : (s : ℕ) → bucket_from test r i s ≡ bucket_from test r (suc i) s
        over s = next_table s ∙ ap (λ b. keep (highest s) (cond b (t ∷ keep test (drop (suc i) r.tables)) (keep test (drop (suc i) r.tables)))) out

    module _ (own : test t ≡ true) {counted : List PatientBucket} {after : List TableTerm} (w : TermAdded store table i from patients counted terms after) where
      term_own : Term r store after i t
      term_own =
          term_right r a i (held_place h store a i l) after (w.starts ∙ from_is)
          (λ j m. w.members.members j m ∙ ap (λ ms. get_or ms j 0) (members_same h store a i l))
          (λ j m.
          w.members.strides j m ∙ ap (λ ms. stride_of (beds_at patients) ms j) (members_same h store a i l)
          ∙ stride_same (beds_at patients) (λ s. (patient_at r s).bed_count) t.members (λ q n. f.beds _ (member_at_lem (held_right h store a i l) q n)) j) store (stands h store)

      term_there : Term (with_tables r test) store after i t
      term_there = term_with r test store after i t term_own

      -- It keeps to the bounds, and the other terms are as they were.
      pub bounded_more : {n : ℕ} → i < n → Bounded terms n → Bounded after n
      bounded_more {n} inside bounded =
          record {
            few = bounded.few;
            known = λ k j m q. elim (ℕ_discrete k i) [
              | yes e ↦ rw e (term_own.known j q)
              | no e ↦ omega (arith, bounded.known k j m q, ap (λ (held : TableTerm). (get_or held.members j no_member).patient) (w.others k e))
            ];
            near = λ k j m q. elim (ℕ_discrete k i) [
              | yes e ↦ rw e (term_own.near j q)
              | no e ↦ omega (arith, bounded.near k j m q, ap (λ (held : TableTerm). (get_or held.members j no_member).stride) (w.others k e))
            ];
            blank = λ k j o m q. ap (λ (held : TableTerm). (get_or held.members j no_member).stride) (w.others k (λ e. omega arith)) ∙ bounded.blank k j o m q;
          }

      term_of : (k : ℕ) → i ≤ k → k < length r.tables → test (table_at r k) ≡ true → Dec (k ≡ i) → Term r store after k (table_at r k)
      term_of k n m own (yes e) = rw e term_own
      term_of k n m own (no e) =
          term_kept r store terms after k (table_at r k) (w.others k e) (f.term k (omega (arith, e)) m own)

      kept : (s : ℕ) → s < length r.patients → Chain (with_tables r test) store after (suc i) (first_at patients s) (bucket_from test r (suc i) s)
      kept s m = chain_kept (with_tables r test) store terms after (suc i) (first_at patients s) (bucket_from test r (suc i) s) (λ q n. w.others q (λ e. omega arith)) (f.bucket s m)

      one_more_lem : (s : ℕ) → bucket_from test r i s ≡ cond (eqb s (last_of table)) (t ∷ bucket_from test r (suc i) s) (bucket_from test r (suc i) s)
      one_more_lem s =
          next_table s ∙ ap (λ b. keep (highest s) (cond b (t ∷ keep test (drop (suc i) r.tables)) (keep test (drop (suc i) r.tables)))) own
          ∙ ap (λ b. cond b (t ∷ bucket_from test r (suc i) s) (bucket_from test r (suc i) s))
          (in_bucket s t (held_right h store a i l).some (held_right h store a i l).rising ∙ ap (eqb s) (sym (last_same h store a i l)))

      put : (s : ℕ) → s ≡ last_of table → bucket_from test r i s ≡ t ∷ bucket_from test r (suc i) s
      put s e = one_more_lem s ∙ ap (λ b. cond b (t ∷ bucket_from test r (suc i) s) (bucket_from test r (suc i) s)) (eq-eqb s (last_of table) e)

      passed : (s : ℕ) → (s ≡ last_of table → ⊥) → bucket_from test r i s ≡ bucket_from test r (suc i) s
      passed s n = one_more_lem s ∙ ap (λ b. cond b (t ∷ bucket_from test r (suc i) s) (bucket_from test r (suc i) s)) (ne_eqb s (last_of table) n)

      -- The bucket of the table's last member, and the others.
      least_last : least_at counted (last_of table) ≡ sum (map least_entry (bucket_from test r i (last_of table)))
      least_last =
          w.least ∙ ap₂ (λ x y. x + y) (f.least (last_of table) (last_known h store a i l)) least_is ∙ add_comm _ _
          ∙ sym (ap (λ ts. sum (map least_entry ts)) (put (last_of table) refl))

      bucket_last : Chain (with_tables r test) store after i (first_at counted (last_of table)) (bucket_from test r i (last_of table))
      unfolding Chain
      bucket_last =
          subst (λ ts. Chain (with_tables r test) store after i (first_at counted (last_of table)) ts) (sym (put (last_of table) refl))
          (subst (λ p. Chain (with_tables r test) store after i p (t ∷ bucket_from test r (suc i) (last_of table))) (sym w.first) (
            le_refl i,
            omega (arith, held_place h store a i l, tables_few r a),
            term_there,
            subst (λ p. Chain (with_tables r test) store after (suc i) p (bucket_from test r (suc i) (last_of table))) (sym w.next) (kept (last_of table) (last_known h store a i l)),
          ))

      least_of_lem : (s : ℕ) → s < length r.patients → Dec (s ≡ last_of table) → least_at counted s ≡ sum (map least_entry (bucket_from test r i s))
      least_of_lem s m (yes e) = rw e least_last
      least_of_lem s m (no n) = w.other_least s n ∙ f.least s m ∙ sym (ap (λ ts. sum (map least_entry ts)) (passed s n))

      bucket_of_lem : (s : ℕ) → s < length r.patients → Dec (s ≡ last_of table) → Chain (with_tables r test) store after i (first_at counted s) (bucket_from test r i s)
      bucket_of_lem s m (yes e) = rw e bucket_last
      bucket_of_lem s m (no n) =
          subst (λ ts. Chain (with_tables r test) store after i (first_at counted s) ts) (sym (passed s n))
          (subst (λ p. Chain (with_tables r test) store after i p (bucket_from test r (suc i) s)) (sym (w.other_first s n))
          (chain_lower (with_tables r test) store after (suc i) i (first_at patients s) (bucket_from test r (suc i) s) (omega arith) (kept s m)))

      pub filled_more : Filled test r store i from counted after
      filled_more =
          record {
            starts = from_is;
            beds = λ s m. w.beds s ∙ f.beds s m;
            first_bed = λ s m. w.first_bed s ∙ f.first_bed s m;
            bed_end = λ s m. w.bed_end s ∙ f.bed_end s m;
            least = λ s m. least_of_lem s m (ℕ_discrete s (last_of table));
            bucket = λ s m. bucket_of_lem s m (ℕ_discrete s (last_of table));
            term = λ k n m q. term_of k n m q (ℕ_discrete k i);
          }

-- ---- the loop

-- What stands for a table before it is put into a bucket.
abbrev pub blank_term : TableTerm
blank_term = record { start = 0; next = 64; members = replicate 4 no_member }

-- At place i: the tables that pass from it on are in their buckets.
pub record Filling (h : Region) (store : List ℕ) (test : Said.Table → Bool) (i start : ℕ) (patients : List PatientBucket) (terms : List TableTerm) : Type 0 where
  pub wide : length patients ≡ 32
  pub terms_wide : length terms ≡ 64
  pub left : i ≤ h.t
  pub few : i ≤ 64
  pub bounded : Bounded terms h.t
  pub filled : Filled test (said h store) store i start patients terms

module _ (h : Region) (store : List ℕ) (a : Accepted (said h store)) where
  -- What the sum of all entry counts asks for.
  pub counts_held : CountsSmall h
  counts_held = counts_small h (accepted_sound h store a) store (counts_match_lem (said h store) a.entry_counts_fit)

  module _ (test : Said.Table → Bool) where
    pub filling_none : (start : ℕ) (written : List PatientBucket) → h.t ≤ 64
        → PatientsWritten h.patients h.v written → start ≡ start_in h h.t → Filling h store test h.t start written (replicate 64 blank_term)
    filling_none start written few w total =
        record {
          wide = w.wide;
          terms_wide = length-replicate {A = TableTerm} 64 blank_term;
          left = omega arith;
          few = few;
          bounded = record {
            few = few;
            known = λ k j l m. rw (blank_at k l, get_or-replicate {A = TermMember} 4 j no_member no_member m) (omega arith);
            near = λ k j l m. rw (blank_at k l, get_or-replicate {A = TermMember} 4 j no_member no_member m) (omega arith);
            blank = λ k j o l m. rw (blank_at k l, get_or-replicate {A = TermMember} 4 j no_member no_member m) refl;
          };
          filled = filled_none h store test a start written (replicate 64 blank_term) w total;
        }
      where
        blank_at : (k : ℕ) → k < 64 → get_or (replicate 64 blank_term) k no_term ≡ blank_term
        blank_at k l = get_or-replicate {A = TableTerm} 64 k blank_term no_term l

    pub filling_all : (start i : ℕ) (patients : List PatientBucket) (terms : List TableTerm) → i ≤ 0 → Filling h store test i start patients terms
        → PreparedFor test (said h store) store patients terms
    filling_all start i patients terms done f =
        let none_left : i ≡ 0 = omega arith in
        let filled = rw none_left at f.filled in
        record {
          prepared = filled_all h store test a start patients terms filled;
          numbered = record { bounded = subst⁻¹ (Bounded terms) (held_lines h store a) f.bounded; term = λ k l own. filled.term k (omega arith) l own };
        }

    module _ (i start : ℕ) (patients : List PatientBucket) (terms : List TableTerm) (more : 0 < i) (f : Filling h store test i start patients terms) where
      abbrev k : ℕ
      k = i - 1

      pub filling_place : k < h.t
      filling_place = omega (arith, f.left)

      next_place : i ≡ suc k
      next_place = omega arith

      filled_next : Filled test (said h store) store (suc k) start patients terms
      filled_next = subst (λ n. Filled test (said h store) store n start patients terms) next_place f.filled

      pub filling_start : (table_in h k).entries ≤ start
      filling_start = start_enough h store test a k filling_place start patients terms filled_next

      pub filling_known : TermKnown store (table_in h k) k (start - (table_in h k).entries) patients terms
      filling_known = term_known h store test a k filling_place start patients terms filled_next f.wide f.terms_wide

      pub filling_over : {b : Bool} → b ≡ test (table_at (said h store) k) → b ≡ false → Filling h store test k (start - (table_in h k).entries) patients terms
      filling_over e out =
          record {
            wide = f.wide;
            terms_wide = f.terms_wide;
            left = omega (arith, f.left);
            few = omega (arith, f.few);
            bounded = f.bounded;
            filled = filled_over h store test a k filling_place start patients terms filled_next (sym e ∙ out);
          }

      pub filling_more : {b : Bool} → b ≡ test (table_at (said h store) k) → b ≡ true → {counted : List PatientBucket} {after : List TableTerm}
          → TermAdded store (table_in h k) k (start - (table_in h k).entries) patients counted terms after
          → Filling h store test k (start - (table_in h k).entries) counted after
      filling_more e own {counted} {after} w =
          record {
            wide = w.wide;
            terms_wide = w.terms_wide;
            left = omega (arith, f.left);
            few = omega (arith, f.few);
            bounded = bounded_more h store test a k filling_place start patients terms filled_next (sym e ∙ own) w filling_place f.bounded;
            filled = filled_more h store test a k filling_place start patients terms filled_next (sym e ∙ own) w;
          }
