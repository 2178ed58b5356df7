-- A region with other parents: all else that is read of it stays, and a patient has the parent that was chosen.
use Rattle.std.specs.Prelude.{◌≡◌}
use Rattle.std.proofs.Math.Path.{refl, sym, ap}
use Rattle.std.proofs.Common.{◌∙◌, arith, ◌<◌}
use Rattle.std.proofs.Math.Option.{none-ne-some}
use Rattle.std.proofs.Math.Decide.{dec_lt}
use Rattle.std.proofs.Math.ListN.{get_or-eq_default}
use Rattle.definitions.specs.Basics.{ℕ, true, Option, none, some, List, map, length, get_or}
use Rattle.definitions.specs.Syntax.{Patient, Region, patient_numbers, patient_at}
use Rattle.definitions.specs.Questions.{counts_true}
use Rattle.definitions.specs.Writer.{region_from, as_held}
use Rattle.definitions.specs.Parents.{with_parent, with_parents}
use Rattle.lists.specs.Below.{at_place, length_by_places}
use Rattle.theorems.specs.Writer.{held_counts}

-- Two regions that differ at most in parents, stated counts and stated sum.
pub record Alike (r s : Region) : Type 0 where
  pub plans_wanted : r.plans_wanted ≡ s.plans_wanted
  pub tables : r.tables ≡ s.tables
  pub many : length r.patients ≡ length s.patients
  pub clinic : (q : ℕ) → (patient_at r q).clinic ≡ (patient_at s q).clinic
  pub bed_count : (q : ℕ) → (patient_at r q).bed_count ≡ (patient_at s q).bed_count
  pub fixed_bed : (q : ℕ) → (patient_at r q).fixed_bed ≡ (patient_at s q).fixed_bed

module _ (r : Region) (choice : List (Option ℕ)) where
  -- What it holds, with true counts and the true sum.
  chosen_patients : (with_parents r choice).patients ≡ map (λ s. with_parent (patient_at r s) (get_or choice s none)) (patient_numbers r)
  unfolding with_parents region_from
  chosen_patients = refl

  chosen_many : length (with_parents r choice).patients ≡ length r.patients
  chosen_many = ap length chosen_patients ∙ length_by_places _ 0 (length r.patients)

  pub chosen_patient_count : (with_parents r choice).patient_count ≡ length r.patients
  unfolding with_parents region_from
  chosen_patient_count = length_by_places _ 0 (length r.patients)

  pub chosen_table_count : (with_parents r choice).table_count ≡ length r.tables
  unfolding with_parents region_from
  chosen_table_count = refl

  pub chosen_held : as_held (with_parents r choice) ≡ with_parents r choice
  unfolding as_held with_parents region_from
  chosen_held = refl

  pub chosen_counted : counts_true (with_parents r choice) ≡ true
  chosen_counted = rw (← chosen_held) (held_counts (with_parents r choice))

  -- Who has which number in it.
  chosen_patient : (s : ℕ) → s < length r.patients → patient_at (with_parents r choice) s ≡ with_parent (patient_at r s) (get_or choice s none)
  unfolding patient_at with_parents region_from
  chosen_patient s h = at_place (λ q. with_parent (patient_at r q) (get_or choice q none)) _ (length r.patients) s h

  -- Past the end there is a patient without a parent, in both.
  chosen_field : {A : Type 0} (f : Patient → A) → ((p : Patient) (o : Option ℕ) → f (with_parent p o) ≡ f p)
      → (s : ℕ) → f (patient_at (with_parents r choice) s) ≡ f (patient_at r s)
  unfolding patient_at
  chosen_field f blind s = elim (dec_lt s (length r.patients)) [
    | yes h ↦ ap f (chosen_patient s h) ∙ blind _ _
    | no h ↦ ap f (get_or-eq_default (with_parents r choice).patients _ (omega (arith, chosen_many)) ∙ sym (get_or-eq_default r.patients _ (omega arith)))
  ]

  pub chosen_alike : Alike (with_parents r choice) r
  unfolding with_parents region_from
  chosen_alike = record {
    plans_wanted = refl;
    tables = refl;
    many = chosen_many;
    clinic = chosen_field (λ p. p.clinic) (λ p o. refl);
    bed_count = chosen_field (λ p. p.bed_count) (λ p o. refl);
    fixed_bed = chosen_field (λ p. p.fixed_bed) (λ p o. refl);
  }

  -- A patient's parent is the one chosen.
  pub chosen_parent : (s : ℕ) → s < length r.patients → (patient_at (with_parents r choice) s).parent ≡ get_or choice s none
  chosen_parent s h = ap (λ (p : Patient). p.parent) (chosen_patient s h)

  pub parent_chosen : (s p : ℕ) → (patient_at (with_parents r choice) s).parent ≡ some p → get_or choice s none ≡ some p
  unfolding patient_at
  parent_chosen s p e = elim (dec_lt s (length r.patients)) [
    | yes h ↦ sym (chosen_parent s h) ∙ e
    | no h ↦ absurd (none-ne-some p (sym (ap (λ (x : Patient). x.parent) (get_or-eq_default (with_parents r choice).patients _ (omega (arith, chosen_many)))) ∙ e))
  ]
