-- Both regions stand in the joined one: the first from patient 0 on, the second behind it. So one law serves both.
use Rattle.std.specs.Prelude.{◌≡◌, ◌≤◌}
use Rattle.std.proofs.Math.Path.{refl, ap}
use Rattle.std.proofs.Common.{sym, ◌∙◌, zero-add, arith, length-append, ◌+◌, ◌<◌, ◌++◌}
use mathlib.Core.List.{map-id, map-map}
use Rattle.std.proofs.lemmas.List.{length-map}
use Rattle.std.proofs.Math.ListN.{get_or-append}
use Rattle.std.proofs.Math.Seq.{get_or-append-add}
use Rattle.definitions.specs.Basics.{ℕ, min, Option, none, some, option_map, List, map, length, below}
use Rattle.definitions.specs.Syntax.{Patient, Table, Region, patient_numbers, patient_at}
use Rattle.definitions.specs.Writer.{region_from, as_held}
use Rattle.definitions.specs.Joining.{patient_after, table_after, joined_region}
use Rattle.lists.specs.Members.{◌∈◌}
use Rattle.lists.specs.Maps.{map_same, map_at}
use Rattle.joining.specs.Shifting.{shifted, not_shifted, below_parts}

-- Region r stands in region j from patient v on.
pub record Stands (v : ℕ) (r j : Region) : Type 0 where
  pub room : v + length r.patients ≤ length j.patients
  pub patient : (q : ℕ) → q < length r.patients → patient_at j (v + q) ≡ patient_after v (patient_at r q)

-- What its patients have there.
pub patients_after : {A : Type 0} {v : ℕ} {r j : Region} → Stands v r j → (f : Patient → A) (l : List ℕ) → ((s : ℕ) → s ∈ l → s < length r.patients)
    → map (λ s. f (patient_at j s)) (shifted v l) ≡ map (λ s. f (patient_after v (patient_at r s))) l
patients_after {v = v} {j = j} stands f l known = map-map (λ s. f (patient_at j s)) (λ s. v + s) l ∙ map_same _ _ l (λ s k. ap f (stands.patient s (known s k)))

-- Behind no patients nothing changes.
patient_same : (p : Patient) → patient_after 0 p ≡ p
patient_same p = λ i. record { clinic = p.clinic; bed_count = p.bed_count; parent = same p.parent i; fixed_bed = p.fixed_bed }
  where
    same : (o : Option ℕ) → option_map (λ q. 0 + q) o ≡ o
    same none = refl
    same (some q) = ap {B = Option ℕ} some (zero-add q)

table_same : (t : Table) → table_after 0 t ≡ t
table_same t = λ i. record { members = not_shifted t.members i; entries = t.entries }

module _ (r s : Region) where
  abbrev v : ℕ
  v = length r.patients

  -- What it holds: the smaller m, the patients and the tables of both, and true counts.
  pub joined_plans : (joined_region r s).plans_wanted ≡ min r.plans_wanted s.plans_wanted
  unfolding joined_region region_from
  joined_plans = refl

  pub joined_patients_lem : (joined_region r s).patients ≡ r.patients ++ map (patient_after v) s.patients
  unfolding joined_region region_from
  joined_patients_lem = refl

  pub joined_tables_lem : (joined_region r s).tables ≡ map (table_after 0) r.tables ++ map (table_after v) s.tables
  unfolding joined_region region_from
  joined_tables_lem = ap (λ (l : List Table). l ++ map (table_after v) s.tables) (sym (map_same (table_after 0) (λ t. t) r.tables (λ t k. table_same t) ∙ map-id r.tables))

  pub joined_counted : (length (joined_region r s).patients ≡ (joined_region r s).patient_count) × (length (joined_region r s).tables ≡ (joined_region r s).table_count)
  unfolding joined_region region_from
  joined_counted = (refl, refl)

  pub joined_held : as_held (joined_region r s) ≡ joined_region r s
  unfolding as_held joined_region region_from
  joined_held = refl

  pub joined_many : length (joined_region r s).patients ≡ v + length s.patients
  joined_many = ap length joined_patients_lem ∙ length-append r.patients _ ∙ ap (λ n. v + n) (length-map s.patients (patient_after v))

  pub joined_numbers : patient_numbers (joined_region r s) ≡ shifted 0 (patient_numbers r) ++ shifted v (patient_numbers s)
  joined_numbers =
      ap below joined_many ∙ below_parts v (length s.patients)
      ∙ ap (λ (l : List ℕ). l ++ shifted v (patient_numbers s)) (sym (not_shifted (patient_numbers r)))

  -- Who has which number in it.
  pub first_patient : (q : ℕ) → q < v → patient_at (joined_region r s) q ≡ patient_at r q
  unfolding patient_at joined_region region_from
  first_patient q h = get_or-append r.patients _ _ q h

  pub second_patient : (q : ℕ) → q < length s.patients → patient_at (joined_region r s) (v + q) ≡ patient_after v (patient_at s q)
  unfolding patient_at joined_region region_from
  second_patient q h = get_or-append-add r.patients _ q _ ∙ map_at (patient_after v) s.patients q _ _ h

  pub first_stands : Stands 0 r (joined_region r s)
  first_stands = record {
    room = omega (arith, joined_many);
    patient = λ q h. ap (patient_at (joined_region r s)) (zero-add q) ∙ first_patient q h ∙ sym (patient_same (patient_at r q));
  }

  pub second_stands : Stands v s (joined_region r s)
  second_stands = record { room = omega (arith, joined_many); patient = second_patient }
