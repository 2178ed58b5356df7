-- A loop that multiplies the bed counts of a table's members.
use mathlib.Core.Path.{◌≡◌, sym, ap, ◌∙◌, subst⁻¹}
use Prim.Native.Nat.{ℕ, ◌+◌, ◌*◌, ◌^◌, ◌≤◌, ◌<◌}
use native.Mathlib.Nat.{mul_assoc, mul-le-mul, pow-suc, pow-le-pow_right, zero-lt-suc}
use native.Mathlib.Numerals.{add-one}
use native.Mathlib.Omega.{arith}
use mathlib.Core.List.{List, map}
use lib.ListN.{get_or}
use Rattle.definitions.specs.Basics.{product}
use Rattle.held_region.specs.declared.Patient.{Patient}
use Rattle.held_region.specs.declared.Table.{Table}
use Rattle.held_region.specs.Entries.{BedsRead}
use Rattle.held_region.specs.Sound.{bed_count_in}
use Rattle.held_region.specs.Members.{members_from, members_next}

-- One more member: the product grows by at most 16 times, so it stays small.
module _ (patients : List Patient) (t : Table) (n i : ℕ) (read : BedsRead patients t) (h : i < t.members) where
  abbrev beds : ℕ
  beds = bed_count_in patients (get_or t.first i 0)

  pub more_most : n ≤ 16 ^ i → n * beds ≤ 16 ^ (i + 1)
  more_most l = subst⁻¹ (λ m. n * beds ≤ m) (ap (λ k. 16 ^ k) (add-one i) ∙ pow-suc 16 i) (mul-le-mul l (read.small i h))

  pub more_fits : n ≤ 16 ^ i → n * beds < 2 ^ 64
  more_fits l =
      let few : i + 1 ≤ 4 = omega (arith, read.few) in
      let room : 16 ^ (i + 1) ≤ 16 ^ 4 = pow-le-pow_right (zero-lt-suc 15) few in
      omega (arith, more_most l)

  pub more_product : n * product (map (bed_count_in patients) (members_from t i)) ≡ n * beds * product (map (bed_count_in patients) (members_from t (i + 1)))
  more_product = ap (λ l. n * product (map (bed_count_in patients) l)) (members_next t i h) ∙ sym (mul_assoc n beds _)
