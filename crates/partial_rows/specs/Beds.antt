-- Beds for a set of patients: of none, of two parts, and the beds that a plan has in a set.
-- (Theorems that rest on these stand in `proofs/Beds.antt`.)
use Rattle.std.proofs.Common.{sym, ◌∙◌, true≢false, arith, ext_get_or, ◌+◌, ◌<◌, ◌≡◌}
use Rattle.std.proofs.Math.Decide.{dec_lt}
use Rattle.std.proofs.lemmas.List.{length-replicate, get_or-replicate}
use Rattle.std.proofs.Math.ListN.{get_or-eq_default}
use Rattle.definitions.specs.Basics.{ℕ, refl, Bool, true, false, cond, List, length}
use Rattle.definitions.specs.Syntax.{Region, patient_at}
use Rattle.definitions.specs.Plans.{Plan, bed_of}
use Rattle.lists.specs.Below.{length_by_places, at_place}
use Rattle.partial_rows.specs.Adding.{add_beds, add_at, add_length}
use Rattle.partial_rows.specs.Sets.{Patients, Part, first, second, neither, Splits, swap_parts}
use Rattle.partial_rows.specs.Rows.{no_beds, beds_in, BedIn, BedsOf}

-- Past its end a list of beds has only 0.
bed_or_zero : (beds : List ℕ) (s : ℕ) → (s < length beds → bed_of beds s ≡ 0) → bed_of beds s ≡ 0
bed_or_zero beds s h = elim (dec_lt s (length beds)) [ yes k ↦ h k | no k ↦ get_or-eq_default beds 0 (omega arith) ]

pub no_bed : (region : Region) (s : ℕ) → bed_of (no_beds region) s ≡ 0
no_bed region s =
    bed_or_zero (no_beds region) s (λ h. get_or-replicate (length region.patients) s 0 0 (omega (arith, length-replicate {A = ℕ} (length region.patients) 0)))

module _ {region : Region} where
  -- Inside its set a list of beds has beds below the counts, outside it only 0.
  pub inside : {D : Patients} {beds : List ℕ} → BedsOf region D beds → (s : ℕ) → s < length region.patients → D s ≡ true
      → bed_of beds s < (patient_at region s).bed_count
  inside b s h e = rw e at (b.each s h)

  pub outside : {D : Patients} {beds : List ℕ} → BedsOf region D beds → (s : ℕ) → D s ≡ false → bed_of beds s ≡ 0
  outside {beds} b s e = bed_or_zero beds s (λ h. rw e at (b.each s (omega (arith, b.long))))

  -- Beds for one set are equal where they agree in it.
  pub beds_same : {D : Patients} {xs ys : List ℕ} → BedsOf region D xs → BedsOf region D ys
      → ((s : ℕ) → s < length region.patients → D s ≡ true → bed_of xs s ≡ bed_of ys s) → xs ≡ ys
  beds_same {D} {xs} {ys} b c agree = ext_get_or 0 xs ys (b.long ∙ sym c.long) (λ s h. go s h (D s) refl)
    where
      go : (s : ℕ) → s < length xs → (a : Bool) → D s ≡ a → bed_of xs s ≡ bed_of ys s
      go s h true e = agree s (omega (arith, b.long)) e
      go s h false e = outside b s e ∙ sym (outside c s e)

  -- Where nobody is in the set, every bed is 0.
  pub empty_beds : {D : Patients} → ((s : ℕ) → D s ≡ false) → BedsOf region D (no_beds region)
  empty_beds gone = record { long = length-replicate _ 0; each = λ s h. rw (gone s) (no_bed region s) }

  -- Beds for two parts, added.
  pub add_beds_lem : {D E F : Patients} {xs ys : List ℕ} → Splits D E F → BedsOf region E xs → BedsOf region F ys → BedsOf region D (add_beds xs ys)
  add_beds_lem {xs} {ys} split b c = record {
    long = add_length xs ys (b.long ∙ sym c.long) ∙ c.long;
    each = λ s h. rw (add_at xs ys s) (go _ _ _ (split s) (b.each s h) (c.each s h));
  }
    where
      go : (n x y : ℕ) {d e f : Bool} → Part d e f → BedIn e n x → BedIn f n y → BedIn d n (x + y)
      go n x y first h k = omega arith
      go n x y second h k = omega arith
      go n x y neither h k = omega arith

module _ (region : Region) where
  beds_in_at : (D : Patients) (plan : Plan) (s : ℕ) → s < length region.patients → bed_of (beds_in region D plan) s ≡ cond (D s) (bed_of plan s) 0
  unfolding beds_in
  beds_in_at D plan s h = at_place (λ r. cond (D r) (bed_of plan r) 0) 0 (length region.patients) s h

  beds_in_length : (D : Patients) (plan : Plan) → length (beds_in region D plan) ≡ length region.patients
  unfolding beds_in
  beds_in_length D plan = length_by_places _ 0 (length region.patients)

  -- Beds for a set fall into those in either part.
  beds_in_part : {D E F : Patients} {beds : List ℕ} → Splits D E F → BedsOf region D beds → BedsOf region E (beds_in region E beds)
  beds_in_part {E} {beds} split b = record { long = beds_in_length E beds; each = λ s h. rw (beds_in_at E beds s h) (go _ _ (split s) (b.each s h)) }
    where
      go : (n x : ℕ) {d e f : Bool} → Part d e f → BedIn d n x → BedIn e n (cond e x 0)
      go n x first h = h
      go n x second h = refl
      go n x neither h = refl

  module _ {D E F : Patients} (split : Splits D E F) {beds : List ℕ} (b : BedsOf region D beds) where
    pub beds_in_first : BedsOf region E (beds_in region E beds)
    beds_in_first = beds_in_part split b

    pub beds_in_second : BedsOf region F (beds_in region F beds)
    beds_in_second = beds_in_part (swap_parts split) b

    pub beds_split : beds ≡ add_beds (beds_in region E beds) (beds_in region F beds)
    beds_split = beds_same b (add_beds_lem split beds_in_first beds_in_second) (λ s h e.
        rw (add_at (beds_in region E beds) (beds_in region F beds) s, beds_in_at E beds s h, beds_in_at F beds s h) (go (bed_of beds s) e (split s)))
      where
        go : (x : ℕ) {d e f : Bool} → d ≡ true → Part d e f → x ≡ cond e x 0 + cond f x 0
        go x h first = omega arith
        go x h second = omega arith
        go x h neither = absurd (true≢false (sym h))
