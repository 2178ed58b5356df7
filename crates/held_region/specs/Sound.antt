-- A held region whose counts, patients and members are right: what that gives for each patient and each table.
use Rattle.std.specs.Prelude.{◌≡◌, ◌≤◌}
use Rattle.std.proofs.Common.{sym, ◌∙◌, arith, ltb-true, ◌<◌, ◌&&◌}
use Rattle.std.proofs.Math.Bool.{and-eq-true_iff}
use Rattle.definitions.specs.Basics.{ℕ, true, List, length, get_or, ltb, every, every_two}
use Rattle.definitions.specs.Limits.{limits, within, patient_count, table_count, clinic, bed_count, member_count}
use Rattle.definitions.specs.Questions.{counts_within, patients_within, parents_smaller, members_right}
use Rattle.theorems.specs.Accepted.{Accepted, at_most}
use Rattle.held_region.specs.declared.Patient.{Patient}
use Rattle.held_region.specs.declared.Region.{Region}
use Rattle.held_region.specs.Meaning.{no_patient, patient_of, patient_in, table_in, members_of, said}
use Rattle.lists.specs.Below.{length_by_places, every_place}
use Rattle.held_region.specs.Asked.{patient_fits, patients_asked, parents_asked}
use Rattle.held_region.specs.Members.{members_fit, members_asked, every_member}

-- The patients and the tables have their places. Where question 5 is answered yes, they do.
pub record HasPlaces (h : Region) : Type 0 where
  pub patients : h.v ≤ 32
  pub tables : h.t ≤ 64

pub has_places : (h : Region) (store : List ℕ) → counts_within (said h store) ≡ true → HasPlaces h
unfolding counts_within said limits
has_places h store yes_five =
    let two = (and-eq-true_iff (within patient_count h.v && within table_count h.t) _).0 yes_five in
    let counts = (and-eq-true_iff (within patient_count h.v) _).0 two.0 in
    record { patients = at_most patient_count h.v counts.0; tables = at_most table_count h.t counts.1 }

-- What functions that see no store ask for is said with some store: the answers to questions 5 to 8 and 10 do not depend on it.
-- Questions 5 to 7, but for parents, are answered yes.
pub record Sound (h : Region) : Type 0 where
  pub store : List ℕ
  pub places : HasPlaces h
  pub patients : patients_within (said h store) ≡ true
  pub members : members_right (said h store) ≡ true

-- Question 5, and question 6 of parents, are answered yes.
pub record ParentsFirst (h : Region) : Type 0 where
  pub store : List ℕ
  pub places : HasPlaces h
  pub smaller : parents_smaller (said h store) ≡ true

-- Both are so of an accepted region.
pub accepted_sound : (h : Region) (store : List ℕ) → Accepted (said h store) → Sound h
accepted_sound h store a = record { store = store; places = has_places h store a.counts_fit; patients = a.patients_fit; members = a.members_fit }

pub accepted_parents : (h : Region) (store : List ℕ) → Accepted (said h store) → ParentsFirst h
accepted_parents h store a = record { store = store; places = has_places h store a.counts_fit; smaller = a.parents_fit }

-- And with every store.
pub patients_sound : (h : Region) → Sound h → (store : List ℕ) → patients_within (said h store) ≡ true
patients_sound h sound store = patients_asked h store ∙ sym (patients_asked h sound.store) ∙ sound.patients

pub parents_first : (h : Region) → ParentsFirst h → (store : List ℕ) → parents_smaller (said h store) ≡ true
parents_first h first store = parents_asked h store ∙ sym (parents_asked h first.store) ∙ first.smaller

abbrev pub bed_count_in : List Patient → ℕ → ℕ
bed_count_in patients s = (get_or patients s no_patient).beds

module _ (h : Region) (sound : Sound h) where
  -- A patient has at most 16 beds.
  pub beds_most : (s : ℕ) → s < h.v → bed_count_in h.patients s ≤ 16
  unfolding limits
  beds_most s l =
      let fits : patient_fits (patient_of (patient_in h s)) ≡ true = every_place _ h.v s (sym (patients_asked h sound.store) ∙ sound.patients) l in
      let two = ((and-eq-true_iff (within clinic (patient_in h s).clinic && within bed_count (patient_in h s).beds) _).0 fits).0 in
      at_most bed_count _ ((and-eq-true_iff (within clinic (patient_in h s).clinic) _).0 two).1

  module _ (i : ℕ) (l : i < h.t) where
    abbrev members : List ℕ
    members = members_of (table_in h i)

    -- A table's members: their number is right, they are below V, and they rise.
    pub members_fit_lem : (within member_count (length members) ≡ true) × (every (λ s. ltb s h.v) members ≡ true) × (every_two ltb members ≡ true)
    members_fit_lem =
        let fits : members_fit h.v members ≡ true = every_place _ h.t i (sym (members_asked h sound.store) ∙ sound.members) l in
        let all = (and-eq-true_iff (within member_count (length members) && every (λ s. ltb s h.v) members) _).0 fits in
        let two = (and-eq-true_iff (within member_count (length members)) _).0 all.0 in
        (two.0, two.1, all.1)

    pub members_few : length members ≤ 4
    unfolding limits
    members_few = at_most member_count _ members_fit_lem.0

    pub members_held : (table_in h i).members ≤ 4
    members_held = omega (arith, members_few, length_by_places (λ k. get_or (table_in h i).first k 0) 0 (table_in h i).members)

    pub member_below : (j : ℕ) → j < (table_in h i).members → get_or (table_in h i).first j 0 < h.v
    member_below j m = ltb-true _ _ (every_member (table_in h i) (λ s. ltb s h.v) members_fit_lem.1 j m)
