-- What the code writes.
use Rattle.std.specs.Prelude.{◌≤◌, ◌+◌, ◌-◌, ◌^◌, ◌<◌, ◌≡◌}
use Rattle.definitions.specs.Basics.{ℕ, true, List, map, get_or, length, product}
use Rattle.held_region.specs.declared.Patient.{Patient}
use Rattle.held_region.specs.declared.Table.{Table}
use Rattle.held_region.specs.Meaning.{optional, patient_of, no_patient, members_of}
use Rattle.held_region.specs.Asked.{none_or_below}
use Rattle.held_region.specs.Members.{members_from}
use Rattle.bucket_words.specs.declared.PatientBucket.{PatientBucket}
use Rattle.bucket_words.specs.declared.TermMember.{TermMember}
use Rattle.bucket_words.specs.declared.TableTerm.{TableTerm}
use Rattle.bucket_words.specs.Words.{no_member, no_term, start_at, next_at, beds_at, first_bed_at, bed_end_at, least_at, first_at}
use Rattle.buckets.specs.Permitted.{first_permitted, permitted_end}
use Rattle.buckets.specs.Places.{stride_of}
use Rattle.buckets.specs.Least.{least_number}

-- Each fixed bed is one of the patient's beds.
abbrev pub FixedFit : List Patient → ℕ → Type 0
FixedFit patients v = (s : ℕ) → s < v → none_or_below (optional (get_or patients s no_patient).fixed) (get_or patients s no_patient).beds ≡ true

-- The first patients: their beds, and no term yet.
pub record PatientsWritten (patients : List Patient) (v : ℕ) (written : List PatientBucket) : Type 0 where
  pub wide : length written ≡ 32
  pub beds : (s : ℕ) → s < v → beds_at written s ≡ (get_or patients s no_patient).beds
  pub first_bed : (s : ℕ) → s < v → first_bed_at written s ≡ first_permitted (patient_of (get_or patients s no_patient))
  pub bed_end : (s : ℕ) → s < v → bed_end_at written s ≡ permitted_end (patient_of (get_or patients s no_patient))
  pub least : (s : ℕ) → least_at written s ≡ 0
  pub first : (s : ℕ) → s < v → first_at written s ≡ 64

-- What the members of a term rely on: they are patients, with few beds each.
pub record MembersWritable (patients : List PatientBucket) (t : Table) : Type 0 where
  pub few : t.members ≤ 4
  pub known : (j : ℕ) → j < t.members → get_or t.first j 0 < 32
  pub small : (j : ℕ) → j < t.members → beds_at patients (get_or t.first j 0) ≤ 16

-- The members and strides of a term: nobody, and no stride, past the last.
pub record MembersWritten (patients : List PatientBucket) (t : Table) (written : List TermMember) : Type 0 where
  pub members : (j : ℕ) → j < 4 → (get_or written j no_member).patient ≡ get_or (members_of t) j 0
  pub strides : (j : ℕ) → j < 4 → (get_or written j no_member).stride ≡ stride_of (beds_at patients) (members_of t) j

-- On the way down to member j: the members from j on are written, and their bed counts multiplied.
pub record MembersSoFar (patients : List PatientBucket) (t : Table) (j stride : ℕ) (written : List TermMember) : Type 0 where
  pub left : j ≤ t.members
  pub wide : length written ≡ 4
  pub members : (i : ℕ) → j ≤ i → i < 4 → (get_or written i no_member).patient ≡ get_or (members_of t) i 0
  pub strides : (i : ℕ) → j ≤ i → i < 4 → (get_or written i no_member).stride ≡ stride_of (beds_at patients) (members_of t) i
  pub multiplied : stride ≡ product (map (beds_at patients) (members_from t j))
  pub small : stride ≤ 16 ^ (t.members - j)

-- The patient in whose bucket a table is put: its last member.
abbrev pub last_of : Table → ℕ
last_of t = get_or t.first (t.members - 1) 0

-- There is one, and it is a patient.
pub record LastKnown (t : Table) : Type 0 where
  pub some : 0 < t.members
  pub few : t.members ≤ 4
  pub patient : last_of t < 32

-- What adding a term relies on: its entries are in the store, and the sum of the least numbers fits.
pub record TermKnown (store : List ℕ) (t : Table) (k start : ℕ) (patients : List PatientBucket) (terms : List TableTerm) : Type 0 where
  pub members : MembersWritable patients t
  pub term : k < 64
  pub wide : length patients ≡ 32
  pub terms_wide : length terms ≡ 64
  pub last : LastKnown t
  pub inside : start + t.entries ≤ 4096
  pub fits : least_at patients (last_of t) + least_number store start (start + t.entries) < 2 ^ 32

-- A table put in front of a bucket; all other terms are as they were.
pub record TermAdded (store : List ℕ) (t : Table) (k start : ℕ) (patients after_patients : List PatientBucket) (before after : List TableTerm) : Type 0 where
  pub members : MembersWritten patients t (get_or after k no_term).members
  pub starts : start_at after k ≡ start
  pub next : next_at after k ≡ first_at patients (last_of t)
  pub wide : length after_patients ≡ 32
  pub terms_wide : length after ≡ 64
  pub others : (l : ℕ) → (l ≡ k → ⊥) → get_or after l no_term ≡ get_or before l no_term
  pub beds : (s : ℕ) → beds_at after_patients s ≡ beds_at patients s
  pub first_bed : (s : ℕ) → first_bed_at after_patients s ≡ first_bed_at patients s
  pub bed_end : (s : ℕ) → bed_end_at after_patients s ≡ bed_end_at patients s
  pub least : least_at after_patients (last_of t) ≡ least_at patients (last_of t) + least_number store start (start + t.entries)
  pub first : first_at after_patients (last_of t) ≡ k
  pub other_least : (s : ℕ) → (s ≡ last_of t → ⊥) → least_at after_patients s ≡ least_at patients s
  pub other_first : (s : ℕ) → (s ≡ last_of t → ⊥) → first_at after_patients s ≡ first_at patients s
