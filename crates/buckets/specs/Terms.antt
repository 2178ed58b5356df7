-- Buckets of tables, and when they are held for a region.
use Rattle.std.specs.Prelude.{◌≤◌, set}
use Rattle.std.proofs.Common.{arith, ◌+◌, ◌*◌, ◌<◌, ◌≡◌, ◌&&◌, ◌∷◌}
use Rattle.definitions.specs.Basics.{ℕ, suc, Bool, true, not, some, List, [], map, length, get_or, ltb, sum, keep, below}
use Rattle.definitions.specs.Syntax.{Table, Region, patient_at}
use Rattle.definitions.specs.Plans.{Plan, bed_of, place_in, entry_for}
use Rattle.theorems.specs.Accepted.{Accepted, beds_few}
use Rattle.partial_rows.specs.Sets.{only}
use Rattle.partial_rows.specs.Rows.{holds}
use Rattle.partial_rows.specs.Bounds.{least_entry}
use Rattle.held_region.specs.Meaning.{code_of}
use Rattle.held_region.specs.Stores.{table_at}
use Rattle.buckets.specs.Permitted.{first_permitted, permitted_end}
use Rattle.bucket_words.specs.Words.{beds_at, first_bed_at, bed_end_at, least_at, first_at, start_at, next_at, member_at, stride_at}
use Rattle.bucket_words.specs.Kept.{kept_at, Bounded}
use Rattle.bucket_words.specs.declared.PatientBucket.{PatientBucket}
use Rattle.bucket_words.specs.declared.TableTerm.{TableTerm}

-- A plan with each bed below its patient's count.
abbrev pub Fitting : Region → Plan → Type 0
Fitting r plan = (s : ℕ) → s < length r.patients → bed_of plan s < (patient_at r s).bed_count

-- Four bits hold each of its beds.
pub fitting_low : (r : Region) → Accepted r → (plan : Plan) → Fitting r plan → (s : ℕ) → s < length r.patients → bed_of plan s < 16
fitting_low r a plan fits s h = omega (arith, fits s h, beds_few r a s h)

-- Is this patient the highest member of the table?
abbrev pub highest : ℕ → Table → Bool
highest s t = holds (only s) t && not (holds (ltb s) t)

-- The bucket of a patient: the tables whose highest member it is. The sum of their least numbers.
unfoldable pub bucket_of : Region → ℕ → List Table
bucket_of r s = keep (highest s) r.tables

unfoldable pub least_in : Region → ℕ → ℕ
least_in r s = sum (map least_entry (bucket_of r s))

-- The place in the store of a term's entry for a plan: from the start on, a stride for each bed of each member.
unfoldable pub place_at : List TableTerm → ℕ → Plan → ℕ
place_at terms k plan = start_at terms k + sum (map (λ j. bed_of plan (member_at terms k j) * stride_at terms k j) (below 4))

-- A term finds a table's entries: for every plan, what the store has at its place is the table's entry for the plan.
-- The entries for the beds of the highest member lie side by side, from the kept place on.
pub record Term (r : Region) (store : List ℕ) (terms : List TableTerm) (k : ℕ) (t : Table) : Type 0 where
  pub known : (j : ℕ) → j < 4 → member_at terms k j < 32
  pub near : (j : ℕ) → j < 4 → stride_at terms k j ≤ 4096
  pub starts : start_at terms k ≤ 4096
  pub inside : (plan : Plan) → Fitting r plan → place_at terms k plan < 4096
  pub finds : (plan : Plan) → Fitting r plan → get_or store (place_at terms k plan) 0 ≡ code_of (entry_for r plan t)
  pub small : (plan : Plan) (e : ℕ) → entry_for r plan t ≡ some e → e ≤ 1_000_000
  pub place : (plan : Plan) → place_at terms k plan ≡ start_at terms k + place_in r plan t
  pub beside : (s bed : ℕ) (plan : Plan) → highest s t ≡ true → s < length plan → place_at terms k (set plan s bed) ≡ start_at terms k + kept_at terms k plan + bed

-- The terms of some tables in their order: a chain that begins at p, each further on than the one before, with 64 at its end.
unfoldable pub Chain : Region → List ℕ → List TableTerm → ℕ → ℕ → List Table → Type 0
Chain r store terms low p [] = p ≡ 64
Chain r store terms low p (t ∷ ts) = (low ≤ p) × (p < 64) × Term r store terms p t × Chain r store terms (suc p) (next_at terms p) ts

-- Held are each patient's count of beds, its permitted beds, the sum of its bucket's least numbers, and its bucket.
pub record Prepared (r : Region) (store : List ℕ) (patients : List PatientBucket) (terms : List TableTerm) : Type 0 where
  pub accepted : Accepted r
  pub beds : (s : ℕ) → s < length r.patients → beds_at patients s ≡ (patient_at r s).bed_count
  pub first_bed : (s : ℕ) → s < length r.patients → first_bed_at patients s ≡ first_permitted (patient_at r s)
  pub bed_end : (s : ℕ) → s < length r.patients → bed_end_at patients s ≡ permitted_end (patient_at r s)
  pub least : (s : ℕ) → s < length r.patients → least_at patients s ≡ least_in r s
  pub bucket : (s : ℕ) → s < length r.patients → Chain r store terms 0 (first_at patients s) (bucket_of r s)

-- The tables that count have the terms of their numbers, and behind the last table's no term says anything.
pub record Numbered (r : Region) (counts : Table → Bool) (store : List ℕ) (terms : List TableTerm) : Type 0 where
  pub bounded : Bounded terms (length r.tables)
  pub term : (k : ℕ) → k < length r.tables → counts (table_at r k) ≡ true → Term r store terms k (table_at r k)
