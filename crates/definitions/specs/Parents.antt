-- Request #107: parents made from the graph of shared tables.
use Rattle.std.specs.Prelude.{◌&&◌, ◌∷◌, ◌++◌}
use Rattle.definitions.specs.Basics.{ℕ, zero, suc, Option, none, some, List, [], map, length, get_or, below, any, keep, contains}
use Rattle.definitions.specs.Syntax.{Patient, Table, Region, patient_numbers, patient_at}
use Rattle.definitions.specs.Spelling.{spell}
use Rattle.definitions.specs.Questions.{patients_within, region_of, Asked, asked_of_file, asked_to_nine, Asks, entry_asks}
use Rattle.definitions.specs.Writer.{region_from, room_for_file, made_by, WriteOutcome, write_outcome_of}

-- A graph is given by groups of patients, all neighbours of each other. At first each table's members are a group.
abbrev pub shared_tables : Region → List (List ℕ)
shared_tables r = map (λ t. t.members) r.tables

-- A patient's earlier neighbours, rising; the last of a list, which is here the highest-numbered.
unfoldable pub earlier_neighbours : List (List ℕ) → ℕ → List ℕ
earlier_neighbours groups s = keep (λ q. any (λ group. contains group s && contains group q) groups) (below s)

abbrev pub last : List ℕ → Option ℕ
last [] = none
last (q ∷ []) = some q
last (q ∷ p ∷ ps) = last (p ∷ ps)

-- The parents of patients 0 to n - 1, from the last to the first: each time all earlier neighbours become neighbours of each other.
unfoldable pub parents_from : List (List ℕ) → ℕ → List (Option ℕ)
parents_from groups zero = []
parents_from groups (suc s) = let earlier = earlier_neighbours groups s in parents_from (earlier ∷ groups) s ++ last earlier ∷ []

abbrev pub parents_made : Region → List (Option ℕ)
parents_made r = parents_from (shared_tables r) (length r.patients)

-- A patient with another parent; a region with other parents, by patient number; the file that is written.
abbrev pub with_parent : Patient → Option ℕ → Patient
with_parent p parent = record { clinic = p.clinic; bed_count = p.bed_count; parent = parent; fixed_bed = p.fixed_bed }

unfoldable pub with_parents : Region → List (Option ℕ) → Region
with_parents r parents =
    region_from r.plans_wanted (map (λ s. with_parent (patient_at r s) (get_or parents s none)) (patient_numbers r)) r.tables

unfoldable pub parents_file : List ℕ → List ℕ
parents_file file = let r = region_of file in spell (with_parents r (parents_made r))

-- It asks 1 to 9, of 6 not the parents' half, since a parent out of order is no fault here; then 15.
abbrev pub asked_to_make : List ℕ → Asked
asked_to_make file = asked_of_file file ++ asked_to_nine (region_of file) (patients_within (region_of file))

unfoldable pub asked_by_parents : List ℕ → List ℕ → Asks
asked_by_parents file output = record { first = asked_to_make file; later = (15, room_for_file (parents_file file) output) ∷ [] }

unfoldable pub parents_outcome : List ℕ → List ℕ → WriteOutcome
parents_outcome file output = write_outcome_of (made_by (entry_asks (asked_by_parents file output)) (parents_file file)) output
