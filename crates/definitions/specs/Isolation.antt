-- The words of demand 3: which files are compared, when a clinic is the same in both, and how the two sheets then agree.
use Rattle.std.specs.Prelude.{◌<◌, ◌≡◌, ◌&&◌, ◌∷◌}
use Rattle.definitions.specs.Basics.{ℕ, suc, min, Bool, true, false, not, cond, Option, none, some, List, []}
use Rattle.definitions.specs.Basics.{map, length, take, eqb, every, any, keep, same, contains}
use Rattle.definitions.specs.Syntax.{Table, Region, bed_counts, fixed_beds, patients_of}
use Rattle.definitions.specs.Plans.{Row}
use Rattle.definitions.specs.Questions.{first_no, entry_asks, asked_by_list}

-- A file yields a list when questions 1 to 10 and 13 are answered yes: list gives 0 where the areas are long enough.
abbrev pub yield_number : List ℕ → ℕ
yield_number file = first_no (entry_asks (asked_by_list file true))

abbrev pub YieldsList : List ℕ → Type 0
YieldsList file = yield_number file ≡ 0

-- The place of a patient among those of its clinic: 0 to k - 1, by rising number.
abbrev pub place_among : List ℕ → ℕ → ℕ
place_among [] s = 0
place_among (p ∷ ps) s = cond (eqb p s) 0 (suc (place_among ps s))

-- A table among the clinic's patients has only these as members.
unfoldable pub is_among : Region → ℕ → Table → Bool
is_among region clinic t = every (contains (patients_of region clinic)) t.members

-- The tables among them, with the places of their members.
unfoldable pub tables_among : Region → ℕ → List Table
tables_among region clinic =
    map (λ t. record { members = map (place_among (patients_of region clinic)) t.members; entries = t.entries })
    (keep (is_among region clinic) region.tables)

abbrev pub same_entry : Option ℕ → Option ℕ → Bool
same_entry none none = true
same_entry none (some f) = false
same_entry (some e) none = false
same_entry (some e) (some f) = eqb e f

-- How often a table stands among some: the places of the members and the entries, `-` included, agree one by one.
unfoldable pub times_in : List Table → Table → ℕ
times_in tables t = length (keep (λ u. same eqb t.members u.members && same same_entry t.entries u.entries) tables)

-- A table joins when it has a member in the clinic and a member outside.
unfoldable pub joins : Region → ℕ → Table → Bool
joins region clinic t =
    any (contains (patients_of region clinic)) t.members && any (λ s. not (contains (patients_of region clinic) s)) t.members

-- The same count of beds and the same fixed bed at each place, the same tables each as often, and in neither file a table that joins.
pub record SameClinic (clinic : ℕ) (first second : Region) : Type 0 where
  pub beds : bed_counts first (patients_of first clinic) ≡ bed_counts second (patients_of second clinic)
  pub fixed : fixed_beds first (patients_of first clinic) ≡ fixed_beds second (patients_of second clinic)
  pub tables : (t : Table) → times_in (tables_among first clinic) t ≡ times_in (tables_among second clinic) t
  pub apart_in_first : any (joins first clinic) first.tables ≡ false
  pub apart_in_second : any (joins second clinic) second.tables ≡ false

-- Each sheet has a first row, and as far as both go their rows are the same.
pub record SameBeginning (first second : List Row) : Type 0 where
  pub first_row : 0 < length first
  pub second_row : 0 < length second
  pub same_rows : take (min (length first) (length second)) first ≡ take (min (length first) (length second)) second
