-- A held table of an accepted region: its members, and the least of its numbers.
use mathlib.Core.Path.{◌≡◌, sym, ap, ◌∙◌}
use Prim.Native.Nat.{◌≤◌}
use native.Mathlib.Omega.{arith}
use borrow.Author.Tests.{lt-ltb}
use lib.ListN.{drop, length-drop}
use Rattle.std.specs.Prelude.{◌+◌, ◌-◌, ◌*◌, ◌<◌, ◌&&◌, ◌∷◌}
use Rattle.definitions.specs.Basics.{ℕ, zero, suc, refl, Bool, true, false, cond, Option, none, some, option_get_or, none_or, List, [], map, length, get_or, ltb, sum, every, keep}
use Rattle.definitions.specs.Limits.{limits, within, clinic, bed_count, entry}
use Rattle.definitions.specs.Questions.{entries_within}
use Rattle.definitions.specs.Syntax as Said
use Rattle.definitions.specs.Sheets.{lowest}
use Rattle.lists.specs.Tests.{both}
use Rattle.lists.specs.Members.{get_d_in}
use Rattle.lists.specs.Every.{every_weaken}
use Rattle.lists.specs.Keep.{keep_short, every_keep}
use Rattle.lists.specs.Below.{length_by_places, at_place, every_place}
use Rattle.theorems.specs.Accepted.{Accepted, at_most, TableRight, member_at_lem, table_right, tables_few, most_total}
use Rattle.theorems.specs.Lowest.{lowest_first}
use Rattle.partial_rows.specs.Bounds.{smaller, least_of, least_entry}
use Rattle.held_region.specs.declared.Table.{Table}
use Rattle.held_region.specs.declared.Region.{Region}
use Rattle.held_region.specs.Meaning.{mark, said, patient_in, table_in, members_of}
use Rattle.held_region.specs.Stores.{table_at, start_of}
use Rattle.held_region.specs.Asked.{patients_asked, tables_said, members_said, entries_said, stands}
use Rattle.held_region.specs.Related.{MembersKnown}
use Rattle.buckets.specs.Least.{least_number, least_of_entries}
use Rattle.buckets.specs.Written.{FixedFit, last_of}

-- ---- least numbers

below_mark : (o : Option ℕ) → none_or (within entry) o ≡ true → none_or (λ n. ltb n mark) o ≡ true
unfolding limits
below_mark none h = refl
below_mark (some e) h = lt-ltb e mark (omega (arith, at_most entry e h))

least_small : (es : List (Option ℕ)) → every (none_or (within entry)) es ≡ true → option_get_or (least_of es) 0 ≤ 1_000_000
unfolding limits
least_small [] all = omega arith
least_small (none ∷ es) all = least_small es all
least_small (some x ∷ es) all = go (least_of es) (at_most entry x (both (within entry x) all).0)
  where
    go : (o : Option ℕ) → x ≤ 1_000_000 → option_get_or (smaller (some x) o) 0 ≤ 1_000_000
    go none h = h
    go (some y) h = omega arith

abbrev fitting : Said.Table → Bool
fitting t = every (none_or (within entry)) t.entries

sum_small : (f : Said.Table → Bool) (tables : List Said.Table) → every fitting tables ≡ true → sum (map least_entry (keep f tables)) ≤ length tables * 1_000_000
unfolding least_entry
sum_small f [] all = omega arith
sum_small f (t ∷ tables) all =
    let parts = both (fitting t) all in
    go (f t) (least_small t.entries parts.0) (sum_small f tables parts.1)
  where
    go : (b : Bool) → least_entry t ≤ 1_000_000 → sum (map least_entry (keep f tables)) ≤ length tables * 1_000_000
        → sum (map least_entry (cond b (t ∷ keep f tables) (keep f tables))) ≤ suc (length tables) * 1_000_000
    go true h k = omega arith
    go false h k = omega arith

every_drop : {A : Type 0} (p : A → Bool) (i : ℕ) (l : List A) → every p l ≡ true → every p (drop i l) ≡ true
every_drop p zero l all = all
every_drop p (suc i) [] all = all
every_drop p (suc i) (x ∷ l) all = every_drop p i l (both (p x) all).1

-- ---- a held table

-- Members rise, so the lowest is the first.
pub first_lowest : (t : Table) → MembersKnown t → 0 < t.members → lowest (members_of t) ≡ get_or t.first 0 0
first_lowest t known held = lowest_first (members_of t) known.rising ∙ at_place (λ j. get_or t.first j 0) 0 t.members 0 held

module _ (h : Region) (store : List ℕ) (a : Accepted (said h store)) where
  abbrev r : Said.Region
  r = said h store

  -- Each fixed bed is one of the patient's beds.
  pub fixed_fit : FixedFit h.patients h.v
  fixed_fit s l =
      let fits = every_place _ h.v s (sym (patients_asked h store) ∙ a.patients_fit) l in
      (both (within clinic (patient_in h s).clinic && within bed_count (patient_in h s).beds) fits).1

  pub held_lines : length r.tables ≡ h.t
  held_lines = tables_said h store

  -- The sum of some tables' least numbers, and one more, fits.
  pub least_fits : (f g : Said.Table → Bool) (i n : ℕ) → n ≡ sum (map least_entry (keep f (keep g (drop i r.tables)))) → n ≤ most_total
  unfolding entries_within
  least_fits f g i n is =
      let tables = drop i r.tables in
      omega (
        arith,
        sum_small f (keep g tables) (every_keep fitting g tables (every_drop fitting i r.tables a.entries_fit)),
        keep_short g tables,
        length-drop i r.tables,
        tables_few r a,
      )

  module _ (i : ℕ) (l : i < h.t) where
    abbrev table : Table
    table = table_in h i

    abbrev t : Said.Table
    t = table_at r i

    pub held_place : i < length r.tables
    held_place = omega (arith, held_lines)

    pub held_right : TableRight r t
    held_right = table_right r a (get_d_in r.tables i _ held_place)

    pub members_same : members_of table ≡ t.members
    members_same = members_said h store i l

    -- A test of the held members is one of those said.
    pub members_asked : (test : List ℕ → Bool) {b : Bool} → b ≡ test (members_of table) → b ≡ test t.members
    members_asked test e = e ∙ ap test members_same

    pub entries_same : table.entries ≡ length t.entries
    entries_same = entries_said h store i l

    pub count_same : table.members ≡ length t.members
    count_same = sym (length_by_places (λ j. get_or table.first j 0) 0 table.members) ∙ ap length members_same

    pub some_members : 0 < table.members
    some_members = omega (arith, count_same, held_right.some)

    pub first_same : (j : ℕ) → j < table.members → get_or table.first j 0 ≡ get_or t.members j 0
    first_same j m = sym (at_place (λ n. get_or table.first n 0) 0 table.members j m) ∙ ap (λ ms. get_or ms j 0) members_same

    pub last_same : last_of table ≡ get_or t.members (length t.members - 1) 0
    last_same = first_same (table.members - 1) (omega (arith, count_same, held_right.some)) ∙ ap (λ n. get_or t.members (n - 1) 0) count_same

    pub last_known : last_of table < length r.patients
    last_known = omega (arith, last_same, member_at_lem held_right (length t.members - 1) (omega (arith, held_right.some)))

    pub least_in_store : least_number store (start_of r.tables i) (start_of r.tables i + table.entries) ≡ least_entry t
    unfolding least_entry
    least_in_store =
        ap (λ n. least_number store (start_of r.tables i) (start_of r.tables i + n)) entries_same
        ∙ least_of_entries store (start_of r.tables i) t.entries (λ q m. stands h store i q held_place m)
        (every_weaken (none_or (within entry)) (none_or (λ n. ltb n mark)) below_mark t.entries held_right.within)

    pub least_one : least_entry t ≤ 1_000_000
    unfolding least_entry
    least_one = least_small t.entries held_right.within
