-- What a sum over tables depends on, and how the tables of a set fall into those of two parts.
use Rattle.std.proofs.Common.{ap, ap₂, ◌∙◌, ◌≡◌, ◌&&◌, ◌||◌, ◌∷◌}
use Rattle.definitions.specs.Basics.{ℕ, refl, Bool, true, false, not, none, option_map, List, [], get_or, sum, keep, any}
use Rattle.definitions.specs.Syntax.{Table, Region, patient_at}
use Rattle.definitions.specs.Plans.{Plan, bed_of, place, entry_for, cost_over, constraints}
use Rattle.lists.specs.Members.{◌∈◌}
use Rattle.lists.specs.Keep.{keep_keep, keep_same}
use Rattle.lists.specs.Maps.{map_same, on_all_same}
use Rattle.theorems.specs.Sums.{plus, sum_cons, sum_split}
use Rattle.partial_rows.specs.Sets.{Patients, Part, first, second, neither, Splits}
use Rattle.partial_rows.specs.Rows.{holds, tables_of, decided_tables}

-- A sum over tables depends only on the beds of their members.
pub cost_same : (region : Region) (plan other : Plan) (tables : List Table)
    → ((t : Table) → t ∈ tables → (s : ℕ) → s ∈ t.members → bed_of plan s ≡ bed_of other s) → cost_over tables region plan ≡ cost_over tables region other
unfolding cost_over entry_for
cost_same region plan other tables h = ap (option_map sum) (on_all_same (entry_for region plan) (entry_for region other) tables (λ t k.
    ap (λ pairs. get_or t.entries (place pairs) none) (map_same _ _ t.members (λ s i j. ((patient_at region s).bed_count, h t k s i j)))))

-- The first table's entry and the sum over the others.
pub cost_cons : (region : Region) (plan : Plan) (t : Table) (tables : List Table)
    → cost_over (t ∷ tables) region plan ≡ plus (entry_for region plan t) (cost_over tables region plan)
unfolding cost_over
cost_cons region plan t tables = sum_cons (entry_for region plan) t tables

-- A set that is split: a table has a member in it where it has one in either part.
pub holds_split : {D E F : Patients} → Splits D E F → (t : Table) → holds D t ≡ (holds E t || holds F t)
holds_split {D} {E} {F} split t = go t.members
  where
    one : {a b c : Bool} (d e : Bool) → Part a b c → (a || (d || e)) ≡ ((b || d) || (c || e))
    one d e first = refl
    one true e second = refl
    one false e second = refl
    one d e neither = refl

    go : (members : List ℕ) → any D members ≡ (any E members || any F members)
    go [] = refl
    go (s ∷ members) = ap (λ b. D s || b) (go members) ∙ one (any E members) (any F members) (split s)

-- So the sum over its tables is that over the tables of the second part and that over the tables that are decided without it: of some tables,
pub tables_split : (region : Region) {D E F : Patients} → Splits D E F → (plan : Plan) (l : List Table)
    → cost_over (keep (holds D) l) region plan ≡ plus (cost_over (keep (holds F) l) region plan) (cost_over (keep (λ t. holds E t && not (holds F t)) l) region plan)
unfolding cost_over
tables_split region {D} {E} {F} split plan l =
    sum_split (entry_for region plan) (holds F) (keep (holds D) l)
    ∙ ap₂ (λ l k. plus (cost_over l region plan) (cost_over k region plan))
    (keep_keep (holds F) (holds D) l ∙ keep_same _ _ l (λ t k. rw (holds_split split t) (in_second_lem (holds E t) (holds F t))))
    (keep_keep (λ t. not (holds F t)) (holds D) l ∙ keep_same _ _ l (λ t k. rw (holds_split split t) (not_in_second (holds E t) (holds F t))))
  where
    in_second_lem : (a b : Bool) → ((a || b) && b) ≡ b
    in_second_lem true b = refl
    in_second_lem false true = refl
    in_second_lem false false = refl

    not_in_second : (a b : Bool) → ((a || b) && not b) ≡ (a && not b)
    not_in_second true b = refl
    not_in_second false true = refl
    not_in_second false false = refl

-- and of all constraints.
pub cost_split : (region : Region) {D E F : Patients} → Splits D E F → (plan : Plan)
    → cost_over (tables_of region D) region plan ≡ plus (cost_over (tables_of region F) region plan) (cost_over (decided_tables region E F) region plan)
unfolding tables_of decided_tables
cost_split region split plan = tables_split region split plan (constraints region)
