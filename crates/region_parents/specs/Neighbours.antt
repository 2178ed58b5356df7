-- Neighbours in a graph of groups, as sets of patients.
use Rattle.std.specs.Prelude.{◌≡◌, refl, ◌≤◌, set, replicate}
use Rattle.std.proofs.Common.{sym, ap, ap₂, subst, ◌∙◌, arith, get_or-set_same, get_or-set_other, le-ltb, lt-ltb, eq-eqb, ne_eqb, ◌+◌, ◌-◌, ◌<◌, ◌^◌, ◌&&◌, ◌||◌, ◌∷◌}
use Rattle.std.proofs.Math.Bool.{and-true, and-false, or_comm, or-false}
use Rattle.std.proofs.lemmas.Simd.{map-map}
use Rattle.std.proofs.Math.Decide.{ℕ_discrete}
use Rattle.std.proofs.lemmas.List.{get_or-replicate}
use Rattle.definitions.specs.Basics.{ℕ, Bool, true, false, List, [], map, length, get_or, ltb, below, any, contains}
use Rattle.definitions.specs.Parents.{shared_tables, earlier_neighbours}
use Rattle.lists.specs.Below.{same_keep}
use Rattle.lists.specs.Loops.{places_from, places_all, places_next, places_done}
use Rattle.patient_set.specs.declared.PatientSet.{PatientSet}
use Rattle.patient_set.specs.Sets.{in_set, members}
use Rattle.patient_set.specs.Laws.{member, members_below}
use Rattle.held_region.specs.declared.Region.{Region}
use Rattle.held_region.specs.Meaning.{table_in, members_of, table_said, said}
use Rattle.held_region.specs.Asked.{tables_by_places}
use Rattle.held_region.specs.Related.{set_in}
use Rattle.held_region.specs.Sets.{in_none}

-- Is there a group with both?
abbrev pub are_neighbours : List (List ℕ) → ℕ → ℕ → Bool
are_neighbours groups s q = any (λ group. contains group s && contains group q) groups

-- The sets of the 32 patients are their neighbours.
pub record Near (groups : List (List ℕ)) (near : List PatientSet) : Type 0 where
  pub wide : length near ≡ 32
  pub are : (s : ℕ) → s < 32 → (q : ℕ) → set_in near s q ≡ are_neighbours groups s q

-- All of a set w have become neighbours of each other.
pub record Gathered (before : List PatientSet) (w : ℕ) (near : List PatientSet) : Type 0 where
  pub wide : length near ≡ 32
  pub are : (s : ℕ) → s < 32 → (q : ℕ) → set_in near s q ≡ (set_in before s q || in_set w s && in_set w q)

-- The groups that the tables of a held region make, whatever the store says; those of the tables from i on.
abbrev pub tables_held : Region → List (List ℕ)
tables_held h = map (λ i. members_of (table_in h i)) (below h.t)

abbrev pub tables_from : Region → ℕ → List (List ℕ)
tables_from h i = map (λ j. members_of (table_in h j)) (places_from h.t i)

pub tables_held_lem : (h : Region) (store : List ℕ) → shared_tables (said h store) ≡ tables_held h
tables_held_lem h store = ap (map (λ t. t.members)) (tables_by_places h store) ∙ map-map (λ t. t.members) (table_said h store) (below h.t)

-- One group more.
pub near_more : {groups : List (List ℕ)} {before near : List PatientSet} (w : ℕ) (group : List ℕ) → Near groups before → Gathered before w near
    → ((q : ℕ) → in_set w q ≡ contains group q) → Near (group ∷ groups) near
near_more {groups} w group old new same = record {
  wide = new.wide;
  are = λ s l q. new.are s l q ∙ ap₂ ◌||◌ (old.are s l q) (ap₂ ◌&&◌ (same s) (same q)) ∙ or_comm (are_neighbours groups s q) (contains group s && contains group q);
}

-- Over the tables, from the last to the first: no table yet, one more, all.
pub near_none : (h : Region) → Near (tables_from h h.t) (replicate 32 (record { 0 = 0 }))
near_none h = record {
  wide = refl;
  are = λ s l q. ap (λ (x : PatientSet). in_set x.0 q) (get_or-replicate 32 s (record { 0 = 0 }) (record { 0 = 0 }) l) ∙ in_none q ∙ sym (ap (λ places. are_neighbours (map (λ j. members_of (table_in h j)) places) s q) (places_done h.t h.t (omega arith)));
}

pub near_table : (h : Region) (i : ℕ) {before near : List PatientSet} (w : ℕ) → Near (tables_from h i) before → 0 < i → i ≤ h.t → Gathered before w near
    → w < 2 ^ 32 → members w ≡ members_of (table_in h (i - 1)) → Near (tables_from h (i - 1)) near
near_table h i {before} {near} w old left known new small is =
    let back : i - 1 + 1 ≡ i = omega arith in
    rw (places_next h.t (i - 1) (omega arith), back) (near_more w (members_of (table_in h (i - 1))) old new (λ q. sym (member w q small) ∙ ap (λ l. contains l q) is))

pub near_all : (h : Region) (i : ℕ) {near : List PatientSet} → Near (tables_from h i) near → i ≤ 0 → Near (tables_held h) near
near_all h i {near} all done =
    let zero_left : i ≡ 0 = omega arith in
    subst (λ places. Near (map (λ j. members_of (table_in h j)) places) near) (ap (places_from h.t) zero_left ∙ places_all h.t) all

-- A patient's neighbours, met with those below it, are its earlier neighbours.
pub earlier_members : {groups : List (List ℕ)} {near : List PatientSet} (w s : ℕ) → Near groups near → s < 32
    → ((q : ℕ) → in_set w q ≡ (set_in near s q && ltb q s)) → members w ≡ earlier_neighbours groups s
unfolding earlier_neighbours
earlier_members {groups} {near} w s old l is =
    members_below w s (omega arith) (λ q m. is q ∙ ap (λ b. set_in near s q && b) (le-ltb q s m) ∙ and-false (set_in near s q))
    ∙ same_keep (in_set w) (are_neighbours groups s) 0 s (λ q m n. is q ∙ ap₂ ◌&&◌ (old.are s l q) (lt-ltb q s (omega arith)) ∙ and-true (are_neighbours groups s q))

-- ---- the walk over the set, the lowest first: what the sets say, and what they still will

abbrev pub Walked : List PatientSet → ℕ → List ℕ → List PatientSet → Type 0
Walked before w rest near = (s : ℕ) → s < 32 → (q : ℕ) → (set_in near s q || contains rest s && in_set w q) ≡ (set_in before s q || in_set w s && in_set w q)

pub walked_none : (near : List PatientSet) (w : ℕ) (rest : List ℕ) → w < 2 ^ 32 → rest ≡ members w → Walked near w rest near
walked_none near w rest h all s l q = ap (λ b. set_in near s q || b && in_set w q) (ap (λ m. contains m s) all ∙ member w s h)

pub walked_more : (before near : List PatientSet) (w low : ℕ) (rest more : List ℕ) (new : PatientSet) → Walked before w rest near → rest ≡ low ∷ more → low < length near
    → ((q : ℕ) → in_set new.0 q ≡ (set_in near low q || in_set w q)) → Walked before w more (set near low new)
walked_more before near w low rest more new so_far split room is s l q = go (ℕ_discrete s low)
  where
    both_in : (a b c : Bool) → ((a || b) || c && b) ≡ (a || b)
    both_in true b c = refl
    both_in false true c = refl
    both_in false false true = refl
    both_in false false false = refl

    go : Dec (s ≡ low) → (set_in (set near low new) s q || contains more s && in_set w q) ≡ (set_in before s q || in_set w s && in_set w q)
    go (yes e) =
        ap (λ x. in_set x.0 q || contains more s && in_set w q) (ap (λ k. get_or (set near low new) k (record { 0 = 0 })) e ∙ get_or-set_same near low new (record { 0 = 0 }) room)
        ∙ ap (λ b. b || contains more s && in_set w q) (is q) ∙ both_in (set_in near low q) (in_set w q) (contains more s)
        ∙ sym (ap (λ k. set_in near k q || in_set w q) e)
        ∙ sym (ap (λ b. set_in near s q || (b || contains more s) && in_set w q) (eq-eqb s low e))
        ∙ sym (ap (λ m. set_in near s q || contains m s && in_set w q) split) ∙ so_far s l q
    go (no e) =
        ap (λ x. in_set x.0 q || contains more s && in_set w q) (get_or-set_other near low s new (record { 0 = 0 }) e)
        ∙ sym (ap (λ b. set_in near s q || (b || contains more s) && in_set w q) (ne_eqb s low e))
        ∙ sym (ap (λ m. set_in near s q || contains m s && in_set w q) split) ∙ so_far s l q

pub walked_all : (before near : List PatientSet) (w : ℕ) (rest : List ℕ) → Walked before w rest near → rest ≡ [] → length near ≡ 32 → Gathered before w near
walked_all before near w rest so_far done wide = record { wide = wide; are = λ s l q. sym (or-false (set_in near s q)) ∙ sym (ap (λ l. set_in near s q || contains l s && in_set w q) done) ∙ so_far s l q }
