-- The members of a table, as question 7 asks of them: walked once, each above the one before it.
use Rattle.std.specs.Prelude.{◌≡◌, refl, ◌≤◌}
use Rattle.std.proofs.Math.Path.{sym, ap}
use Rattle.std.proofs.Common.{◌∙◌, add-one, arith, ltb-true, lt-ltb, le-ltb, le-leb, leb-true, ◌+◌, ◌<◌, ◌&&◌, ◌∷◌}
use Rattle.std.proofs.Math.Bool.{and-false}
use Rattle.std.proofs.lemmas.Bool.{lt-leb}
use Rattle.lists.specs.Every.{every_weaken, every_map}
use Rattle.lists.specs.Below.{length_by_places, every_place}
use Rattle.lists.specs.Rising.{from_zero}
use Rattle.lists.specs.Loops.{places_from, places_all, places_next, places_done}
use Rattle.definitions.specs.Basics.{ℕ, suc, Bool, true, false, List, [], map, length, get_or, leb, ltb, below, every, every_two}
use Rattle.definitions.specs.Limits.{within, member_count}
use Rattle.definitions.specs.Questions.{members_right}
use Rattle.held_region.specs.declared.Table.{Table}
use Rattle.held_region.specs.declared.Region.{Region}
use Rattle.held_region.specs.Meaning.{table_in, members_of, table_said, said}

-- Question 7, of one table among v patients.
abbrev pub members_fit : ℕ → List ℕ → Bool
members_fit v members = within member_count (length members) && every (λ s. ltb s v) members && every_two ltb members

-- Are all below v, the first at least `least`, and each above the one before it?
unfoldable pub rises_from : ℕ → ℕ → List ℕ → Bool
rises_from v least [] = true
rises_from v least (s ∷ rest) = ltb s v && (leb least s && rises_from v (suc s) rest)

-- That each is above the one before says it of any two.
rises : (v least : ℕ) (l : List ℕ) → rises_from v least l ≡ (every (leb least) l && (every (λ s. ltb s v) l && every_two ltb l))
unfolding rises_from
rises v least [] = refl
rises v least (s ∷ l) =
    ap (λ b. ltb s v && (leb least s && b)) (rises v (suc s) l)
    ∙ sorted (ltb s v) (leb least s) refl (every (ltb s) l) refl
  where
    low : Bool
    low = every (leb least) l

    bound : Bool
    bound = every (λ q. ltb q v) l

    two : Bool
    two = every_two ltb l

    sorted : (a b : Bool) → leb least s ≡ b → (c : Bool) → every (ltb s) l ≡ c → (a && (b && (c && (bound && two)))) ≡ (b && low && (a && bound && (c && two)))
    sorted true true e true r =
        sym (ap (λ x. x && (bound && two)) (every_weaken (ltb s) (leb least) (λ q h. le-leb least q (omega (arith, ltb-true s q h, leb-true least s e))) l r))
    sorted true true e false r = sym (ap (λ x. low && x) (and-false bound) ∙ and-false low)
    sorted true false e c r = refl
    sorted false true e c r = sym (and-false low)
    sorted false false e c r = refl

pub rises_below : (v : ℕ) (l : List ℕ) → rises_from v 0 l ≡ (every (λ s. ltb s v) l && every_two ltb l)
rises_below v l = rises v 0 l ∙ ap (λ b. b && (every (λ s. ltb s v) l && every_two ltb l)) (from_zero l)

-- A table whose member count is right, and one whose count is not.
module _ (v : ℕ) (t : Table) where
  counted : length (members_of t) ≡ t.members
  counted = length_by_places (λ i. get_or t.first i 0) 0 t.members

  pub fit : {answer : Bool} → within member_count t.members ≡ true → answer ≡ rises_from v 0 (members_of t) → answer ≡ members_fit v (members_of t)
  fit count e =
      e ∙ rises_below v (members_of t)
      ∙ sym (ap (λ b. b && every (λ s. ltb s v) (members_of t) && every_two ltb (members_of t)) (ap (within member_count) counted ∙ count))

  pub unfit : within member_count t.members ≡ false → false ≡ members_fit v (members_of t)
  unfit count = sym (ap (λ b. b && every (λ s. ltb s v) (members_of t) && every_two ltb (members_of t)) (ap (within member_count) counted ∙ count))

pub members_asked : (h : Region) (store : List ℕ) → members_right (said h store) ≡ every (λ i. members_fit h.v (members_of (table_in h i))) (below h.t)
unfolding members_right said
members_asked h store = every_map (λ t. members_fit h.v t.members) (table_said h store) (below h.t)

-- What all members pass, each passes.
pub every_member : (t : Table) (p : ℕ → Bool) → every p (members_of t) ≡ true → (j : ℕ) → j < t.members → p (get_or t.first j 0) ≡ true
every_member t p all j m =
    every_place (λ k. p (get_or t.first k 0)) t.members j (sym (every_map p (λ k. get_or t.first k 0) (below t.members)) ∙ all) m

-- A loop over a table's members: those from place i on.
unfoldable pub members_from : Table → ℕ → List ℕ
members_from t i = map (λ j. get_or t.first j 0) (places_from t.members i)

module _ (t : Table) where
  pub members_all : members_from t 0 ≡ members_of t
  unfolding members_from
  members_all = ap (map (λ j. get_or t.first j 0)) (places_all t.members)

  pub members_next : (i : ℕ) → i < t.members → members_from t i ≡ get_or t.first i 0 ∷ members_from t (i + 1)
  unfolding members_from
  members_next i h = ap (map (λ j. get_or t.first j 0)) (places_next t.members i h)

  pub members_done : (i : ℕ) → t.members ≤ i → members_from t i ≡ []
  unfolding members_from
  members_done i h = ap (map (λ j. get_or t.first j 0)) (places_done t.members i h)

-- A loop that asks whether the members rise, at place i: a member from v on, one that is too low, and one that is right.
module _ (t : Table) (v least i : ℕ) {answer : Bool} (h : i < t.members) (asked : rises_from v least (members_from t i) ≡ answer) where
  abbrev member : ℕ
  member = get_or t.first i 0

  one_member : answer ≡ (ltb member v && (leb least member && rises_from v (suc member) (members_from t (i + 1))))
  unfolding rises_from
  one_member = sym asked ∙ ap (rises_from v least) (members_next t i h)

  pub member_out : v ≤ member → false ≡ answer
  member_out l = sym (one_member ∙ ap (λ b. b && (leb least member && rises_from v (suc member) (members_from t (i + 1)))) (le-ltb member v l))

  pub member_low : member < v → member < least → false ≡ answer
  member_low l m =
      sym (one_member ∙ ap (λ b. b && (leb least member && rises_from v (suc member) (members_from t (i + 1)))) (lt-ltb member v l)
      ∙ ap (λ b. b && rises_from v (suc member) (members_from t (i + 1))) (lt-leb least member m))

  pub member_right : member < v → least ≤ member → rises_from v (member + 1) (members_from t (i + 1)) ≡ answer
  member_right l m =
      ap (λ n. rises_from v n (members_from t (i + 1))) (add-one member)
      ∙ sym (one_member ∙ ap (λ b. b && (leb least member && rises_from v (suc member) (members_from t (i + 1)))) (lt-ltb member v l)
      ∙ ap (λ b. b && rises_from v (suc member) (members_from t (i + 1))) (le-leb least member m))
