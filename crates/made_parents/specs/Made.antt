-- The parents that a graph makes: how the list of them reads, that each is smaller than its patient, and that members of one group are related by them.
use Rattle.std.specs.Prelude.{◌≡◌, refl}
use Rattle.std.proofs.Common.{sym, ◌∙◌, inl, inr, arith, length-append, ◌<◌, ◌∷◌, ◌++◌}
use Rattle.std.proofs.Math.Path.{ap}
use Rattle.std.proofs.Math.Option.{none-ne-some}
use Rattle.std.proofs.Math.Decide.{dec_lt, ℕ_discrete}
use Rattle.std.proofs.Math.ListN.{get_or-append, get_or-eq_default}
use Rattle.std.proofs.Math.Seq.{get_or-append_seam}
use Rattle.definitions.specs.Basics.{ℕ, zero, suc, true, none, some, List, [], length, get_or, ltb, every_two, below}
use Rattle.definitions.specs.Syntax.{Region, patient_at}
use Rattle.definitions.specs.Questions.{parents_smaller, ancestors}
use Rattle.definitions.specs.Parents.{earlier_neighbours, last, parents_from}
use Rattle.lists.specs.Tests.{both, join}
use Rattle.lists.specs.Members.{◌∈◌, here, there, here_or_there}
use Rattle.lists.specs.Every.{any_in, any_out, contains_in, contains_out}
use Rattle.lists.specs.Keep.{keep_in, keep_out, every_two_keep}
use Rattle.lists.specs.Below.{below_in, below_out}
use Rattle.lists.specs.Rising.{numbers_rise}
use Rattle.lists.specs.Last.{last_in, last_most}
use Rattle.theorems.specs.Ancestors.{parent_in, above_parent, ancestors_chain}

-- ---- earlier neighbours

module _ (groups : List (List ℕ)) (s : ℕ) where
  earlier_rise : every_two ltb (earlier_neighbours groups s) ≡ true
  unfolding earlier_neighbours
  earlier_rise = every_two_keep ltb _ (below s) (numbers_rise 0 s)

  -- They are smaller, and in a group with the patient.
  earlier_smaller : {q : ℕ} → q ∈ earlier_neighbours groups s → q < s
  unfolding earlier_neighbours
  earlier_smaller {q} k = below_out s q (keep_out _ (below s) k).0

  earlier_shared : {q : ℕ} → q ∈ earlier_neighbours groups s → (group : List ℕ) × (group ∈ groups) × (s ∈ group) × (q ∈ group)
  unfolding earlier_neighbours
  earlier_shared {q} k =
      let (group, i, e) = any_out _ groups (keep_out _ (below s) k).1 in
      let (first, second) = both _ e in
      (group, i, contains_out group s first, contains_out group q second)

  earlier_in : (group : List ℕ) → group ∈ groups → s ∈ group → {q : ℕ} → q ∈ group → q < s → q ∈ earlier_neighbours groups s
  unfolding earlier_neighbours
  earlier_in group i k j h = keep_in _ (below s) (below_in s h) (any_in _ groups i (join (contains_in group k) (contains_in group j)))

-- ---- the list of parents

pub parents_long : (groups : List (List ℕ)) (n : ℕ) → length (parents_from groups n) ≡ n
unfolding parents_from
parents_long groups zero = refl
parents_long groups (suc s) =
    let rest = parents_from (earlier_neighbours groups s ∷ groups) s in
    omega (arith, length-append rest (last (earlier_neighbours groups s) ∷ []), parents_long (earlier_neighbours groups s ∷ groups) s)

module _ (groups : List (List ℕ)) (s : ℕ) where
  -- The last patient's parent is the highest earlier neighbour; the others' are made with all earlier neighbours as one more group.
  pub parent_last : get_or (parents_from groups (suc s)) s none ≡ last (earlier_neighbours groups s)
  unfolding parents_from
  parent_last =
      let rest = parents_from (earlier_neighbours groups s ∷ groups) s in
      ap (λ k. get_or (rest ++ last (earlier_neighbours groups s) ∷ []) k none) (sym (parents_long (earlier_neighbours groups s ∷ groups) s))
      ∙ get_or-append_seam rest (last (earlier_neighbours groups s)) [] none

  pub parent_before : (q : ℕ) → q < s → get_or (parents_from groups (suc s)) q none ≡ get_or (parents_from (earlier_neighbours groups s ∷ groups) s) q none
  unfolding parents_from
  parent_before q h =
      let rest = parents_from (earlier_neighbours groups s ∷ groups) s in
      get_or-append rest _ none q (omega (arith, parents_long (earlier_neighbours groups s ∷ groups) s))

-- So each parent is the highest earlier neighbour in groups to which some were added.
made_at_lem : (P : List (List ℕ) → Type 0) → ((groups : List (List ℕ)) (s : ℕ) → P groups → P (earlier_neighbours groups s ∷ groups))
    → (groups : List (List ℕ)) (n : ℕ) → P groups → (s p : ℕ) → get_or (parents_from groups n) s none ≡ some p
    → (more : List (List ℕ)) × P more × (p ∈ earlier_neighbours more s)
unfolding parents_from
made_at_lem P kept groups zero holds s p e = absurd (none-ne-some p e)
made_at_lem P kept groups (suc n) holds s p e = elim (ℕ_discrete s n) [
  | yes q ↦ (groups, holds, rw q (last_in _ (sym (parent_last groups n) ∙ ap (λ k. get_or (parents_from groups (suc n)) k none) (sym q) ∙ e)))
  | no q ↦ elim (dec_lt s n) [
    | yes h ↦ made_at_lem P kept (earlier_neighbours groups n ∷ groups) n (kept groups n holds) s p (sym (parent_before groups n s h) ∙ e)
    | no h ↦ absurd (none-ne-some p (sym (get_or-eq_default (parents_from groups (suc n)) none (omega (arith, parents_long groups (suc n)))) ∙ e))
  ]
]

-- A parent is smaller than its patient.
pub made_smaller : (groups : List (List ℕ)) (n s p : ℕ) → get_or (parents_from groups n) s none ≡ some p → p < s
made_smaller groups n s p e = let (more, holds, k) = made_at_lem (λ groups. Unit {0}) (λ groups s holds. tt) groups n tt s p e in earlier_smaller more s k

-- ---- a tree over the groups

-- Of any two members of a group the smaller is an ancestor of the larger; the same where the larger is below n.
abbrev pub Related : Region → List (List ℕ) → Type 0
Related r groups = (group : List ℕ) → group ∈ groups → (a b : ℕ) → a ∈ group → b ∈ group → a < b → a ∈ ancestors r b

abbrev pub RelatedBelow : Region → List (List ℕ) → ℕ → Type 0
RelatedBelow r groups n = (group : List ℕ) → group ∈ groups → (a b : ℕ) → a ∈ group → b ∈ group → a < b → b < n → a ∈ ancestors r b

module _ (r : Region) (smaller : parents_smaller r ≡ true) where
  -- It stays so when earlier neighbours, who are ancestors of one patient, become a group.
  related_more : (groups : List (List ℕ)) (s : ℕ) → Related r groups → Related r (earlier_neighbours groups s ∷ groups)
  related_more groups s related group i a b j k h = elim (here_or_there i) [
    | inl e ↦ ancestors_chain r smaller s b (above a (rw e at j)) (above b (rw e at k)) h
    | inr t ↦ related group t a b j k h
  ]
    where
      above : (q : ℕ) → q ∈ earlier_neighbours groups s → q ∈ ancestors r s
      above q l = let (shared, m, own, other) = earlier_shared groups s l in related shared m q s other own (earlier_smaller groups s l)

  -- So the parents that the groups make are ancestors.
  pub made_above : (groups : List (List ℕ)) (n : ℕ) → Related r groups → (s p : ℕ) → get_or (parents_from groups n) s none ≡ some p → p ∈ ancestors r s
  made_above groups n related s p e =
      let (more, still, k) = made_at_lem (Related r) related_more groups n related s p e in
      let (shared, m, own, other) = earlier_shared more s k in
      still shared m p s other own (earlier_smaller more s k)

  -- Where the parents are those that the groups make, the members are related.
  pub made_related : (groups : List (List ℕ)) (n : ℕ) → ((s : ℕ) → s < n → (patient_at r s).parent ≡ get_or (parents_from groups n) s none) → RelatedBelow r groups n
  made_related groups zero made group i a b j k h l = absurd (omega arith)
  made_related groups (suc s) made group i a b j k h l =
      let earlier = earlier_neighbours groups s in
      let below = made_related (earlier ∷ groups) s (λ q m. made q (omega arith) ∙ parent_before groups s q m) in
      elim (ℕ_discrete b s) [
        | yes e ↦ (
            let own : s ∈ group = rw e at k in
            let is = earlier_in groups s group i own j (omega arith) in
            let (p, last_is, most) = last_most earlier (earlier_rise groups s) is in
            let up = made s (omega arith) ∙ parent_last groups s ∙ last_is in
            rw e (elim (ℕ_discrete a p) [
              | yes same ↦ rw same (parent_in r smaller s p up)
              | no other ↦ (let in_earlier = last_in earlier last_is in above_parent r smaller s p up (below earlier (here refl) a p is in_earlier (omega arith) (earlier_smaller groups s in_earlier)))
            ])
            )
        | no e ↦ below group (there i) a b j k h (omega arith)
      ]
