-- The sums of all rows of two lists: where each list is in order and a sum shows its rows, no sum comes twice.
use mathlib.Core.Path.{◌≡◌, sym, ◌∙◌}
use mathlib.Core.Logic.{inl, inr}
use native.Mathlib.Omega.{arith}
use Prim.Native.Nat.{◌≤◌}
use Rattle.std.specs.Prelude.{◌∷◌, ◌++◌}
use Rattle.definitions.specs.Basics.{ℕ, zero, suc, List, [], take, sort}
use Rattle.definitions.specs.Plans.{compare_rows}
use Rattle.lists.specs.Members.{◌∈◌, ◌⊆◌, Distinct, here, there, here_or_there, none_in_nil, in_append_left, in_append_right, in_append_cases}
use Rattle.ranking.specs.First.{First, Sorted, sorted_distinct, first_iff}
use Rattle.ranking.proofs.Sorting.{first_of}
use Rattle.ranking.specs.Rising.{sorted_rising}
use Rattle.ranking.specs.Combining.{Combined, Injective, cross, cross_enumerates}
use Rattle.theorems.specs.List.{row_order}
use Rattle.partial_rows.specs.Adding.{add_rows}
use Rattle.row_list.specs.Rows.{whole_row, whole_rows}
use Rattle.row_list.specs.Laws.{rows_none, rows_more}
use Rattle.row_sums.specs.Sums.{work_part, Gives}
use Rattle.row_sums.specs.Steps.{backwards, Found, Copied}

distinct_last : {A : Type 0} (l : List A) (x : A) → Distinct (l ++ (x ∷ [])) → (x ∈ l → ⊥) × Distinct l
distinct_last [] x d = (none_in_nil, tt)
distinct_last (y ∷ l) x d = let (absent, rest) = distinct_last l x d.1 in (
  λ k. elim (here_or_there k) [ inl e ↦ d.0 (in_append_right l (here (sym e))) | inr t ↦ absent t ],
  (λ k. d.0 (in_append_left (x ∷ []) k), rest),
)

-- A list backwards has the same rows.
module _ (area : List ℕ) where
  back_in : (n : ℕ) → (λ z. z ∈ backwards n area) ⊆ (λ z. z ∈ whole_rows n area)
  unfolding backwards
  back_in zero z k = absurd (none_in_nil k)
  back_in (suc n) z k = rw (rows_more n area) (elim (here_or_there k) [
    | inl e ↦ in_append_right (whole_rows n area) (here e)
    | inr t ↦ in_append_left (whole_row area n ∷ []) (back_in n z t)
  ])

  back_out : (n : ℕ) → (λ z. z ∈ whole_rows n area) ⊆ (λ z. z ∈ backwards n area)
  unfolding backwards
  back_out zero z k = absurd (none_in_nil (rw (rows_none area) at k))
  back_out (suc n) z k = elim (in_append_cases (whole_rows n area) (rw (rows_more n area) at k)) [
    | inl t ↦ there (back_out n z t)
    | inr t ↦ elim (here_or_there t) [ inl e ↦ here e | inr u ↦ absurd (none_in_nil u) ]
  ]

  back_distinct : (n : ℕ) → Distinct (whole_rows n area) → Distinct (backwards n area)
  unfolding backwards
  back_distinct zero d = tt
  back_distinct (suc n) d = let (absent, rest) = distinct_last (whole_rows n area) (whole_row area n) (rw (rows_more n area) at d) in
      (λ k. absent (back_in n (whole_row area n) k), back_distinct n rest)

module _ (m a b : ℕ) (first second : List ℕ) where
  sums_first : Sorted row_order (whole_rows a first) → Sorted row_order (whole_rows b second)
      → Injective add_rows (λ x. x ∈ whole_rows a first) (λ y. y ∈ whole_rows b second)
      → First row_order m (Combined add_rows (λ x. x ∈ whole_rows a first) (λ y. y ∈ whole_rows b second))
      (take m (sort compare_rows (cross add_rows (backwards a first) (backwards b second))))
  sums_first s t shows = first_iff
      (λ z c. record { left = c.left; right = c.right; in_left = back_in first a c.left c.in_left; in_right = back_in second b c.right c.in_right; is = c.is })
      (λ z c. record { left = c.left; right = c.right; in_left = back_out first a c.left c.in_left; in_right = back_out second b c.right c.in_right; is = c.is })
      (first_of {O = row_order} (cross_enumerates add_rows
      (λ p x q y i j k l. shows p x q y (back_in first a p i) (back_in first a x j) (back_in second b q k) (back_in second b y l))
      (back_distinct first a (sorted_distinct row_order (whole_rows a first) s))
      (back_distinct second b (sorted_distinct row_order (whole_rows b second) t))))

pub all_found : (m a b i n : ℕ) (work now after : List ℕ) → i ≤ a → a ≤ i → Found m b i work now n → Copied n now after → Gives m a b work after n
all_found m a b i n work now after h k f c = record {
  count = f.count;
  long = c.long ∙ f.kept.long;
  first = λ s t shows. rw (c.rows, all.sums (sorted_rising row_order (whole_rows b (work_part 1 work)) t)) (sums_first m a b (work_part 0 work) (work_part 1 work) s t shows);
}
  where
    all : Found m b a work now n
    all = let e : i ≡ a = omega arith in rw e at f
