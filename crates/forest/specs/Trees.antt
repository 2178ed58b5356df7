-- Roots as numbers and trees as sets of patients: what they are by the definitions.
use Rattle.std.proofs.Common.{sym, ap, ◌∙◌, true≢false, arith, lt-ltb, le-ltb, ◌<◌, ◌≡◌, ◌&&◌}
use Rattle.std.proofs.Math.Bool.{not-eq-not, or-false}
use Rattle.std.specs.Prelude.{◌≤◌}
use Rattle.std.proofs.Math.Decide.{dec_lt}
use Rattle.definitions.specs.Basics.{ℕ, suc, true, false, Option, none, some, List, length, get_or, eqb, ltb}
use Rattle.definitions.specs.Syntax.{Table, Region}
use Rattle.definitions.specs.Plans.{constraints}
use Rattle.lists.specs.Members.{◌∈◌}
use Rattle.lists.specs.Every.{any_in, any_out}
use Rattle.theorems.specs.Accepted.{Accepted, constraint_known}
use Rattle.partial_rows.specs.Sets.{Patients, Part, neither, Splits}
use Rattle.partial_rows.specs.Rows.{holds}
use Rattle.partial_rows.specs.Parts.{Apart}
use Rattle.partial_rows.specs.Trees.{root_of, tree_of, roots_below, roots_closed, trees_apart, trees_split}
use Rattle.patient_set.specs.Sets.{in_set}

-- The numbers are the patients' roots.
pub record RootNumbers (r : Region) (numbers : List ℕ) : Type 0 where
  pub roots : (s : ℕ) → s < length r.patients → get_or numbers s 0 ≡ root_of r s

-- The root of a patient with this parent, from the roots of those before it.
abbrev pub root_from : List ℕ → ℕ → Option ℕ → ℕ
root_from roots s none = s
root_from roots s (some p) = get_or roots p 0

-- A word that has the patients with root k.
module _ {r : Region} {roots : List ℕ} (root_numbers : RootNumbers r roots) (accepted : Accepted r) {v : ℕ} (all : v ≡ length r.patients)
    (w k : ℕ) (is : (q : ℕ) → in_set w q ≡ (ltb q v && eqb (get_or roots q 0) k)) where
  -- It is the tree of k, ..
  pub tree_is : (q : ℕ) → q < v → in_set w q ≡ tree_of r k q
  tree_is q l = is q ∙ ap (λ b. b && eqb (get_or roots q 0) k) (lt-ltb q v l) ∙ ap (λ root. eqb root k) (root_numbers.roots q (omega (arith, all)))

  pub tree_beyond : (q : ℕ) → v ≤ q → in_set w q ≡ false
  tree_beyond q l = is q ∙ ap (λ b. b && eqb (get_or roots q 0) k) (le-ltb q v l)

  known : (t : Table) → t ∈ constraints r → {s : ℕ} → s ∈ t.members → s < v
  known t i {s} j = omega (arith, constraint_known r accepted t i s j, all)

  -- .. so with one member of a table it has all, ..
  pub tree_upward : (t : Table) → t ∈ constraints r → (s q : ℕ) → s ∈ t.members → q ∈ t.members → in_set w s ≡ true → in_set w q ≡ true
  tree_upward t i s q j n e =
      let held : holds (tree_of r k) t ≡ true = any_in (tree_of r k) t.members j (sym (tree_is s (known t i j)) ∙ e) in
      tree_is q (known t i n) ∙ sym (or-false (tree_of r k q)) ∙ roots_closed r accepted (λ root. eqb root k) (λ s. false) t i held q n

  -- .. no table joins it to the patients with roots below k, ..
  pub tree_apart : (E : Patients) → ((q : ℕ) → q < v → E q ≡ roots_below r k q) → Apart r E (in_set w)
  tree_apart E below t i e = not-eq-not.0 (λ d.
      let (a, j, h) = any_out E t.members e in
      let (b, n, g) = any_out (in_set w) t.members d in
      let held : holds (roots_below r k) t ≡ true = any_in (roots_below r k) t.members j (sym (below a (known t i j)) ∙ h) in
      let other : holds (tree_of r k) t ≡ true = any_in (tree_of r k) t.members n (sym (tree_is b (known t i n)) ∙ g) in
      true≢false (sym other ∙ trees_apart r accepted k t i held))

  -- .. and together they are the patients with roots up to k.
  pub trees_next : (D E : Patients) → ((q : ℕ) → q < v → D q ≡ roots_below r (suc k) q) → ((q : ℕ) → v ≤ q → D q ≡ false)
      → ((q : ℕ) → q < v → E q ≡ roots_below r k q) → ((q : ℕ) → v ≤ q → E q ≡ false) → Splits D E (in_set w)
  trees_next D E next none_next below none_below q = go (dec_lt q v)
    where
      go : Dec (q < v) → Part (D q) (E q) (in_set w q)
      go (yes l) = rw (next q l, below q l, tree_is q l) (trees_split r k q)
      go (no l) = rw (none_next q (omega arith), none_below q (omega arith), tree_beyond q (omega arith)) neither
