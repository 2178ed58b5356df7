-- Roots that a loop fills in by rising number.
use mathlib.Core.Path.{◌≡◌, refl, sym, ap, ◌∙◌}
use native.Mathlib.Decide.{dec_lt}
use native.Mathlib.Omega.{arith}
use lib.ListN.{set}
use lib.Seq.{get_or-set_same, get_or-set_other}
use Rattle.std.specs.Prelude.{◌+◌, ◌<◌}
use Rattle.definitions.specs.Basics.{ℕ, true, Option, none, some, List, length, get_or}
use Rattle.definitions.specs.Syntax as Said
use Rattle.definitions.specs.Syntax.{patient_at}
use Rattle.definitions.specs.Questions.{parents_smaller}
use Rattle.partial_rows.specs.Trees.{root_of}
use Rattle.held_region.specs.declared.Region.{Region}
use Rattle.held_region.specs.Meaning.{optional, patient_in, said}
use Rattle.held_region.specs.Sound.{ParentsFirst, parents_first}
use Rattle.theorems.specs.Ancestors.{ancestors_root, ancestors_next}
use Rattle.held_region.specs.Related.{own_parent_lem, parent_smaller}
use Rattle.forest.specs.Trees.{root_from}

-- A root's root is itself; any other patient has its parent's.
module _ (r : Said.Region) (smaller : parents_smaller r ≡ true) where
  root_itself : (s : ℕ) → (patient_at r s).parent ≡ none → root_of r s ≡ s
  unfolding root_of
  root_itself s e = rw (ancestors_root r smaller s e) refl

  root_next : (s p : ℕ) → (patient_at r s).parent ≡ some p → root_of r s ≡ root_of r p
  unfolding root_of
  root_next s p e = rw (ancestors_next r smaller s p e) refl

-- The first n numbers are roots, whatever the store says.
abbrev pub RootNumbersTo : Region → ℕ → List ℕ → Type 0
RootNumbersTo h n roots = (store : List ℕ) (s : ℕ) → s < n → get_or roots s 0 ≡ root_of (said h store) s

module _ (h : Region) (first : ParentsFirst h) (s : ℕ) (l : s < h.v) where
  abbrev parent : Option ℕ
  parent = optional (patient_in h s).parent

  pub parent_known : (p : ℕ) → parent ≡ some p → p < 32
  parent_known p e = omega (arith, parent_smaller h first s l p e, first.places.patients)

  -- One patient more.
  pub root_numbers_more : (roots : List ℕ) (root : ℕ) → s < length roots → root ≡ root_from roots s parent → RootNumbersTo h s roots → RootNumbersTo h (s + 1) (set roots s root)
  root_numbers_more roots root room is root_numbers store j m = go (dec_lt j s)
    where
      own : (o : Option ℕ) → parent ≡ o → root_from roots s o ≡ root_of (said h store) s
      own none e = sym (root_itself (said h store) (parents_first h first store) s (own_parent_lem h first s l store ∙ e))
      own (some p) e = root_numbers store p (parent_smaller h first s l p e) ∙ sym (root_next (said h store) (parents_first h first store) s p (own_parent_lem h first s l store ∙ e))

      go : Dec (j < s) → get_or (set roots s root) j 0 ≡ root_of (said h store) j
      go (yes n) = get_or-set_other roots s j root 0 (λ e. omega arith) ∙ root_numbers store j n
      go (no n) =
          let same : j ≡ s = omega arith in
          ap (λ k. get_or (set roots s root) k 0) same ∙ get_or-set_same roots s root 0 room ∙ is ∙ own parent refl ∙ ap (root_of (said h store)) (sym same)
