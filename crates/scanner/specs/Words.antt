-- How `exactly` goes from byte to byte, and by the class of a byte.
use Rattle.std.proofs.Common.{sym, ◌∙◌, ap, arith, eq-eqb, ne_eqb, eqb-true, ◌≡◌, ◌∷◌, ◌++◌}
use Prim.Native.Char.{code}
use Rattle.std.proofs.Math.Decide.{ℕ_discrete}
use Rattle.std.specs.Prelude.{drop}
use Rattle.definitions.specs.Basics.{ℕ, suc, refl, none, some, bind, List, [], eqb}
use Rattle.definitions.specs.Layout.{exactly}
use Rattle.scanner.specs.declared.Class.{Class}
use Rattle.scanner.specs.Classes.{class_of, first_class, is_of, class_says}

-- How a form begins: its opening bracket and its word.
abbrev pub form_start : List ℕ → List ℕ
form_start word = code "(" ∷ word

pub exactly_short : (w : ℕ) (ws : List ℕ) → exactly (w ∷ ws) [] ≡ none
unfolding bind
exactly_short w ws = refl

module _ (w b : ℕ) (ws bs : List ℕ) where
  pub exactly_same : w ≡ b → exactly (w ∷ ws) (b ∷ bs) ≡ exactly ws bs
  unfolding bind
  exactly_same e = rw (eq-eqb w b e)

  pub exactly_other : (w ≡ b → ⊥) → exactly (w ∷ ws) (b ∷ bs) ≡ none
  unfolding bind
  exactly_other e = rw (ne_eqb w b e)

-- A word and what stands behind it are one word.
exactly_then : (ws vs xs : List ℕ) → exactly (ws ++ vs) xs ≡ bind (exactly ws xs) (λ r. exactly vs r.1)
unfolding bind
exactly_then [] vs xs = refl
exactly_then (w ∷ ws) vs [] = refl
exactly_then (w ∷ ws) vs (b ∷ bs) = elim (ℕ_discrete w b) [
  | yes e ↦ exactly_same w b (ws ++ vs) bs e ∙ exactly_then ws vs bs ∙ ap (λ o. bind o (λ r. exactly vs r.1)) (sym (exactly_same w b ws bs e))
  | no n ↦ exactly_other w b (ws ++ vs) bs n ∙ ap (λ o. bind o (λ r. exactly vs r.1)) (sym (exactly_other w b ws bs n))
]

module _ (ws vs xs : List ℕ) where
  pub words_there : {ys : List ℕ} → exactly ws xs ≡ some (tt, ys) → exactly (ws ++ vs) xs ≡ exactly vs ys
  unfolding bind
  words_there e = exactly_then ws vs xs ∙ rw e

  pub words_missing : exactly ws xs ≡ none → exactly (ws ++ vs) xs ≡ none
  unfolding bind
  words_missing e = exactly_then ws vs xs ∙ rw e

-- A class that one byte w alone has: where it stands first, so does w.
module _ {c : Class} (w : ℕ) (says : (b : ℕ) → is_of c b ≡ eqb b w) (class : class_of w ≡ c) (ws : List ℕ) where
  pub byte_there : (xs : List ℕ) → first_class xs ≡ c → exactly (w ∷ ws) xs ≡ exactly ws (drop 1 xs)
  byte_there [] e = absurd (omega (arith, eqb-true (suc w) w (sym (says (suc w)) ∙ ap (λ k. is_of k (suc w)) (sym e))))
  byte_there (b ∷ bs) e = exactly_same w b ws bs (sym (eqb-true b w (sym (says b) ∙ class_says b e)))

  pub byte_missing : (xs : List ℕ) → (first_class xs ≡ c → ⊥) → exactly (w ∷ ws) xs ≡ none
  byte_missing [] n = exactly_short w ws
  byte_missing (b ∷ bs) n = exactly_other w b ws bs (λ e. n (ap class_of (sym e) ∙ class))
