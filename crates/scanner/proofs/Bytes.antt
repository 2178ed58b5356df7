-- Reading one byte by a class that it alone has, and what stands behind it.
use mathlib.Core.Path.{◌≡◌, refl, sym, ap, ◌∙◌}
use mathlib.Core.List.{List, [], ◌∷◌}
use mathlib.Core.Bool.{true, false}
use mathlib.Core.Option.{Option, none, some}
use Prim.Native.Nat.{ℕ, suc, ◌+◌, ◌<◌}
use Prim.Native.Char.{code}
use native.Mathlib.Omega.{arith}
use lib.Dec.{eqb}
use lib.ListN.{length, drop}
use lib.Seq.{drop-drop}
use borrow.Author.Tests.{ne_eqb, eqb-true}
use Rattle.definitions.specs.Layout.{exactly}
use Rattle.scanner.specs.declared.Class.{Class}
use Rattle.scanner.specs.declared.Class.TheVariants.{Open, Close, Space, LineEnd, Other}
use Rattle.scanner.specs.Classes.{class_of, first_class, is_of, class_says, ClassOfOne}
use Rattle.scanner.specs.Words.{byte_there, byte_missing}
use Rattle.scanner.specs.Answers.{ReadAt, Ahead}
use Rattle.scanner.proofs.Classes.{class_within}

pub opening : ClassOfOne Open (code "(")
unfolding class_of
opening = record { says = λ b. refl; class = refl }

pub closing : ClassOfOne Close (code ")")
unfolding class_of
closing = record { says = λ b. refl; class = refl }

pub space : ClassOfOne Space (code " ")
unfolding class_of
space = record { says = λ b. refl; class = refl }

pub line_end : ClassOfOne LineEnd 10
unfolding class_of
line_end = record { says = λ b. refl; class = refl }

-- Such a class is not Other, which every byte passes.
not_other : {c : Class} {w : ℕ} → ClassOfOne c w → c ≡ Other → ⊥
not_other {w = w} one e = let n : suc w ≡ w = eqb-true (suc w) w (sym (one.says (suc w)) ∙ ap (λ k. is_of k (suc w)) e) in omega arith

module _ {c : Class} {w : ℕ} (one : ClassOfOne c w) {k : Class} where
  -- Whether a byte is that one.
  module _ (b : ℕ) (q : k ≡ class_of b) where
    pub byte_is : k ≡ c → true ≡ eqb b w
    byte_is e = sym (class_says b (sym q ∙ e)) ∙ one.says b

    pub byte_is_not : (k ≡ c → ⊥) → false ≡ eqb b w
    byte_is_not t = sym (ne_eqb b w (λ e. t (q ∙ ap class_of e ∙ one.class)))

  module _ (s : List ℕ) (at : ℕ) (q : k ≡ first_class (drop at s)) where
    pub byte_within : k ≡ c → at < length s
    byte_within e = class_within s at (not_other one) (sym q ∙ e)

    -- It stands there, with these bytes behind it; alone; or it does not.
    pub byte_then : (ws : List ℕ) {o : Option (Unit {0} × ℕ)} → k ≡ c → ReadAt (exactly ws) s (at + 1) o → ReadAt (exactly (w ∷ ws)) s at o
    byte_then ws {o} e h = record {
      says = h.says ∙ ap (exactly ws) (sym (drop-drop 1 at s)) ∙ sym (byte_there w one.says one.class ws (drop at s) (sym q ∙ e));
      ahead = sooner o h.ahead;
    }
      where
        inside : at < length s
        inside = byte_within e

        sooner : (o : Option (Unit {0} × ℕ)) → Ahead s (at + 1) o → Ahead s at o
        sooner none a = a
        sooner (some r) a = let i = inside in (omega arith, omega arith)

    pub byte_read : k ≡ c → ReadAt (exactly (w ∷ [])) s at (some (tt, at + 1))
    byte_read e = byte_then [] e (record { says = refl; ahead = (omega arith, omega arith) })

    pub byte_not_read : (ws : List ℕ) → (k ≡ c → ⊥) → ReadAt (exactly (w ∷ ws)) s at none
    byte_not_read ws t = record {
      says = sym (byte_missing w one.says one.class ws (drop at s) (λ e. t (q ∙ e)));
      ahead = tt;
    }
