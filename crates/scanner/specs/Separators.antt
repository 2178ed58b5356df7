-- What stands after an item, and a hyphen or a number, by the class of the first byte.
use Rattle.std.proofs.Common.{sym, ap, arith, eqb-true, ne_eqb, length-drop, ◌≡◌, ◌∷◌}
use Rattle.std.specs.Prelude.{◌≤◌, ◌<◌, drop}
use Prim.Native.Char.{code}
use Rattle.definitions.specs.Basics.{ℕ, suc, refl, Bool, true, false, cond, Option, none, some, bind, or_else, option_map, option_get_or, List, [], length, eqb}
use Rattle.definitions.specs.Layout.{Reader, one, give_if, number, hyphen_or_number}
use Rattle.scanner.specs.declared.Class.TheVariants.{Space, Close, Hyphen}
use Rattle.scanner.specs.Answers.{ReadAt}
use Rattle.scanner.specs.Classes.{class_of, first_class, class_says}
use Rattle.scanner.specs.Words.{byte_there, byte_missing}

-- After an item: a space, and another item follows, or the closing bracket.
abbrev pub another : ℕ → Option Bool
another b = cond (eqb b (code " ")) (some true) (cond (eqb b (code ")")) (some false) none)

unfoldable pub separator : Reader ℕ Bool
separator = one another

pub separator_space : (xs : List ℕ) → first_class xs ≡ Space → separator xs ≡ some (true, drop 1 xs)
unfolding separator
separator_space [] e = let z : ◌≡◌ {A = ℕ} 0 1 = cc in absurd (omega arith)
separator_space (b ∷ bs) e = rw (class_says b e)

pub separator_close : (xs : List ℕ) → first_class xs ≡ Close → separator xs ≡ some (false, drop 1 xs)
unfolding separator
separator_close [] e = let z : ◌≡◌ {A = ℕ} 0 1 = cc in absurd (omega arith)
separator_close (b ∷ bs) e = rw (eqb-true b (code ")") (class_says b e))

pub separator_missing : (xs : List ℕ) → (first_class xs ≡ Space → ⊥) → (first_class xs ≡ Close → ⊥) → separator xs ≡ none
unfolding separator class_of
separator_missing [] n m = refl
separator_missing (b ∷ bs) n m = rw (ne_eqb b (code " ") (λ e. n (ap class_of e)), ne_eqb b (code ")") (λ e. m (ap class_of e)))

-- A separator is one byte, so a reading of it goes ahead, within the slice: this is what a loop over items ends by.
separator_one : (xs : List ℕ) (m : Bool) (ys : List ℕ) → separator xs ≡ some (m, ys) → length xs ≡ suc (length ys)
unfolding separator
separator_one [] m ys e = absurd (let z : ◌≡◌ {A = ℕ} 0 1 = cc in omega arith)
separator_one (b ∷ bs) m ys e = go (another b) e
  where
    go : (o : Option Bool) → give_if o bs ≡ some (m, ys) → suc (length bs) ≡ suc (length ys)
    go none q = absurd (let z : ◌≡◌ {A = ℕ} 0 1 = cc in omega arith)
    go (some n) q = ap (λ o. option_get_or (option_map (λ r. suc (length r.1)) o) 0) q

pub separator_ahead : {s : List ℕ} {at next : ℕ} {m : Bool} → ReadAt separator s at (some (m, next)) → (at < next) × (next ≤ length s)
separator_ahead {s} {at} {next} {m} h =
    let e = simp length-drop at (separator_one (drop at s) m (drop next s) (sym h.says)) in
    let a = h.ahead in
    (omega arith, omega arith)

-- A hyphen is read by itself, and where none stands a number is read.
module _ (xs : List ℕ) where
  pub hyphen_there : first_class xs ≡ Hyphen → hyphen_or_number xs ≡ some (none, drop 1 xs)
  unfolding hyphen_or_number bind or_else class_of
  hyphen_there e = rw (byte_there (code "-") (λ b. refl) refl [] xs e)

  pub hyphen_missing : (first_class xs ≡ Hyphen → ⊥) → hyphen_or_number xs ≡ option_map (λ r. (some r.0, r.1)) (number xs)
  unfolding hyphen_or_number or_else bind class_of
  hyphen_missing n = rw (byte_missing (code "-") (λ b. refl) refl [] xs n) (go (number xs))
    where
      go : (o : Option (ℕ × List ℕ)) → bind {B = Option ℕ × List ℕ} o (λ r. some (some r.0, r.1)) ≡ option_map (λ r. (some r.0, r.1)) o
      go none = refl
      go (some r) = refl
