-- A number, and a hyphen or a number, are bounded.
use Rattle.std.proofs.Common.{sym, ap, ◌∙◌, arith, eqb-true, leb-true, ne_eqb, ◌≡◌, ◌∷◌, ◌++◌}
use Rattle.std.proofs.lemmas.Bool.{false≢true}
use Prim.Native.Char.{code}
use Rattle.definitions.specs.Basics.{ℕ, refl, Bool, true, false, Option, none, some, option_map, List, [], eqb, leb, every, none_or}
use Rattle.definitions.specs.Layout.{give_if, is_digit, number_of, number, hyphen_or_number}
use Rattle.lists.specs.Tests.{both}
use Rattle.scanner.specs.declared.Class.TheVariants.{Hyphen, Other}
use Rattle.scanner.specs.Spans.{take_while, drop_while, take_while_on, take_while_off, take_while_drop_while, take_while_take_while, drop_while_take_while, drop_while_passes}
use Rattle.scanner.specs.Classes.{class_of, first_class, class_says}
use Rattle.scanner.specs.Numbers.{number_span}
use Rattle.scanner.specs.Separators.{hyphen_there, hyphen_missing}
use Rattle.scanner.specs.Items.{in_item, Bounded}

-- A digit is no space and no bracket.
digit_inside : (b : ℕ) → is_digit b ≡ true → in_item b ≡ true
digit_inside b h =
    let l = leb-true (code "0") b (both (leb (code "0") b) h).0 in
    rw (ne_eqb b (code " ") (λ e. omega arith), ne_eqb b (code ")") (λ e. omega arith))

number_before : (xs : List ℕ) → number xs ≡ option_map (λ r. (r.0, r.1 ++ drop_while in_item xs)) (number (take_while in_item xs))
number_before xs = rw (number_span xs, number_span (take_while in_item xs), take_while_take_while is_digit in_item digit_inside xs) (go (number_of (take_while is_digit xs)))
  where
    go : (o : Option ℕ) → give_if o (drop_while is_digit xs) ≡ option_map (λ r. (r.0, r.1 ++ drop_while in_item xs)) (give_if o (drop_while is_digit (take_while in_item xs)))
    go none = refl
    go (some v) = ap (λ l. some (v, l)) (sym (drop_while_take_while is_digit in_item digit_inside xs))

number_rest : (p : List ℕ) → every in_item p ≡ true → none_or (λ r. every in_item r.1) (number p) ≡ true
number_rest p h = rw (number_span p) (go (number_of (take_while is_digit p)))
  where
    go : (o : Option ℕ) → none_or (λ r. every in_item r.1) (give_if o (drop_while is_digit p)) ≡ true
    go none = refl
    go (some v) = drop_while_passes is_digit in_item p h

pub number_bounded : Bounded number
number_bounded = record { before = number_before; rest = number_rest }

-- A hyphen that stands first in an item stands first.
hyphen_first : (xs : List ℕ) → first_class (take_while in_item xs) ≡ Hyphen → first_class xs ≡ Hyphen
hyphen_first [] e = e
hyphen_first (b ∷ bs) e = go (in_item b) refl
  where
    go : (t : Bool) → in_item b ≡ t → class_of b ≡ Hyphen
    go true q = rw (take_while_on in_item b bs q) at e
    go false q = absurd (let n = rw (take_while_off in_item b bs q) at e in let z : ◌≡◌ {A = ℕ} 0 1 = cc in omega arith)

module _ (xs : List ℕ) where
  hyphen_by_number : (first_class xs ≡ Hyphen → ⊥) → hyphen_or_number xs ≡ option_map (λ r. (r.0, r.1 ++ drop_while in_item xs)) (hyphen_or_number (take_while in_item xs))
  hyphen_by_number n =
      rw (hyphen_missing xs n, hyphen_missing (take_while in_item xs) (λ e. n (hyphen_first xs e)), number_before xs) (go (number (take_while in_item xs)))
    where
      go : (o : Option (ℕ × List ℕ)) → option_map {A = ℕ × List ℕ} {B = Option ℕ × List ℕ} (λ r. (some r.0, r.1)) (option_map (λ r. (r.0, r.1 ++ drop_while in_item xs)) o)
          ≡ option_map {A = Option ℕ × List ℕ} {B = Option ℕ × List ℕ} (λ r. (r.0, r.1 ++ drop_while in_item xs)) (option_map (λ r. (some r.0, r.1)) o)
      go none = refl
      go (some r) = refl

-- A hyphen stands first, or none does.
data FirstHyphen : List ℕ → Type 0 where
  stands : (bs : List ℕ) → FirstHyphen (code "-" ∷ bs)
  stands_not : {xs : List ℕ} → (first_class xs ≡ Hyphen → ⊥) → FirstHyphen xs

first_hyphen : (xs : List ℕ) → FirstHyphen xs
first_hyphen [] = stands_not {xs = []} nothing
  where
    nothing : Other ≡ Hyphen → ⊥
    nothing e = let z : ◌≡◌ {A = ℕ} 0 1 = cc in omega arith
first_hyphen (b ∷ bs) = go (eqb b (code "-")) refl
  where
    go : (t : Bool) → eqb b (code "-") ≡ t → FirstHyphen (b ∷ bs)
    go true e = rw (eqb-true b (code "-") e) (stands bs)
    go false e = stands_not (λ c. false≢true (sym e ∙ class_says b c))

hyphen_before : {xs : List ℕ} → FirstHyphen xs → hyphen_or_number xs ≡ option_map (λ r. (r.0, r.1 ++ drop_while in_item xs)) (hyphen_or_number (take_while in_item xs))
unfolding class_of
hyphen_before (stands bs) =
    rw (hyphen_there (code "-" ∷ bs) refl, hyphen_there (code "-" ∷ take_while in_item bs) refl) (ap (λ l. some (none, l)) (sym (take_while_drop_while in_item bs)))
hyphen_before {xs} (stands_not n) = hyphen_by_number xs n

hyphen_rest : {p : List ℕ} → FirstHyphen p → every in_item p ≡ true → none_or (λ r. every in_item r.1) (hyphen_or_number p) ≡ true
unfolding class_of
hyphen_rest (stands bs) h = rw (hyphen_there (code "-" ∷ bs) refl) h
hyphen_rest {p} (stands_not n) h = rw (hyphen_missing p n) (go (number p) (number_rest p h))
  where
    go : (o : Option (ℕ × List ℕ)) → none_or (λ r. every in_item r.1) o ≡ true → none_or (λ r. every in_item r.1) (option_map {B = Option ℕ × List ℕ} (λ r. (some r.0, r.1)) o) ≡ true
    go none q = refl
    go (some r) q = q

pub hyphen_bounded : Bounded hyphen_or_number
hyphen_bounded = record { before = λ xs. hyphen_before (first_hyphen xs); rest = λ p. hyphen_rest (first_hyphen p) }
