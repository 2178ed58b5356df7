-- What the number of an entry says of the questions that it asked.
use Rattle.std.specs.Prelude.{◌≡◌, refl, ◌↔◌, ◌≢◌, Bool, true, false, ◌&&◌, ℕ, zero, suc}
use Rattle.std.proofs.Common.{sym, ap, ◌∙◌, inl, inr, arith}
use mathlib.Core.List.Memᴰ
use mathlib.Core.List.{List, [], ◌∷◌, ◌++◌, map, Memᴰ}
use Rattle.definitions.specs.Basics.{every}
use Rattle.definitions.specs.Questions.{Asked, first_no}

-- The numbers of the questions; whether all are answered yes.
abbrev pub numbers : Asked → List ℕ
numbers asked = map (λ a. a.0) asked

abbrev pub all_yes : Asked → Bool
all_yes asked = every (λ a. a.1) asked

-- q is answered no, and every question before it yes.
pub record FirstNo (asked : Asked) (q : ℕ) : Type 0 where
  pub before : Asked
  pub after : Asked
  pub split : asked ≡ before ++ (q, false) ∷ after
  pub yes_before : all_yes before ≡ true

-- 0 says that all are answered yes, another number that its question is the first answered no.
pub record Says (asked : Asked) (number : ℕ) : Type 0 where
  pub own : Memᴰ number (0 ∷ numbers asked)
  pub accepted : (number ≡ 0) ↔ (all_yes asked ≡ true)
  pub refused : (q : ℕ) → (number ≡ suc q) ↔ FirstNo asked (suc q)

-- No question has the number 0.
abbrev pub Numbered : Asked → Type 0
Numbered [] = Unit {0}
Numbered ((zero, b) ∷ asked) = ⊥
Numbered ((suc q, b) ∷ asked) = Numbered asked

own_number : (asked : Asked) → Memᴰ (first_no asked) (0 ∷ numbers asked)
own_number [] = Memᴰ.head refl
own_number ((q, false) ∷ asked) = Memᴰ.tail (Memᴰ.head refl)
own_number ((q, true) ∷ asked) = elim (Memᴰ.cases_cons (own_number asked)) [
  | inl e ↦ Memᴰ.head e
  | inr m ↦ Memᴰ.tail (Memᴰ.tail m)
]

all_yes_lem : (asked : Asked) → Numbered asked → first_no asked ≡ 0 → all_yes asked ≡ true
all_yes_lem [] n e = refl
all_yes_lem ((zero, b) ∷ asked) n e = absurd n
all_yes_lem ((suc q, true) ∷ asked) n e = all_yes_lem asked n e
all_yes_lem ((suc q, false) ∷ asked) n e = absurd (omega arith)

pub no_no : (asked : Asked) → all_yes asked ≡ true → first_no asked ≡ 0
no_no [] e = refl
no_no ((q, true) ∷ asked) e = no_no asked e
no_no ((q, false) ∷ asked) e = absurd (let z : ◌≡◌ {A = ℕ} 0 1 = cc in omega arith)

first_no_lem : (asked : Asked) (q : ℕ) → first_no asked ≡ suc q → FirstNo asked (suc q)
first_no_lem [] q e = absurd (omega arith)
first_no_lem ((p, true) ∷ asked) q e = let f = first_no_lem asked q e in record {
  before = (p, true) ∷ f.before;
  after = f.after;
  split = ap {B = Asked} (λ rest. (p, true) ∷ rest) f.split;
  yes_before = f.yes_before;
}
first_no_lem ((p, false) ∷ asked) q e = record { before = []; after = asked; split = ap {B = Asked} (λ n. (n, false) ∷ asked) e; yes_before = refl }

first_after : (before after : Asked) (q : ℕ) → all_yes before ≡ true → first_no (before ++ (q, false) ∷ after) ≡ q
first_after [] after q e = refl
first_after ((p, true) ∷ before) after q e = first_after before after q e
first_after ((p, false) ∷ before) after q e = absurd (let z : ◌≡◌ {A = ℕ} 0 1 = cc in omega arith)

-- Later questions count where all earlier ones are answered yes, and only there.
pub yes_then : (early late : Asked) → all_yes early ≡ true → first_no (early ++ late) ≡ first_no late
yes_then [] late e = refl
yes_then ((q, true) ∷ early) late e = yes_then early late e
yes_then ((q, false) ∷ early) late e = absurd (let z : ◌≡◌ {A = ℕ} 0 1 = cc in omega arith)

pub no_then : (early late : Asked) (q : ℕ) → first_no early ≡ suc q → first_no (early ++ late) ≡ suc q
no_then [] late q e = absurd (omega arith)
no_then ((p, true) ∷ early) late q e = no_then early late q e
no_then ((p, false) ∷ early) late q e = e

-- A question that is answered yes may be left out; one that is asked twice may be asked once.
pub yes_between : (early late : Asked) (q : ℕ) → first_no (early ++ (q, true) ∷ late) ≡ first_no (early ++ late)
yes_between [] late q = refl
yes_between ((p, true) ∷ early) late q = yes_between early late q
yes_between ((p, false) ∷ early) late q = refl

pub asked_twice : (early late : Asked) (q : ℕ) (a b : Bool) → first_no (early ++ (q, a) ∷ (q, b) ∷ late) ≡ first_no (early ++ (q, b && a) ∷ late)
asked_twice [] late q true true = refl
asked_twice [] late q true false = refl
asked_twice [] late q false true = refl
asked_twice [] late q false false = refl
asked_twice ((p, true) ∷ early) late q a b = asked_twice early late q a b
asked_twice ((p, false) ∷ early) late q a b = refl

-- A question that does not give the number may be left out.
pub left_out : (early late : Asked) (q : ℕ) (a : Bool) {n : ℕ} → first_no (early ++ (q, a) ∷ late) ≡ n → n ≢ q → first_no (early ++ late) ≡ n
left_out [] late q true e other = e
left_out [] late q false e other = absurd (other (sym e))
left_out ((p, true) ∷ early) late q a e other = left_out early late q a e other
left_out ((p, false) ∷ early) late q a e other = e

pub says : (asked : Asked) → Numbered asked → Says asked (first_no asked)
says asked n = record {
  own = own_number asked;
  accepted = (all_yes_lem asked n, no_no asked);
  refused = λ q. (first_no_lem asked q, λ f. ap first_no f.split ∙ first_after f.before f.after (suc q) f.yes_before);
}
