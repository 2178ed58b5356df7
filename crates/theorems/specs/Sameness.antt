-- The tests of the definitions whether two things are the same: they find equality.
use Rattle.std.proofs.Common.{sym, ap, ap₂, true≢false, eqb-true, eq-eqb, ◌≡◌, ◌&&◌, ◌∷◌}
use Rattle.definitions.specs.Basics.{ℕ, refl, Bool, true, Option, none, some, List, [], eqb, same}
use Rattle.definitions.specs.Syntax.{Table}
use Rattle.definitions.specs.Plans.{Row}
use Rattle.definitions.specs.Sheets.{same_beds}
use Rattle.definitions.specs.Isolation.{same_entry}
use Rattle.ranking.specs.Occurrences.{Tests}
use Rattle.lists.specs.Tests.{both, join}

-- A test finds equality where it accepts nothing else and every thing with itself.
tests_equality : {A : Type 0} {f : A → A → Bool} → ((x y : A) → f x y ≡ true → x ≡ y) → ((x : A) → f x x ≡ true) → Tests (λ x. x) f
tests_equality {f} only self = record { alike_same = only; same_alike = λ x y e. rw e (self y) }

number_tests : Tests (λ n. n) eqb
number_tests = record { alike_same = eqb-true; same_alike = eq-eqb }

entry_tests : Tests (λ e. e) same_entry
entry_tests = tests_equality only self
  where
    only : (x y : Option ℕ) → same_entry x y ≡ true → x ≡ y
    only none none e = refl
    only none (some y) e = absurd (true≢false (sym e))
    only (some x) none e = absurd (true≢false (sym e))
    only (some x) (some y) e = ap {B = Option ℕ} some (eqb-true x y e)

    self : (x : Option ℕ) → same_entry x x ≡ true
    self none = refl
    self (some x) = eq-eqb x x refl

list_tests : {A : Type 0} {f : A → A → Bool} → Tests (λ x. x) f → Tests (λ l. l) (same f)
list_tests {A} {f} tests = tests_equality only self
  where
    only : (xs ys : List A) → same f xs ys ≡ true → xs ≡ ys
    only [] [] e = refl
    only [] (y ∷ ys) e = absurd (true≢false (sym e))
    only (x ∷ xs) [] e = absurd (true≢false (sym e))
    only (x ∷ xs) (y ∷ ys) e = let (p, q) = both (f x y) e in ap₂ {C = List A} (λ a l. a ∷ l) (tests.alike_same x y p) (only xs ys q)

    self : (xs : List A) → same f xs xs ≡ true
    self [] = refl
    self (x ∷ xs) = join (tests.same_alike x x refl) (self xs)

pub numbers_tests : Tests (λ l. l) (same eqb)
numbers_tests = list_tests number_tests

-- Tables: the members and the entries agree one by one.
abbrev pub same_table : Table → Table → Bool
same_table t u = same eqb t.members u.members && same same_entry t.entries u.entries

pub table_tests : Tests (λ t. t) same_table
table_tests = tests_equality only self
  where
    entries : Tests (λ l. l) (same same_entry)
    entries = list_tests entry_tests

    only : (t u : Table) → same_table t u ≡ true → t ≡ u
    only t u e =
        let (p, q) = both (same eqb t.members u.members) e in
        λ i. record { members = numbers_tests.alike_same t.members u.members p i; entries = entries.alike_same t.entries u.entries q i }

    self : (t : Table) → same_table t t ≡ true
    self t = join (numbers_tests.same_alike t.members t.members refl) (entries.same_alike t.entries t.entries refl)

-- Rows of a sheet: the beds agree.
pub beds_tests : Tests (λ (w : Row). w.beds) same_beds
beds_tests = record {
  alike_same = λ v w. numbers_tests.alike_same v.beds w.beds;
  same_alike = λ v w. numbers_tests.same_alike v.beds w.beds;
}
