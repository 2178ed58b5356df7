-- The least number of a part of the store, and what it is of a table's entries.
use Rattle.std.proofs.Math.Path.{sym, ap}
use Rattle.std.proofs.Common.{ap₂, ◌∙◌, arith, ltb-true, lt-ltb, le-ltb, eq-eqb, ne_eqb, ◌+◌, ◌-◌, ◌<◌, ◌≡◌, ◌∷◌}
use Rattle.std.proofs.Math.Bool.{and-eq-true_iff}
use Rattle.std.specs.Prelude.{◌≤◌}
use Rattle.std.proofs.Math.Decide.{dec_lt}
use Rattle.definitions.specs.Basics.{ℕ, suc, refl, min, Bool, true, false, cond, Option, none, some, option_get_or, none_or, List, [], map, length, get_or, ltb, eqb, numbers_from, every}
use Rattle.partial_rows.specs.Bounds.{smaller, least_of}
use Rattle.held_region.specs.Meaning.{mark, code_of}
use Rattle.lists.specs.Loops.{places_from, places_next, places_done}

-- The least of a number and some others.
unfoldable pub lowest : ℕ → List ℕ → ℕ
lowest n [] = n
lowest n (c ∷ codes) = lowest (cond (ltb c n) c n) codes

unfoldable pub codes_in : List ℕ → ℕ → ℕ → List ℕ
codes_in store from to = map (λ i. get_or store i 0) (places_from to from)

-- The mark is above every number: where it is the least there is no number.
abbrev pub number_or0 : ℕ → ℕ
number_or0 code = cond (eqb code mark) 0 code

unfoldable pub least_number : List ℕ → ℕ → ℕ → ℕ
least_number store from to = number_or0 (lowest mark (codes_in store from to))

-- A loop over a part of the store, at place i: a lower code, one that is not, and the end.
module _ (store : List ℕ) (to least i : ℕ) {n : ℕ} (asked : lowest least (codes_in store i to) ≡ n) where
  one_code : i < to → (b : Bool) → ltb (get_or store i 0) least ≡ b → lowest (cond b (get_or store i 0) least) (codes_in store (i + 1) to) ≡ n
  unfolding lowest codes_in
  one_code h b e =
      ap (λ x. lowest (cond x (get_or store i 0) least) (codes_in store (i + 1) to)) (sym e)
      ∙ ap (λ l. lowest least (map (λ j. get_or store j 0) l)) (sym (places_next to i h)) ∙ asked

  pub code_lower : i < to → get_or store i 0 < least → lowest (get_or store i 0) (codes_in store (i + 1) to) ≡ n
  code_lower h l = one_code h true (lt-ltb _ _ l)

  pub code_kept : i < to → least ≤ get_or store i 0 → lowest least (codes_in store (i + 1) to) ≡ n
  code_kept h l = one_code h false (le-ltb _ _ l)

  pub codes_done : to ≤ i → least ≡ n
  unfolding lowest codes_in
  codes_done h = ap (λ l. lowest least (map (λ j. get_or store j 0) l)) (sym (places_done to i h)) ∙ asked

module _ (store : List ℕ) (from to least : ℕ) (is : least ≡ lowest mark (codes_in store from to)) where
  pub none_found : least ≡ mark → 0 ≡ least_number store from to
  unfolding least_number
  none_found e = sym (ap (λ b. cond b 0 (lowest mark (codes_in store from to))) (eq-eqb _ _ (sym is ∙ e)))

  pub number_found : (least ≡ mark → ⊥) → least ≡ least_number store from to
  unfolding least_number
  number_found e = is ∙ sym (ap (λ b. cond b 0 (lowest mark (codes_in store from to))) (ne_eqb _ _ (λ q. e (is ∙ q))))

-- ---- of a table's entries

-- The code of the smaller of two entries, none of which is as large as the mark.
smaller_code : (o e : Option ℕ) → none_or (λ n. ltb n mark) o ≡ true → none_or (λ n. ltb n mark) e ≡ true
    → cond (ltb (code_of e) (code_of o)) (code_of e) (code_of o) ≡ code_of (smaller o e)
smaller_code none none a b = ap (λ x. cond x mark mark) (le-ltb mark mark (omega arith))
smaller_code none (some y) a b = ap (λ x. cond x y mark) b
smaller_code (some x) none a b = ap (λ t. cond t mark x) (le-ltb mark x (omega (arith, ltb-true x mark a)))
smaller_code (some x) (some y) a b = go (dec_lt y x)
  where
    go : Dec (y < x) → cond (ltb y x) y x ≡ min x y
    go (yes l) = ap (λ t. cond t y x) (lt-ltb y x l) ∙ omega arith
    go (no l) = ap (λ t. cond t y x) (le-ltb y x (omega arith)) ∙ omega arith

smaller_small : (o e : Option ℕ) → none_or (λ n. ltb n mark) o ≡ true → none_or (λ n. ltb n mark) e ≡ true → none_or (λ n. ltb n mark) (smaller o e) ≡ true
smaller_small none e a b = b
smaller_small (some x) none a b = a
smaller_small (some x) (some y) a b = lt-ltb (min x y) mark (omega (arith, ltb-true x mark a))

smaller_assoc : (a b c : Option ℕ) → smaller (smaller a b) c ≡ smaller a (smaller b c)
smaller_assoc none b c = refl
smaller_assoc (some x) none c = refl
smaller_assoc (some x) (some y) none = refl
smaller_assoc (some x) (some y) (some z) = ap some (omega arith)

smaller_none : (o : Option ℕ) → smaller o none ≡ o
smaller_none none = refl
smaller_none (some x) = refl

lowest_code : (o : Option ℕ) (es : List (Option ℕ)) → none_or (λ n. ltb n mark) o ≡ true → every (none_or (λ n. ltb n mark)) es ≡ true
    → lowest (code_of o) (map code_of es) ≡ code_of (smaller o (least_of es))
unfolding lowest
lowest_code o [] a all = ap code_of (sym (smaller_none o))
lowest_code o (e ∷ es) a all =
    let parts = (and-eq-true_iff (none_or (λ n. ltb n mark) e) _).0 all in
    ap (λ n. lowest n (map code_of es)) (smaller_code o e a parts.0)
    ∙ lowest_code (smaller o e) es (smaller_small o e a parts.0) parts.1
    ∙ ap code_of (smaller_assoc o e (least_of es))

least_small : (es : List (Option ℕ)) → every (none_or (λ n. ltb n mark)) es ≡ true → none_or (λ n. ltb n mark) (least_of es) ≡ true
least_small [] all = refl
least_small (e ∷ es) all =
    let parts = (and-eq-true_iff (none_or (λ n. ltb n mark) e) _).0 all in
    smaller_small e (least_of es) parts.0 (least_small es parts.1)

code_number : (o : Option ℕ) → none_or (λ n. ltb n mark) o ≡ true → number_or0 (code_of o) ≡ option_get_or o 0
code_number none a = ap (λ b. cond b 0 mark) (eq-eqb mark mark refl)
code_number (some x) a = ap (λ b. cond b 0 x) (ne_eqb x mark (λ e. omega (arith, ltb-true x mark a)))

-- A part of the store that has the codes of some entries.
codes_from_lem : (store : List ℕ) (from : ℕ) (es : List (Option ℕ)) → ((q : ℕ) → q < length es → get_or store (from + q) 0 ≡ code_of (get_or es q none))
    → map (λ i. get_or store i 0) (numbers_from from (length es)) ≡ map code_of es
codes_from_lem store from [] same = refl
codes_from_lem store from (e ∷ es) same =
    ap₂ (λ x xs. x ∷ xs) (ap (λ i. get_or store i 0) (omega arith) ∙ same 0 (omega arith))
    (codes_from_lem store (suc from) es (λ q h. ap (λ i. get_or store i 0) (omega arith) ∙ same (suc q) (omega arith)))

pub least_of_entries : (store : List ℕ) (from : ℕ) (es : List (Option ℕ)) → ((q : ℕ) → q < length es → get_or store (from + q) 0 ≡ code_of (get_or es q none))
    → every (none_or (λ n. ltb n mark)) es ≡ true → least_number store from (from + length es) ≡ option_get_or (least_of es) 0
unfolding least_number codes_in places_from
least_of_entries store from es same all =
    let count : (from + length es) - from ≡ length es = omega arith in
    ap (λ n. number_or0 (lowest mark (map (λ i. get_or store i 0) (numbers_from from n)))) count
    ∙ ap (λ l. number_or0 (lowest mark l)) (codes_from_lem store from es same)
    ∙ ap number_or0 (lowest_code none es refl all)
    ∙ code_number (least_of es) (least_small es all)
