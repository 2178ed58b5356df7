-- Laws of sums of which some entries may be forbidden, and of plans with one more bed.
use Rattle.std.specs.Prelude.{◌≡◌, refl, ◌≤◌, set}
use Rattle.std.proofs.Common.{sym, ap, arith, get_or-set_same, get_or-set_other, ne_eqb, eqb-true, lt-ltb, le-ltb, ◌<◌}
use Rattle.std.proofs.lemmas.Bool.{eqb-false}
use Rattle.definitions.specs.Basics.{ℕ, Bool, true, false, cond, Option, none, some, length, eqb}
use Rattle.definitions.specs.Syntax.{Region, patient_at}
use Rattle.definitions.specs.Plans.{Plan, bed_of}
use Rattle.held_region.specs.Meaning.{mark, code_of, said_by}
use Rattle.buckets.specs.Terms.{Fitting}
use Rattle.pricing.specs.Pricing.{no_sum, sum_in}

-- A code that is not the mark is a number; a word is a sum or no number.
pub entry_number : (e : ℕ) → (e ≡ mark → ⊥) → said_by e ≡ some e
entry_number e other = ap (λ b. cond b none (some e)) (ne_eqb e mark other)

pub sum_number : (w : ℕ) → w < no_sum → sum_in w ≡ some w
sum_number w h = ap (λ b. cond b (some w) none) (lt-ltb w no_sum h)

pub sum_none : (w : ℕ) → no_sum ≤ w → sum_in w ≡ none
sum_none w h = ap (λ b. cond b (some w) none) (le-ltb w no_sum h)

-- The code of an entry that a table may have.
pub entry_known : (o : Option ℕ) → ((n : ℕ) → o ≡ some n → n ≤ 1_000_000) → said_by (code_of o) ≡ o
entry_known none small = refl
entry_known (some n) small = entry_number n (λ e. omega (arith, small n refl))

-- A plan that fits still fits with another bed below its patient's count.
pub fitting_set : (r : Region) (beds : Plan) (s bed : ℕ) → s < length beds → Fitting r beds → bed < (patient_at r s).bed_count → Fitting r (set beds s bed)
fitting_set r beds s bed inside fits h q l = go (eqb s q) refl
  where
    go : (b : Bool) → eqb s q ≡ b → bed_of (set beds s bed) q < (patient_at r q).bed_count
    go true e = rw (← eqb-true s q e, get_or-set_same beds s bed 0 inside) h
    go false e = rw (get_or-set_other beds s q bed 0 (λ z. eqb-false s q e (sym z))) (fits q l)
