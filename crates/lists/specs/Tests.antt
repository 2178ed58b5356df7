-- Tests: a conjunction holds where both sides do; two that follow from each other have the same answer.
use Rattle.std.specs.Prelude.{◌≡◌, refl, Bool, true, false, not, ◌&&◌}
use Rattle.std.proofs.Common.{sym, ◌∙◌}
use Rattle.std.proofs.Math.Bool.{and-eq-true_iff}
use Rattle.std.proofs.lemmas.Bool.{not-true, not-false}

pub both : (a : Bool) {b : Bool} → (a && b) ≡ true → (a ≡ true) × (b ≡ true)
both a {b} = (and-eq-true_iff a b).0

pub join : {a b : Bool} → a ≡ true → b ≡ true → (a && b) ≡ true
join {a} {b} h k = (and-eq-true_iff a b).1 (h, k)

pub same_answer : {a b : Bool} → (a ≡ true → b ≡ true) → (b ≡ true → a ≡ true) → a ≡ b
same_answer {a = true} {b} f g = sym (f refl)
same_answer {a = false} {b = true} f g = g refl
same_answer {a = false} {b = false} f g = refl

-- What a test tells of the question that was asked.
pub answered_no : {answer question : Bool} → answer ≡ question → not answer ≡ true → question ≡ false
answered_no {answer} e t = sym e ∙ not-true answer t

pub answered_yes : {answer question : Bool} → answer ≡ question → not answer ≡ false → question ≡ true
answered_yes {answer} e t = sym e ∙ not-false answer t
