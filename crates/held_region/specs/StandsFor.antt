-- A region that stands for another where questions 5 to 10 are asked.
use Rattle.std.specs.Prelude.{◌≡◌, refl}
use Rattle.std.proofs.Common.{ap, ◌∙◌, arith, ltb-true, ◌∷◌}
use Rattle.std.proofs.Math.Bool.{and-eq-true_iff}
use Rattle.definitions.specs.Basics.{ℕ, Bool, true, false, [], ltb, every}
use Rattle.definitions.specs.Syntax as Said
use Rattle.definitions.specs.Questions.{Asked, first_no}
use Rattle.held_region.specs.Refusals.{asked, last_asked}

-- What is held stands for what is said: the questions from the fifth on have the same first no, and where there is none, the two are the same.
-- (More patients, tables, members or entries may be said than have places; questions 5, 7 and 8 refuse them then.)
pub record StandsFor (parents : Bool) (held said : Said.Region) : Type 0 where
  pub asks : first_no (asked parents held) ≡ first_no (asked parents said)
  pub says : first_no (asked parents said) ≡ 0 → held ≡ said

pub stands_through : {parents : Bool} {a b c : Said.Region} → StandsFor parents a b → StandsFor parents b c → StandsFor parents a c
stands_through ab bc = record { asks = ab.asks ∙ bc.asks; says = λ none_no. ab.says (bc.asks ∙ none_no) ∙ bc.says none_no }

-- Two lists of questions, where each has the same answer in both as long as all before it are answered yes.
pub data Alike : Asked → Asked → Type 0 where
  same_left : {these those : Asked} → these ≡ those → Alike these those
  one_asked : {q : ℕ} {a b : Bool} {these those : Asked} → a ≡ b → (b ≡ true → Alike these those) → Alike ((q, a) ∷ these) ((q, b) ∷ those)

pub same_first : {these those : Asked} → Alike these those → first_no these ≡ first_no those
same_first (same_left e) = ap first_no e
same_first (one_asked {q} {a} {b} {these} {those} same later) = ap (λ x. first_no ((q, x) ∷ these)) same ∙ go b (λ t. same_first (later t))
  where
    go : (x : Bool) → (x ≡ true → first_no these ≡ first_no those) → first_no ((q, x) ∷ these) ≡ first_no ((q, x) ∷ those)
    go true rest = rest refl
    go false rest = refl

-- A list of questions that are all answered yes. Where the first no is 0, they are: no question has that number.
abbrev pub AllYes : Asked → Type 0
AllYes [] = Unit
AllYes ((q, answer) ∷ rest) = (answer ≡ true) × AllYes rest

all_yes_lem : (asked : Asked) → every (λ a. ltb 0 a.0) asked ≡ true → first_no asked ≡ 0 → AllYes asked
all_yes_lem [] numbered none_no = tt
all_yes_lem ((q, true) ∷ rest) numbered none_no = (refl, all_yes_lem rest ((and-eq-true_iff (ltb 0 q) _).0 numbered).1 none_no)
all_yes_lem ((q, false) ∷ rest) numbered none_no = absurd (omega (arith, ltb-true 0 q ((and-eq-true_iff (ltb 0 q) _).0 numbered).0))

pub asked_yes : (parents : Bool) (r : Said.Region) → first_no (asked parents r) ≡ 0 → AllYes (asked parents r)
unfolding asked last_asked
asked_yes true r none_no = all_yes_lem (asked true r) refl none_no
asked_yes false r none_no = all_yes_lem (asked false r) refl none_no
