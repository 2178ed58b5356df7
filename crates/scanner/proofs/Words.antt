-- Exactly some bytes: they are read where they stand first, and behind others.
use Rattle.std.proofs.Common.{sym, ap, ◌∙◌, arith, ◌≡◌, ◌∷◌, ◌++◌, length-drop, max, eq-eqb, ne_eqb}
use Rattle.std.specs.Prelude.{◌≤◌, ◌<◌, ◌+◌, ◌-◌, min, drop, take}
use Rattle.std.specs.Prelude as Code
use Rattle.std.specs.Bool.{then_some}
use Rattle.std.specs.List.{list_all, zip}
use Rattle.std.proofs.Math.Decide.{ℕ_discrete, dec_le}
use lib.ListN.{drop_of_length-le}
use lib.Seq.{drop-drop, take-length}
use Rattle.definitions.specs.Basics.{ℕ, refl, Bool, true, false, cond, Option, none, some, List, [], length, eqb}
use Rattle.definitions.specs.Layout.{exactly}
use Rattle.scanner.specs.Answers.{ReadAt, Ahead, there, missing, passed}
use Rattle.scanner.specs.Words.{exactly_short, exactly_same, exactly_other, words_there, words_missing}

sooner : (s : List ℕ) {at next : ℕ} → at ≤ next → next ≤ max at (length s) → (o : Option (Unit {0} × ℕ)) → Ahead s next o → Ahead s at o
sooner s l h none a = tt
sooner s l h (some r) a = (omega arith, omega arith)

module _ (ws vs : List ℕ) {s : List ℕ} {at : ℕ} where
  -- What stands behind some bytes is read after them.
  pub then_read : {next : ℕ} {o : Option (Unit {0} × ℕ)} → ReadAt (exactly ws) s at (some (tt, next)) → ReadAt (exactly vs) s next o → ReadAt (exactly (ws ++ vs)) s at o
  then_read {next} {o} a b = record {
    says = b.says ∙ sym (words_there ws vs (drop at s) (there a refl));
    ahead = sooner s a.ahead.0 a.ahead.1 o b.ahead;
  }

  pub then_missing : ReadAt (exactly ws) s at none → ReadAt (exactly (ws ++ vs)) s at none
  then_missing a = record { says = sym (words_missing ws vs (drop at s) (missing a refl)); ahead = tt }

-- Whether a byte is the one asked, with which it makes a pair.
abbrev pub as_asked : ℕ × ℕ → Bool
as_asked p = eqb p.0 p.1

-- Bytes are read where each one that stands there is the one asked, and not where fewer stand.
exactly_all : (ws xs : List ℕ) → length ws ≤ length xs → exactly ws xs ≡ cond (list_all as_asked (zip xs ws)) (some (tt, drop (length ws) xs)) none
exactly_all [] [] l = refl
exactly_all [] (x ∷ xs) l = refl
exactly_all (w ∷ ws) [] l = absurd (omega arith)
exactly_all (w ∷ ws) (x ∷ xs) l = elim (ℕ_discrete w x) [
  | yes e ↦ rw (eq-eqb x w (sym e)) (exactly_same w x ws xs e ∙ exactly_all ws xs (omega arith))
  | no d ↦ rw (ne_eqb x w (λ e. d (sym e))) (exactly_other w x ws xs d)
]

exactly_few : (ws xs : List ℕ) → length xs < length ws → exactly ws xs ≡ none
exactly_few [] xs l = absurd (omega arith)
exactly_few (w ∷ ws) [] l = exactly_short w ws
exactly_few (w ∷ ws) (x ∷ xs) l = elim (ℕ_discrete w x) [
  | yes e ↦ exactly_same w x ws xs e ∙ exactly_few ws xs (omega arith)
  | no d ↦ exactly_other w x ws xs d
]

-- What stands from a place on, of which nothing is left behind the end.
abbrev pub rest_from : List ℕ → ℕ → List ℕ
rest_from s from = take (length s - from) (drop from s)

-- Looking for the bytes there.
module _ (ws s : List ℕ) (at : ℕ) {from : ℕ} (from_is : from ≡ min at (length s)) where
  rest_is : rest_from s from ≡ drop at s
  rest_is =
      let w : rest_from s from ≡ drop from s = rw (← length-drop from s) (take-length (drop from s)) in
      w ∙ elim (dec_le at (length s)) [
        | yes l ↦ ap (λ n. drop n s) (omega arith)
        | no g ↦ drop_of_length-le s (omega arith) ∙ sym (drop_of_length-le s (omega arith))
      ]

  pub bytes_few : length (rest_from s from) < length ws → ReadAt (exactly ws) s at none
  bytes_few l = record { says = sym (exactly_few ws (drop at s) (rw rest_is at l)); ahead = tt }

  module _ (enough : length ws ≤ length (rest_from s from)) where
    by_pairs : {found : Bool} → found ≡ list_all as_asked (zip (rest_from s from) ws) → exactly ws (drop at s) ≡ cond found (some (tt, drop (at + length ws) s)) none
    by_pairs h = rw (h, rest_is, ← drop-drop (length ws) at s) (exactly_all ws (drop at s) (rw rest_is at enough))

    pub bytes_answered : {found : Bool} {answer : Code.Option ℕ} → found ≡ list_all as_asked (zip (rest_from s from) ws) → answer ≡ then_some found (at + length ws)
        → ReadAt (exactly ws) s at (passed answer)
    bytes_answered {found = true} h a =
        let l = rw rest_is at enough in
        rw a (record { says = sym (by_pairs h); ahead = (omega arith, omega (arith, length-drop at s)) })
    bytes_answered {found = false} h a = rw a (record { says = sym (by_pairs h); ahead = tt })
