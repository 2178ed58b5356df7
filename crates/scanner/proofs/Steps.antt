-- Reading one byte by its class: a hyphen, or what stands after an item.
use mathlib.Core.Path.{◌≡◌, sym, ap, ◌∙◌}
use mathlib.Core.List.{List}
use mathlib.Core.Option.{some, map}
use Prim.Native.Nat.{ℕ, ◌+◌, ◌<◌}
use native.Mathlib.Omega.{arith}
use lib.ListN.{length, drop}
use lib.Seq.{drop-drop}
use Rattle.definitions.specs.Layout.{Reader, number, hyphen_or_number}
use Rattle.scanner.specs.declared.Class.{Class}
use Rattle.scanner.specs.declared.Class.TheVariants.{Close, Space, Hyphen}
use Rattle.std.specs.Prelude as Code
use Rattle.scanner.specs.declared.ItemStep.TheVariants.{Next, Closed}
use Rattle.scanner.specs.Classes.{first_class}
use Rattle.scanner.specs.Answers.{ReadAt, number_read, entry_read, step_read}
use Rattle.scanner.specs.Separators.{separator, separator_space, separator_close, separator_missing, hyphen_there, hyphen_missing}
use Rattle.scanner.proofs.Classes.{class_within}

module _ (s : List ℕ) (at : ℕ) where
  -- A reader that took one byte.
  one_byte : {A : Type 0} {reader : Reader ℕ A} {a : A} → at < length s → reader (drop at s) ≡ some (a, drop 1 (drop at s)) → ReadAt reader s at (some (a, at + 1))
  one_byte {a = a} h e = record { says = sym (e ∙ ap (λ l. some (a, l)) (drop-drop 1 at s)); ahead = (omega arith, omega arith) }

  pub step_next : first_class (drop at s) ≡ Space → ReadAt separator s at (step_read (Code.Some (Next (at + 1))))
  step_next e = one_byte (class_within s at (λ n. cc) e) (separator_space (drop at s) e)

  pub step_closed : first_class (drop at s) ≡ Close → ReadAt separator s at (step_read (Code.Some (Closed (at + 1))))
  step_closed e = one_byte (class_within s at (λ n. cc) e) (separator_close (drop at s) e)

  pub step_missing : {c : Class} → c ≡ first_class (drop at s) → (c ≡ Space → ⊥) → (c ≡ Close → ⊥) → ReadAt separator s at (step_read Code.None)
  step_missing q no_space no_close = record {
    says = sym (separator_missing (drop at s) (λ e. no_space (q ∙ e)) (λ e. no_close (q ∙ e)));
    ahead = tt;
  }

  pub entry_hyphen : first_class (drop at s) ≡ Hyphen → ReadAt hyphen_or_number s at (entry_read (Code.Some (Code.None, at + 1)))
  entry_hyphen e = one_byte (class_within s at (λ n. cc) e) (hyphen_there (drop at s) e)

  module _ {c : Class} (q : c ≡ first_class (drop at s)) (t : c ≡ Hyphen → ⊥) where
    by_number : hyphen_or_number (drop at s) ≡ map (λ r. (some r.0, r.1)) (number (drop at s))
    by_number = hyphen_missing (drop at s) (λ e. t (q ∙ e))

    pub entry_number : {n : Code.Option (ℕ × ℕ)} {v next : ℕ} → ReadAt number s at (number_read n) → n ≡ Code.Some (v, next) → ReadAt hyphen_or_number s at (entry_read (Code.Some (Code.Some v, next)))
    entry_number r e =
        let m = rw e at r in
        record { says = ap (map (λ r. (some r.0, r.1))) m.says ∙ sym by_number; ahead = m.ahead }

    pub entry_missing : {n : Code.Option (ℕ × ℕ)} → ReadAt number s at (number_read n) → n ≡ Code.None → ReadAt hyphen_or_number s at (entry_read Code.None)
    entry_missing r e =
        let m = rw e at r in
        record { says = ap (map (λ r. (some r.0, r.1))) m.says ∙ sym by_number; ahead = tt }
