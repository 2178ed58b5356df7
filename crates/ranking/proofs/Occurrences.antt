-- The elements of a list that are the first with their key: what is kept, and in which order, where the list is ranked.
use Rattle.std.proofs.Common.{sym, ap, ◌∙◌, inl, inr, arith, ◌≡◌, ◌∷◌}
use Rattle.std.specs.Prelude.{◌⊎◌}
use Rattle.definitions.specs.Basics.{ℕ, zero, suc, refl, Bool, Ordering, List, [], map, length, first_occurrences}
use Rattle.lists.specs.Members.{◌∈◌, here, there, here_or_there, none_in_nil, in_cast}
use Rattle.ranking.specs.Orders.{Order, View, before, equal, after}
use Rattle.ranking.specs.First.{First, Least, Past, first_zero, first_least, first_tail}
use Rattle.ranking.proofs.First.{first_cons}
use Rattle.ranking.specs.Occurrences.{Tests, Seen, kept_if, seen_view, Rows, found, missing}

module _ {A B K : Type 0} {O : Order A} {U : Order B} {row : A → B} {best : B → A} {key : B → K} {P₀ : A → Type 0} {Q : B → Type 0} {alike : B → B → Bool}
    (tests : Tests key alike) (R : Rows O U row best key P₀ Q) where
  -- On the way: P are the things that are left, N the rows that are left.
  record Midway (P : A → Type 0) (N : B → Type 0) (seen : List B) : Type 0 where
    things : (z : A) → P z → P₀ z
    rows : (b : B) → N b → Q b
    left : (b : B) → N b → P (best b)
    gone : (z : A) → P z → N (row z) ⊎ (key (row z) ∈ map key seen)
    new : (b : B) → N b → key b ∈ map key seen → ⊥

  walk_first : {m : ℕ} (P : A → Type 0) (N : B → Type 0) (seen : List B) (l : List A) → Midway P N seen → First O m P l
      → First U (length (first_occurrences alike seen (map row l))) N (first_occurrences alike seen (map row l))
  walk_first P N seen [] M h = first_zero
  walk_first {m = zero} P N seen (x ∷ l) M h = absurd (omega (arith, h.short))
  walk_first {m = suc m} P N seen (x ∷ l) M h = go (seen_view tests (row x) seen)
      (λ M. walk_first (Past O P x) N seen l M (first_tail h))
      (λ M. walk_first (Past O P x) (Past U N (row x)) (row x ∷ seen) l M (first_tail h))
    where
      px : P x
      px = h.sound (here refl)

      -- The best thing of a row that is left, and is not the row of x, comes after x.
      later : (b : B) → N b → (b ≡ row x → ⊥) → O.Lt x (best b)
      later b n differs = elim (first_least h (best b) (M.left b n)) [ inl e ↦ absurd (differs (sym (R.back b (M.rows b n)) ∙ ap row e)) | inr t ↦ t ]

      -- If the row of x is left then x is its best thing, so no smaller row is left.
      none_before_lem : N (row x) → (b : B) → N b → U.Lt b (row x) → ⊥
      none_before_lem v b n t =
          let s = O.trans (later b n (λ e. U.irrefl (rw e at t))) (R.rising b (row x) (M.rows b n) (M.rows (row x) v) t) in
          elim (R.least x (M.things x px)) [ inl e ↦ O.irrefl (rw (← e) at s) | inr q ↦ O.irrefl (O.trans s q) ]

      least : N (row x) → Least U N (row x)
      least v b n = at (U.view b (row x))
        where
          at : {o : Ordering} → View U.Lt b (row x) o → (b ≡ row x) ⊎ U.Lt (row x) b
          at (before t) = absurd (none_before_lem v b n t)
          at (equal e) = inl e
          at (after t) = inr t

      skipped : key (row x) ∈ map key seen → Midway (Past O P x) N seen
      skipped c = record {
        things = λ z p. M.things z p.0;
        rows = M.rows;
        left = λ b n. (M.left b n, later b n (λ e. M.new b n (in_cast (ap key e) c)));
        gone = λ z p. M.gone z p.0;
        new = M.new;
      }

      taken : N (row x) → Midway (Past O P x) (Past U N (row x)) (row x ∷ seen)
      taken v = record {
        things = λ z p. M.things z p.0;
        rows = λ b n. M.rows b n.0;
        left = λ b n. (M.left b n.0, later b n.0 (λ e. U.irrefl (rw e at n.1)));
        gone = λ z p. elim (M.gone z p.0) [
          | inl n ↦ elim (least v (row z) n) [ inl e ↦ inr (here (ap key e)) | inr t ↦ inl (n, t) ]
          | inr k ↦ inr (there k)
        ];
        new = λ b n k. elim (here_or_there k) [
          | inl e ↦ U.irrefl (rw (R.one b (row x) (M.rows b n.0) (M.rows (row x) v) e) at n.1)
          | inr t ↦ M.new b n.0 t
        ];
      }

      go : {c : Bool} {s t : List B} → Seen key (row x) seen c → (Midway (Past O P x) N seen → First U (length s) N s)
          → (Midway (Past O P x) (Past U N (row x)) (row x ∷ seen) → First U (length t) (Past U N (row x)) t)
          → First U (length (kept_if c (row x) s t)) N (kept_if c (row x) s t)
      go (found k) skip take = skip (skipped k)
      go (missing n) skip take = let v : N (row x) = elim (M.gone x px) [ inl v ↦ v | inr k ↦ absurd (n k) ] in first_cons v (least v) (take (taken v))

  -- Along the first m things, the rows that come up first are the first rows.
  pub rows_first : {m : ℕ} {l : List A} → First O m P₀ l → First U (length (first_occurrences alike [] (map row l))) Q (first_occurrences alike [] (map row l))
  rows_first {l} h = walk_first P₀ Q [] l
      (record { things = λ z p. p; rows = λ b q. q; left = R.things; gone = λ z p. inl (R.rows z p); new = λ b q k. none_in_nil k }) h
