-- Tables behind tables, and their entries behind entries in one store.
use Rattle.std.specs.Prelude.{◌≡◌, ◌≤◌}
use Rattle.std.proofs.Math.Path.{refl, sym, ap, ap₂}
use Rattle.std.proofs.Common.{◌∙◌, zero-add, add-zero, length-append, get_or-append-add, length-take-le, get_or-take, ◌+◌, ◌-◌, ◌<◌, ◌∷◌, ◌++◌}
use Rattle.std.proofs.Math.Decide.{dec_lt}
use native.Mathlib.Omega.{arith}
use Rattle.std.proofs.lemmas.List.{length-map}
use Rattle.std.proofs.Math.ListN.{get_or-append, get_or-map}
use Rattle.definitions.specs.Basics.{ℕ, zero, suc, none, List, [], map, length, get_or, take}
use Rattle.definitions.specs.Syntax.{Table}
use Rattle.definitions.specs.Questions.{entries_of}
use Rattle.definitions.specs.Joining.{table_after}
use Rattle.held_region.specs.Meaning.{said_by}
use Rattle.held_region.specs.HeldFrom.{no_table_said}
use Rattle.held_region.specs.Stores.{at, start_of, start_next, start_all, start_most, SaysEntries}

pub entries_behind : (ts us : List Table) → entries_of (ts ++ us) ≡ entries_of ts + entries_of us
entries_behind [] us = sym (zero-add (entries_of us))
entries_behind (t ∷ ts) us = omega (arith, entries_behind ts us)

-- ---- where a table's entries begin

module _ (ts us : List Table) where
  pub at_front : (i : ℕ) → i < length ts → at (ts ++ us) i ≡ at ts i
  at_front i l = get_or-append ts us no_table_said i l

  pub at_behind : (j : ℕ) → at (ts ++ us) (length ts + j) ≡ at us j
  at_behind j = get_or-append-add ts us j no_table_said

  start_front : (i : ℕ) → i ≤ length ts → start_of (ts ++ us) i ≡ start_of ts i
  start_front zero l = unfold start_of in refl
  start_front (suc i) l =
      start_next (ts ++ us) i
      ∙ ap₂ (λ a b. a + b) (start_front i (omega arith)) (ap (λ t. length t.entries) (at_front i (omega arith)))
      ∙ sym (start_next ts i)

  start_behind : (j : ℕ) → start_of (ts ++ us) (length ts + j) ≡ entries_of ts + start_of us j
  start_behind zero = ap (start_of (ts ++ us)) (add-zero (length ts)) ∙ start_front (length ts) (omega arith) ∙ start_all ts ∙ unfold start_of in sym (add-zero (entries_of ts))
  start_behind (suc j) =
      let next : length ts + suc j ≡ suc (length ts + j) = omega arith in
      ap (start_of (ts ++ us)) next ∙ start_next (ts ++ us) (length ts + j)
      ∙ omega (arith, start_behind j, ap (λ t. length t.entries) (at_behind j), start_next us j)

  -- ---- the store

  module _ (store other : List ℕ) (room : entries_of ts ≤ length store) (first : SaysEntries store ts) (second : SaysEntries other us) where
    abbrev together : List ℕ
    together = take (entries_of ts) store ++ other

    -- The first of this store say the entries of the first tables, and those behind them the entries of the others.
    says_front : (i q : ℕ) → i < length ts → q < length (at (ts ++ us) i).entries → said_by (get_or together (start_of (ts ++ us) i + q) 0) ≡ get_or (at (ts ++ us) i).entries q none
    says_front i q l m =
        let same = at_front i l in
        let own : q < length (at ts i).entries = omega (arith, ap (λ t. length t.entries) same) in
        let inside : start_of ts i + q < entries_of ts = omega (arith, start_next ts i, start_most ts (suc i)) in
        ap (λ n. said_by (get_or together (n + q) 0)) (start_front i (omega arith))
        ∙ ap said_by (get_or-append (take (entries_of ts) store) other 0 (start_of ts i + q) (omega (arith, length-take-le (entries_of ts) store room)) ∙ get_or-take (entries_of ts) store (start_of ts i + q) 0 inside)
        ∙ first i q l own
        ∙ ap (λ t. get_or t.entries q none) (sym same)

    says_behind : (j q : ℕ) → j < length us → q < length (at (ts ++ us) (length ts + j)).entries
        → said_by (get_or together (start_of (ts ++ us) (length ts + j) + q) 0) ≡ get_or (at (ts ++ us) (length ts + j)).entries q none
    says_behind j q l m =
        let same = at_behind j in
        let own : q < length (at us j).entries = omega (arith, ap (λ t. length t.entries) same) in
        let behind : start_of (ts ++ us) (length ts + j) + q ≡ length (take (entries_of ts) store) + (start_of us j + q) = omega (arith, start_behind j, length-take-le (entries_of ts) store room) in
        ap (λ n. said_by (get_or together n 0)) behind
        ∙ ap said_by (get_or-append-add (take (entries_of ts) store) other (start_of us j + q) 0)
        ∙ second j q l own
        ∙ ap (λ t. get_or t.entries q none) (sym same)

    pub says_together : SaysEntries together (ts ++ us)
    says_together i q l m = elim (dec_lt i (length ts)) [
      | yes h ↦ says_front i q h m
      | no h ↦ (let is : length ts + (i - length ts) ≡ i = omega arith in
          rw is at (says_behind (i - length ts) q (omega (arith, length-append ts us)) (rw is m)))
    ]

-- ---- moved tables

module _ (v : ℕ) (us : List Table) where
  pub at_moved : (j : ℕ) → at (map (table_after v) us) j ≡ table_after v (at us j)
  at_moved j = get_or-map (table_after v) us j no_table_said

  start_moved : (j : ℕ) → start_of (map (table_after v) us) j ≡ start_of us j
  start_moved zero = unfold start_of in refl
  start_moved (suc j) =
      start_next (map (table_after v) us) j
      ∙ ap₂ (λ a b. a + b) (start_moved j) (ap (λ t. length t.entries) (at_moved j))
      ∙ sym (start_next us j)

  -- They have the entries that they had.
  pub entries_moved : entries_of (map (table_after v) us) ≡ entries_of us
  entries_moved = go us
    where
      go : (l : List Table) → entries_of (map (table_after v) l) ≡ entries_of l
      go [] = refl
      go (t ∷ l) = ap (λ n. length t.entries + n) (go l)

  pub says_moved : (other : List ℕ) → SaysEntries other us → SaysEntries other (map (table_after v) us)
  says_moved other says i q l m =
      ap (λ n. said_by (get_or other (n + q) 0)) (start_moved i)
      ∙ says i q (omega (arith, length-map us (table_after v))) (omega (arith, ap (λ t. length t.entries) (at_moved i)))
      ∙ ap (λ t. get_or t.entries q none) (sym (at_moved i))
