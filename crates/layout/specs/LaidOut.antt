-- The layout of a file, line by line: what each of its parts says makes the tree, and where one part is missing there is none.
use Rattle.std.specs.Prelude.{◌≡◌, refl, take, drop, ◌≤◌}
use Rattle.std.proofs.Common.{sym, ap, ◌∙◌, take-append-drop, ◌∷◌, ◌++◌}
use Rattle.std.proofs.lemmas.List.{append_cancel_right}
use Rattle.std.proofs.Math.Option.{none-ne-some, some-injective}
use Rattle.std.specs.Prelude as Code
use Rattle.definitions.specs.Basics.{ℕ, Option, none, some, bind, List, [], length, flatten, drop_last}
use Rattle.definitions.specs.Syntax as Said
use Rattle.definitions.specs.Layout.{many, whole, lines, region_line, patient_line, table_line, end_line, region_lines, layout}
use Rattle.theorems.specs.Lines.{flatten_lines}
use Rattle.lists.specs.Maps.{flatten_append, drop_last_lem}
use Rattle.held_region.specs.HeldFrom.{HeldPatients, TablesHeld}
use Rattle.table_reader.specs.TableReading.{Found, Holding}
use Rattle.layout.specs.declared.Laid.{Laid}
use Rattle.layout.specs.TableLines.{stored_entries}

-- What is held of a laid_out file: everything it says but for what has no place, and what the sum is taken over.
pub record LaidThere (s : List ℕ) (r : Laid) (before after : List ℕ) : Type 0 where
  pub tree : Said.Region
  pub says : layout s ≡ some tree
  pub patient_count : r.v ≡ tree.patient_count
  pub table_count : r.t ≡ tree.table_count
  pub plans_wanted : r.m ≡ tree.plans_wanted
  pub stated_sum : r.sum ≡ tree.stated_sum
  pub patients_counted : r.patients.count ≡ length tree.patients
  pub patients_held : HeldPatients r.patients.first tree.patients
  pub tables_counted : r.tables.count ≡ length tree.tables
  pub tables_held : TablesHeld r.tables.first tree.tables
  pub stored : length before ≡ 4096 → Holding after (stored_entries tree.tables)
  pub body : flatten (drop_last (lines s)) ≡ take r.end s
  pub within : r.end ≤ length s

abbrev pub LaidOut : List ℕ → Code.Option Laid → List ℕ → List ℕ → Type 0
LaidOut s r before after = Found r (λ laid. LaidThere s laid before after) (layout s ≡ none)

-- The tree of what the lines say.
abbrev pub tree_of : ℕ × ℕ × ℕ → List Said.Patient → List Said.Table → ℕ → Said.Region
tree_of head patients tables n =
    record { patient_count = head.0; table_count = head.1; plans_wanted = head.2; patients = patients; tables = tables; stated_sum = n }

module _ (s : List ℕ) {first : List ℕ} {after : List (List ℕ)} (split : lines s ≡ first ∷ after) where
  pub no_head : whole region_line first ≡ none → layout s ≡ none
  unfolding layout region_lines bind
  no_head e = rw (split, e)

  module _ {head : ℕ × ℕ × ℕ} (h : whole region_line first ≡ some head)
      {patients : List Said.Patient} {below : List (List ℕ)} (p : many (whole patient_line) after ≡ some (patients, below))
      {tables : List Said.Table} {rest : List (List ℕ)} (t : many (whole table_line) below ≡ some (tables, rest)) where
    pub no_last : rest ≡ [] → layout s ≡ none
    unfolding layout region_lines bind
    no_last e = rw (split, h, p, t, e)

    module _ {last : List ℕ} {more : List (List ℕ)} (l : rest ≡ last ∷ more) where
      pub no_end_lem : whole end_line last ≡ none → layout s ≡ none
      unfolding layout region_lines bind
      no_end_lem e = rw (split, h, p, t, l, e)

      module _ {n : ℕ} (e : whole end_line last ≡ some n) where
        pub more_lines : (x : List ℕ) (xs : List (List ℕ)) → more ≡ x ∷ xs → layout s ≡ none
        unfolding layout region_lines bind
        more_lines x xs m = rw (split, h, p, t, l, e, m)

        pub laid_out_lem : more ≡ [] → layout s ≡ some (tree_of head patients tables n)
        unfolding layout region_lines bind
        laid_out_lem m = rw (split, h, p, t, l, e, m)

pub no_lines_lem : (s : List ℕ) → lines s ≡ [] → layout s ≡ none
unfolding layout region_lines bind
no_lines_lem s e = rw e

-- What `many` leaves stands at the end of what it was given.
pub record EndsWith (ls rest : List (List ℕ)) : Type 0 where
  pub front : List (List ℕ)
  pub is : ls ≡ front ++ rest

left_same : {A : Type 0} {a b : A} {r q : List (List ℕ)} → ◌≡◌ {A = Option (A × List (List ℕ))} (some (a, r)) (some (b, q)) → r ≡ q
left_same {a} {b} {r} {q} e = ap (λ p. p.1) (some-injective (a, r) (b, q) e)

pub many_end : {A : Type 0} (f : List ℕ → Option A) (ls : List (List ℕ)) {taken : List A} {rest : List (List ℕ)} → many f ls ≡ some (taken, rest) → EndsWith ls rest
unfolding bind
many_end f [] e = record { front = []; is = left_same e }
many_end {A} f (l ∷ ls) {taken} {rest} e = go (f l) (many f ls) (λ t r e. many_end f ls e) e
  where
    go : (o : Option A) (r : Option (List A × List (List ℕ))) → ((taken : List A) (rest : List (List ℕ)) → r ≡ some (taken, rest) → EndsWith ls rest)
        → ◌≡◌ {A = Option (List A × List (List ℕ))} (elim o [ none ↦ some ([], l ∷ ls) | some a ↦ bind r (λ r. some (a ∷ r.0, r.1)) ]) (some (taken, rest))
        → EndsWith (l ∷ ls) rest
    go none r ih e = record { front = []; is = left_same e }
    go (some a) none ih e = absurd (none-ne-some (taken, rest) e)
    go (some a) (some (bs, more)) ih e =
        let h = ih bs more refl in record { front = l ∷ h.front; is = ap (λ k. l ∷ k) (h.is ∙ ap (λ k. h.front ++ k) (left_same e)) }

-- Where the lines from place q on are one line, the bytes of the lines before it are those before q.
pub body_before : (s : List ℕ) (q : ℕ) {last : List ℕ} → EndsWith (lines s) (last ∷ []) → lines (drop q s) ≡ last ∷ [] → flatten (drop_last (lines s)) ≡ take q s
body_before s q {last} e l =
    ap (λ ls. flatten (drop_last ls)) e.is ∙ ap flatten (drop_last_lem e.front last) ∙ append_cancel_right (flatten e.front) (take q s) (drop q s) (
    ap (λ k. flatten e.front ++ k) (sym (flatten_lines (drop q s)) ∙ ap flatten l)
    ∙ sym (flatten_append e.front (last ∷ []))
    ∙ ap flatten (sym e.is) ∙ flatten_lines s ∙ sym (take-append-drop q s)
    )
