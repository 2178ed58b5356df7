-- What the questions put to a file come to, one after the other, and what is held of a file that passes the first four.
use mathlib.Core.Path.{◌≡◌, refl, sym, ap, ◌∙◌}
use mathlib.Core.Bool.{and-false}
use mathlib.Core.Option.{some-injective}
use native.Mathlib.Omega.{arith}
use Prim.Native.Nat.{◌≤◌}
use borrow.Author.Tests.{leb-true, ltb-true, lt-ltb, eqb-true, eq-eqb, ne_eqb}
use lib.ListN.{length-take}
use Rattle.std.specs.Prelude.{◌&&◌, ◌∷◌, ◌++◌}
use Rattle.std.specs.Prelude as Code
use Rattle.std.specs.Option.{ok_or}
use Rattle.definitions.specs.Basics.{ℕ, Bool, true, false, not, Option, none, some, List, [], length, take, eqb, leb, ltb, every, none_or, is_some, is_empty, flatten, drop_last}
use Rattle.definitions.specs.Limits.{file_length, limits, within}
use Rattle.definitions.specs.Syntax as Said
use Rattle.definitions.specs.Layout.{lines, layout}
use Rattle.definitions.specs.Spelling.{spellable}
use Rattle.definitions.specs.Questions.{first_no, asked_of_file, short_enough, laid_out, counts_true, sum_true, checksum, region_of, Asked}
use Rattle.lists.specs.Tests.{both, join}
use Rattle.lists.specs.Every.{every_weaken}
use Rattle.theorems.specs.Accepted.{region_said_lem}
use Rattle.theorems.specs.Items.{some_all}
use Rattle.theorems.specs.Forms.{ok_table}
use Rattle.theorems.specs.Files.{well_formed_lines}
use Rattle.theorems.proofs.Spelling.{layout_spelling, body_spelt}
use Rattle.line_reader.specs.Forms.{number_unmarked}
use Rattle.held_region.specs.Meaning.{mark, said}
use Rattle.held_region.specs.declared.Region.{Region}
use Rattle.held_region.specs.declared.Refusal.{Refusal}
use Rattle.held_region.specs.declared.Refusal.TheVariants.{TooLong, Layout, Counts, Sum, Limits, Patients, Members, EntryCounts, Entries, Ancestors}
use Rattle.held_region.specs.Refusals.{question_of, number_of, asked}
use Rattle.held_region.specs.HeldFrom.{unmarked, HeldFrom}
use Rattle.held_region.specs.Faithful.{stands_for}
use Rattle.reader.proofs.StoredEntries.{stands_held}
use Rattle.layout.specs.declared.Laid.{Laid}
use Rattle.layout.specs.LaidOut.{LaidThere, LaidOut}
use Rattle.reader.specs.Loading.{FileRead, LoadedFrom, region_held}

-- ---- the first four questions

module _ (s : List ℕ) where
  pub read_too_long : short_enough s ≡ false → 1 ≡ first_no (asked_of_file s)
  read_too_long h = rw h

  module _ (short : short_enough s ≡ true) where
    pub read_no_layout : layout s ≡ none → 2 ≡ first_no (asked_of_file s)
    unfolding laid_out
    read_no_layout e = rw (short, e)

    module _ {tree : Said.Region} (says : layout s ≡ some tree) where
      laid : laid_out s ≡ true
      unfolding laid_out
      laid = ap is_some says

      pub file_says : region_of s ≡ tree
      file_says = some-injective (region_of s) tree (sym (region_said_lem s laid) ∙ says)

      pub read_counts : counts_true tree ≡ false → 3 ≡ first_no (asked_of_file s)
      read_counts e = rw (short, laid, file_says, e)

      module _ (counted : counts_true tree ≡ true) where
        pub read_sum : sum_true s tree ≡ false → 4 ≡ first_no (asked_of_file s)
        read_sum e = rw (short, laid, file_says, counted, e)

        pub read_all : sum_true s tree ≡ true → 0 ≡ first_no (asked_of_file s)
        read_all e = rw (short, laid, file_says, counted, e)

-- ---- what is held

-- No entry of a file is the mark.
entry_unmarked : (o : Option ℕ) → none_or spellable o ≡ true → none_or (λ e. ltb e mark) o ≡ true
entry_unmarked none h = refl
entry_unmarked (some e) h = lt-ltb e mark (number_unmarked e h)

table_unmarked : (t : Said.Table) → ok_table t ≡ true → unmarked t ≡ true
table_unmarked t h =
    let entries = (both (not (is_empty t.entries)) (both (some_all spellable t.members) h).1).1 in
    every_weaken (none_or spellable) (none_or (λ e. ltb e mark)) entry_unmarked t.entries entries

module _ {s : List ℕ} {laid : Laid} {before after : List ℕ} (l : LaidThere s laid before after) (wide : length before ≡ 4096) (counted : counts_true l.tree ≡ true) where
  held_from : sum_true s l.tree ≡ true → HeldFrom (region_held laid) after l.tree
  unfolding sum_true
  held_from summed = record {
    patient_count = l.patient_count;
    table_count = l.table_count;
    plans_wanted = l.plans_wanted;
    counted = counted;
    summed = eqb-true _ _ summed ∙ ap checksum (body_spelt s l.tree l.says);
    patients = l.patients_held;
    tables = l.tables_held;
    entries = stands_held after l.tree.tables (l.stored wide);
    unmarked = every_weaken ok_table unmarked table_unmarked l.tree.tables (well_formed_lines l.tree ((layout_spelling s l.tree).0 l.says).0).tables;
  }

-- ---- what is read

refused_with : {s store : List ℕ} {q : Refusal} → question_of q ≡ first_no (asked_of_file s) → FileRead s (Code.Err q) store
refused_with n = record { number = n; held = λ e. absurd cc; wide = λ e. absurd cc }

pub too_long : {s store : List ℕ} → short_enough s ≡ false → FileRead s (Code.Err TooLong) store
too_long {s} h = refused_with (read_too_long s h)

-- What was laid out, where the reading goes on with a result.
not_laid_out : (o : Code.Option Laid) {q : Refusal} → ok_or o Layout ≡ Code.Err q → (o ≡ Code.None) × (Layout ≡ q)
not_laid_out Code.None e = (refl, cc)
not_laid_out (Code.Some laid) e = absurd cc

laid_out_there : (o : Code.Option Laid) {laid : Laid} → ok_or o Layout ≡ Code.Ok laid → o ≡ Code.Some laid
laid_out_there Code.None e = absurd cc
laid_out_there (Code.Some laid) e = cc

-- A conjunction fails where one side does.
left_fails : (a b : ℕ) (c : Bool) → (a ≡ b → ⊥) → (eqb a b && c) ≡ false
left_fails a b c n = ap (λ x. x && c) (ne_eqb a b n)

module _ {s : List ℕ} (h : short_enough s ≡ true) {o : Code.Option Laid} {before after : List ℕ} (l : LaidOut s o before after) where
  pub no_layout : {q : Refusal} → ok_or o Layout ≡ Code.Err q → FileRead s (Code.Err q) after
  no_layout e = let (missing, refusal) = not_laid_out o e in rw (← refusal) (refused_with (read_no_layout s h (l.missing missing)))

  module _ {laid : Laid} (found : ok_or o Layout ≡ Code.Ok laid) where
    pub this : LaidThere s laid before after
    this = l.there laid (laid_out_there o found)

    -- What the sum goes over is no longer than the file.
    pub sum_short : length (take laid.end s) ≤ (limits file_length).highest
    unfolding short_enough within
    sum_short = omega (arith, length-take laid.end s, leb-true (length s) (limits file_length).highest (both (leb (limits file_length).lowest (length s)) h).1)

    counts_said : (laid.patients.count ≡ laid.v) → (laid.tables.count ≡ laid.t) → counts_true this.tree ≡ true
    unfolding counts_true
    counts_said p t = join (eq-eqb _ _ (sym this.patients_counted ∙ p ∙ this.patient_count)) (eq-eqb _ _ (sym this.tables_counted ∙ t ∙ this.table_count))

    pub wrong_patients : (laid.patients.count ≡ laid.v → ⊥) → FileRead s (Code.Err Counts) after
    unfolding counts_true
    wrong_patients n = refused_with (read_counts s h this.says (left_fails _ _ _ (λ k. n (this.patients_counted ∙ k ∙ sym this.patient_count))))

    pub wrong_tables : (laid.tables.count ≡ laid.t → ⊥) → FileRead s (Code.Err Counts) after
    unfolding counts_true
    wrong_tables n = refused_with (read_counts s h this.says
        (ap (λ b. eqb (length this.tree.patients) this.tree.patient_count && b) (ne_eqb _ _ (λ k. n (this.tables_counted ∙ k ∙ sym this.table_count)))
        ∙ and-false (eqb (length this.tree.patients) this.tree.patient_count)))

    module _ (p : laid.patients.count ≡ laid.v) (t : laid.tables.count ≡ laid.t) {sum : ℕ} (is : sum ≡ checksum (take laid.end s)) where
      true_sum : sum ≡ checksum (flatten (drop_last (lines s)))
      true_sum = is ∙ ap checksum (sym this.body)

      pub wrong_sum : (sum ≡ laid.sum → ⊥) → FileRead s (Code.Err Sum) after
      unfolding sum_true
      wrong_sum n = refused_with (read_sum s h this.says (counts_said p t) (ne_eqb _ _ (λ k. n (true_sum ∙ sym k ∙ sym this.stated_sum))))

      pub read_fine : length before ≡ 4096 → sum ≡ laid.sum → FileRead s (Code.Ok (region_held laid)) after
      unfolding sum_true
      read_fine wide same =
          let counted = counts_said p t in
          let summed : sum_true s this.tree ≡ true = eq-eqb _ _ (sym this.stated_sum ∙ sym same ∙ true_sum) in
          record {
            number = read_all s h this.says counted summed;
            held = λ {region} fine. let e : region ≡ region_held laid = cc in rw (e, file_says s h this.says) (stands_for (held_from this wide counted summed));
            wide = λ fine. (this.stored wide).wide;
          }

-- ---- what is loaded

-- No question has the number 0.
pub asks_one : (q : Refusal) → question_of q ≡ 0 → ⊥
asks_one TooLong e = omega arith
asks_one Layout e = omega arith
asks_one Counts e = omega arith
asks_one Sum e = omega arith
asks_one Limits e = omega arith
asks_one Patients e = omega arith
asks_one Members e = omega arith
asks_one EntryCounts e = omega arith
asks_one Entries e = omega arith
asks_one Ancestors e = omega arith

-- A refusal by the first four questions is one by all.
first_refused_lem : (q : Refusal) (these those : Asked) → question_of q ≡ first_no these → question_of q ≡ first_no (these ++ those)
first_refused_lem q [] those e = absurd (asks_one q e)
first_refused_lem q ((n, true) ∷ these) those e = first_refused_lem q these those e
first_refused_lem q ((n, false) ∷ these) those e = e

none_refused : (these those : Asked) → every (λ a. ltb 0 a.0) these ≡ true → 0 ≡ first_no these → first_no those ≡ first_no (these ++ those)
none_refused [] those all e = refl
none_refused ((n, true) ∷ these) those all e = none_refused these those (both (ltb 0 n) all).1 e
none_refused ((n, false) ∷ these) those all e = absurd (omega (arith, ltb-true 0 n (both (ltb 0 n) all).0))

module _ (parents : Bool) {s store : List ℕ} {r : Code.Result Region Refusal} (from : FileRead s r store) where
  load_refused_with : {q : Refusal} → question_of q ≡ first_no (asked_of_file s ++ asked parents (region_of s)) → LoadedFrom parents s (Code.Err q) store
  load_refused_with n = record { number = n; says = λ e. absurd cc; wide = λ e. absurd cc }

  pub load_refused : {q : Refusal} → r ≡ Code.Err q → LoadedFrom parents s (Code.Err q) store
  load_refused {q} is = load_refused_with (first_refused_lem q (asked_of_file s) (asked parents (region_of s)) (sym (ap number_of is) ∙ from.number))

  module _ {region : Region} (is : r ≡ Code.Ok region) (answer : Code.Result (Unit {0}) Refusal) (judged : number_of answer ≡ first_no (asked parents (said region store))) where
    all_asked : number_of answer ≡ first_no (asked_of_file s ++ asked parents (region_of s))
    all_asked = judged ∙ (from.held is parents).asks ∙ none_refused (asked_of_file s) (asked parents (region_of s)) refl (sym (ap number_of is) ∙ from.number)

    pub load_no : {q : Refusal} → answer ≡ Code.Err q → LoadedFrom parents s (Code.Err q) store
    load_no e = load_refused_with (sym (ap number_of e) ∙ all_asked)

    pub load_fine : {u : Unit {0}} → answer ≡ Code.Ok u → LoadedFrom parents s (Code.Ok region) store
    load_fine fine = record {
      number = sym (ap number_of fine) ∙ all_asked;
      says = λ {region = other} e. let same : region ≡ other = cc in rw (← same) ((from.held is parents).says (sym (judged ∙ (from.held is parents).asks) ∙ ap number_of fine));
      wide = λ e. from.wide is;
    }
