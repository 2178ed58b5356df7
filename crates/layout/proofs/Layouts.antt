-- The parts of a file that is being laid out, put together.
use mathlib.Core.Path.{◌≡◌, refl, sym, ap, ◌∙◌}
use mathlib.Core.List.{append_assoc}
use mathlib.Core.Option.{none-ne-some}
use native.Mathlib.Omega.{arith}
use native.Mathlib.Decide.{dec_lt}
use Prim.Native.Nat.{◌≤◌}
use lib.ListN.{take, drop, drop_of_length-le, length-drop}
use Rattle.std.specs.Prelude.{◌-◌, ◌<◌, ◌∷◌, ◌++◌}
use Rattle.definitions.specs.Basics.{ℕ, zero, suc, Option, none, some, bind, List, [], length, is_some}
use Rattle.definitions.specs.Layout.{whole, lines, region_line, patient_line, table_line, end_line, layout}
use Rattle.line_reader.specs.Answers.{LineEnd}
use Rattle.line_reader.specs.Lines.{lines_split}
use Rattle.layout.specs.declared.patients.Patients.{Patients}
use Rattle.layout.specs.declared.tables.Tables.{Tables}
use Rattle.layout.specs.Reading.{PatientLines}
use Rattle.layout.specs.TableLines.{TableLines}
use Rattle.layout.specs.LaidOut.{LaidThere, tree_of, no_lines_lem, no_head, no_last, no_end_lem, more_lines, laid_out_lem, EndsWith, many_end, body_before}

-- No line is left where no byte is.
lines_none : (s : List ℕ) (i : ℕ) → length s ≤ i → lines (drop i s) ≡ []
lines_none s i h = ap lines (drop_of_length-le s h)

no_region : whole region_line [] ≡ none
unfolding region_line bind
no_region = refl

no_end_line : whole end_line [] ≡ none
unfolding end_line bind
no_end_line = refl

-- Bytes that begin with a line of a form are not none.
some_byte : {A : Type 0} (f : List ℕ → Option A) {a : A} → f [] ≡ none → (e : ℕ) (s : List ℕ) → f (take e s) ≡ some a → 0 < length s
some_byte f {a} none_there zero [] r = absurd (none-ne-some a (sym none_there ∙ r))
some_byte f {a} none_there (suc e) [] r = absurd (none-ne-some a (sym none_there ∙ r))
some_byte f none_there e (x ∷ s) r = omega arith

module _ {s : List ℕ} {e : ℕ} (first : LineEnd s 0 e) where
  head_split : 0 < length s → lines s ≡ take e s ∷ lines (drop e s)
  head_split h = let same : e - 0 ≡ e = omega arith in first.splits h ∙ ap (λ n. take n s ∷ lines (drop e s)) same

  pub layout_no_head : whole region_line (take e s) ≡ none → layout s ≡ none
  layout_no_head r = go (dec_lt 0 (length s))
    where
      go : Dec (0 < length s) → layout s ≡ none
      go (yes k) = no_head s (head_split k) r
      go (no n) = no_lines_lem s (lines_none s 0 (omega arith))

  module _ {v t m : ℕ} (said : whole region_line (take e s) ≡ some (v, t, m)) {ps : Patients} (p : PatientLines s e ps) {ts : Tables} {before after : List ℕ}
      (q : TableLines s ps.next ts before after) {last : ℕ} (end : LineEnd s ts.next last) where
    split : lines s ≡ take e s ∷ lines (drop e s)
    split = head_split (some_byte (whole region_line) no_region e s said)

    -- The line after the tables.
    abbrev line : List ℕ
    line = take (last - ts.next) (drop ts.next s)

    pub layout_no_end : whole end_line line ≡ none → layout s ≡ none
    layout_no_end r = go (dec_lt ts.next (length s))
      where
        go : Dec (ts.next < length s) → layout s ≡ none
        go (yes k) = no_end_lem s split said p.read q.read (end.splits k) r
        go (no n) = no_last s split said p.read q.read (lines_none s ts.next (omega arith))

    module _ {n : ℕ} (stated : whole end_line line ≡ some n) where
      end_within : ts.next < length s
      end_within = omega (arith, length-drop ts.next s, some_byte (whole end_line) no_end_line (last - ts.next) (drop ts.next s) stated)

      end_split : lines (drop ts.next s) ≡ line ∷ lines (drop last s)
      end_split = end.splits end_within

      pub layout_more : last < length s → layout s ≡ none
      layout_more h = more_lines s split said p.read q.read end_split stated _ _ (lines_split (drop last s) (omega (arith, length-drop last s)))

      pub layout_there : length s ≤ last
          → LaidThere s (record { v = v; t = t; m = m; patients = ps; tables = ts; sum = n; end = ts.next }) before after
      layout_there h = record {
        tree = tree_of (v, t, m) p.said q.said n;
        says = laid_out_lem s split said p.read q.read end_split stated none_left;
        patient_count = refl;
        table_count = refl;
        plans_wanted = refl;
        stated_sum = refl;
        patients_counted = p.counted;
        patients_held = p.holds;
        tables_counted = q.counted;
        tables_held = q.holds;
        stored = λ wide. q.stored wide line (lines (drop last s)) end_split (ap is_some stated);
        body = body_before s ts.next before_end (end_split ∙ ap (λ ls. line ∷ ls) none_left);
        within = omega (arith, end_within);
      }
        where
          none_left : lines (drop last s) ≡ []
          none_left = lines_none s last h

          before_end : EndsWith (lines s) (line ∷ [])
          before_end =
              let a = many_end (whole patient_line) (lines (drop e s)) p.read in
              let b = many_end (whole table_line) (lines (drop ps.next s)) q.read in
              record {
                front = take e s ∷ (a.front ++ b.front);
                is =
                    split ∙ ap (λ ls. take e s ∷ ls) (a.is ∙ ap (λ ls. a.front ++ ls) (b.is ∙ ap (λ ls. b.front ++ ls) (end_split ∙ ap (λ ls. line ∷ ls) none_left))
                    ∙ sym (append_assoc a.front b.front (line ∷ [])));
              }
