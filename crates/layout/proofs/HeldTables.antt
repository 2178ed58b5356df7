-- The tables that are held, one line after the other.
use mathlib.Core.Path.{◌≡◌, refl, sym, ap, ◌∙◌}
use mathlib.Core.Bool.{true, false≢true}
use native.Mathlib.Omega.{arith}
use native.Mathlib.Decide.{ℕ_discrete}
use Prim.Native.Char.{code}
use Prim.Native.Nat.{◌≤◌}
use lib.ListN.{set, drop, length-append, length-map, length-set, length-take}
use Rattle.std.specs.Prelude.{◌+◌, ◌-◌, ◌<◌, ◌∷◌, ◌++◌}
use Rattle.std.specs.Prelude as Code
use Rattle.definitions.specs.Basics.{ℕ, none, some, List, is_some, bind, [], map, flat_map, length, take, replicate, text}
use Rattle.definitions.specs.Syntax as Said
use Rattle.definitions.specs.Layout.{whole, word, exactly, lines, many, table_line, end_line}
use Rattle.lists.specs.Maps.{flat_map_snoc}
use Rattle.held_region.specs.declared.Table.{Table}
use Rattle.held_region.specs.Meaning.{code_of, no_table}
use Rattle.scanner.specs.Words.{exactly_short, exactly_same, exactly_other}
use Rattle.line_reader.specs.Answers.{LineEnd}
use Rattle.held_region.specs.FirstHeld.{held_none, held_more}
use Rattle.table_reader.specs.Stores.{stored_none}
use Rattle.held_region.specs.HeldFrom.{no_table_said, HoldsTable}
use Rattle.table_reader.specs.TableReading.{Holding, Adds, TableThere, TableRead}
use Rattle.table_reader.proofs.HeldTables.{one_more_lem, adds_none, adds_then}
use Rattle.layout.specs.Taken.{taken_none, taken_more, taken_other}
use Rattle.layout.specs.TableLines.{stored_entries, TablesSoFar, TableLines}

-- A list does not begin with two words that differ behind what they have in common.
differ : (common : List ℕ) (u v : ℕ) (us vs xs : List ℕ) → (u ≡ v → ⊥) → (exactly (common ++ v ∷ vs) xs ≡ none → ⊥) → exactly (common ++ u ∷ us) xs ≡ none
differ [] u v us vs [] n h = exactly_short u us
differ [] u v us vs (x ∷ xs) n h = elim (ℕ_discrete u x) [ yes q ↦ absurd (h (exactly_other v x vs xs (λ e. n (q ∙ sym e)))) | no q ↦ exactly_other u x us xs q ]
differ (w ∷ ws) u v us vs [] n h = exactly_short w (ws ++ u ∷ us)
differ (w ∷ ws) u v us vs (x ∷ xs) n h = elim (ℕ_discrete w x) [
  | yes q ↦ exactly_same w x (ws ++ u ∷ us) xs q ∙ differ ws u v us vs xs n (λ e. h (exactly_same w x (ws ++ v ∷ vs) xs q ∙ e))
  | no q ↦ exactly_other w x (ws ++ u ∷ us) xs q
]

-- An end line does not begin as a table line does.
end_no_cost : (l : List ℕ) → is_some (whole end_line l) ≡ true → word "(cost " l ≡ none
unfolding end_line bind
end_no_cost l h = differ (text "(") (code "c") (code "e") (text "ost ") (text "nd ") l (λ e. omega arith) (λ e. false≢true (rw e at h))

-- The store, whatever it was, holds the tables whose entries were added.
store_said : {before after : List ℕ} (said : List Said.Table) → Adds 0 before after (stored_entries said) → length before ≡ 4096 → Holding after (stored_entries said)
store_said {before} said added wide = added.behind [] refl (record { wide = wide; stored = stored_none before })

-- No line yet.
pub tables_none : (s : List ℕ) (at : ℕ) (store : List ℕ) → TablesSoFar s at store (replicate 64 no_table) 0 0 at store
unfolding flat_map
tables_none s at store = record {
  said = [];
  taken = taken_none;
  counted = refl;
  holds = held_none 64 HoldsTable no_table no_table_said (replicate 64 no_table);
  wide = refl;
  added = adds_none;
  filled = refl;
  few = omega arith;
}

module _ {s : List ℕ} {at : ℕ} {before : List ℕ} {first : List Table} {count used i : ℕ} {store : List ℕ} (p : TablesSoFar s at before first count used i store) where
  -- One more line. Its entries are fewer than its bytes, so what is used never passes the place.
  module _ {end : ℕ} {h : Table} {after : List ℕ} (e : LineEnd s i end) (inside : i < length s) (t : TableThere (take (end - i) (drop i s)) used store after h) where
    pub used_few : used + h.entries ≤ end
    used_few = omega (arith, p.few, t.holds.entry_count, t.few, length-take (end - i) (drop i s), e.ahead)

    pub tables_more : {next : List Table} → next ≡ set first count h → TablesSoFar s at before next (count + 1) (used + h.entries) end after
    tables_more is = record {
      said = p.said ++ t.said ∷ [];
      taken = taken_more p.taken e inside t.read;
      counted = one_more_lem p.said t.said p.counted;
      holds = rw (is, p.counted) (held_more 64 HoldsTable no_table no_table_said first p.said h t.said p.wide p.holds t.holds);
      wide = ap length is ∙ length-set first count h ∙ p.wide;
      added = rw stored (adds_then (stored_entries p.said) more (omega (arith, p.filled)) p.added t.added);
      filled = rw stored (omega (arith, p.filled, t.holds.entry_count, length-append (stored_entries p.said) more, length-map t.said.entries code_of));
      few = used_few;
    }
      where
        more : List ℕ
        more = map code_of t.said.entries

        stored : stored_entries (p.said ++ t.said ∷ []) ≡ stored_entries p.said ++ more
        stored = flat_map_snoc (λ t. map code_of t.entries) p.said t.said

  -- The lines end where one is no table line.
  all_said : {after : List ℕ} → many (whole table_line) (lines (drop at s)) ≡ some (p.said, lines (drop i s))
      → ((l : List ℕ) (ls : List (List ℕ)) → lines (drop i s) ≡ l ∷ ls → is_some (whole end_line l) ≡ true → after ≡ store)
      → TableLines s at (record { first = first; count = count; next = i }) before after
  all_said e kept = record {
    said = p.said;
    read = e;
    counted = p.counted;
    holds = p.holds;
    ahead = p.taken.ahead;
    within = p.taken.within;
    stored = λ wide l ls q ends. rw (kept l ls q ends) (store_said p.said p.added wide);
  }

  pub tables_other : {end : ℕ} {after : List ℕ} {r : Code.Option Table} → LineEnd s i end → i < length s → TableRead (take (end - i) (drop i s)) used store after r → r ≡ Code.None
      → TableLines s at (record { first = first; count = count; next = i }) before after
  tables_other {end} e inside t n =
      all_said (taken_other p.taken e inside (t.answer.missing n))
      (λ l ls q ends. let same : take (end - i) (drop i s) ≡ l = cc (e.splits inside) in t.kept (rw same (end_no_cost l ends)))
