-- The items of a table line one after the other, and the line part by part.
use mathlib.Core.Path.{◌≡◌, refl, sym, ap, ◌∙◌}
use mathlib.Core.List.{append-nil, append_assoc, map-append}
use mathlib.Core.Bool.{Bool, true, false}
use native.Mathlib.Omega.{arith}
use Prim.Native.Nat.{◌≤◌}
use lib.ListN.{set, drop, length-append, length-map, length-set, length-take}
use lib.Seq.{ext_get_or, get_or-take}
use Rattle.std.specs.Prelude.{◌+◌, ◌<◌, ◌∷◌, ◌++◌}
use Rattle.std.specs.Prelude as Code
use Rattle.definitions.specs.Basics.{ℕ, Option, none, some, List, bind, [], map, length, take, replicate, is_empty, text}
use Rattle.definitions.specs.Layout.{Reader, whole, exactly, word, number, hyphen_or_number, items, table_line}
use Rattle.held_region.specs.Meaning.{code_of}
use Rattle.scanner.specs.Words.{form_start, words_there, words_missing}
use Rattle.scanner.specs.Answers.{ReadAt, passed, there, missing, read_as}
use Rattle.scanner.specs.Separators.{separator, separator_ahead}
use Rattle.scanner.specs.Items.{Bounded}
use Rattle.table_reader.specs.TakenItems.{items_start, items_no_item, items_next, items_closed, items_no_separator, items_no_list}
use Rattle.held_region.specs.FirstHeld.{FirstHeld, held_none, held_more}
use Rattle.table_reader.specs.Stores.{stored_set, stored_full}
use Rattle.table_reader.specs.TableReading.{Found, ItemsSoFar, ItemsThere, MembersHeld, Adds, EntriesAdded, TableRead}

-- An answer by whether it is there.
module _ {A : Type 0} {There : A → Type 0} {Missing : Type 0} where
  pub found : {a : A} → There a → Found (Code.Some a) There Missing
  found {a} t = record { there = λ b e. let q : a ≡ b = cc in rw q at t; missing = λ e. absurd cc }

  pub not_found : Missing → Found Code.None There Missing
  not_found m = record { there = λ a e. absurd cc; missing = λ e. m }

-- A list begins, or is not there.
module _ {A : Type 0} (item : Reader ℕ A) {s : List ℕ} {at : ℕ} {r : Code.Option ℕ} (h : ReadAt (word "(") s at (passed r)) where
  pub list_start : {Kept : List A → Type 0} {start : ℕ} → r ≡ Code.Some start → Kept [] → ItemsSoFar item Kept s at 0 start
  list_start e kept = record { said = []; taken = items_start (read_as (ap passed e) h); counted = refl; kept = kept }

  pub list_missing : r ≡ Code.None → items item (drop at s) ≡ none
  list_missing e = items_no_list item (read_as (ap passed e) h)

-- One more item is counted.
pub one_more_lem : {A : Type 0} {count : ℕ} (said : List A) (a : A) → count ≡ length said → count + 1 ≡ length (said ++ a ∷ [])
one_more_lem said a e = omega (arith, length-append said (a ∷ []))

-- From one item to the next.
module _ {A : Type 0} {item : Reader ℕ A} (k : Bounded item) {Kept : List A → Type 0} {s : List ℕ} {at count i : ℕ} (f : ItemsSoFar item Kept s at count i) {o : Option (A × ℕ)} (h : ReadAt item s i o) where
  pub list_no_item : o ≡ none → items item (drop at s) ≡ none
  list_no_item e = items_no_item k f.taken (read_as e h)

  module _ {a : A} {end : ℕ} (e : o ≡ some (a, end)) {step : Option (Bool × ℕ)} (q : ReadAt separator s end step) where
    pub list_no_separator : step ≡ none → items item (drop at s) ≡ none
    list_no_separator n = items_no_separator k f.taken (read_as e h) (read_as n q)

    -- After a separator the place is ahead, within the slice, and above the count.
    pub list_on : {b : Bool} {next : ℕ} → step ≡ some (b, next) → (i < next) × (next ≤ length s) × (count < next)
    list_on n =
        let (on, in_s) = separator_ahead (read_as n q) in
        let up = (read_as e h).ahead.0 in
        (omega arith, in_s, omega (arith, f.counted, f.taken.few))

    -- One more item is kept: then more follow, or it was the last.
    module _ {More : List A → Type 0} (keep : (said : List A) → count ≡ length said → Kept said → More (said ++ a ∷ [])) {next : ℕ} where
      pub list_more : step ≡ some (true, next) → ItemsSoFar item More s at (count + 1) next
      list_more n = record {
        said = f.said ++ a ∷ [];
        taken = (items_next k f.taken (read_as e h) (read_as n q)).0;
        counted = one_more_lem f.said a f.counted;
        kept = keep f.said f.counted f.kept;
      }

      pub list_closed : step ≡ some (false, next) → ItemsThere item More s at (count + 1) next
      list_closed n = record {
        said = f.said ++ a ∷ [];
        list = items_closed k f.taken (read_as e h) (read_as n q);
        counted = one_more_lem f.said a f.counted;
        kept = keep f.said f.counted f.kept;
      }

-- The members that are held.
pub members_none : MembersHeld (replicate 4 0) []
members_none = record { holds = held_none 4 (λ a b. a ≡ b) 0 0 (replicate 4 0); wide = refl }

pub members_more : (a : ℕ) {first after : List ℕ} {count : ℕ} → after ≡ set first count a
    → (said : List ℕ) → count ≡ length said → MembersHeld first said → MembersHeld after (said ++ a ∷ [])
members_more a {first} {count = count} is said counted m = record {
  holds = rw (is, counted) (held_more 4 (λ a b. a ≡ b) 0 0 first said a a m.wide m.holds refl);
  wide = ap length is ∙ length-set first count a ∙ m.wide;
}

-- The first n that are held are the first n that are said.
first_taken : {A : Type 0} (n : ℕ) (d : A) (first said : List A) → length first ≡ n → FirstHeld n (λ a b. a ≡ b) d d first said → take (length said) first ≡ take n said
first_taken n d first said wide holds =
    let taken = length-take (length said) first in
    ext_get_or d (take (length said) first) (take n said) (omega (arith, length-take n said))
    (λ i h. let low : i < n = omega arith in let inside : i < length said = omega arith in get_or-take (length said) first i d inside ∙ holds i low inside ∙ sym (get_or-take n said i d low))

-- The store: nothing more, one more number where there is room and where there is none, and more after more.
module _ {used : ℕ} {store : List ℕ} where
  pub adds_none : Adds used store store []
  adds_none = record { behind = λ others e h. rw (append-nil others) h }

  pub adds_one : (x : ℕ) → used < 4096 → Adds used store (set store used x) (x ∷ [])
  adds_one x room = record {
    behind = λ others e h. record {
      wide = length-set store used x ∙ h.wide;
      stored = rw (← e) (stored_set others x (omega (arith, h.wide)) h.stored);
    };
  }

  pub adds_full : (x : ℕ) → 4096 ≤ used → Adds used store store (x ∷ [])
  adds_full x full = record { behind = λ others e h. record { wide = h.wide; stored = stored_full others x (omega (arith, h.wide)) h.stored } }

pub adds_then : {used then : ℕ} {before between after : List ℕ} (numbers more : List ℕ) → then ≡ used + length numbers
    → Adds used before between numbers → Adds then between after more → Adds used before after (numbers ++ more)
adds_then numbers more sum a b = record {
  behind = λ others e h. rw (← append_assoc others numbers more) (b.behind (others ++ numbers) (omega (arith, length-append others numbers)) (a.behind others e h));
}

-- One more entry is added, by its code.
pub entries_more : (o : Option ℕ) {code used count : ℕ} {before between after : List ℕ} → code ≡ code_of o → Adds (used + count) between after (code ∷ [])
    → (said : List (Option ℕ)) → count ≡ length said → EntriesAdded used before between said → EntriesAdded used before after (said ++ o ∷ [])
entries_more o is one said counted added =
    rw (map-append code_of said (o ∷ []), ← is) (adds_then (map code_of said) (_ ∷ []) (omega (arith, counted, length-map said code_of)) added one)

-- The beginning of a table line, by its bracket and word and the space behind them.
module _ (line : List ℕ) {o : Option (Unit {0} × ℕ)} (h : ReadAt (exactly (form_start (text "cost"))) line 0 o) where
  pub cost_missing : o ≡ none → word "(cost " line ≡ none
  cost_missing e = words_missing (form_start (text "cost")) (text " ") line (missing h e)

  pub cost_then : {start : ℕ} → o ≡ some (tt, start) → word "(cost " line ≡ word " " (drop start line)
  cost_then e = words_there (form_start (text "cost")) (text " ") line (there h e)

-- What a line says, as far as it was read.
module _ (line : List ℕ) where
  no_cost : word "(cost " line ≡ none → whole table_line line ≡ none
  unfolding table_line bind
  no_cost e = rw e

  module _ {ys : List ℕ} (cost : word "(cost " line ≡ some (tt, ys)) where
    pub no_members_lem : items number ys ≡ none → whole table_line line ≡ none
    unfolding table_line bind
    no_members_lem e = rw (cost, e)

    module _ {ms zs : List ℕ} (members : items number ys ≡ some (ms, zs)) where
      pub no_space_lem : word " " zs ≡ none → whole table_line line ≡ none
      unfolding table_line bind
      no_space_lem e = rw (cost, members, e)

      module _ {us : List ℕ} (space : word " " zs ≡ some (tt, us)) where
        pub no_entries_lem : items hyphen_or_number us ≡ none → whole table_line line ≡ none
        unfolding table_line bind
        no_entries_lem e = rw (cost, members, space, e)

        module _ {es : List (Option ℕ)} {vs : List ℕ} (entries : items hyphen_or_number us ≡ some (es, vs)) where
          pub no_end_lem : word ")\n" vs ≡ none → whole table_line line ≡ none
          unfolding table_line bind
          no_end_lem e = rw (cost, members, space, entries, e)

          module _ {ws : List ℕ} (end : word ")\n" vs ≡ some (tt, ws)) where
            pub more_behind : is_empty ws ≡ false → whole table_line line ≡ none
            unfolding table_line bind
            more_behind e = rw (cost, members, space, entries, end, e)

            table_said_lem : is_empty ws ≡ true → whole table_line line ≡ some (record { members = ms; entries = es })
            unfolding table_line bind
            table_said_lem e = rw (cost, members, space, entries, end, e)

-- Where the first word is missing nothing is stored.
pub line_other : {line : List ℕ} {used : ℕ} {store : List ℕ} → word "(cost " line ≡ none → TableRead line used store store Code.None
line_other {line} e = record { answer = not_found (no_cost line e); kept = λ _. refl }

-- Where it is there, the rest may be missing.
both_ways : {A P : Type 0} {o : Option A} {a : A} → o ≡ some a → o ≡ none → P
both_ways there missing = absurd (let z : ◌≡◌ {A = ℕ} 0 1 = cc in omega arith)

pub line_broken : {line : List ℕ} {used : ℕ} {before after ys : List ℕ} → word "(cost " line ≡ some (tt, ys) → whole table_line line ≡ none
    → TableRead line used before after Code.None
line_broken cost e = record { answer = not_found e; kept = both_ways cost }

-- The whole line is there.
pub line_table : {line : List ℕ} {used : ℕ} {before after : List ℕ} {a mid b end : ℕ} {first : List ℕ} {members entries : ℕ} {ws : List ℕ}
    → word "(cost " line ≡ some (tt, drop a line) → (m : ItemsThere number (MembersHeld first) line a members mid) → word " " (drop mid line) ≡ some (tt, drop b line)
    → (e : ItemsThere hyphen_or_number (EntriesAdded used before after) line b entries end) → word ")\n" (drop end line) ≡ some (tt, ws) → is_empty ws ≡ true
    → TableRead line used before after (Code.Some (record { first = first; members = members; entries = entries }))
line_table {line} {first = first} cost m space e close over = record {
  answer = found record {
    said = record { members = m.said; entries = e.said };
    read = table_said_lem line cost m.list.read space e.list.read close over;
    holds = record { member_count = m.counted; members = first_taken 4 0 first m.said m.kept.wide m.kept.holds; entry_count = e.counted };
    added = e.kept;
    few = omega (arith, e.list.few, e.list.within);
  };
  kept = both_ways cost;
}
