-- Question 21, and whether a line begins as the line of a table over the typed members does.
use mathlib.Core.Path.{◌≡◌, ap, ◌∙◌}
use native.Mathlib.Decide.{dec_le}
use native.Mathlib.Omega.{arith}
use borrow.Author.Tests.{le-leb, lt-leb}
use Rattle.std.specs.Prelude.{◌<◌, ◌++◌}
use Rattle.definitions.specs.Basics.{ℕ, Bool, false, bind, List, length, leb, is_some as said_some}
use Rattle.definitions.specs.Layout.{exactly}
use Rattle.definitions.specs.Lookup.{typed_right}
use Rattle.std.specs.Prelude as Code
use Rattle.std.specs.Option.{is_some}
use Rattle.theorems.specs.Lookup.{opening, begins}
use Rattle.table_reader.specs.declared.Members.{Members}
use Rattle.table_reader.specs.TableReading.{MembersRead}
use Rattle.scanner.specs.Answers.{ReadAt, passed}
use Rattle.scanner.specs.Tokens.{more_left, nothing_left}

module _ {typed : List ℕ} {r : Code.Option Members} (h : MembersRead typed 0 r) where
  pub not_listed : r ≡ Code.None → false ≡ typed_right typed
  unfolding typed_right bind
  not_listed e = rw (h.missing e)

  -- The list is read: nothing may stand after it.
  pub listed : (list : Members) → r ≡ Code.Some list → leb (length typed) list.next ≡ typed_right typed
  unfolding typed_right bind
  listed list e =
      let next = list.next in
      let read = (h.there list e).list.read in
      elim (dec_le (length typed) next) [
        | yes all ↦ rw (read, nothing_left typed next all) (le-leb (length typed) next all)
        | no more ↦ rw (read, more_left typed next (omega arith)) (lt-leb (length typed) next (omega arith))
      ]

-- The line begins so where the place after that is found.
pub begins_lem : (typed line : List ℕ) (r : Code.Option ℕ) → ReadAt (exactly (opening typed)) line 0 (passed r) → {found : Bool} → found ≡ is_some r → found ≡ begins typed line
unfolding begins
begins_lem typed line Code.None h e = e ∙ ap said_some h.says
begins_lem typed line (Code.Some n) h e = e ∙ ap said_some h.says
