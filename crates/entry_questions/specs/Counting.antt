-- What counting the entries of a held region gives.
use Rattle.std.specs.Prelude.{◌≡◌, Option, Some}
use Rattle.std.specs.Option.{is_some}
use Rattle.definitions.specs.Basics.{ℕ, List}
use Rattle.definitions.specs.Questions.{entry_counts_right}
use Rattle.held_region.specs.declared.Region.{Region}
use Rattle.held_region.specs.Meaning.{start_in, said}

-- Whether question 8 is answered yes, whatever the store says; then all entries end where the total says.
pub record EntriesCounted (h : Region) (counted : Option ℕ) : Type 0 where
  pub asked : (store : List ℕ) → is_some counted ≡ entry_counts_right (said h store)
  pub total : (n : ℕ) → counted ≡ Some n → n ≡ start_in h h.t
