-- What the steps of linking the moves ask for and give.
use Rattle.std.specs.Prelude.{◌≤◌, ◌<◌, ◌≡◌}
use Rattle.definitions.specs.Basics.{ℕ, List, length, get_or}
use Rattle.bucket_words.specs.declared.TableTerm.{TableTerm}
use Rattle.bucket_words.specs.Words.{member_at, stride_at}
use Rattle.kept_places.specs.declared.Moves.{Moves}
use Rattle.kept_places.specs.Moves.{move_at, no_move, Linked}

-- A move fits in.
pub record AsksAdd (s k stride at : ℕ) (moves : Moves) : Type 0 where
  pub wide : length moves.all ≡ 192
  pub patients : length moves.first ≡ 32
  pub patient : s < 32
  pub term : k < 64
  pub near : stride ≤ 4096
  pub inside : at < 192

-- It stands in front of its patient's others, and nothing else is changed.
pub record Added (s k stride at : ℕ) (moves after : Moves) : Type 0 where
  pub wide : length after.all ≡ 192
  pub patients : length after.first ≡ 32
  pub first : get_or after.first s 0 ≡ at
  pub here : get_or after.all at no_move ≡ record { term = k; stride = stride; next = get_or moves.first s 0 }
  pub other_first : (q : ℕ) → (q ≡ s → ⊥) → get_or after.first q 0 ≡ get_or moves.first q 0
  pub others : (p : ℕ) → (p ≡ at → ⊥) → get_or after.all p no_move ≡ get_or moves.all p no_move

-- A term's moves come in front of those of the later terms.
pub record AsksTerm (terms : List TableTerm) (k : ℕ) (moves : Moves) : Type 0 where
  pub few : k < 64
  pub known : (j : ℕ) → j < 4 → member_at terms k j < 32
  pub near : (j : ℕ) → j < 4 → stride_at terms k j ≤ 4096
  pub linked : Linked terms (move_at k 3) moves
