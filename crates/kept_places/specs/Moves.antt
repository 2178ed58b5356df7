-- The moves: for each patient the tables whose entry has another place when the patient's bed changes.
use Rattle.std.specs.Prelude.{◌≤◌, set, ◌+◌, ◌*◌, ◌<◌, ◌≡◌}
use Rattle.definitions.specs.Basics.{ℕ, suc, cond, List, length, get_or, eqb}
use Rattle.definitions.specs.Plans.{bed_of}
use Rattle.bucket_words.specs.declared.TableTerm.{TableTerm}
use Rattle.kept_places.specs.declared.Move.{Move}
use Rattle.kept_places.specs.declared.Moves.{Moves}
use Rattle.bucket_words.specs.Words.{member_at}
use Rattle.bucket_words.specs.Kept.{low_stride, Kept, Bounded}

-- The place of the move of a term's member.
abbrev pub move_at : ℕ → ℕ → ℕ
move_at k j = k * 3 + j

-- What stands where no move is. What a move says: its term, its stride, and the place of the patient's next move.
abbrev pub no_move : Move
no_move = record { term = 0; stride = 0; next = 0 }

abbrev pub term_in : Moves → ℕ → ℕ
term_in moves p = (get_or moves.all p no_move).term

abbrev pub stride_in : Moves → ℕ → ℕ
stride_in moves p = (get_or moves.all p no_move).stride

abbrev pub next_in : Moves → ℕ → ℕ
next_in moves p = (get_or moves.all p no_move).next

-- How far a term's place moves with a bed of s as this member: not at all where s is not this member.
abbrev pub stride_for : List TableTerm → ℕ → ℕ → ℕ → ℕ
stride_for terms s k j = cond (eqb (member_at terms k j) s) (low_stride terms k j) 0

-- At p stands a move of s: that of a term of which s is a member, but not the highest.
pub record MoveOf (terms : List TableTerm) (s p : ℕ) : Type 0 where
  pub term : ℕ
  pub slot : ℕ
  pub term_few : term < 64
  pub slot_few : slot < 3
  pub here : p ≡ move_at term slot
  pub member : member_at terms term slot ≡ s
  pub moves : 0 < low_stride terms term slot

-- The first move of s from a place on is at p; 192 is none.
pub record Leads (terms : List TableTerm) (s low p : ℕ) : Type 0 where
  pub behind : low ≤ p
  pub most : p ≤ 192
  pub passed : (k j : ℕ) → k < 64 → j < 3 → low ≤ move_at k j → move_at k j < p → stride_for terms s k j ≡ 0
  pub found : p < 192 → MoveOf terms s p

-- What a member's move says.
pub record Says (terms : List TableTerm) (moves : Moves) (k j : ℕ) : Type 0 where
  pub term : term_in moves (move_at k j) ≡ k
  pub stride : stride_in moves (move_at k j) ≡ low_stride terms k j
  pub next : Leads terms (member_at terms k j) (suc (move_at k j)) (next_in moves (move_at k j))

-- The moves from a place on are linked, for each patient.
pub record Linked (terms : List TableTerm) (low : ℕ) (moves : Moves) : Type 0 where
  pub wide : length moves.all ≡ 192
  pub patients : length moves.first ≡ 32
  pub first : (s : ℕ) → s < 32 → Leads terms s low (get_or moves.first s 0)
  pub each : (k j : ℕ) → k < 64 → j < 3 → low ≤ move_at k j → 0 < low_stride terms k j → Says terms moves k j

-- A patient's bed changes: the places are kept for its old bed.
pub record AsksMove (moves : Moves) (s old new : ℕ) (places : List ℕ) : Type 0 where
  pub terms : List TableTerm
  pub t : ℕ
  pub beds : List ℕ
  pub bounded : Bounded terms t
  pub linked : Linked terms 0 moves
  pub kept : Kept terms beds places
  pub few : s < 32
  pub long : length beds ≡ 32
  pub low : (q : ℕ) → bed_of beds q < 16
  pub was : bed_of beds s ≡ old
  pub small : new < 16

-- What was kept for any beds is kept for them with the new bed.
abbrev pub GivesMove : Moves → ℕ → ℕ → ℕ → List ℕ → List ℕ → Type 0
GivesMove moves s old new before after =
    (terms : List TableTerm) (beds : List ℕ) → Linked terms 0 moves → Kept terms beds before → s < length beds → bed_of beds s ≡ old → Kept terms (set beds s new) after
