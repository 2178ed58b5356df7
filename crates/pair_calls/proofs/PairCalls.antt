-- Price, line and join as calls from C, from what the entry gives and what is written of it.
use mathlib.Core.Path.{◌≡◌, refl, sym, ap, ap₂, ◌∙◌}
use Prim.Native.Nat.{◌≤◌, ◌<◌, ◌-◌}
use native.Mathlib.Omega.{arith}
use borrow.Author.Tests.{lt-leb, le-leb}
use Rattle.std.specs.Prelude.{◌∷◌, ◌++◌}
use Rattle.definitions.specs.Basics.{ℕ, zero, suc, cond, List, [], length, sets}
use Rattle.definitions.specs.Plans.{Plan, total}
use Rattle.definitions.specs.Questions.{first_no, Asks, entry_asks, call_asks, asked_by_check, check_of, region_of, asked_by_price}
use Rattle.definitions.specs.Outcomes.{unless_refused, PriceOutcome, priced, price_found, price_outcome}
use Rattle.definitions.specs.Lookup.{FilePart, line_over, asked_by_line, LineOutcome, part_unless_refused, line_found, line_outcome}
use Rattle.definitions.specs.Joining.{joined_file, asked_by_join, refused_file, JoinOutcome, join_outcome}
use Rattle.definitions.specs.Boundary.{room_for_numbers, result_after, PairCall, price_call_of, price_call, part_numbers, line_call_of, line_call, file_number, WriteCall, write_call_of, join_call}
use Rattle.theorems.specs.Answers.{Numbered}
use Rattle.theorems.specs.Refusals.{price_number, after_check, refused_before}
use Rattle.byte_areas.specs.Results.{result_short}
use Rattle.line_finder.specs.declared.LineError.{LineError}
use Rattle.line_finder.specs.declared.LineError.TheVariants.{Refused, Typed}
use Rattle.line_finder.specs.Found.{line_error_number}
use Rattle.answers.specs.Numbers.{refusal_number_lem}
use Rattle.answers.specs.Rooms.{or_twelve, some_number, with_room, without_room}
use Rattle.answers.specs.Answers.{refusal_number}
use Rattle.held_region.specs.declared.Refusal.{Refusal}

-- The number of such a call, by the length of its result area.
module _ (asks : Asks) (result : List ℕ) where
  abbrev asked : ℕ
  asked = first_no (call_asks asks (room_for_numbers 2 result))

  short_number : Numbered asks.first → length result < 16 → asked ≡ or_twelve (first_no asks.first)
  short_number numbered h = ap (λ room. first_no (call_asks asks room)) (lt-leb 16 (length result) h) ∙ without_room asks numbered

  long_number : 16 ≤ length result → asked ≡ first_no (entry_asks asks)
  long_number h = ap (λ room. first_no (call_asks asks room)) (le-leb 16 (length result) h) ∙ with_room asks

-- A call that is refused for its result area, and one that is not.
module _ (file : List ℕ) (plan : Plan) (result : List ℕ) where
  pub price_short : {n : ℕ} → length result < 16 → n ≡ or_twelve (check_of file) → record { number = n; result = result } ≡ price_call file plan result
  unfolding price_call price_call_of asked_by_price check_of asked_by_check
  price_short h e =
      let asked = call_asks (asked_by_price file plan) (room_for_numbers 2 result) in
      let p = price_found file plan asked in
      let number = e ∙ sym (short_number (asked_by_price file plan) result tt h) ∙ sym (price_number file plan asked) in
      λ i. record { number = number i; result = result_short (cond p.allowed 1 0 ∷ p.total ∷ []) result h i }

  pub price_long : {p : PriceOutcome} {after : List ℕ} → 16 ≤ length result → p ≡ price_outcome file plan → after ≡ result_after (cond p.allowed 1 0 ∷ p.total ∷ []) result
      → record { number = p.number; result = after } ≡ price_call file plan result
  unfolding price_call price_call_of price_outcome price_found
  price_long {p} h e stored =
      ap {B = PairCall} (λ r. record { number = p.number; result = r }) stored
      ∙ ap (λ q. price_call_of q result) (e ∙ ap (λ n. priced n (total (region_of file) plan)) (sym (long_number (asked_by_price file plan) result h)))

short_part : (n : ℕ) (part : FilePart) (result : List ℕ) → length result < 16 → result ≡ result_after (part_numbers n part) result
short_part zero part result h = result_short _ result h
short_part (suc q) part result h = result_short _ result h

module _ (file typed result : List ℕ) where
  pub line_short : {n : ℕ} → length result < 16 → n ≡ or_twelve (check_of file) → record { number = n; result = result } ≡ line_call file typed result
  unfolding line_call line_call_of line_found asked_by_line check_of asked_by_check
  line_short h e =
      let o = line_found file typed (call_asks (asked_by_line file typed) (room_for_numbers 2 result)) in
      let number = e ∙ sym (short_number (asked_by_line file typed) result tt h) in
      λ i. record { number = number i; result = short_part o.number o.part result h i }

  pub line_long : {o : LineOutcome} {after : List ℕ} → 16 ≤ length result → o ≡ line_outcome file typed → after ≡ result_after (part_numbers o.number o.part) result
      → record { number = o.number; result = after } ≡ line_call file typed result
  unfolding line_call line_call_of line_outcome line_found
  line_long {o} h e stored =
      ap {B = PairCall} (λ r. record { number = o.number; result = r }) stored
      ∙ ap (λ q. line_call_of q result) (e ∙ ap {B = LineOutcome} (λ n. record { number = n; part = part_unless_refused n file (line_over file typed) }) (sym (long_number (asked_by_line file typed) result h)))

-- What the result area holds of a line that is not looked for: zeros, since its number is that of a question.
pub refused_numbers : (error : LineError) (part : FilePart) (result : List ℕ) → result_after (0 ∷ 0 ∷ []) result ≡ result_after (part_numbers (line_error_number error) part) result
refused_numbers (Refused refusal) part result = ap (λ number. result_after (part_numbers number part) result) (sym (refusal_number_lem refusal))
refused_numbers Typed part result = refl

-- ---- join

-- The questions of both files: a no of the first counts, and otherwise the second's.
module _ (f g : List ℕ) where
  pub first_number_lem : (check_of f ≡ 0 → ⊥) → first_no (asked_by_check f ++ asked_by_check g) ≡ check_of f
  first_number_lem some_no =
      let is : check_of f ≡ suc (check_of f - 1) = omega (arith, some_no) in
      refused_before f (asked_by_check g) _ is ∙ sym is

  pub second_number_lem : check_of f ≡ 0 → first_no (asked_by_check f ++ asked_by_check g) ≡ check_of g
  unfolding check_of
  second_number_lem e = after_check f (asked_by_check g) e

-- Where check refuses the first file, its number is that of both.
pub refused_first : (f g : List ℕ) (refusal : Refusal) → refusal_number refusal ≡ check_of f → refusal_number refusal ≡ or_twelve (first_no (asked_by_check f ++ asked_by_check g))
refused_first f g refusal is =
    let some : refusal_number refusal ≡ 0 → ⊥ = λ e. omega (arith, refusal_number_lem refusal) in
    some_number _ some ∙ ap or_twelve (is ∙ sym (first_number_lem f g (λ e. some (is ∙ e))))

module _ (f g output result : List ℕ) where
  -- The call by its number.
  abbrev call_with : ℕ → WriteCall
  call_with n =
      let bytes = unless_refused n (joined_file f g) in
      record { number = n; output = sets output 0 bytes; result = result_after (length bytes ∷ file_number (refused_file f g) ∷ []) result }

  -- After a refusal nothing is written, and a short result area is as it was.
  short_call : (n : ℕ) → length result < 16 → record { number = or_twelve n; output = output; result = result } ≡ call_with (or_twelve n)
  short_call zero h = ap {B = WriteCall} (λ left. record { number = 12; output = output; result = left }) (result_short _ result h)
  short_call (suc q) h = ap {B = WriteCall} (λ left. record { number = suc q; output = output; result = left }) (result_short _ result h)

  pub join_short : {n : ℕ} → length result < 16 → n ≡ or_twelve (first_no (asked_by_check f ++ asked_by_check g))
      → record { number = n; output = output; result = result } ≡ join_call f g output result
  unfolding join_call write_call_of asked_by_join asked_by_check
  join_short h e =
      let asks = asked_by_join f g output in
      ap {B = WriteCall} (λ n. record { number = n; output = output; result = result }) e
      ∙ short_call (first_no asks.first) h ∙ ap call_with (sym (short_number asks result tt h))

  pub join_long : {o : JoinOutcome} {n count which : ℕ} {after : List ℕ} → 16 ≤ length result → o ≡ join_outcome f g output
      → n ≡ o.number → count ≡ o.count → which ≡ file_number o.which → after ≡ result_after (count ∷ which ∷ []) result
      → record { number = n; output = o.output; result = after } ≡ join_call f g output result
  unfolding join_call write_call_of join_outcome
  join_long {o} h e is_number is_count is_which stored =
      ap₂ {C = WriteCall} (λ n left. record { number = n; output = o.output; result = left }) is_number (stored ∙ ap₂ (λ k w. result_after (k ∷ w ∷ []) result) is_count is_which)
      ∙ ap {B = WriteCall} (λ (p : JoinOutcome). record { number = p.number; output = p.output; result = result_after (p.count ∷ file_number p.which ∷ []) result }) e
      ∙ ap call_with (sym (long_number (asked_by_join f g output) result h))
