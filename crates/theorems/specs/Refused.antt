-- Demand 1: a file that check refuses is refused with the same number by every entry, by every call from C and in print;
-- by parents (#107), which asks less of them, unless the number is 6 or 10.
use Rattle.std.proofs.Math.Path.{ap}
use Rattle.std.proofs.Common.{◌∙◌, ◌≡◌, ◌∷◌, ◌++◌}
use Rattle.std.specs.Prelude.{◌≢◌}
use Rattle.definitions.specs.Basics.{ℕ, suc, Bool, true, List, [], text}
use Rattle.definitions.specs.Spelling.{decimal, line as spelled_line}
use Rattle.definitions.specs.Plans.{Plan}
use Rattle.definitions.specs.Questions.{Asked, Asks, first_no, entry_asks, call_asks, region_of, room_for_rows, areas_long_enough, clinic_present}
use Rattle.definitions.specs.Questions.{counts_within, patients_within, parents_smaller, members_right, entry_counts_right, entries_within, members_related}
use Rattle.definitions.specs.Questions.{check_of, asked_of_file, asked_by_check, asked_by_list, asked_by_sheet, asked_by_price}
use Rattle.definitions.specs.Outcomes.{outcome_of, list_found, list_outcome, sheet_found, sheet_outcome, price_outcome}
use Rattle.definitions.specs.Lookup.{asked_by_line, line_found, line_outcome}
use Rattle.definitions.specs.Joining.{asked_by_join, join_outcome}
use Rattle.definitions.specs.Writer.{write_outcome_of}
use Rattle.definitions.specs.Parents.{asked_by_parents, parents_outcome}
use Rattle.definitions.specs.Boundary.{room_for_numbers, check_call, call_of, list_call, sheet_call, price_call_of, price_call, line_call_of, line_call, write_call_of, join_call, parents_call, asked_by_read, read_call_of, read_call}
use Rattle.definitions.specs.Output.{printed, printed_answer}
use Rattle.theorems.specs.Answers.{no_then, asked_twice, left_out}
use Rattle.theorems.specs.Refusals.{after_check, refused_before, price_number}

-- A file is refused with a number: by check, list, sheet, price, line, join and parents, whatever is lent, typed or joined; by the calls from C, of which read is one; and in print.
pub record Refused (q : ℕ) (file : List ℕ) : Type 0 where
  pub check : check_of file ≡ q
  pub list : (beds costs work : List ℕ) → (list_outcome file beds costs work).number ≡ q
  pub sheet : (clinic : ℕ) (beds costs work : List ℕ) → (sheet_outcome file clinic beds costs work).number ≡ q
  pub price : (plan : Plan) → (price_outcome file plan).number ≡ q
  pub line : (typed : List ℕ) → (line_outcome file typed).number ≡ q
  -- Join refuses it as the first file, and as the second after a first that is accepted.
  pub join_first : (other output : List ℕ) → (join_outcome file other output).number ≡ q
  pub join_second : (other output : List ℕ) → check_of other ≡ 0 → (join_outcome other file output).number ≡ q
  -- Parents asks of 6 not the parents' half, and not 10.
  pub parents : q ≢ 6 → q ≢ 10 → (output : List ℕ) → (parents_outcome file output).number ≡ q
  pub check_from_c : check_call file ≡ q
  pub list_from_c : (beds costs result : List ℕ) → (list_call file beds costs result).number ≡ q
  pub sheet_from_c : (clinic : ℕ) (beds costs result : List ℕ) → (sheet_call file clinic beds costs result).number ≡ q
  pub price_from_c : (plan : Plan) (result : List ℕ) → (price_call file plan result).number ≡ q
  pub line_from_c : (typed result : List ℕ) → (line_call file typed result).number ≡ q
  pub join_first_from_c : (other output result : List ℕ) → (join_call file other output result).number ≡ q
  pub join_second_from_c : (other output result : List ℕ) → check_of other ≡ 0 → (join_call other file output result).number ≡ q
  pub parents_from_c : q ≢ 6 → q ≢ 10 → (output result : List ℕ) → (parents_call file output result).number ≡ q
  pub read_from_c : (patients tables entries result : List ℕ) → (read_call file patients tables entries result).number ≡ q
  pub print : printed file ≡ spelled_line (text "refused" ∷ decimal q ∷ [])

-- What an entry asks first decides, for the entry and for its call.
module _ (asks : Asks) (q : ℕ) (no : first_no asks.first ≡ suc q) where
  entry_no : first_no (entry_asks asks) ≡ suc q
  entry_no = no_then asks.first asks.later q no

  call_no : (room : Bool) → first_no (call_asks asks room) ≡ suc q
  call_no room = no_then asks.first ((12, room) ∷ asks.later) q no

module _ (file : List ℕ) (q : ℕ) (refused : check_of file ≡ suc q) where
  list_first_no : (long : Bool) → first_no (asked_by_list file long).first ≡ suc q
  unfolding asked_by_list check_of
  list_first_no long = refused

  sheet_first_no : (c : ℕ) (long : Bool) → first_no (asked_by_sheet file c long).first ≡ suc q
  unfolding asked_by_sheet
  sheet_first_no c long = refused_before file ((11, clinic_present (region_of file) c) ∷ []) q refused

  price_first_no : (plan : Plan) → first_no (asked_by_price file plan).first ≡ suc q
  unfolding asked_by_price check_of
  price_first_no plan = refused

  line_first_no : (typed : List ℕ) → first_no (asked_by_line file typed).first ≡ suc q
  unfolding asked_by_line check_of
  line_first_no typed = refused

  join_first_no : (other output : List ℕ) → first_no (asked_by_join file other output).first ≡ suc q
  unfolding asked_by_join
  join_first_no other output = refused_before file (asked_by_check other) q refused

  join_second_no : (other output : List ℕ) → check_of other ≡ 0 → first_no (asked_by_join other file output).first ≡ suc q
  unfolding asked_by_join check_of
  join_second_no other output fine = after_check other (asked_by_check file) fine ∙ refused

  parents_first_no : suc q ≢ 6 → suc q ≢ 10 → (output : List ℕ) → first_no (asked_by_parents file output).first ≡ suc q
  unfolding asked_by_parents check_of asked_by_check
  parents_first_no no_6 no_10 output =
      let r = region_of file in
      let early : Asked = asked_of_file file ++ (5, counts_within r) ∷ [] in
      let late : Asked = (7, members_right r) ∷ (8, entry_counts_right r) ∷ (9, entries_within r) ∷ [] in
      let all : first_no (early ++ (6, parents_smaller r) ∷ (6, patients_within r) ∷ (late ++ (10, members_related r) ∷ [])) ≡ suc q =
      asked_twice early (late ++ (10, members_related r) ∷ []) 6 (parents_smaller r) (patients_within r) ∙ refused in
      left_out (early ++ (6, patients_within r) ∷ late) [] 10 (members_related r) (left_out early ((6, patients_within r) ∷ (late ++ (10, members_related r) ∷ [])) 6 (parents_smaller r) all no_6) no_10

  read_first_no : (patients tables entries : List ℕ) → first_no (asked_by_read file patients tables entries).first ≡ suc q
  unfolding asked_by_read check_of
  read_first_no patients tables entries = refused

  pub refused_alike : Refused (suc q) file
  unfolding list_outcome sheet_outcome price_outcome line_outcome outcome_of list_found sheet_found line_found list_call sheet_call price_call line_call call_of price_call_of line_call_of join_outcome join_call parents_outcome parents_call write_outcome_of write_call_of read_call read_call_of printed
  refused_alike = record {
    check = refused;
    list = λ beds costs work. entry_no (asked_by_list file (areas_long_enough (region_of file) beds costs work)) q (list_first_no _);
    sheet = λ c beds costs work. entry_no (asked_by_sheet file c (areas_long_enough (region_of file) beds costs work)) q (sheet_first_no c _);
    price = λ plan. price_number file plan (entry_asks (asked_by_price file plan)) ∙ entry_no (asked_by_price file plan) q (price_first_no plan);
    line = λ typed. entry_no (asked_by_line file typed) q (line_first_no typed);
    join_first = λ other output. entry_no (asked_by_join file other output) q (join_first_no other output);
    join_second = λ other output fine. entry_no (asked_by_join other file output) q (join_second_no other output fine);
    parents = λ no_6 no_10 output. entry_no (asked_by_parents file output) q (parents_first_no no_6 no_10 output);
    check_from_c = refused;
    list_from_c = λ beds costs result. call_no (asked_by_list file (room_for_rows (region_of file) 8 beds costs)) q (list_first_no _) (room_for_numbers 1 result);
    sheet_from_c = λ c beds costs result. call_no (asked_by_sheet file c (room_for_rows (region_of file) 8 beds costs)) q (sheet_first_no c _) (room_for_numbers 1 result);
    price_from_c = λ plan result.
        price_number file plan (call_asks (asked_by_price file plan) (room_for_numbers 2 result)) ∙ call_no (asked_by_price file plan) q (price_first_no plan) (room_for_numbers 2 result);
    line_from_c = λ typed result. call_no (asked_by_line file typed) q (line_first_no typed) (room_for_numbers 2 result);
    join_first_from_c = λ other output result. call_no (asked_by_join file other output) q (join_first_no other output) (room_for_numbers 2 result);
    join_second_from_c = λ other output result fine. call_no (asked_by_join other file output) q (join_second_no other output fine) (room_for_numbers 2 result);
    parents_from_c = λ no_6 no_10 output result. call_no (asked_by_parents file output) q (parents_first_no no_6 no_10 output) (room_for_numbers 1 result);
    read_from_c = λ patients tables entries result. call_no (asked_by_read file patients tables entries) q (read_first_no patients tables entries) (room_for_numbers 4 result);
    print = ap (λ n. printed_answer n (region_of file)) (entry_no (asked_by_list file true) q (list_first_no true));
  }
