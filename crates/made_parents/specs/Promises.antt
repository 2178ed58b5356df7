-- Request #107 as promised: what the number of parents says, what it leaves, and what the file with made parents is. A file and an output area.
use Rattle.std.specs.Prelude.{◌≡◌, ◌↔◌, ◌≤◌}
use Rattle.std.proofs.Math.Path.{refl, sym, ap, ap₂, subst}
use Rattle.std.proofs.Common.{◌∙◌, append_assoc, le-leb, ◌*◌, ◌&&◌, ◌∷◌, ◌++◌}
use Rattle.definitions.specs.Basics.{ℕ, zero, suc, Bool, true, Option, List, [], map, flat_map, length, text, eqb, leb, ltb, below, every, keep}
use Rattle.definitions.specs.Limits.{clinic, limits}
use Rattle.definitions.specs.Syntax.{Patient, Region}
use Rattle.definitions.specs.Spelling.{decimal, spell}
use Rattle.definitions.specs.Plans.{Plan, bed_of, total, list_of}
use Rattle.definitions.specs.Sheets.{sheet_of}
use Rattle.definitions.specs.Questions.{parents_smaller, ancestors, members_related, clinic_present, room_for_rows, work_size, areas_long_enough, plan_allowed, plan_fits, region_of}
use Rattle.definitions.specs.Questions.{Asked, first_no, asked_by_check, check_of, entry_asks, call_asks, asked_by_list, asked_by_sheet, asked_by_price}
use Rattle.definitions.specs.Outcomes.{unless_refused, list_found, sheet_found, outcome_of, list_outcome, sheet_outcome, priced, price_found, price_outcome}
use Rattle.definitions.specs.Output.{printed_rows, clinics_present, printed_answer, printed}
use Rattle.definitions.specs.Isolation.{yield_number}
use Rattle.definitions.specs.Writer.{region_from, as_held, written_file, room_for_file, write_outcome_of}
use Rattle.definitions.specs.Parents.{parents_made, with_parents, parents_file, asked_by_parents, parents_outcome}
use Rattle.definitions.specs.Boundary.{room_for_numbers, result_after, call_of, list_call, sheet_call, price_call_of, price_call, WriteCall, write_call_of, parents_call}
use Rattle.lists.specs.Tests.{join}
use Rattle.lists.specs.Members.{◌∈◌}
use Rattle.lists.specs.Every.{every_split}
use Rattle.theorems.specs.Answers.{all_yes, Says, says}
use Rattle.theorems.specs.Refusals.{ResultZeroed, after_check}
use Rattle.theorems.proofs.Refusals.{result_zeroed}
use Rattle.theorems.specs.Accepted.{Accepted, accepted, patients_counted_lem}
use Rattle.theorems.specs.Lengths.{most_written}
use Rattle.theorems.specs.Writer.{Wrote, Unwritten, made_wrote, made_refused}
use Rattle.theorems.proofs.Writer.{written_short, written_region, written_accepted, read_held}
use Rattle.made_parents.specs.Chosen.{Alike, chosen_held, chosen_alike}
use Rattle.made_parents.specs.Accepted.{PassesNine, asked_nine, made_parents_smaller, made_accepted}
use Rattle.made_parents.specs.Least.{Passing, Within, made_within, only_within, own_patients}
use Rattle.made_parents.specs.Same.{alike_total, alike_list, alike_patients, alike_sheet, alike_present, alike_allowed, alike_made, parents_list, parents_sheet, parents_total}

-- ---- the file with made parents

pub record MadeFile (file : List ℕ) : Type 0 where
  -- It says the same region with the parents made, passes 1 to 10, and is at most so long.
  pub says : region_of (parents_file file) ≡ with_parents (region_of file) (parents_made (region_of file))
  pub checked : check_of (parents_file file) ≡ 0
  pub short : length (parents_file file) ≤ most_written
  -- Every choice of parents for the same patient numbers that passes 6 and 10 has, for each patient, at least these ancestors; no other choice has so few.
  pub least : (choice : List (Option ℕ)) → Passing (region_of file) choice → (s a : ℕ) → a ∈ ancestors (region_of (parents_file file)) s → a ∈ ancestors (with_parents (region_of file) choice) s
  pub only : (choice : List (Option ℕ)) → Passing (region_of file) choice → ((other : List (Option ℕ)) → Passing (region_of file) other → Within (region_of file) choice other)
      → with_parents (region_of file) choice ≡ region_of (parents_file file)
  -- The list, each sheet and each price are those of the file read.
  pub rows : list_of (region_of (parents_file file)) ≡ list_of (region_of file)
  pub sheets : (c : ℕ) → sheet_of (region_of (parents_file file)) c ≡ sheet_of (region_of file) c
  pub prices : (plan : Plan) → total (region_of (parents_file file)) plan ≡ total (region_of file) plan
  -- Once made, they stay.
  pub again : parents_file (parents_file file) ≡ parents_file file

-- What it takes: the questions that parents asks of the file are answered yes.
module _ (file : List ℕ) (n : PassesNine (region_of file)) where
  abbrev r : Region
  r = region_of file

  abbrev made : Region
  made = with_parents r (parents_made r)

  -- The made region is as it is held, so the file is a written one.
  held : Accepted (as_held made)
  held = rw (chosen_held r (parents_made r)) (made_accepted r n)

  written : parents_file file ≡ written_file made
  unfolding parents_file written_file
  written = ap spell (sym (chosen_held r (parents_made r)))

  file_says : region_of (parents_file file) ≡ made
  file_says = ap region_of written ∙ written_region made held ∙ chosen_held r (parents_made r)

  file_checked : check_of (parents_file file) ≡ 0
  file_checked = ap check_of written ∙ written_accepted made held

  file_short : length (parents_file file) ≤ most_written
  file_short = subst (λ f. length f ≤ most_written) (sym written) (written_short made held)

  -- The made choice passes 10, as 6; what any that passes both has.
  made_related_lem : members_related made ≡ true
  made_related_lem = (made_accepted r n).related

  file_least : (choice : List (Option ℕ)) → parents_smaller (with_parents r choice) ≡ true → members_related (with_parents r choice) ≡ true
      → (s a : ℕ) → a ∈ ancestors (region_of (parents_file file)) s → a ∈ ancestors (with_parents r choice) s
  file_least choice smaller related s a k = made_within r choice smaller related s a (subst (λ x. a ∈ ancestors x s) file_says k)

  file_only : (choice : List (Option ℕ)) → parents_smaller (with_parents r choice) ≡ true → members_related (with_parents r choice) ≡ true
      → Within r choice (parents_made r) → with_parents r choice ≡ region_of (parents_file file)
  file_only choice smaller related fewest = only_within r choice smaller related fewest ∙ sym file_says

  file_rows : list_of (region_of (parents_file file)) ≡ list_of r
  file_rows = ap list_of file_says ∙ parents_list r (parents_made r)

  file_sheets : (c : ℕ) → sheet_of (region_of (parents_file file)) c ≡ sheet_of r c
  file_sheets c = ap (λ x. sheet_of x c) file_says ∙ parents_sheet r (parents_made r) c

  file_prices : (plan : Plan) → total (region_of (parents_file file)) plan ≡ total r plan
  file_prices plan = ap (λ x. total x plan) file_says ∙ parents_total r (parents_made r) plan

  file_again : parents_file (parents_file file) ≡ parents_file file
  unfolding parents_file
  file_again = ap (λ x. spell (with_parents x (parents_made x))) file_says ∙ ap spell (alike_made (chosen_alike r (parents_made r)))

  -- All of it. The theorems below are proved of its parts, so that each stands by itself.
  made_file : MadeFile file
  made_file = record {
    says = file_says;
    checked = file_checked;
    short = file_short;
    least = λ choice passing. file_least choice passing.smaller passing.related;
    only = λ choice passing fewest. file_only choice passing.smaller passing.related
        (fewest (parents_made r) (record { smaller = made_parents_smaller r; related = made_related_lem }));
    rows = file_rows;
    sheets = file_sheets;
    prices = file_prices;
    again = file_again;
  }

-- ---- the entry

module _ (file output : List ℕ) where
  -- What it asks of the file, whatever is asked after it.
  passes : (late : Asked) → all_yes ((asked_by_parents file output).first ++ late) ≡ true → PassesNine (region_of file)
  unfolding asked_by_parents
  passes late all = asked_nine file (every_split (λ (a : ℕ × Bool). a.1) (asked_by_parents file output).first late all).0

  -- The number is 0 where all are answered yes, ..
  parents_zero : ((parents_outcome file output).number ≡ 0) ↔ (all_yes (entry_asks (asked_by_parents file output)) ≡ true)
  unfolding parents_outcome write_outcome_of asked_by_parents
  parents_zero = (says (entry_asks (asked_by_parents file output)) tt).accepted

  -- .. and else that of the first question answered no.
  pub parents_says : Says (entry_asks (asked_by_parents file output)) (parents_outcome file output).number
  unfolding parents_outcome write_outcome_of asked_by_parents
  parents_says = says (entry_asks (asked_by_parents file output)) tt

  -- Number 0: the file with made parents is written, and it is what it should be.
  pub parents_wrote : (parents_outcome file output).number ≡ 0 → Wrote (parents_file file) output (parents_outcome file output).output (parents_outcome file output).count
  unfolding parents_outcome write_outcome_of asked_by_parents
  parents_wrote e = made_wrote (asked_by_parents file output).first (parents_file file) output (parents_zero.0 e)

  pub parents_made_lem : (parents_outcome file output).number ≡ 0 → MadeFile file
  parents_made_lem e =
      let n = passes (asked_by_parents file output).later (parents_zero.0 e) in
      record {
        says = file_says file n;
        checked = file_checked file n;
        short = file_short file n;
        least = λ choice passing. file_least file n choice passing.smaller passing.related;
        only = λ choice passing fewest. file_only file n choice passing.smaller passing.related
            (fewest (parents_made (region_of file)) (record { smaller = made_parents_smaller (region_of file); related = made_related_lem file n }));
        rows = file_rows file n;
        sheets = file_sheets file n;
        prices = file_prices file n;
        again = file_again file n;
      }

  -- A refusal writes nothing.
  pub parents_refused : (q : ℕ) → (parents_outcome file output).number ≡ suc q → Unwritten output (parents_outcome file output).output (parents_outcome file output).count
  unfolding parents_outcome write_outcome_of
  parents_refused q e = made_refused (entry_asks (asked_by_parents file output)) (parents_file file) output q e

-- ---- the call from C, which asks 12 of its result area before 15

module _ (file output result : List ℕ) where
  abbrev call : WriteCall
  call = parents_call file output result

  call_zero : (call.number ≡ 0) ↔ (all_yes (call_asks (asked_by_parents file output) (room_for_numbers 1 result)) ≡ true)
  unfolding parents_call write_call_of asked_by_parents
  call_zero = (says (call_asks (asked_by_parents file output) (room_for_numbers 1 result)) tt).accepted

  pub parents_call_says : Says (call_asks (asked_by_parents file output) (room_for_numbers 1 result)) call.number
  unfolding parents_call write_call_of asked_by_parents
  parents_call_says = says (call_asks (asked_by_parents file output) (room_for_numbers 1 result)) tt

  -- Number 0: the file is written, and its length is the result.
  pub parents_call_wrote : call.number ≡ 0
      → (Wrote (parents_file file) output call.output (length (parents_file file))) × (call.result ≡ result_after (length (parents_file file) ∷ []) result)
  unfolding parents_call write_call_of asked_by_parents
  parents_call_wrote e =
      let wrote = made_wrote ((asked_by_parents file output).first ++ (12, room_for_numbers 1 result) ∷ []) (parents_file file) output (call_zero.0 e) in
      (record { counted = refl; fits = wrote.fits; output = wrote.output }, ap (λ n. result_after (n ∷ []) result) wrote.counted)

  pub parents_call_made : call.number ≡ 0 → MadeFile file
  parents_call_made e =
      let n = passes file output ((12, room_for_numbers 1 result) ∷ (asked_by_parents file output).later) (call_zero.0 e) in
      record {
        says = file_says file n;
        checked = file_checked file n;
        short = file_short file n;
        least = λ choice passing. file_least file n choice passing.smaller passing.related;
        only = λ choice passing fewest. file_only file n choice passing.smaller passing.related
            (fewest (parents_made (region_of file)) (record { smaller = made_parents_smaller (region_of file); related = made_related_lem file n }));
        rows = file_rows file n;
        sheets = file_sheets file n;
        prices = file_prices file n;
        again = file_again file n;
      }

  -- A refusal writes no file, and the result is 0.
  pub parents_call_refused : (q : ℕ) → call.number ≡ suc q → (call.output ≡ output) × ResultZeroed 1 result call.result
  unfolding parents_call write_call_of
  parents_call_refused q e =
      let left = made_refused (call_asks (asked_by_parents file output) (room_for_numbers 1 result)) (parents_file file) output q e in
      (left.output, rw left.counted (result_zeroed 1 result))

-- ---- a file that check accepts

module _ (file : List ℕ) (fine : check_of file ≡ 0) where
  accepted_nine : PassesNine (region_of file)
  accepted_nine = let a = (accepted file fine).region in record {
    counted = a.counted;
    counts_fit = a.counts_fit;
    patients_fit = a.patients_fit;
    members_fit = a.members_fit;
    entry_counts_fit = a.entry_counts_fit;
    entries_fit = a.entries_fit;
  }

  -- Given the room, parents accepts it too.
  pub parents_accepts : (output : List ℕ) → length (parents_file file) ≤ length output → (parents_outcome file output).number ≡ 0
  unfolding asked_by_parents room_for_file
  parents_accepts output room =
      let all = accepted file fine in
      let n = accepted_nine in
      (parents_zero file output).1
      (join all.short (join all.laid (join n.counted (join all.summed (join n.counts_fit (join n.patients_fit (join n.members_fit (join n.entry_counts_fit (join n.entries_fit (join (le-leb (length (parents_file file)) (length output) room) refl))))))))))

  -- Its own parents are one choice, so it has at least the ancestors that are made.
  pub fewer_ancestors : (s a : ℕ) → a ∈ ancestors (region_of (parents_file file)) s → a ∈ ancestors (region_of file) s
  unfolding with_parents as_held
  fewer_ancestors s a k =
      let r = region_of file in
      let region = (accepted file fine).region in
      let own = ap (λ patients. region_from r.plans_wanted patients r.tables) (own_patients r) ∙ read_held file fine in
      subst (λ x. a ∈ ancestors x s) own
      (file_least file accepted_nine (map (λ (p : Patient). p.parent) r.patients) (rw own region.parents_fit) (rw own region.related) s a k)

-- ---- what is answered of two files whose regions differ only in parents

-- The same number, values and lent areas, of every entry and call that reads plans.
pub record SameAnswers (f g : List ℕ) : Type 0 where
  pub list : (beds costs work : List ℕ) → list_outcome f beds costs work ≡ list_outcome g beds costs work
  pub sheet : (clinic : ℕ) (beds costs work : List ℕ) → sheet_outcome f clinic beds costs work ≡ sheet_outcome g clinic beds costs work
  pub price : (plan : Plan) → price_outcome f plan ≡ price_outcome g plan
  pub list_from_c : (beds costs result : List ℕ) → list_call f beds costs result ≡ list_call g beds costs result
  pub sheet_from_c : (clinic : ℕ) (beds costs result : List ℕ) → sheet_call f clinic beds costs result ≡ sheet_call g clinic beds costs result
  pub price_from_c : (plan : Plan) (result : List ℕ) → price_call f plan result ≡ price_call g plan result
  pub print : printed f ≡ printed g

module _ (f g : List ℕ) (in_f : check_of f ≡ 0) (in_g : check_of g ≡ 0) (same : Alike (region_of f) (region_of g)) where
  -- V and m are the same, and so is question 12.
  counted : (region_of f).patient_count ≡ (region_of g).patient_count
  counted = sym (patients_counted_lem (region_of f) (accepted f in_f).region) ∙ same.many ∙ patients_counted_lem (region_of g) (accepted g in_g).region

  rooms : (size : ℕ) (beds costs : List ℕ) → room_for_rows (region_of f) size beds costs ≡ room_for_rows (region_of g) size beds costs
  unfolding room_for_rows
  rooms size beds costs = ap₂ (λ m v. leb (m * v) (length beds) && leb (m * size) (length costs)) same.plans_wanted counted

  areas : (beds costs work : List ℕ) → areas_long_enough (region_of f) beds costs work ≡ areas_long_enough (region_of g) beds costs work
  unfolding areas_long_enough
  areas beds costs work = ap (λ b. b && leb work_size (length work)) (rooms 1 beds costs)

  -- Check accepts both, so what is asked later decides.
  number : {late_f late_g : Asked} → late_f ≡ late_g → first_no (asked_by_check f ++ late_f) ≡ first_no (asked_by_check g ++ late_g)
  number {late_f} {late_g} e = after_check f late_f in_f ∙ ap first_no e ∙ sym (after_check g late_g in_g)

  -- List's questions, and sheet's with 11 before them, whatever is asked of lent areas.
  list_number_lem : {lent_f lent_g : Asked} → lent_f ≡ lent_g
      → first_no (asked_by_check f ++ (lent_f ++ (13, plan_allowed (region_of f)) ∷ [])) ≡ first_no (asked_by_check g ++ (lent_g ++ (13, plan_allowed (region_of g)) ∷ []))
  list_number_lem lent = number (ap₂ (λ (l : Asked) (b : Bool). l ++ (13, b) ∷ []) lent (alike_allowed same))

  sheet_number_lem : (c : ℕ) {lent_f lent_g : Asked} → lent_f ≡ lent_g
      → first_no (asked_by_check f ++ (11, clinic_present (region_of f) c) ∷ [] ++ (lent_f ++ (13, plan_allowed (region_of f)) ∷ []))
      ≡ first_no (asked_by_check g ++ (11, clinic_present (region_of g) c) ∷ [] ++ (lent_g ++ (13, plan_allowed (region_of g)) ∷ []))
  sheet_number_lem c {lent_f} {lent_g} lent =
      ap first_no (append_assoc (asked_by_check f) _ _)
      ∙ number (λ i. (11, alike_present same c i) ∷ (lent i ++ (13, alike_allowed same i) ∷ []))
      ∙ ap first_no (sym (append_assoc (asked_by_check g) _ _))

  -- What is found with the same number.
  list_found_lem : (asked_f asked_g : Asked) → first_no asked_f ≡ first_no asked_g → list_found f asked_f ≡ list_found g asked_g
  unfolding list_found
  list_found_lem asked_f asked_g e = λ i. record { number = e i; width = counted i; rows = unless_refused (e i) (alike_list same i) }

  sheet_found_lem : (c : ℕ) (asked_f asked_g : Asked) → first_no asked_f ≡ first_no asked_g → sheet_found f c asked_f ≡ sheet_found g c asked_g
  unfolding sheet_found
  sheet_found_lem c asked_f asked_g e = λ i. record { number = e i; width = length (alike_patients same c i); rows = unless_refused (e i) (alike_sheet same c i) }

  price_found_lem : (plan : Plan) (asked_f asked_g : Asked) → first_no asked_f ≡ first_no asked_g → price_found f plan asked_f ≡ price_found g plan asked_g
  unfolding price_found
  price_found_lem plan asked_f asked_g e = ap₂ priced e (alike_total same plan)

  plan_fits_lem : (plan : Plan) → plan_fits (region_of f) plan ≡ plan_fits (region_of g) plan
  unfolding plan_fits
  plan_fits_lem plan = λ i. eqb (length plan) (counted i) && every (λ s. ltb (bed_of plan s) (same.bed_count s i)) (below (same.many i))

  print_found : (q : ℕ) → printed_answer q (region_of f) ≡ printed_answer q (region_of g)
  unfolding clinics_present
  print_found zero = λ i.
      printed_rows (text "list" ∷ []) (alike_list same i)
      ++ flat_map (λ c. printed_rows (text "sheet" ∷ decimal c ∷ []) (alike_sheet same c i)) (keep (λ c. alike_present same c i) (below (suc (limits clinic).highest)))
  print_found (suc q) = refl

  -- So each answer is the same.
  list_alike : (beds costs work : List ℕ) → list_outcome f beds costs work ≡ list_outcome g beds costs work
  unfolding list_outcome asked_by_list
  list_alike beds costs work = ap (λ x. outcome_of x beds costs work) (list_found_lem _ _ (list_number_lem (λ i. (12, areas beds costs work i) ∷ [])))

  sheet_alike : (c : ℕ) (beds costs work : List ℕ) → sheet_outcome f c beds costs work ≡ sheet_outcome g c beds costs work
  unfolding sheet_outcome asked_by_sheet
  sheet_alike c beds costs work = ap (λ x. outcome_of x beds costs work) (sheet_found_lem c _ _ (sheet_number_lem c (λ i. (12, areas beds costs work i) ∷ [])))

  price_alike : (plan : Plan) → price_outcome f plan ≡ price_outcome g plan
  unfolding price_outcome asked_by_price
  price_alike plan = price_found_lem plan _ _ (number (λ i. (14, plan_fits_lem plan i) ∷ []))

  list_call_alike : (beds costs result : List ℕ) → list_call f beds costs result ≡ list_call g beds costs result
  unfolding list_call asked_by_list
  list_call_alike beds costs result =
      ap (λ x. call_of x beds costs result) (list_found_lem _ _ (list_number_lem (λ i. (12, room_for_numbers 1 result) ∷ (12, rooms 8 beds costs i) ∷ [])))

  sheet_call_alike : (c : ℕ) (beds costs result : List ℕ) → sheet_call f c beds costs result ≡ sheet_call g c beds costs result
  unfolding sheet_call asked_by_sheet
  sheet_call_alike c beds costs result =
      ap (λ x. call_of x beds costs result) (sheet_found_lem c _ _ (sheet_number_lem c (λ i. (12, room_for_numbers 1 result) ∷ (12, rooms 8 beds costs i) ∷ [])))

  price_call_alike : (plan : Plan) (result : List ℕ) → price_call f plan result ≡ price_call g plan result
  unfolding price_call asked_by_price
  price_call_alike plan result = ap (λ x. price_call_of x result) (price_found_lem plan _ _ (number (λ i. (12, room_for_numbers 2 result) ∷ (14, plan_fits_lem plan i) ∷ [])))

  print_alike : printed f ≡ printed g
  unfolding printed asked_by_list
  print_alike = ap (λ q. printed_answer q (region_of f)) (list_number_lem (λ i. (12, true) ∷ [])) ∙ print_found (yield_number g)

  alike_answers : SameAnswers f g
  alike_answers = record {
    list = list_alike;
    sheet = sheet_alike;
    price = price_alike;
    list_from_c = list_call_alike;
    sheet_from_c = sheet_call_alike;
    price_from_c = price_call_alike;
    print = print_alike;
  }

-- So it is of a file that check accepts and the file with made parents.
pub same_answers : (file : List ℕ) → check_of file ≡ 0 → SameAnswers (parents_file file) file
same_answers file fine =
    let n = accepted_nine file fine in
    let made = parents_file file in
    let checked = file_checked file n in
    let same : Alike (region_of (parents_file file)) (region_of file) = rw (file_says file n) (chosen_alike (region_of file) (parents_made (region_of file))) in
    record {
      list = list_alike made file checked fine same;
      sheet = sheet_alike made file checked fine same;
      price = price_alike made file checked fine same;
      list_from_c = list_call_alike made file checked fine same;
      sheet_from_c = sheet_call_alike made file checked fine same;
      price_from_c = price_call_alike made file checked fine same;
      print = print_alike made file checked fine same;
    }
