-- Which files yield a list, and when a sheet is printed: what list's and sheet's number 0 says of the questions.
-- (Theorems that rest on these stand in `proofs/Yields.antt`.)
use Rattle.std.proofs.Common.{sym, ap, ◌∙◌, ◌≡◌, ◌&&◌, ◌∷◌, ◌++◌}
use Rattle.std.specs.Prelude.{◌↔◌}
use Rattle.definitions.specs.Basics.{ℕ, refl, true, List, []}
use Rattle.definitions.specs.Questions.{Asked, region_of, check_of, clinic_present, room_for_rows, areas_long_enough, plan_allowed}
use Rattle.definitions.specs.Questions.{asked_by_check, asked_by_list, asked_by_sheet}
use Rattle.definitions.specs.Outcomes.{sheet_outcome}
use Rattle.definitions.specs.Boundary.{room_for_numbers, sheet_call}
use Rattle.definitions.specs.Isolation.{YieldsList}
use Rattle.lists.specs.Tests.{both, join}
use Rattle.lists.specs.Every.{every_concat}
use Rattle.theorems.specs.Answers.{all_yes}
use Rattle.theorems.specs.Refusals.{check_says, yield_says, sheet_says, sheet_call_says}
use Rattle.theorems.specs.Accepted.{Accepted, accepted}

-- ---- questions asked after those of check

pub asked_after : (file : List ℕ) (late : Asked) → (all_yes (asked_by_check file ++ late) ≡ true) ↔ ((check_of file ≡ 0) × (all_yes late ≡ true))
asked_after file late = rw (every_concat (λ a. a.1) (asked_by_check file) late) (
  λ e. let (h, k) = both (all_yes (asked_by_check file)) e in ((check_says file).accepted.1 h, k),
  λ (h, k). join ((check_says file).accepted.0 h) k,
)

-- Questions 1 to 10 and 13 are answered yes.
pub record Yields (file : List ℕ) : Type 0 where
  pub checked : check_of file ≡ 0
  pub planned : plan_allowed (region_of file) ≡ true

module _ (file : List ℕ) where
  pub yields : YieldsList file ↔ Yields file
  unfolding asked_by_list
  yields = (
    λ e. let (h, k) = (asked_after file _).0 ((yield_says file).accepted.0 e) in record { checked = h; planned = (both (plan_allowed (region_of file)) k).0 },
    λ y. (yield_says file).accepted.1 ((asked_after file _).1 (y.checked, join y.planned refl)),
  )

  -- The questions of sheet are answered yes where the file yields a list, the clinic has a patient and what is lent is long enough.
  sheet_asked_lem : (c : ℕ) (lent : Asked)
      → (all_yes (asked_by_check file ++ (11, clinic_present (region_of file) c) ∷ [] ++ (lent ++ (13, plan_allowed (region_of file)) ∷ [])) ≡ true)
      ↔ (YieldsList file × (clinic_present (region_of file) c ≡ true) × (all_yes lent ≡ true))
  sheet_asked_lem c lent =
      let present = clinic_present (region_of file) c in
      let planned = plan_allowed (region_of file) in
      let eleven : Asked = (11, present) ∷ [] in
      let thirteen : Asked = (13, planned) ∷ [] in
      let split = every_concat (λ a. a.1) (asked_by_check file ++ eleven) (lent ++ thirteen) ∙ ap (λ b. all_yes (asked_by_check file ++ eleven) && b) (every_concat (λ a. a.1) lent thirteen) in (
        λ e.
            let (first, others) = both (all_yes (asked_by_check file ++ eleven)) (sym split ∙ e) in
            let (checked, asked) = (asked_after file eleven).0 first in
            let (long, last) = both (all_yes lent) others in
            (yields.1 (record { checked = checked; planned = (both planned last).0 }), (both present asked).0, long),
        λ (e, there, long).
            let y = yields.0 e in
            split ∙ join ((asked_after file eleven).1 (y.checked, join there refl)) (join long (join y.planned refl)),
      )

  pub sheet_printed : (c : ℕ) (beds costs work : List ℕ)
      → ((sheet_outcome file c beds costs work).number ≡ 0)
      ↔ (YieldsList file × (clinic_present (region_of file) c ≡ true) × (areas_long_enough (region_of file) beds costs work ≡ true))
  unfolding asked_by_sheet
  sheet_printed c beds costs work =
      let s = (sheet_says file c beds costs work).accepted in
      let long = areas_long_enough (region_of file) beds costs work in
      let a = sheet_asked_lem c ((12, long) ∷ []) in (
        λ e. let (list, present, asked) = a.0 (s.0 e) in (list, present, (both long asked).0),
        λ (list, present, h). s.1 (a.1 (list, present, join h refl)),
      )

  pub sheet_call_printed : (c : ℕ) (beds costs result : List ℕ)
      → ((sheet_call file c beds costs result).number ≡ 0)
      ↔ (YieldsList file × (clinic_present (region_of file) c ≡ true) × (room_for_rows (region_of file) 8 beds costs ≡ true) × (room_for_numbers 1 result ≡ true))
  unfolding asked_by_sheet
  sheet_call_printed c beds costs result =
      let s = (sheet_call_says file c beds costs result).accepted in
      let room = room_for_numbers 1 result in
      let long = room_for_rows (region_of file) 8 beds costs in
      let a = sheet_asked_lem c ((12, room) ∷ (12, long) ∷ []) in (
        λ e.
            let (list, present, asked) = a.0 (s.0 e) in
            let (fits, others) = both room asked in
            (list, present, (both long others).0, fits),
        λ (list, present, rows, fits). s.1 (a.1 (list, present, join fits (join rows refl))),
      )

-- ---- what follows for the region of such a file

pub yielding : (file : List ℕ) → YieldsList file → Accepted (region_of file)
yielding file e = (accepted file ((yields file).0 e).checked).region
