-- A region with its numbers cut off stands for the region: every limit is far below where they are cut.
use Rattle.std.specs.Prelude.{◌≡◌, ◌≤◌}
use Rattle.std.proofs.Math.Path.{refl, ap, ap₂}
use Rattle.std.proofs.Common.{sym, ◌∙◌, map-id, arith, ◌<◌, ◌&&◌, ◌∷◌}
use Rattle.std.proofs.Math.Bool.{and-false}
use Rattle.std.proofs.Math.ListN.{length-map, get_or-map}
use Rattle.std.proofs.Math.Seq.{ext_get_or}
use borrow.Author.Tests.{eqb-true, ltb-true}
use Rattle.definitions.specs.Basics.{ℕ, Bool, true, false, Option, none, some, none_or, List, [], map, length, get_or, eqb, ltb, sum, product, below, every, every_two}
use Rattle.definitions.specs.Limits.{limits, within, patient_count, table_count, clinic, bed_count, member_count, entry_count, entry}
use Rattle.definitions.specs.Syntax.{Patient, Table, Region, patient_at, bed_counts}
use Rattle.definitions.specs.Spelling.{spell_body}
use Rattle.definitions.specs.Questions.{counts_true, counts_within, patients_within, parents_smaller, members_right, entry_counts_right, entries_within, members_related, checksum}
use Rattle.definitions.specs.Writer.{with_sum}
use Rattle.lists.specs.Tests.{both}
use Rattle.lists.specs.Members.{◌∈◌}
use Rattle.lists.specs.Every.{every_in, every_at, every_same, every_map}
use Rattle.lists.specs.Maps.{map_same}
use Rattle.lists.specs.Below.{every_place, same_tests}
use Rattle.theorems.specs.Accepted.{at_most}
use Rattle.held_region.specs.Members.{members_fit}
use Rattle.held_region.specs.Asked.{patient_fits, none_or_below}
use Rattle.held_region.specs.Refusals.{asked, last_asked}
use Rattle.held_region.specs.HeldFrom.{none_said}
use Rattle.held_region.specs.StandsFor.{Alike, same_left, one_asked, same_first, asked_yes, StandsFor}
use Rattle.lent_region.specs.CutOff.{most, cut, cut_option, cut_patient, cut_table, cut_off, cut_low, cut_within, cut_below, cut_option_within, cut_option_below}

-- ---- what is not cut

-- A list whose elements stay as they are stays as it is.
all_stay : {A : Type 0} (f : A → A) (l : List A) → ((x : A) → x ∈ l → f x ≡ x) → map f l ≡ l
all_stay f l stays = map_same f (λ x. x) l stays ∙ map-id l

option_stays : (o : Option ℕ) (bound : ℕ) → bound ≤ most → none_or (λ n. ltb n bound) o ≡ true → cut_option o ≡ o
option_stays none bound small fits = refl
option_stays (some n) bound small fits = ap some (cut_low n (omega (arith, ltb-true n bound fits)))

entry_stays : (o : Option ℕ) → none_or (within entry) o ≡ true → cut_option o ≡ o
unfolding limits
entry_stays none fits = refl
entry_stays (some n) fits = ap some (cut_low n (omega (arith, at_most entry n fits)))

-- ---- one patient

-- A count of beds within its limits is not cut, and a fixed bed is below it once it is cut off where it was below it before. Any other count is refused.
patient_fits_cut : (p : Patient) → patient_fits (cut_patient p) ≡ patient_fits p
unfolding limits
patient_fits_cut p = go (within bed_count p.bed_count) refl
  where
    same_beds_lem : within bed_count (cut p.bed_count) ≡ within bed_count p.bed_count
    same_beds_lem = cut_within bed_count p.bed_count (omega arith)

    refused : (q : Patient) → within bed_count q.bed_count ≡ false → patient_fits q ≡ false
    refused q e =
        ap (λ b. within clinic q.clinic && b && none_or_below q.fixed_bed q.bed_count) e
        ∙ ap (λ b. b && none_or_below q.fixed_bed q.bed_count) (and-false (within clinic q.clinic))

    go : (b : Bool) → within bed_count p.bed_count ≡ b → patient_fits (cut_patient p) ≡ patient_fits p
    go true e =
        let few : p.bed_count ≤ most = omega (arith, at_most bed_count p.bed_count e) in
        ap₂ (λ a b. a && b) (ap₂ (λ a b. a && b) (cut_within clinic p.clinic (omega arith)) same_beds_lem)
        (ap (none_or_below (cut_option p.fixed_bed)) (cut_low p.bed_count few) ∙ cut_option_below p.fixed_bed p.bed_count few)
    go false e = refused (cut_patient p) (same_beds_lem ∙ e) ∙ sym (refused p e)

-- ---- one table

members_fit_cut : (v : ℕ) (members : List ℕ) → v ≤ most → members_fit v (map cut members) ≡ members_fit v members
members_fit_cut v members small = go (every (λ s. ltb s v) members) refl
  where
    below_cut : every (λ s. ltb s v) (map cut members) ≡ every (λ s. ltb s v) members
    below_cut = every_map (λ s. ltb s v) cut members ∙ every_same _ _ members (λ s k. cut_below s v small)

    refused : (l : List ℕ) → every (λ s. ltb s v) l ≡ false → members_fit v l ≡ false
    refused l e = ap (λ b. within member_count (length l) && b && every_two ltb l) e ∙ ap (λ b. b && every_two ltb l) (and-false (within member_count (length l)))

    go : (b : Bool) → every (λ s. ltb s v) members ≡ b → members_fit v (map cut members) ≡ members_fit v members
    go true e = ap (members_fit v) (all_stay cut members (λ s k. cut_low s (omega (arith, ltb-true s v (every_in _ members e k)))))
    go false e = refused (map cut members) (below_cut ∙ e) ∙ sym (refused members e)

members_stay : (v : ℕ) (members : List ℕ) → v ≤ most → members_fit v members ≡ true → map cut members ≡ members
members_stay v members small fits =
    let known = (both (within member_count (length members)) (both (within member_count (length members) && every (λ s. ltb s v) members) fits).0).1 in
    all_stay cut members (λ s k. cut_low s (omega (arith, ltb-true s v (every_in _ members known k))))

-- ---- the questions

module _ (r : Region) (counted : counts_true r ≡ true) (five : counts_within r ≡ true) where
  few : r.patient_count ≤ 32
  unfolding counts_within limits
  few = at_most patient_count _ (both (within patient_count r.patient_count) (both (within patient_count r.patient_count && within table_count r.table_count) five).0).0

  patient_lines_lem : length r.patients ≤ 32
  unfolding counts_true
  patient_lines_lem = omega (arith, few, eqb-true (length r.patients) r.patient_count (both (eqb (length r.patients) r.patient_count) counted).0)

  patients_within_cut : patients_within (cut_off r) ≡ patients_within r
  unfolding patients_within cut_off limits
  patients_within_cut =
      every_map patient_fits cut_patient r.patients
      ∙ every_same _ _ r.patients (λ p k. patient_fits_cut p)

  patient_cut : (s : ℕ) → patient_at (cut_off r) s ≡ cut_patient (patient_at r s)
  unfolding patient_at cut_off
  patient_cut s = get_or-map cut_patient r.patients s none_said

  parents_smaller_cut : parents_smaller (cut_off r) ≡ parents_smaller r
  unfolding parents_smaller
  parents_smaller_cut =
      ap (λ n. every (λ s. none_or_below (patient_at (cut_off r) s).parent s) (below n)) same_length
      ∙ same_tests _ _ (length r.patients) (λ s l. ap (λ p. none_or_below p.parent s) (patient_cut s) ∙ cut_option_below (patient_at r s).parent s (omega (arith, patient_lines_lem)))
    where
      same_length : length (cut_off r).patients ≡ length r.patients
      same_length = unfold cut_off in length-map r.patients cut_patient

  -- Where question 6 is answered yes, no patient is cut.
  module _ (six : (patients_within r && parents_smaller r) ≡ true) where
    patient_stays : (s : ℕ) → s < length r.patients → cut_patient (patient_at r s) ≡ patient_at r s
    unfolding patients_within parents_smaller patient_at limits
    patient_stays s l =
        let two = both (patients_within r) six in
        let p = patient_at r s in
        let three = both (within clinic p.clinic && within bed_count p.bed_count) (every_at patient_fits r.patients s none_said l two.0) in
        let fits = both (within clinic p.clinic) three.0 in
        let smaller : none_or_below p.parent s ≡ true = every_place _ _ s two.1 l in
        let c : cut p.clinic ≡ p.clinic = cut_low _ (omega (arith, at_most clinic _ fits.0)) in
        let b : cut p.bed_count ≡ p.bed_count = cut_low _ (omega (arith, at_most bed_count _ fits.1)) in
        ap₂ (λ x y. record { clinic = x; bed_count = y; parent = cut_option p.parent; fixed_bed = cut_option p.fixed_bed }) c b
        ∙ ap₂ (λ q f. record { clinic = p.clinic; bed_count = p.bed_count; parent = q; fixed_bed = f })
        (option_stays p.parent s (omega (arith, patient_lines_lem)) smaller)
        (option_stays p.fixed_bed p.bed_count (omega (arith, at_most bed_count _ fits.1)) three.1)

    patients_stay : (cut_off r).patients ≡ r.patients
    unfolding cut_off patient_at
    patients_stay = ext_get_or none_said (map cut_patient r.patients) r.patients (length-map r.patients cut_patient)
        (λ s l. get_or-map cut_patient r.patients s none_said ∙ patient_stays s (omega (arith, length-map r.patients cut_patient)))

  members_right_cut : members_right (cut_off r) ≡ members_right r
  unfolding members_right cut_off
  members_right_cut =
      every_map (λ t. members_fit r.patient_count t.members) cut_table r.tables
      ∙ every_same _ _ r.tables (λ t k. members_fit_cut r.patient_count t.members (omega (arith, few)))

  module _ (six : (patients_within r && parents_smaller r) ≡ true) (seven : members_right r ≡ true) where
    table_members_stay : (t : Table) → t ∈ r.tables → map cut t.members ≡ t.members
    unfolding members_right
    table_members_stay t k = members_stay r.patient_count t.members (omega (arith, few)) (every_in _ r.tables seven k)

    bed_counts_stay : (members : List ℕ) → bed_counts (cut_off r) members ≡ bed_counts r members
    unfolding patient_at
    bed_counts_stay members = ap (λ (ps : List Patient). map (λ s. (get_or ps s none_said).bed_count) members) (patients_stay six)

    entry_counts_cut : entry_counts_right (cut_off r) ≡ entry_counts_right r
    unfolding entry_counts_right cut_off
    entry_counts_cut = ap₂ (λ a n. a && within entry_count n) match total
      where
        match : every (λ t. eqb (length t.entries) (product (bed_counts (cut_off r) t.members))) (map cut_table r.tables)
            ≡ every (λ t. eqb (length t.entries) (product (bed_counts r t.members))) r.tables
        match = every_map (λ t. eqb (length t.entries) (product (bed_counts (cut_off r) t.members))) cut_table r.tables
            ∙ every_same _ _ r.tables
            (λ t k. ap₂ (λ n beds. eqb n (product beds)) (length-map t.entries cut_option) (bed_counts_stay (map cut t.members) ∙ ap (bed_counts r) (table_members_stay t k)))

        total : sum (map (λ t. length t.entries) (map cut_table r.tables)) ≡ sum (map (λ t. length t.entries) r.tables)
        total = ap sum (go r.tables)
          where
            go : (ts : List Table) → map (λ t. length t.entries) (map cut_table ts) ≡ map (λ t. length t.entries) ts
            go [] = refl
            go (t ∷ ts) = ap₂ (λ n k. n ∷ k) (length-map t.entries cut_option) (go ts)

    entries_within_cut : entries_within (cut_off r) ≡ entries_within r
    unfolding entries_within cut_off limits
    entries_within_cut =
        every_map (λ t. every (none_or (within entry)) t.entries) cut_table r.tables
        ∙ every_same _ _ r.tables
        (λ t k. every_map (none_or (within entry)) cut_option t.entries ∙ every_same _ _ t.entries (λ o i. cut_option_within entry o (omega arith)))

    -- Where question 9 is too, nothing is cut.
    module _ (nine : entries_within r ≡ true) (true_sum : r.stated_sum ≡ checksum (spell_body r)) where
      tables_stay : map cut_table r.tables ≡ r.tables
      unfolding entries_within
      tables_stay = all_stay cut_table r.tables λ t k.
          ap₂ (λ ms es. record { members = ms; entries = es }) (table_members_stay t k)
          (all_stay cut_option t.entries (λ o i. entry_stays o (every_in _ t.entries (every_in _ r.tables nine k) i)))

      all_stays : cut_off r ≡ r
      unfolding cut_off spell_body
      all_stays =
          ap₂ (λ ps ts. with_sum (record { patient_count = r.patient_count; table_count = r.table_count; plans_wanted = r.plans_wanted; patients = ps; tables = ts; stated_sum = 0 })) (patients_stay six) tables_stay
          ∙ ap (λ n. record { patient_count = r.patient_count; table_count = r.table_count; plans_wanted = r.plans_wanted; patients = r.patients; tables = r.tables; stated_sum = n }) (sym true_sum)

module _ (r : Region) (counted : counts_true r ≡ true) (true_sum : r.stated_sum ≡ checksum (spell_body r)) where
  alike : Alike (asked true (cut_off r)) (asked true r)
  unfolding asked last_asked
  alike =
      one_asked counts_cut λ five.
      one_asked (ap₂ (λ a b. a && b) (patients_within_cut r counted five) (parents_smaller_cut r counted five)) λ six.
      one_asked (members_right_cut r counted five) λ seven.
      one_asked (entry_counts_cut r counted five six seven) λ eight.
      one_asked (entries_within_cut r counted five six seven) λ nine.
      same_left (ap (λ x. (10, members_related x) ∷ []) (all_stays r counted five six seven nine true_sum))
    where
      counts_cut : counts_within (cut_off r) ≡ counts_within r
      counts_cut = unfold counts_within in unfold cut_off in refl

  pub cut_stands : StandsFor true (cut_off r) r
  unfolding asked last_asked
  cut_stands = record {
    asks = same_first alike;
    says = λ none_no. let (five, (six, (seven, (eight, (nine, rest))))) = asked_yes true r none_no in all_stays r counted five six seven nine true_sum;
  }
