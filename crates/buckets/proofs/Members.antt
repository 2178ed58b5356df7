-- The members and strides of a term, written from the last member down.
use mathlib.Core.Path.{◌≡◌, sym, ap, ap₂, ◌∙◌, subst⁻¹}
use native.Mathlib.Decide.{ℕ_discrete}
use native.Mathlib.Nat.{mul_comm, mul-le-mul, pow-suc, pow-zero, pow-le-pow_right, zero-lt-suc}
use native.Mathlib.Omega.{arith}
use lib.ListN.{length, get_or, set, replicate, length-set, length-replicate, get_or-replicate, get_or-eq_default}
use lib.Seq.{get_or-set_same, get_or-set_other}
use Prim.Native.Nat.{ℕ, zero, suc, ◌+◌, ◌-◌, ◌*◌, ◌^◌, ◌≤◌, ◌<◌}
use mathlib.Core.List.{List, ◌∷◌, map}
use Rattle.definitions.specs.Basics.{product, numbers_from}
use Rattle.held_region.specs.declared.Table.{Table}
use Rattle.held_region.specs.Meaning.{members_of}
use Rattle.held_region.specs.Members.{members_from, members_next, members_done}
use Rattle.lists.specs.Below.{length_by_places, at_place}
use Rattle.lists.specs.Loops.{places_from}
use Rattle.bucket_words.specs.declared.PatientBucket.{PatientBucket}
use Rattle.bucket_words.specs.declared.TermMember.{TermMember}
use Rattle.bucket_words.specs.Words.{no_member, beds_at}
use Rattle.buckets.specs.Places.{stride_of, stride_past}
use Rattle.buckets.specs.Written.{MembersWritable, MembersSoFar, MembersWritten}

-- A member's stride is the product over the members behind it.
stride_places : (f g : ℕ → ℕ) (a n i : ℕ) → i < n → stride_of f (map g (numbers_from a n)) i ≡ product (map f (map g (numbers_from (a + (i + 1)) (n - (i + 1)))))
unfolding stride_of
stride_places f g a zero i h = absurd (omega arith)
stride_places f g a (suc n) zero h =
    let from : suc a ≡ a + (0 + 1) = omega arith in
    let left : n ≡ suc n - (0 + 1) = omega arith in
    ap₂ (λ b m. product (map f (map g (numbers_from b m)))) from left
stride_places f g a (suc n) (suc i) h =
    let from : suc a + (i + 1) ≡ a + (suc i + 1) = omega arith in
    let left : n - (i + 1) ≡ suc n - (suc i + 1) = omega arith in
    stride_places f g (suc a) n i (omega arith) ∙ ap₂ (λ b m. product (map f (map g (numbers_from b m)))) from left

stride_from : (f : ℕ → ℕ) (t : Table) (i : ℕ) → i < t.members → stride_of f (members_of t) i ≡ product (map f (members_from t (i + 1)))
unfolding members_from places_from
stride_from f t i h =
    let from : 0 + (i + 1) ≡ i + 1 = omega arith in
    stride_places f (λ j. get_or t.first j 0) 0 t.members i h
    ∙ ap (λ b. product (map f (map (λ j. get_or t.first j 0) (numbers_from b (t.members - (i + 1)))))) from

module _ (patients : List PatientBucket) (t : Table) (known : MembersWritable patients t) where
  counted : length (members_of t) ≡ t.members
  counted = length_by_places (λ i. get_or t.first i 0) 0 t.members

  -- Before the loop: past the last member there is nobody.
  pub members_none : MembersSoFar patients t t.members 1 (replicate 4 no_member)
  members_none =
      let none_left : t.members - t.members ≡ 0 = omega arith in
      record {
        left = omega arith;
        wide = length-replicate {A = TermMember} 4 no_member;
        members = λ i h l. rw (get_or-replicate {A = TermMember} 4 i no_member no_member l) (sym (get_or-eq_default (members_of t) 0 (omega (arith, counted))));
        strides = λ i h l. rw (get_or-replicate {A = TermMember} 4 i no_member no_member l) (sym (stride_past (beds_at patients) (members_of t) i (omega (arith, counted))));
        multiplied = sym (ap (λ l. product (map (beds_at patients) l)) (members_done t t.members (omega arith)));
        small = rw none_left (omega (arith, pow-zero 16));
      }

  -- One more member.
  module _ (j stride : ℕ) (written : List TermMember) (more : 0 < j) (so : MembersSoFar patients t j stride written) where
    abbrev i : ℕ
    i = j - 1

    pub place : i < t.members
    place = omega (arith, so.left)

    abbrev member : ℕ
    member = get_or t.first i 0

    abbrev one : TermMember
    one = record { patient = member; stride = stride }

    abbrev after : List TermMember
    after = set written i one

    stride_most : stride * beds_at patients member ≤ 16 ^ (t.members - i)
    stride_most =
        let left : t.members - i ≡ suc (t.members - j) = omega (arith, so.left) in
        subst⁻¹ (λ m. stride * beds_at patients member ≤ m) (ap (λ n. 16 ^ n) left ∙ pow-suc 16 (t.members - j))
        (mul-le-mul so.small (known.small i (omega (arith, so.left))))

    pub stride_fits : stride * beds_at patients member < 2 ^ 32
    stride_fits =
        let few : t.members - i ≤ 4 = omega (arith, known.few) in
        let room : 16 ^ (t.members - i) ≤ 16 ^ 4 = pow-le-pow_right (zero-lt-suc 15) few in
        omega (arith, stride_most)

    next_place : i + 1 ≡ j
    next_place = omega arith

    here : get_or after i no_member ≡ one
    here = get_or-set_same written i one no_member (omega (arith, so.wide, known.few, place))

    other : (q : ℕ) → (q ≡ i → ⊥) → get_or after q no_member ≡ get_or written q no_member
    other q n = get_or-set_other written i q one no_member n

    stride_here : stride ≡ stride_of (beds_at patients) (members_of t) i
    stride_here = so.multiplied ∙ ap (λ n. product (map (beds_at patients) (members_from t n))) (sym next_place) ∙ sym (stride_from (beds_at patients) t i place)

    pub members_more : MembersSoFar patients t i (stride * beds_at patients member) after
    members_more =
        record {
          left = omega (arith, so.left);
          wide = length-set written i one ∙ so.wide;
          members = λ q h l. elim (ℕ_discrete q i) [
            | yes e ↦ rw (e, here) (sym (at_place (λ n. get_or t.first n 0) 0 t.members i place))
            | no n ↦ ap (λ (m : TermMember). m.patient) (other q n) ∙ so.members q (omega (arith, n)) l
          ];
          strides = λ q h l. elim (ℕ_discrete q i) [
            | yes e ↦ rw (e, here) stride_here
            | no n ↦ ap (λ (m : TermMember). m.stride) (other q n) ∙ so.strides q (omega (arith, n)) l
          ];
          multiplied =
              ap (λ n. n * beds_at patients member) so.multiplied ∙ mul_comm _ _
              ∙ sym (ap (λ l. product (map (beds_at patients) l)) (members_next t i place ∙ ap (λ n. member ∷ members_from t n) next_place));
          small = stride_most;
        }

  -- All members.
  pub members_written : (stride j : ℕ) (written : List TermMember) → j ≤ 0 → MembersSoFar patients t j stride written → MembersWritten patients t written
  members_written stride j written done so = record { members = λ i h. so.members i (omega arith) h; strides = λ i h. so.strides i (omega arith) h }
