-- A file whose questions 1 to 4 are answered yes, with one byte changed to another, is refused by every entry, by every call from C and in print.
use Rattle.std.proofs.Common.{sym, ap, subst, ◌∙◌, arith, length-set, length-append, lt-length-set, get_or-set_same, get_or-set_other, get_or-append-add, take_at, drop_at, lt-ltb, le-leb, leb-true, eqb-true, ne_eqb, ◌+◌, ◌-◌, ◌<◌, ◌≡◌, ◌∷◌, ◌++◌}
use Rattle.std.specs.Prelude.{◌≢◌, ◌≤◌, drop, set}
use Rattle.std.proofs.lemmas.Bool.{false≢true, lt-leb}
use Rattle.std.proofs.Math.Option.{some-injective}
use Rattle.std.proofs.Math.Decide.{dec_lt, ℕ_discrete}
use Rattle.std.proofs.Math.ListN.{get_or-append}
use Rattle.std.proofs.lemmas.List.{set-append_left, take-set-le}
use Rattle.std.proofs.Math.Seq.{append_snoc, take-append_seam, drop-append_seam}
use Rattle.definitions.specs.Basics.{ℕ, zero, suc, refl, Bool, true, false, not, some, List, [], take, length, leb}
use Rattle.definitions.specs.Basics.{get_or, eqb, sum, text, every}
use Rattle.definitions.specs.Limits.{limits}
use Rattle.definitions.specs.Layout.{is_digit, whole, end_line}
use Rattle.definitions.specs.Spelling.{decimal, spell_body, spell}
use Rattle.definitions.specs.Questions.{checksum, short_enough, laid_out, counts_true, sum_true, region_of, first_no, asked_of_file, asked_of_region, asked_by_check, check_of}
use Rattle.theorems.specs.Refused.{Refused, refused_alike}
use Rattle.lists.specs.Tests.{both}
use Rattle.lists.specs.Members.{◌∈◌}
use Rattle.theorems.specs.Answers.{says, no_then}
use Rattle.theorems.specs.Accepted.{region_said_lem}
use Rattle.lists.specs.Every.{every_in, every_at, every_append, every_weaken}
use Rattle.theorems.specs.Numbers.{digit_bounds, decimal_digits}
use Rattle.theorems.specs.Lines.{in_file, lines_end, line_inside}
use Rattle.theorems.specs.Forms.{spell_end, end_spelt, end_takes}
use Rattle.theorems.specs.Files.{flatten_body, end_line_lem}
use Rattle.theorems.proofs.Files.{body_lines_lem}
use Rattle.theorems.proofs.Spelling.{laid_out_spelt, laid_out_bytes, body_spelt}
use Rattle.theorems.specs.OneByte.{OneByteRefused}

-- What these questions say of the bytes: a body that ends in a line end, and an end line that gives the body's sum.
record Summed (file : List ℕ) : Type 0 where
  body : List ℕ
  before : List ℕ
  ends : body ≡ before ++ 10 ∷ []
  is : file ≡ body ++ spell_end (checksum body)
  bytes : every in_file file ≡ true

summed : (file : List ℕ) → first_no (asked_of_file file) ≡ 0 → Summed file
unfolding sum_true spell
summed file e =
    let all = (both (short_enough file) ((says (asked_of_file file) tt).accepted.0 e)).1 in
    let (laid, rest) = both (laid_out file) all in
    let (true_sum, none_left) = both (sum_true file (region_of file)) (both (counts_true (region_of file)) rest).1 in
    let r = region_of file in
    let body_is = body_spelt file r (region_said_lem file laid) in
    let stated : r.stated_sum ≡ checksum (spell_body r) = eqb-true _ _ true_sum ∙ ap checksum body_is in
    let (before, ends) = lines_end _ _ (body_lines_lem r) in
    record {
      body = spell_body r;
      before = before;
      ends = sym (flatten_body r) ∙ ends;
      is = (laid_out_spelt file laid).1 ∙ ap (λ (n : ℕ). spell_body r ++ spell_end n) stated;
      bytes = laid_out_bytes file laid;
    }

-- An end line has one opening bracket, its first byte. (Like every line it has one line end, its last byte.)
abbrev no_open : ℕ → Bool
no_open b = not (eqb b 40)

digit_no_open : (b : ℕ) → is_digit b ≡ true → no_open b ≡ true
digit_no_open b h = let (low, high) = digit_bounds b h in ap not (ne_eqb b 40 (omega arith))

end_no_open : (n i : ℕ) → suc i < length (spell_end n) → get_or (spell_end n) (suc i) 0 ≢ 40
end_no_open n i h e =
    let after = text "end " ++ (decimal n ++ text ")\n") in
    let is : spell_end n ≡ 40 ∷ after = end_spelt n in
    let long : length (spell_end n) ≡ suc (length after) = ap length is in
    let at : get_or (spell_end n) (suc i) 0 ≡ get_or after i 0 = ap (λ (l : List ℕ). get_or l (suc i) 0) is in
    let digits = every_weaken is_digit no_open digit_no_open (decimal n) (decimal_digits n) in
    let passes : every no_open after ≡ true = every_append no_open (decimal n) (text ")\n") digits refl in
    false≢true (ap no_open (sym e ∙ at) ∙ every_at no_open after i 0 (omega arith) passes)

-- An end line gives one number.
end_number : (a b : List ℕ) → spell_end (checksum a) ≡ spell_end (checksum b) → checksum a ≡ checksum b
unfolding limits
end_number a b e = some-injective (checksum a) (checksum b) (sym (read a) ∙ ap (whole end_line) e ∙ read b)
  where
    read : (l : List ℕ) → whole end_line (spell_end (checksum l)) ≡ some (checksum l)
    read l = end_takes.each (checksum l) (lt-ltb (checksum l) 10_000_000 (omega arith))

-- Two files of the same length differ in one place at most. Then the end line of the second does not begin after that of the first:
-- the line end and the opening bracket there would stand inside the end line of the first, which are two differences.
module _ {f g : List ℕ} (F : Summed f) (G : Summed g) (i : ℕ) (same_length : length f ≡ length g)
    (others : (j : ℕ) → j ≢ i → get_or f j 0 ≡ get_or g j 0) where
  at_end_lem : (j : ℕ) → get_or f (length F.body + j) 0 ≡ get_or (spell_end (checksum F.body)) j 0
  at_end_lem j = ap (λ (l : List ℕ). get_or l (length F.body + j) 0) F.is ∙ get_or-append-add F.body (spell_end (checksum F.body)) j 0

  at_seam : (j : ℕ) → get_or g (length G.before + j) 0 ≡ get_or (10 ∷ spell_end (checksum G.body)) j 0
  at_seam j =
      let end = spell_end (checksum G.body) in
      let is : g ≡ G.before ++ 10 ∷ end = G.is ∙ ap (λ (l : List ℕ). l ++ end) G.ends ∙ append_snoc G.before 10 end in
      ap (λ (l : List ℕ). get_or l (length G.before + j) 0) is ∙ get_or-append-add G.before (10 ∷ end) j 0

  not_later : length F.body < length G.body → ⊥
  not_later h = by (ℕ_discrete k i)
    where
      k : ℕ
      k = length G.before

      -- How far into the first end line the two bytes stand.
      d : ℕ
      d = k - length F.body

      body_long : length G.body ≡ k + 1
      body_long = ap length G.ends ∙ length-append G.before (10 ∷ [])

      inside : suc d < length (spell_end (checksum F.body))
      inside =
          let first = ap length F.is ∙ length-append F.body (spell_end (checksum F.body)) in
          let second = ap length G.is ∙ length-append G.body (spell_end (checksum G.body)) in
          let long = body_long in
          omega arith

      no_end_lem : get_or f (k + 0) 0 ≢ 10
      no_end_lem e =
          let long = body_long in
          let place : length F.body + d ≡ k + 0 = omega arith in
          line_inside (end_line_lem (checksum F.body)) d inside (sym (at_end_lem d) ∙ ap (λ (n : ℕ). get_or f n 0) place ∙ e)

      no_bracket : get_or f (k + 1) 0 ≢ 40
      no_bracket e =
          let long = body_long in
          let place : length F.body + suc d ≡ k + 1 = omega arith in
          end_no_open (checksum F.body) d inside (sym (at_end_lem (suc d)) ∙ ap (λ (n : ℕ). get_or f n 0) place ∙ e)

      by : Dec (k ≡ i) → ⊥
      by (yes e) = no_bracket (others (k + 1) (omega arith) ∙ at_seam 1)
      by (no n) = no_end_lem (others (k + 0) (λ e. n (omega arith)) ∙ at_seam 0)

-- A changed byte changes the sum by less than the modulus.
byte_small : (b : ℕ) → in_file b ≡ true → b < 256
byte_small b h = by (dec_lt b 256)
  where
    by : Dec (b < 256) → b < 256
    by (yes small) = small
    by (no large) =
        let none_of_them : in_file b ≡ false =
        rw (
          le-leb 48 b (omega arith),
          lt-leb b 57 (omega arith),
          le-leb 97 b (omega arith),
          lt-leb b 122 (omega arith),
          ne_eqb b 40 (omega arith),
          ne_eqb b 41 (omega arith),
          ne_eqb b 32 (omega arith),
          ne_eqb b 45 (omega arith),
          ne_eqb b 10 (omega arith),
        ) in
        absurd (false≢true (sym none_of_them ∙ h))

sum_set : (l : List ℕ) (i b : ℕ) → i < length l → sum (set l i b) + get_or l i 0 ≡ sum l + b
sum_set [] i b h = absurd (omega arith)
sum_set (x ∷ l) zero b h = omega arith
sum_set (x ∷ l) (suc i) b h = let rest = sum_set l i b (omega arith) in omega arith

checksum_set : (l : List ℕ) (i b : ℕ) → i < length l → get_or l i 0 < 256 → b < 256 → checksum l ≡ checksum (set l i b) → b ≡ get_or l i 0
checksum_set l i b h old new same = let e = sum_set l i b h in omega arith

-- A list, cut twice at the same place.
append_same : (a b c d : List ℕ) → a ++ b ≡ c ++ d → length a ≡ length c → (a ≡ c) × (b ≡ d)
append_same a b c d e h = (
  sym (take-append_seam a b) ∙ ap (take (length a)) e ∙ take_at c d (length a) (sym h),
  sym (drop-append_seam a b) ∙ ap (drop (length a)) e ∙ drop_at c d (length a) (sym h),
)

-- Where a file and the file with one byte set are both accepted, the byte was there before.
module _ (file : List ℕ) (i b : ℕ) (h : i < length file) (F : Summed file) (G : Summed (set file i b)) where
  others : (j : ℕ) → j ≢ i → get_or file j 0 ≡ get_or (set file i b) j 0
  others j other = sym (get_or-set_other file i j b 0 other)

  new_byte : get_or (set file i b) i 0 ≡ b
  new_byte = get_or-set_same file i b 0 h

  same_place : length F.body ≡ length G.body
  same_place = by (dec_lt (length F.body) (length G.body)) (dec_lt (length G.body) (length F.body))
    where
      by : Dec (length F.body < length G.body) → Dec (length G.body < length F.body) → length F.body ≡ length G.body
      by (yes later) e = absurd (not_later F G i (sym (length-set file i b)) others later)
      by (no n) (yes earlier) = absurd (not_later G F i (length-set file i b) (λ j other. sym (others j other)) earlier)
      by (no n) (no m) = omega arith

  -- Before the end line: the end line is the same, so the sums are, and they differ by the difference of two bytes.
  in_body_lem : i < length F.body → b ≡ get_or file i 0
  in_body_lem first =
      let end = spell_end (checksum F.body) in
      let cut = sym (set-append_left F.body end i b first) ∙ ap (λ (l : List ℕ). set l i b) (sym F.is) ∙ G.is in
      let as_long = length-set F.body i b ∙ same_place in
      let (body_is, end_is) = append_same (set F.body i b) end G.body (spell_end (checksum G.body)) cut as_long in
      let same_sum = end_number F.body G.body end_is ∙ ap checksum (sym body_is) in
      let at : get_or file i 0 ≡ get_or F.body i 0 = ap (λ (l : List ℕ). get_or l i 0) F.is ∙ get_or-append F.body end 0 i first in
      let old = byte_small (get_or file i 0) (every_at in_file file i 0 h F.bytes) in
      let new = byte_small (get_or (set file i b) i 0) (every_at in_file (set file i b) i 0 (lt-length-set file i b h) G.bytes) in
      checksum_set F.body i b first (rw at at old) (rw new_byte at new) same_sum ∙ sym at

  -- In the end line: what stands before it is the same, so its number is, and so the whole file.
  in_end : length F.body ≤ i → b ≡ get_or file i 0
  in_end second =
      let p = length F.body in
      let as_before : take p (set file i b) ≡ take p file = take-set-le p file i b second in
      let body_is : F.body ≡ G.body =
      sym (take-append_seam F.body (spell_end (checksum F.body))) ∙ ap (take p) (sym F.is) ∙ sym as_before
      ∙ ap (take p) G.is ∙ take_at G.body (spell_end (checksum G.body)) p (sym same_place) in
      let file_is = G.is ∙ ap (λ (l : List ℕ). l ++ spell_end (checksum l)) (sym body_is) ∙ sym F.is in
      sym new_byte ∙ ap (λ (l : List ℕ). get_or l i 0) file_is

  unchanged : Dec (i < length F.body) → b ≡ get_or file i 0
  unchanged (yes first) = in_body_lem first
  unchanged (no second) = in_end (omega arith)

pub one_byte : OneByteRefused
unfolding check_of asked_by_check
one_byte file i b h other e = go (first_no (asked_of_file changed)) refl
  where
    changed : List ℕ
    changed = set file i b

    few : (n : ℕ) → n ∈ 0 ∷ 1 ∷ 2 ∷ 3 ∷ 4 ∷ [] → n ≤ 4
    few n k = leb-true n 4 (every_in (λ q. leb q 4) (0 ∷ 1 ∷ 2 ∷ 3 ∷ 4 ∷ []) refl k)

    go : (n : ℕ) → first_no (asked_of_file changed) ≡ n → (check_of changed ≢ 0) × (check_of changed ≤ 4) × Refused (check_of changed) changed
    go zero same = let F = summed file e in absurd (other (unchanged file i b h F (summed changed same) (dec_lt i (length F.body))))
    go (suc q) same =
        let is = no_then (asked_of_file changed) (asked_of_region (region_of changed)) q same in
        rw is ((λ z. omega (arith, z)), few (suc q) (subst (λ n. n ∈ 0 ∷ 1 ∷ 2 ∷ 3 ∷ 4 ∷ []) same (says (asked_of_file changed) tt).own), refused_alike changed q is)
