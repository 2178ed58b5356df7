-- Demand 1: every cut of a laid-out file, short of the whole, is refused with number 2 by every entry and every call.
use Rattle.std.proofs.Common.{sym, ap, ◌∙◌, arith, length-drop, length-take, take-append-drop, le-leb, ◌-◌, ◌<◌, ◌≡◌, ◌++◌}
use Rattle.std.specs.Prelude.{drop}
use Rattle.definitions.specs.Basics.{ℕ, refl, Bool, true, false, List, [], flatten, length, take, is_empty}
use Rattle.definitions.specs.Limits.{file_length, limits, within}
use Rattle.definitions.specs.Layout.{lines, layout}
use Rattle.definitions.specs.Questions.{short_enough, laid_out, check_of, asked_by_check}
use Rattle.lists.specs.Tests.{join}
use Rattle.theorems.specs.Refused.{refused_alike}
use Rattle.theorems.specs.Accepted.{region_said_lem, at_most}
use Rattle.theorems.specs.Readers.{cond_only, empty_is}
use Rattle.theorems.specs.Lines.{flatten_lines}
use Rattle.theorems.proofs.Spelling.{laid_out_spelt, layout_more}
use Rattle.theorems.specs.Cuts.{CutRefused}

-- A file of the right length that is not laid out: question 2 is the first answered no.
not_laid_out : (file : List ℕ) → short_enough file ≡ true → laid_out file ≡ false → check_of file ≡ 2
unfolding check_of asked_by_check
not_laid_out file short not_laid = rw (short, not_laid)

-- No laid-out file is a proper beginning of another: after the end line of the first there is no line.
no_more : (first rest : List ℕ) → laid_out first ≡ true → laid_out (first ++ rest) ≡ true → rest ≡ []
unfolding flatten
no_more first rest h g =
    let (ok, is) = laid_out_spelt first h in
    let more = sym (layout_more _ rest ok) ∙ ap (λ (f : List ℕ). layout (f ++ rest)) (sym is) ∙ region_said_lem (first ++ rest) g in
    sym (flatten_lines rest) ∙ ap flatten (empty_is (lines rest) (cond_only (is_empty (lines rest)) more).0)

cut_not_laid_out : (file : List ℕ) (n : ℕ) → laid_out file ≡ true → n < length file → laid_out (take n file) ≡ false
cut_not_laid_out file n h short = by (laid_out (take n file)) refl
  where
    by : (t : Bool) → laid_out (take n file) ≡ t → laid_out (take n file) ≡ false
    by false e = e
    by true e =
        let none_left = no_more (take n file) (drop n file) e (ap laid_out (take-append-drop n file) ∙ h) in
        let long : length file - n ≡ 0 = sym (length-drop n file) ∙ ap length none_left in
        absurd (omega arith)

cut_short : (file : List ℕ) (n : ℕ) → short_enough file ≡ true → short_enough (take n file) ≡ true
unfolding short_enough within limits
cut_short file n h =
    let most = at_most file_length (length file) h in
    let cut = length-take n file in
    join (le-leb 0 (length (take n file)) (omega arith)) (le-leb (length (take n file)) (limits file_length).highest (omega arith))

pub cut_refused : CutRefused
cut_refused file n short laid h = refused_alike (take n file) 1 (not_laid_out (take n file) (cut_short file n short) (cut_not_laid_out file n laid h))
