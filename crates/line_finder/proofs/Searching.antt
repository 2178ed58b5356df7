-- The search from line to line: what is left to search has the line that was asked for.
use mathlib.Core.Path.{◌≡◌, sym, ap, ◌∙◌}
use Prim.Native.Nat.{◌≤◌}
use native.Mathlib.Omega.{arith}
use lib.ListN.{take, drop, length-take, length-drop}
use Rattle.std.specs.Prelude.{◌+◌, ◌-◌, ◌<◌}
use Rattle.definitions.specs.Basics.{ℕ, Bool, true, cond, List, length}
use Rattle.definitions.specs.Layout.{lines}
use Rattle.definitions.specs.Lookup.{FilePart, first_line}
use Rattle.line_reader.specs.Answers.{LineEnd}

pub record Searching (test : List ℕ → Bool) (file : List ℕ) (i : ℕ) : Type 0 where
  pub within : i ≤ length file
  pub same : first_line test i (lines (drop i file)) ≡ first_line test 0 (lines file)

module _ {test : List ℕ → Bool} {file : List ℕ} {i : ℕ} (s : Searching test file i) where
  module _ {end : ℕ} (h : i < length file) (line : LineEnd file i end) where
    abbrev here : List ℕ
    here = take (end - i) (drop i file)

    here_long : length here ≡ end - i
    here_long = let within = line.within in omega (arith, length-take (end - i) (drop i file), length-drop i file)

    -- The line that is found, by whether it is this one.
    abbrev chosen : Bool → FilePart
    chosen this = cond this (record { start = i; size = length here - 1 }) (first_line test (i + length here) (lines (drop end file)))

    chosen_same : {this : Bool} → test here ≡ this → chosen this ≡ first_line test 0 (lines file)
    chosen_same e = sym (ap chosen e) ∙ sym (ap (first_line test i) (line.splits h)) ∙ s.same

    pub found_here : test here ≡ true → record { start = i; size = end - i - 1 } ≡ first_line test 0 (lines file)
    found_here e = ap {B = FilePart} (λ n. record { start = i; size = n - 1 }) (sym here_long) ∙ chosen_same e
