-- The work area with one of its parts replaced: that part is new, and the others are as they were.
use Rattle.std.specs.Prelude.{◌≡◌, ◌≤◌}
use Rattle.std.proofs.Math.Path.{sym, ap}
use Rattle.std.proofs.Common.{◌∙◌, length-append, length-drop, take-append-drop, length-take-le, drop_at, ◌+◌, ◌-◌, ◌*◌, ◌<◌, ◌++◌}
use native.Mathlib.Omega.{arith}
use Rattle.std.proofs.Math.ListN.{drop}
use Rattle.std.proofs.Math.Seq.{take_at, drop-append-add, drop-drop}
use Rattle.std.proofs.lemmas.List.{take-append-le, drop-append-le}
use Rattle.definitions.specs.Basics.{ℕ, List, length, take}
use Rattle.row_sums.specs.Sums.{work_part}

-- An area whose 384 words from one place on are replaced.
abbrev pub replaced : ℕ → List ℕ → List ℕ → List ℕ
replaced at new work = take at work ++ (new ++ drop 384 (drop at work))

pub part_long : (i : ℕ) (work : List ℕ) → i * 384 + 384 ≤ length work → length (work_part i work) ≡ 384
unfolding work_part
part_long i work h = length-take-le 384 (drop (i * 384) work) (omega (arith, length-drop (i * 384) work))

-- What lies in the front of a list does not depend on what follows it.
in_front : (at : ℕ) (front rest : List ℕ) → at + 384 ≤ length front → take 384 (drop at (front ++ rest)) ≡ take 384 (drop at front)
in_front at front rest h =
    ap (take 384) (drop-append-le at front rest (omega arith)) ∙ take-append-le 384 (drop at front) rest (omega (arith, length-drop at front))

module _ (k : ℕ) (work new : List ℕ) (fits : k * 384 + 384 ≤ length work) (long : length new ≡ 384) where
  front_long : length (take (k * 384) work) ≡ k * 384
  front_long = length-take-le (k * 384) work (omega arith)

  pub replaced_long : length (replaced (k * 384) new work) ≡ length work
  replaced_long =
      let rest = drop 384 (drop (k * 384) work) in
      omega (arith, length-append (take (k * 384) work) (new ++ rest), length-append new rest, front_long, length-drop 384 (drop (k * 384) work), length-drop (k * 384) work)

  pub part_new : work_part k (replaced (k * 384) new work) ≡ new
  unfolding work_part
  part_new =
      let rest = drop 384 (drop (k * 384) work) in
      ap (take 384) (drop_at (take (k * 384) work) (new ++ rest) (k * 384) front_long) ∙ take_at new rest 384 long

  pub part_before : (i : ℕ) → i < k → work_part i (replaced (k * 384) new work) ≡ work_part i work
  unfolding work_part
  part_before i h =
      let at = k * 384 in
      in_front (i * 384) (take at work) (new ++ drop 384 (drop at work)) (omega (arith, front_long))
      ∙ sym (in_front (i * 384) (take at work) (drop at work) (omega (arith, front_long)))
      ∙ ap (λ (l : List ℕ). take 384 (drop (i * 384) l)) (take-append-drop at work)

  pub part_after : (i : ℕ) → k < i → work_part i (replaced (k * 384) new work) ≡ work_part i work
  unfolding work_part
  part_after i h =
      let at = k * 384 in
      let rest = drop 384 (drop at work) in
      let r = i * 384 - at - 384 in
      let p : i * 384 ≡ length (take at work) + (length new + r) = omega (arith, front_long) in
      let q : at + (384 + r) ≡ i * 384 = omega arith in
      ap (take 384) (ap (λ (n : ℕ). drop n (replaced at new work)) p
      ∙ drop-append-add (take at work) (new ++ rest) (length new + r) ∙ drop-append-add new rest r
      ∙ drop-drop r 384 (drop at work) ∙ drop-drop (384 + r) at work ∙ ap (λ (n : ℕ). drop n work) q)
