-- What each answer says of a line, in the terms of the definition's readers.
use Rattle.std.specs.Prelude.{◌+◌, ◌-◌, ◌≤◌, ◌<◌, min, take, drop, ◌≡◌, ◌∷◌}
use Rattle.definitions.specs.Basics.{ℕ, Option, none, some, List, length}
use Rattle.definitions.specs.Syntax as Said
use Rattle.definitions.specs.Layout.{lines}
use Rattle.std.specs.Prelude as Code
use Rattle.held_region.specs.declared.Patient.{Patient}
use Rattle.held_region.specs.Meaning.{patient_of}
use Rattle.line_reader.specs.declared.RegionLine.{RegionLine}

-- The line that begins at a place ends at r, and the other lines begin there. At the end, and behind it, r is the length.
pub record LineEnd (s : List ℕ) (at r : ℕ) : Type 0 where
  pub splits : at < length s → lines (drop at s) ≡ take (r - at) (drop at s) ∷ lines (drop r s)
  pub ahead : min (at + 1) (length s) ≤ r
  pub within : r ≤ length s

-- What a line says.
abbrev pub region_read : Code.Option RegionLine → Option (ℕ × ℕ × ℕ)
region_read Code.None = none
region_read (Code.Some l) = some (l.v, l.t, l.m)

abbrev pub patient_read : Code.Option Patient → Option Said.Patient
patient_read Code.None = none
patient_read (Code.Some p) = some (patient_of p)

abbrev pub end_read : Code.Option ℕ → Option ℕ
end_read Code.None = none
end_read (Code.Some n) = some n
