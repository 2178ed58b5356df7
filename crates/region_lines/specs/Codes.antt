-- Numbers of which the mark stands for a hyphen.
use Rattle.std.specs.Prelude.{◌≡◌}
use Rattle.std.proofs.Common.{eq-eqb, ne_eqb}
use Rattle.definitions.specs.Basics.{ℕ, List, text}
use Rattle.definitions.specs.Spelling.{decimal, hyphen_or_decimal}
use Rattle.held_region.specs.Meaning.{mark, said_by}

-- The spelling of a number that stands for itself, or of the mark, which stands for a hyphen.
abbrev pub spell_code : ℕ → List ℕ
spell_code code = hyphen_or_decimal (said_by code)

pub mark_spelled : (code : ℕ) → code ≡ mark → spell_code code ≡ text "-"
mark_spelled code e = rw (eq-eqb code mark e)

pub number_spelled : (code : ℕ) → (code ≡ mark → ⊥) → spell_code code ≡ decimal code
number_spelled code other = rw (ne_eqb code mark other)
