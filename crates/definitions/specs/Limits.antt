-- The limits stand once, in a table of lowest and highest per field.
use Rattle.std.specs.Prelude.{◌&&◌}
use Rattle.definitions.specs.Basics.{ℕ, Bool, leb}

-- What has limits: the numbers that a file holds, and how many there may be of what it holds.
pub data Field : Type 0 where
  file_length digit_count patient_count table_count plans_wanted clinic bed_count member_count entry_count entry : Field

pub record Limit : Type 0 where
  pub lowest : ℕ
  pub highest : ℕ

infix 20 ◌to◌
abbrev pub ◌to◌ : ℕ → ℕ → Limit
low to high = record { lowest = low; highest = high }

unfoldable pub limits : Field → Limit
limits file_length = 0 to 65_535
limits digit_count = 1 to 7
limits patient_count = 1 to 32
limits table_count = 0 to 64
limits plans_wanted = 1 to 64
limits clinic = 0 to 15
limits bed_count = 1 to 16
limits member_count = 1 to 4
limits entry_count = 0 to 4_096
limits entry = 0 to 1_000_000

-- Is a value from its field's lowest to its highest?
unfoldable pub within : Field → ℕ → Bool
within field value = leb (limits field).lowest value && leb value (limits field).highest
