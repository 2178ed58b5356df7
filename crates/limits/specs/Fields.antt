-- The code's fields, as the definitions name them, and their places in the code's table of limits.
use Rattle.std.specs.Prelude.{◌≡◌, refl, ◌∷◌}
use Rattle.definitions.specs.Basics.{ℕ, List, [], map, get_or}
use Rattle.definitions.specs.Limits as Said
use Rattle.limits.specs.declared.Limit.{Limit}
use Rattle.limits.specs.declared.Field.{Field}
use Rattle.limits.specs.declared.Field.TheVariants.{FileLength, DigitCount, PatientCount, TableCount, PlansWanted, Clinic, BedCount, MemberCount, EntryCount, Entry}

abbrev pub field_of : Field → Said.Field
field_of FileLength = Said.file_length
field_of DigitCount = Said.digit_count
field_of PatientCount = Said.patient_count
field_of TableCount = Said.table_count
field_of PlansWanted = Said.plans_wanted
field_of Clinic = Said.clinic
field_of BedCount = Said.bed_count
field_of MemberCount = Said.member_count
field_of EntryCount = Said.entry_count
field_of Entry = Said.entry

abbrev pub place_of : Field → ℕ
place_of FileLength = 0
place_of DigitCount = 1
place_of PatientCount = 2
place_of TableCount = 3
place_of PlansWanted = 4
place_of Clinic = 5
place_of BedCount = 6
place_of MemberCount = 7
place_of EntryCount = 8
place_of Entry = 9

-- The definitions' limits of a field, as the code's pair, and all of them in the order of their places.
abbrev pub limit_of : Field → Limit
limit_of field = record { 0 = (Said.limits (field_of field)).lowest; 1 = (Said.limits (field_of field)).highest }

abbrev pub table : List Limit
table = map limit_of (FileLength ∷ DigitCount ∷ PatientCount ∷ TableCount ∷ PlansWanted ∷ Clinic ∷ BedCount ∷ MemberCount ∷ EntryCount ∷ Entry ∷ [])

pub table_at : (field : Field) → get_or table (place_of field) (record { 0 = 0; 1 = 0 }) ≡ limit_of field
table_at FileLength = refl
table_at DigitCount = refl
table_at PatientCount = refl
table_at TableCount = refl
table_at PlansWanted = refl
table_at Clinic = refl
table_at BedCount = refl
table_at MemberCount = refl
table_at EntryCount = refl
table_at Entry = refl
