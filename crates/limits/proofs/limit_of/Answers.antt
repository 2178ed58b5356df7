use Rattle.std.proofs.Common.{◌≡◌, ◌∙◌, ap, refl, get_or}
use denote.Enum.Declared.{tag_of}
use Rattle.definitions.specs.Limits.{limits}
use Rattle.limits.specs.contracts.Field.{the_type}
use Rattle.limits.specs.declared.Field.{Field}
use Rattle.limits.specs.declared.Field.TheVariants.{FileLength, DigitCount, PatientCount, TableCount, PlansWanted, Clinic, BedCount, MemberCount, EntryCount, Entry}
use Rattle.limits.specs.Fields.{table, limit_of, place_of}
use Rattle.limits.specs.Fields as fields
use Rattle.limits.proofs.limit_of.Goals as goal

-- The number that the compiler gives a field is its place.
number_is : (field : Field) → tag_of the_type field ≡ place_of field
number_is FileLength = refl
number_is DigitCount = refl
number_is PatientCount = refl
number_is TableCount = refl
number_is PlansWanted = refl
number_is Clinic = refl
number_is BedCount = refl
number_is MemberCount = refl
number_is EntryCount = refl
number_is Entry = refl

pub returns : goal.returns
unfolding limits
returns c = ap (λ at. get_or table at (record { 0 = 0; 1 = 0 })) (number_is c.args.field) ∙ fields.table_at c.args.field
