-- What is said has true counts and its true sum, so it is the region as it is held, and its spelling is what is written of it.
use Rattle.std.specs.Prelude.{◌≡◌}
use Rattle.std.proofs.Math.Path.{refl, ap}
use Rattle.std.proofs.Common.{eq-eqb}
use Rattle.definitions.specs.Basics.{ℕ, true, List}
use Rattle.definitions.specs.Spelling.{spell_body, spell}
use Rattle.definitions.specs.Questions.{checksum, counts_true}
use Rattle.definitions.specs.Writer.{as_held, written_file}
use Rattle.lists.specs.Tests.{join}
use Rattle.theorems.proofs.Writer.{as_held_lem}
use Rattle.held_region.specs.declared.Region.{Region}
use Rattle.held_region.specs.Meaning.{said}
use Rattle.held_region.specs.Asked.{patients_said_lem, tables_said}

module _ (h : Region) (store : List ℕ) where
  counts_said : counts_true (said h store) ≡ true
  unfolding counts_true said
  counts_said = join (eq-eqb _ _ (patients_said_lem h store)) (eq-eqb _ _ (tables_said h store))

  pub sum_said : (said h store).stated_sum ≡ checksum (spell_body (said h store))
  unfolding said spell_body
  sum_said = refl

  pub said_held : as_held (said h store) ≡ said h store
  said_held = as_held_lem (said h store) counts_said sum_said

  pub file_said : written_file (said h store) ≡ spell (said h store)
  unfolding written_file
  file_said = ap spell said_held
