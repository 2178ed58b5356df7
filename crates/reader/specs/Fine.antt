-- A file that is accepted: so is the region that is loaded of it.
use Rattle.std.proofs.Common.{sym, ap, ◌∙◌, ◌≡◌}
use Rattle.std.specs.Prelude.{Result, Ok}
use Rattle.definitions.specs.Basics.{ℕ, true, List}
use Rattle.definitions.specs.Questions.{check_of}
use Rattle.theorems.specs.Accepted.{Accepted, accepted}
use Rattle.held_region.specs.declared.Region.{Region}
use Rattle.held_region.specs.declared.Refusal.{Refusal}
use Rattle.held_region.specs.Meaning.{said}
use Rattle.held_region.specs.Refusals.{number_of}
use Rattle.reader.specs.Loading.{LoadedFrom, checks}

module _ (file : List ℕ) {store : List ℕ} (loaded : Result Region Refusal) (from : LoadedFrom true file loaded store) {region : Region} (fine : loaded ≡ Ok region) where
  pub accepted_fine : check_of file ≡ 0
  accepted_fine = sym (checks from) ∙ ap number_of fine

  pub region_fine : Accepted (said region store)
  region_fine = rw (from.says fine) (accepted file accepted_fine).region
