-- Question 5's yes, of a held region: at most 32 patients, and at most 64 plans wanted.
use Rattle.std.specs.Prelude.{◌≤◌}
use Rattle.held_region.specs.declared.Region.{Region}
use Rattle.definitions.specs.Basics.{ℕ, List}
use Rattle.theorems.specs.Accepted.{Accepted, plans_wanted_lem}
use Rattle.held_region.specs.Meaning.{said}
use Rattle.held_region.specs.Sound.{has_places}

pub counts_few : (h : Region) (store : List ℕ) → Accepted (said h store) → (h.v ≤ 32) × (h.m ≤ 64)
unfolding said
counts_few h store accepted = ((has_places h store accepted.counts_fit).patients, (plans_wanted_lem (said h store) accepted).1)
