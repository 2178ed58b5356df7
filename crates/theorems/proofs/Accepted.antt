-- What check's 0 says, and what an accepted region has: small counts, known members, and totals of at most `most_total`.
use Rattle.std.specs.Prelude.{◌≡◌, ◌≤◌}
use Rattle.std.proofs.Math.Path.{refl}
use Rattle.std.proofs.Common.{ap, ◌∙◌}
use native.Mathlib.Omega.{arith}
use Rattle.definitions.specs.Basics.{ℕ, Bool, true, Option, none, some, option_get_or}
use Rattle.definitions.specs.Basics.{List, keep}
use Rattle.definitions.specs.Syntax.{Region}
use Rattle.definitions.specs.Plans.{Plan, cost_over, constraints, total, Row}
use Rattle.definitions.specs.Sheets.{own_tables, own_cost}
use Rattle.definitions.specs.Questions.{region_of, check_of}
use Rattle.lists.specs.Every.{every_all}
use Rattle.lists.specs.Keep.{keep_all}
use Rattle.theorems.specs.Fixed.{total_tables, part_tables}
use Rattle.theorems.specs.Accepted.{Accepted, accepted, most_total, tables_small}

-- ---- what the total goes over

module _ (r : Region) (a : Accepted r) where
  pub own_small : (c : ℕ) (w : Row) → own_cost r c w ≤ most_total
  unfolding own_cost own_tables
  own_small c w = go (cost_over (own_tables r c) r w.beds) (tables_small r a _ w.beds)
    where
      go : (o : Option ℕ) → ((n : ℕ) → o ≡ some n → n ≤ most_total) → option_get_or o 0 ≤ most_total
      go none h = omega arith
      go (some n) h = h n refl

  -- .. and so do the constraints whose members pass a test, and a plan.
  pub part_small : (test : List ℕ → Bool) (plan : Plan) (n : ℕ) → cost_over (keep (λ t. test t.members) (constraints r)) r plan ≡ some n → n ≤ most_total
  part_small test plan n e = tables_small r a (λ t. test t.members) plan n (part_tables r plan test n e)

  pub total_small : (plan : Plan) (n : ℕ) → total r plan ≡ some n → n ≤ most_total
  total_small plan n e =
      tables_small r a (λ t. true) plan n (ap (λ l. cost_over l r plan) (keep_all (λ t. true) r.tables (every_all (λ t. true) r.tables (λ t k. refl))) ∙ total_tables r plan n e)

-- So it is for every plan of an accepted file.
pub accepted_total : (file : List ℕ) (plan : Plan) (t : ℕ) → check_of file ≡ 0 → total (region_of file) plan ≡ some t → t ≤ most_total
accepted_total file plan t e h = total_small (region_of file) (accepted file e).region plan t h
