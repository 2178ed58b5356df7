-- Which tables count for the patients of a set, as is asked of a held table; for everybody all tables do.
use Rattle.std.specs.Prelude.{◌≡◌}
use Rattle.std.proofs.Common.{ap, ◌∙◌, subst, arith}
use Rattle.definitions.specs.Basics.{ℕ, Bool, true, List, every, contains}
use Rattle.definitions.specs.Syntax.{Table, Region}
use Rattle.definitions.specs.Sheets.{lowest}
use Rattle.lists.specs.Every.{every_all, every_at}
use Rattle.lists.specs.Below.{contains_numbers}
use Rattle.theorems.specs.Accepted.{Accepted, patients_few, table_right}
use Rattle.theorems.specs.Lowest.{lowest_in_lem}
use Rattle.patient_set.specs.Sets.{members}
use Rattle.patient_set.specs.Laws.{members_full}
use Rattle.buckets.specs.Terms.{Prepared, Numbered}
use Rattle.buckets.specs.WithTables.{with_tables, with_all}
use Rattle.bucket_words.specs.declared.PatientBucket.{PatientBucket}
use Rattle.bucket_words.specs.declared.TableTerm.{TableTerm}

-- Is the lowest of these patients in a set? Does a table count for its patients?
abbrev pub lowest_in : ℕ → List ℕ → Bool
lowest_in set patients = contains (members set) (lowest patients)

abbrev pub counts_for : ℕ → Table → Bool
counts_for set t = lowest_in set t.members

-- All tables count for all patients.
abbrev everybody : ℕ
everybody = 4_294_967_295

all_count : (r : Region) → Accepted r → every (counts_for everybody) r.tables ≡ true
all_count r a = every_all (counts_for everybody) r.tables (λ t k.
    let right = table_right r a k in
    ap (λ m. contains m (lowest t.members)) members_full
    ∙ contains_numbers 0 32 (lowest t.members) (omega arith) (omega (arith, right.known (lowest_in_lem t.members right.some), patients_few r a)))

-- Held are the buckets of the tables that count, and each of these has the term of its number; where all count, so of the whole region.
pub record PreparedFor (counts : Table → Bool) (r : Region) (store : List ℕ) (patients : List PatientBucket) (terms : List TableTerm) : Type 0 where
  pub prepared : Prepared (with_tables r counts) store patients terms
  pub numbered : Numbered r counts store terms

pub record PreparedAll (r : Region) (store : List ℕ) (patients : List PatientBucket) (terms : List TableTerm) : Type 0 where
  pub prepared : Prepared r store patients terms
  pub numbered : Numbered r (λ t. true) store terms

pub prepared_all : (r : Region) → Accepted r → {store : List ℕ} {patients : List PatientBucket} {terms : List TableTerm} → PreparedFor (counts_for everybody) r store patients terms → PreparedAll r store patients terms
prepared_all r a {store} {patients} {terms} p =
    record {
      prepared = subst (λ x. Prepared x store patients terms) (with_all r (counts_for everybody) a (all_count r a)) p.prepared;
      numbered = record {
        bounded = p.numbered.bounded;
        term = λ k h e. p.numbered.term k h (every_at (counts_for everybody) r.tables k _ h (all_count r a));
      };
    }
