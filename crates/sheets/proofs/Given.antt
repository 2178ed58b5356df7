-- What a walk along the list asks for, from what a sheet is given.
use mathlib.Core.Path.{sym, ap}
use native.Mathlib.Omega.{arith}
use Rattle.definitions.specs.Basics.{ℕ, List}
use Rattle.theorems.specs.Accepted.{Accepted, patients_few}
use Rattle.held_region.specs.declared.Region.{Region}
use Rattle.held_region.specs.Meaning.{said}
use Rattle.held_region.specs.Asked.{patients_said_lem}
use Rattle.buckets.specs.Terms.{Prepared}
use Rattle.buckets.specs.WithTables.{with_tables}
use Rattle.buckets.specs.Counting.{counts_for}
use Rattle.row_list.specs.Rows.{rows_in}
use Rattle.sheets.specs.Steps.{Listed, AsksList, GivesList}
use Rattle.sheets.specs.Sheets.{Given, Asks, Gives}
use Rattle.bucket_words.specs.declared.PatientBucket.{PatientBucket}
use Rattle.bucket_words.specs.declared.TableTerm.{TableTerm}

module _ (h : Region) (store : List ℕ) (n set : ℕ) (work : List ℕ) (patients : List PatientBucket) (terms : List TableTerm)
    (accepted : Accepted (said h store)) (prepared : Prepared (with_tables (said h store) (counts_for set)) store patients terms) where
  given_listed : (clinic : ℕ) → Given h store clinic n set work → Listed (said h store) clinic store patients terms h.v n set work
  given_listed clinic g =
      record {
        own = record { accepted = accepted; prepared = prepared; of_clinic = g.patients; all = sym (patients_said_lem h store) };
        list = g.list;
      }

  pub list_asked_lem : Asks h store n set work → AsksList store patients terms h.v n set work
  list_asked_lem a =
      record {
        region = said h store;
        clinic = a.clinic;
        listed = given_listed a.clinic a.given;
        few_patients = omega (arith, patients_said_lem h store, patients_few (said h store) accepted);
        few = a.few;
        long = a.long;
      }

  pub sheet_given : (after : List ℕ) (k : ℕ) → GivesList store patients terms h.v n set work after k → Gives h store n set work after k
  sheet_given after k g =
      record {
        count = g.count;
        long = g.long;
        list = ap (rows_in h.v n) g.list;
        sheet = λ clinic given. g.sheet (said h store) clinic (given_listed clinic given);
      }
