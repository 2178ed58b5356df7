-- What all tables cost for a plan, bucket by bucket, from patient 0 on.
use mathlib.Core.Path.{◌≡◌, refl, sym, ap, ◌∙◌, fun_ext}
use mathlib.Core.Bool.{not-eq-not}
use mathlib.Core.Option.{none-ne-some}
use Prim.Native.Nat.{◌≤◌}
use native.Mathlib.Omega.{arith}
use borrow.Author.Tests.{lt-ltb, le-ltb, le-leb, lt-leb, leb-true, eq-eqb, ne_eqb}
use lib.Seq.{get_or-take}
use Rattle.std.specs.Prelude.{◌+◌, ◌*◌, ◌<◌}
use Rattle.definitions.specs.Basics.{ℕ, Ordering, Option, none, some, List, length, get_or, take, eqb, ltb, leb, keep}
use Rattle.definitions.specs.Syntax.{Region}
use Rattle.definitions.specs.Plans.{Plan, cost_over}
use Rattle.lists.specs.Members.{get_d_in}
use Rattle.lists.specs.Every.{every_all, any_in, any_out}
use Rattle.lists.specs.Keep.{keep_all, keep_none}
use Rattle.ranking.specs.Orders.{View, before, equal, after, ℕ-view}
use Rattle.theorems.specs.Accepted.{Accepted, table_right, most_total}
use Rattle.theorems.specs.Sums.{plus, plus_none, plus_zero}
use Rattle.partial_rows.specs.Sets.{only, Part, first, second, neither, Splits}
use Rattle.partial_rows.specs.Rows.{holds}
use Rattle.partial_rows.specs.Costs.{cost_same, tables_split}
use Rattle.buckets.specs.Terms.{Fitting, bucket_of, Prepared}
use Rattle.pricing.specs.Pricing.{Cost, cost_in, Asks, Gives, AsksAll, GivesTables}
use Rattle.std.specs.Prelude.{None, Some}
use Rattle.bucket_words.specs.declared.PatientBucket.{PatientBucket}
use Rattle.bucket_words.specs.declared.TableTerm.{TableTerm}

-- The patients from s on are s and those above it.
from_split : (s : ℕ) → Splits (leb s) (only s) (ltb s)
from_split s q = go (ℕ-view s q)
  where
    go : {o : Ordering} → View ◌<◌ s q o → Part (leb s q) (eqb s q) (ltb s q)
    go (before h) = rw (le-leb s q (omega arith), ne_eqb s q (λ e. omega arith), lt-ltb s q h) second
    go (equal e) = rw (le-leb s q (omega arith), eq-eqb s q e, le-ltb s q (omega arith)) first
    go (after h) = rw (lt-leb s q h, ne_eqb s q (λ e. omega arith), le-ltb s q (omega arith)) neither

above_next : (s : ℕ) → ltb s ≡ leb (s + 1)
above_next s = fun_ext (λ q. go q (ℕ-view s q))
  where
    go : (q : ℕ) {o : Ordering} → View ◌<◌ s q o → ltb s q ≡ leb (s + 1) q
    go q (before h) = lt-ltb s q h ∙ sym (le-leb (s + 1) q (omega arith))
    go q (equal e) = le-ltb s q (omega arith) ∙ sym (lt-leb (s + 1) q (omega arith))
    go q (after h) = le-ltb s q (omega arith) ∙ sym (lt-leb (s + 1) q (omega arith))

module _ (r : Region) (beds : Plan) where
  -- What the tables with a member from s on cost.
  unfoldable pub cost_from : ℕ → Option ℕ
  cost_from s = cost_over (keep (holds (leb s)) r.tables) r beds

  next_bucket : (s : ℕ) → cost_from s ≡ plus (cost_from (s + 1)) (cost_over (bucket_of r s) r beds)
  unfolding cost_from bucket_of
  next_bucket s = tables_split r (from_split s) beds r.tables ∙ ap (λ D. plus (cost_over (keep (holds D) r.tables) r beds) (cost_over (bucket_of r s) r beds)) (above_next s)

  module _ (accepted : Accepted r) where
    -- Every table has a member from 0 on, none one from V on.
    cost_all : cost_from 0 ≡ cost_over r.tables r beds
    unfolding cost_from
    cost_all = ap (λ l. cost_over l r beds) (keep_all (holds (leb 0)) r.tables (every_all (holds (leb 0)) r.tables (λ t k.
        any_in (leb 0) t.members (get_d_in t.members 0 0 (table_right r accepted k).some) (le-leb 0 (get_or t.members 0 0) (omega arith)))))

    cost_none : (v : ℕ) → length r.patients ≤ v → cost_from v ≡ some 0
    unfolding cost_from cost_over
    cost_none v le = ap (λ l. cost_over l r beds) (keep_none (holds (leb v)) r.tables (λ t k. not-eq-not.0 (λ e.
        let (s, i, q) = any_out (leb v) t.members e in omega (arith, (table_right r accepted k).known i, leb-true v s q))))

    -- The beds past V do not matter.
    tables_take : (v : ℕ) → length r.patients ≤ v → cost_over r.tables r beds ≡ cost_over r.tables r (take v beds)
    tables_take v le = cost_same r beds (take v beds) r.tables (λ t k s i. sym (get_or-take v beds s 0 (omega (arith, (table_right r accepted k).known i))))

-- A loop over the patients: the sum so far and what is left make what all tables cost, for every region that the buckets are prepared for.
pub record Adds (store : List ℕ) (patients : List PatientBucket) (terms : List TableTerm) (v : ℕ) (beds : Plan) (sum s : ℕ) : Type 0 where
  pub few : sum ≤ s * most_total
  pub left : (r : Region) → Prepared r store patients terms → Fitting r beds → v ≡ length r.patients → plus (cost_from r beds s) (some sum) ≡ cost_over r.tables r beds

plus_late : (o p : Option ℕ) (n x : ℕ) → p ≡ some n → plus (plus o p) (some x) ≡ plus o (some (x + n))
plus_late none p n x e = refl
plus_late (some y) none n x e = absurd (none-ne-some n e)
plus_late (some y) (some z) n x e = let same : z ≡ n = cc in ap {B = Option ℕ} some (omega arith)

none_late : (o p : Option ℕ) (x : ℕ) → p ≡ none → plus (plus o p) (some x) ≡ none
none_late o p x e = ap (λ q. plus q (some x)) (ap (plus o) e ∙ plus_none o)

module _ {store : List ℕ} {patients : List PatientBucket} {terms : List TableTerm} {v : ℕ} {beds : Plan} where
  pub adds_start : Adds store patients terms v beds 0 0
  adds_start = record { few = omega arith; left = λ r prepared fits all. plus_zero (cost_from r beds 0) ∙ cost_all r beds prepared.accepted }

  module _ {sum s : ℕ} (adds : Adds store patients terms v beds sum s) where
    pub adds_done : v ≤ s → GivesTables store patients terms v beds (Some sum)
    adds_done end r prepared fits all =
        ap {B = Option ℕ} some (omega arith)
        ∙ ap (λ o. plus o (some sum)) (sym (cost_none r beds prepared.accepted s (omega (arith, all))))
        ∙ adds.left r prepared fits all ∙ tables_take r beds prepared.accepted v (omega (arith, all))

    module _ (more : s < v) {cost : Cost} (gives : Gives store patients terms s beds cost) where
      known : (r : Region) → v ≡ length r.patients → s < length r.patients
      known r all = omega (arith, all)

      pub adds_forbidden : cost ≡ None → GivesTables store patients terms v beds None
      adds_forbidden e r prepared fits all =
          sym (ap (λ o. plus o (some sum)) (next_bucket r beds s)
          ∙ none_late (cost_from r beds (s + 1)) (cost_over (bucket_of r s) r beds) sum (sym (gives.cost r prepared fits (known r all)) ∙ ap cost_in e))
          ∙ adds.left r prepared fits all ∙ tables_take r beds prepared.accepted v (omega (arith, all))

      module _ (n : ℕ) (e : cost ≡ Some n) where
        pub adds_small : n ≤ most_total
        adds_small = gives.most n (ap cost_in e)

        pub adds_next : Adds store patients terms v beds (sum + n) (s + 1)
        adds_next =
            record {
              few = omega (arith, adds.few, adds_small);
              left = λ r prepared fits all.
                  sym (ap (λ o. plus o (some sum)) (next_bucket r beds s)
                  ∙ plus_late (cost_from r beds (s + 1)) (cost_over (bucket_of r s) r beds) n sum (sym (gives.cost r prepared fits (known r all)) ∙ ap cost_in e))
                  ∙ adds.left r prepared fits all;
            }

-- What each bucket asks for.
pub asks_one : {store : List ℕ} {patients : List PatientBucket} {terms : List TableTerm} {v s : ℕ} {beds : Plan} → AsksAll store patients terms v beds → s < v → Asks store patients terms s beds
asks_one a h = record { region = a.region; prepared = a.prepared; fits = a.fits; known = omega (arith, a.all); few = omega (arith, a.few) }
