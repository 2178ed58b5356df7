-- A loop that follows the terms of a bucket and adds up their entries for a plan.
use mathlib.Core.Path.{◌≡◌, refl, sym, ap, ◌∙◌, subst}
use mathlib.Core.Option.{none-ne-some}
use Prim.Native.Nat.{◌≤◌}
use lib.ListN.{set}
use native.Mathlib.Omega.{arith}
use Rattle.std.specs.Prelude.{◌+◌, ◌*◌, ◌<◌, ◌∷◌}
use Rattle.definitions.specs.Basics.{ℕ, suc, true, Option, some, List, [], length, get_or}
use Rattle.definitions.specs.Syntax.{Table, Region}
use Rattle.definitions.specs.Plans.{Plan, entry_for, cost_over}
use Rattle.theorems.specs.Accepted.{most_total}
use Rattle.lists.specs.Members.{◌∈◌, here, there}
use Rattle.lists.specs.Keep.{keep_out}
use Rattle.theorems.specs.Sums.{plus, plus_assoc, zero_plus, plus_zero}
use Rattle.partial_rows.specs.Costs.{cost_cons}
use Rattle.held_region.specs.Meaning.{mark, said_by}
use Rattle.bucket_words.specs.Words.{first_at, start_at, next_at}
use Rattle.bucket_words.specs.Kept.{kept_at}
use Rattle.buckets.specs.Terms.{Fitting, highest, bucket_of, place_at, Term, Chain, Prepared}
use Rattle.pricing.specs.Pricing.{Reads, Asks, Gives}
use Rattle.pricing.specs.Costs.{entry_number, entry_known}
use Rattle.std.specs.Prelude.{None, Some}
use Rattle.bucket_words.specs.declared.PatientBucket.{PatientBucket}
use Rattle.bucket_words.specs.declared.TableTerm.{TableTerm}

-- Where the loop stands: the sum so far, and the tables of the bucket that are left, whose terms begin at k.
pub record Left (r : Region) (store : List ℕ) (terms : List TableTerm) (s : ℕ) (beds : Plan) (sum : Option ℕ) (k : ℕ) : Type 0 where
  pub low : ℕ
  pub tables : List Table
  pub chain : Chain r store terms low k tables
  pub own : (t : Table) → t ∈ tables → highest s t ≡ true
  pub cost : plus sum (cost_over tables r beds) ≡ cost_over (bucket_of r s) r beds

pub left_start : (r : Region) (store : List ℕ) (terms : List TableTerm) (s : ℕ) (beds : Plan) {k : ℕ} → Chain r store terms 0 k (bucket_of r s) → Left r store terms s beds (some 0) k
unfolding bucket_of
left_start r store terms s beds chain = record {
  low = 0;
  tables = bucket_of r s;
  chain = chain;
  own = λ t among. (keep_out (highest s) r.tables among).1;
  cost = zero_plus (cost_over (bucket_of r s) r beds);
}

-- A chain goes no further than 64.
chain_most : (r : Region) (store : List ℕ) (terms : List TableTerm) (low k : ℕ) (tables : List Table) → Chain r store terms low k tables → k ≤ 64
unfolding Chain
chain_most r store terms low k [] h = omega arith
chain_most r store terms low k (t ∷ tables) h = omega (arith, h.1)

chain_from : (r : Region) (store : List ℕ) (terms : List TableTerm) (low k : ℕ) (tables : List Table) → low ≤ 64 → Chain r store terms low k tables → low ≤ k
unfolding Chain
chain_from r store terms low k [] l h = omega arith
chain_from r store terms low k (t ∷ tables) l h = h.0

module _ {r : Region} {store : List ℕ} {terms : List TableTerm} {s : ℕ} {beds : Plan} {sum : Option ℕ} {k : ℕ} where
  pub left_most : Left r store terms s beds sum k → k ≤ 64
  left_most h = chain_most r store terms h.low k h.tables h.chain

  -- At the end nothing is left.
  pub left_done : Left r store terms s beds sum k → 64 ≤ k → sum ≡ cost_over (bucket_of r s) r beds
  unfolding Chain cost_over
  left_done h end = go h.tables h.chain h.cost
    where
      go : (tables : List Table) → Chain r store terms h.low k tables → plus sum (cost_over tables r beds) ≡ cost_over (bucket_of r s) r beds → sum ≡ cost_over (bucket_of r s) r beds
      go [] chain e = sym (plus_zero sum) ∙ e
      go (t ∷ tables) chain e = absurd (omega (arith, chain.1))

  -- Before the end, k is the term of a table.
  record Here (h : Left r store terms s beds sum k) : Type 0 where
    table : Table
    others : List Table
    term : Term r store terms k table
    rest : Chain r store terms (suc k) (next_at terms k) others
    own : highest s table ≡ true
    own_others : (t : Table) → t ∈ others → highest s t ≡ true
    cost : plus sum (plus (entry_for r beds table) (cost_over others r beds)) ≡ cost_over (bucket_of r s) r beds

  term_here : (h : Left r store terms s beds sum k) → k < 64 → Here h
  unfolding Chain
  term_here h more = go h.tables h.chain h.own h.cost
    where
      go : (tables : List Table) → Chain r store terms h.low k tables → ((t : Table) → t ∈ tables → highest s t ≡ true)
          → plus sum (cost_over tables r beds) ≡ cost_over (bucket_of r s) r beds → Here h
      go [] chain own e = absurd (omega arith)
      go (t ∷ tables) chain own e = record {
        table = t;
        others = tables;
        term = chain.2;
        rest = chain.3;
        own = own t (here refl);
        own_others = λ q among. own q (there among);
        cost = ap (plus sum) (sym (cost_cons r beds t tables)) ∙ e;
      }

  module _ (h : Left r store terms s beds sum k) (more : k < 64) where
    pub left_reads : Reads terms k
    left_reads = let t = (term_here h more).term in record { few = more; known = t.known; near = t.near; starts = t.starts }

    -- The next term is further on.
    pub left_later : k < next_at terms k
    left_later = let g = term_here h more in chain_from r store terms (suc k) (next_at terms k) g.others (omega arith) g.rest

    pub left_next_most : next_at terms k ≤ 64
    left_next_most = let g = term_here h more in chain_most r store terms (suc k) (next_at terms k) g.others g.rest

    -- The entries for the patient's beds lie side by side, from the kept place on.
    pub left_beside : (plan : Plan) (bed : ℕ) → s < length plan → place_at terms k (set plan s bed) ≡ start_at terms k + kept_at terms k plan + bed
    left_beside plan bed inside = let g = term_here h more in g.term.beside s bed plan g.own inside

    module _ (fits : Fitting r beds) where
      pub left_inside : place_at terms k beds < 4096
      left_inside = (term_here h more).term.inside beds fits

      -- What the store has at the term's place is the table's entry.
      entry : said_by (get_or store (place_at terms k beds) 0) ≡ entry_for r beds (term_here h more).table
      entry = ap said_by ((term_here h more).term.finds beds fits) ∙ entry_known (entry_for r beds (term_here h more).table) ((term_here h more).term.small beds)

      pub left_small : (e : ℕ) → said_by (get_or store (place_at terms k beds) 0) ≡ some e → e ≤ 1_000_000
      left_small e is = (term_here h more).term.small beds e (sym entry ∙ is)

      pub left_next : Left r store terms s beds (plus sum (said_by (get_or store (place_at terms k beds) 0))) (next_at terms k)
      left_next =
          let g = term_here h more in
          record {
            low = suc k;
            tables = g.others;
            chain = g.rest;
            own = g.own_others;
            cost = sym (plus_assoc sum _ (cost_over g.others r beds)) ∙ ap (λ o. plus sum (plus o (cost_over g.others r beds))) entry ∙ g.cost;
          }

-- The same for every region that the buckets are prepared for, with a sum that stays small.
pub record Goes (store : List ℕ) (patients : List PatientBucket) (terms : List TableTerm) (s : ℕ) (beds : Plan) (sum k : ℕ) : Type 0 where
  pub few : sum ≤ k * 1_000_000
  pub left : (r : Region) → Prepared r store patients terms → Fitting r beds → s < length r.patients → Left r store terms s beds (some sum) k

module _ {store : List ℕ} {patients : List PatientBucket} {terms : List TableTerm} {s : ℕ} {beds : Plan} (asks : Asks store patients terms s beds) where
  pub goes_start : Goes store patients terms s beds 0 (first_at patients s)
  goes_start = record { few = omega arith; left = λ r prepared fits known. left_start r store terms s beds (prepared.bucket s known) }

  module _ {sum k : ℕ} (goes : Goes store patients terms s beds sum k) where
    own : Left asks.region store terms s beds (some sum) k
    own = goes.left asks.region asks.prepared asks.fits asks.known

    pub goes_done : 64 ≤ k → Gives store patients terms s beds (Some sum)
    goes_done end =
        let most : sum ≤ most_total = omega (arith, goes.few, left_most own) in
        record { most = λ n e. let same : n ≡ sum = cc in omega arith; cost = λ r prepared fits known. left_done (goes.left r prepared fits known) end }

    module _ (more : k < 64) where
      pub goes_reads : Reads terms k
      goes_reads = left_reads own more

      pub goes_inside : place_at terms k beds < 4096
      goes_inside = left_inside own more asks.fits

      pub goes_later : (k < next_at terms k) × (next_at terms k ≤ 64)
      goes_later = (left_later own more, left_next_most own more)

      -- With the next entry, for every region.
      with_entry : {o : Option ℕ} → said_by (get_or store (place_at terms k beds) 0) ≡ o → (r : Region) → Prepared r store patients terms → Fitting r beds → s < length r.patients
          → Left r store terms s beds (plus (some sum) o) (next_at terms k)
      with_entry {o} is r prepared fits known =
          subst (λ e. Left r store terms s beds (plus (some sum) e) (next_at terms k)) is (left_next (goes.left r prepared fits known) more fits)

      pub goes_forbidden : get_or store (place_at terms k beds) 0 ≡ mark → Gives store patients terms s beds None
      goes_forbidden e =
          record { most = λ n no. absurd (none-ne-some n no); cost = λ r prepared fits known. (with_entry (ap said_by e) r prepared fits known).cost }

      module _ (e : ℕ) (is : e ≡ get_or store (place_at terms k beds) 0) (other : e ≡ mark → ⊥) where
        number : said_by (get_or store (place_at terms k beds) 0) ≡ some e
        number = sym (ap said_by is) ∙ entry_number e other

        pub goes_small : e ≤ 1_000_000
        goes_small = left_small own more asks.fits e number

        pub goes_next : Goes store patients terms s beds (sum + e) (next_at terms k)
        goes_next = record { few = omega (arith, goes.few, goes_small, left_later own more); left = with_entry number }
