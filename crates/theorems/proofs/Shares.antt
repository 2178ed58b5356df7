-- Request #104: the clinics' shares of an allowed plan add up to its total, and where no table joins the figures are what they were.
use Rattle.std.proofs.Common.{ap, ◌∙◌, arith, ◌+◌, ◌≡◌, ◌∷◌}
use Rattle.definitions.specs.Basics.{ℕ, refl, Bool, true, false, cond, option_get_or, List, [], map, below, sum, keep}
use Rattle.definitions.specs.Limits.{limits}
use Rattle.definitions.specs.Plans.{cost_over, Row, list_of}
use Rattle.definitions.specs.Sheets.{own_cost}
use Rattle.definitions.specs.Questions.{clinic_present, region_of, check_of}
use Rattle.definitions.specs.Output.{clinics_present}
use Rattle.lists.specs.Members.{◌∈◌}
use Rattle.theorems.proofs.List.{right_list}
use Rattle.theorems.specs.Accepted.{accepted}
use Rattle.theorems.specs.Isolation.{members_known, own_apart}
use Rattle.theorems.specs.Shares.{shares_add_up_lem, no_share, FiguresStay}

pub list_shares : (file : List ℕ) → check_of file ≡ 0 → (w : Row) → w ∈ list_of (region_of file) → sum (map (λ c. own_cost (region_of file) c w) (below 16)) ≡ w.cost
list_shares file e w k = shares_add_up_lem (region_of file) w (accepted file e).region.patients_fit ((right_list (region_of file)).only_allowed w k).priced

pub figures_stay : FiguresStay
unfolding own_cost
figures_stay file e c apart w =
    let region = region_of file in
    ap (λ tables. option_get_or (cost_over tables region w.beds) 0) (own_apart region c 0 (members_known region (accepted file e).region) apart)

-- ---- the clinics that have patients

-- A sum without what is 0.
sum_kept : (f : ℕ → Bool) (g : ℕ → ℕ) → ((c : ℕ) → f c ≡ false → g c ≡ 0) → (l : List ℕ) → sum (map g (keep f l)) ≡ sum (map g l)
sum_kept f g none [] = refl
sum_kept f g none (c ∷ l) = go (f c) refl (sum_kept f g none l)
  where
    go : (b : Bool) → f c ≡ b → sum (map g (keep f l)) ≡ sum (map g l) → sum (map g (cond b (c ∷ keep f l) (keep f l))) ≡ g c + sum (map g l)
    go true e h = ap (λ n. g c + n) h
    go false e h = omega (arith, h, none c e)

-- So the shares of the clinics whose sheets are printed add up.
pub printed_shares : (file : List ℕ) → check_of file ≡ 0 → (w : Row) → w ∈ list_of (region_of file)
    → sum (map (λ c. own_cost (region_of file) c w) (clinics_present (region_of file))) ≡ w.cost
unfolding clinics_present limits
printed_shares file e w k =
    sum_kept (clinic_present (region_of file)) (λ c. own_cost (region_of file) c w) (λ c absent. no_share (region_of file) (accepted file e).region c absent w) (below 16)
    ∙ list_shares file e w k
