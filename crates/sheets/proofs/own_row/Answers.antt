use borrow.Author.Rules.{rules}
use native.Mathlib.Omega.{arith}
use Rattle.patient_set.specs.Laws.{size_most}
use Rattle.sheets.proofs.Own.{own_asks, own_made}
use Rattle.sheets.proofs.own_row.Goals as goal

pub price-cost-requires : goal.price-cost-requires
price-cost-requires c =
    let pre = c.requires in
    own_asks pre.own _ pre.few (rw c.beds_of-beds.ensures pre.fits)

pub pack-requires : goal.pack-requires
pack-requires c = omega (arith, c.size-k.ensures, size_most c.args.clinic.0)

pub returns : goal.returns
returns c = own_made _ _ _ _ _ _ _ c.beds_of-beds.ensures (search rules) c.size-k.ensures c.price-cost.ensures c.clinic_beds-taken.ensures c.pack.ensures
