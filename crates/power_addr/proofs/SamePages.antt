-- The test of equal pages decides equality.
use Rattle.std.proofs.Common.{◌≡◌, true, refl}
use Rattle.std.proofs.lemmas.Bool.{and_parts, eq-eqb, eqb-true}
use Rattle.basics.proofs.Bools.{bool_same, bool_self}
use Rattle.power_addr.specs.Pages.{VirtualPage, same_page}

pub page_same : (p q : VirtualPage) → same_page p q ≡ true → p ≡ q
unfolding same_page
page_same p q h =
    let parts = and_parts _ _ h in
    let front = and_parts _ _ parts.0 in
    let first = and_parts _ _ front.0 in
    let one_tb = bool_same p.one_tb q.one_tb first.0 in
    let vsid = eqb-true p.vsid q.vsid first.1 in
    let shift = eqb-true p.shift q.shift front.1 in
    let index = eqb-true p.index q.index parts.1 in
    λ i. record { one_tb = one_tb i; vsid = vsid i; shift = shift i; index = index i }

pub page_self : (p : VirtualPage) → same_page p p ≡ true
unfolding same_page
page_self p =
    rw (
      bool_self p.one_tb,
      eq-eqb p.vsid p.vsid refl,
      eq-eqb p.shift p.shift refl,
      eq-eqb p.index p.index refl,
    )
