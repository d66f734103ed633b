-- What the ranges of a page's parts say: the seven kinds of page, and that an address has 78 bits.
use Rattle.std.specs.Prelude.{IsTrue, ◌==◌, ◌||◌, ◌&&◌}
use Rattle.std.proofs.Common.{◌≡◌, ℕ, ◌+◌, ◌-◌, ◌*◌, ◌/◌, ◌%◌, ◌^◌, ◌<◌, Bool, true, false, arith, sym, refl, subst, inl, inr, ◌⊎◌, Some, None}
use Rattle.std.proofs.lemmas.Bool.{or_cases, eqb-true, false≢true, ltb-true, lt-ltb, cases_Bool, and_parts}
use Rattle.power_addr.specs.Pages.{VirtualPage, IsPage, is_vsid, offset_bits, vsid_bits, is_base_shift, virtual_address, page_at_address, page_of_address}

-- The bits of a segment's offset, and a base page size that fits.
pub data IsKind : ℕ → ℕ → Type 0 where
  small_4k : IsKind 28 12
  small_64k : IsKind 28 16
  small_16m : IsKind 28 24
  large_4k : IsKind 40 12
  large_64k : IsKind 40 16
  large_16m : IsKind 40 24
  large_16g : IsKind 40 34

pub kind_of : (b : Bool) (s : ℕ) → IsTrue (is_base_shift b s) → IsKind (offset_bits b) s
kind_of false s h = first (or_cases (12 == s) _ h) where
  third : (24 == s) ≡ true ⊎ false ≡ true → IsKind 28 s
  third (inl e) = subst (λ z. IsKind 28 z) (eqb-true 24 s e) small_16m
  third (inr e) = absurd (false≢true e)

  second : (16 == s) ≡ true ⊎ (24 == s || false) ≡ true → IsKind 28 s
  second (inl e) = subst (λ z. IsKind 28 z) (eqb-true 16 s e) small_64k
  second (inr e) = third (or_cases (24 == s) _ e)

  first : (12 == s) ≡ true ⊎ (16 == s || (24 == s || false)) ≡ true → IsKind 28 s
  first (inl e) = subst (λ z. IsKind 28 z) (eqb-true 12 s e) small_4k
  first (inr e) = second (or_cases (16 == s) _ e)
kind_of true s h = first (or_cases (12 == s) _ h) where
  fourth : (34 == s) ≡ true ⊎ false ≡ true → IsKind 40 s
  fourth (inl e) = subst (λ z. IsKind 40 z) (eqb-true 34 s e) large_16g
  fourth (inr e) = absurd (false≢true e)

  third : (24 == s) ≡ true ⊎ (34 == s || false) ≡ true → IsKind 40 s
  third (inl e) = subst (λ z. IsKind 40 z) (eqb-true 24 s e) large_16m
  third (inr e) = fourth (or_cases (34 == s) _ e)

  second : (16 == s) ≡ true ⊎ (24 == s || (34 == s || false)) ≡ true → IsKind 40 s
  second (inl e) = subst (λ z. IsKind 40 z) (eqb-true 16 s e) large_64k
  second (inr e) = third (or_cases (24 == s) _ e)

  first : (12 == s) ≡ true ⊎ (16 == s || (24 == s || (34 == s || false))) ≡ true → IsKind 40 s
  first (inl e) = subst (λ z. IsKind 40 z) (eqb-true 12 s e) large_4k
  first (inr e) = second (or_cases (16 == s) _ e)

-- A segment's number and a page's index stay within the bits of an address.
in_address :
    (b : Bool) (v x s : ℕ)
    → IsKind (offset_bits b) s
    → v < 2 ^ vsid_bits b
    → x < 2 ^ (offset_bits b - s)
    → v * 2 ^ offset_bits b + x * 2 ^ s < 2 ^ 78
in_address false v x s small_4k p q = omega arith
in_address false v x s small_64k p q = omega arith
in_address false v x s small_16m p q = omega arith
in_address true v x s large_4k p q = omega arith
in_address true v x s large_64k p q = omega arith
in_address true v x s large_16m p q = omega arith
in_address true v x s large_16g p q = omega arith

pub virtual_address-lt : (p : VirtualPage) → IsPage p → virtual_address p < 2 ^ 78
virtual_address-lt p is =
    in_address p.one_tb p.vsid p.index p.shift (kind_of p.one_tb p.shift is.shift) is.vsid is.index

-- ---- the page that holds an address
index_in_segment :
    (b : Bool) (s ea : ℕ)
    → IsKind (offset_bits b) s
    → ea % 2 ^ offset_bits b / 2 ^ s < 2 ^ (offset_bits b - s)
index_in_segment false s ea small_4k = omega arith
index_in_segment false s ea small_64k = omega arith
index_in_segment false s ea small_16m = omega arith
index_in_segment true s ea large_4k = omega arith
index_in_segment true s ea large_64k = omega arith
index_in_segment true s ea large_16m = omega arith
index_in_segment true s ea large_16g = omega arith

-- What `page_of_address` gives is a page, and has the parts of the address.
pub page_of_address-some :
    (b : Bool) (v s ea : ℕ) (p : VirtualPage)
    → page_of_address b v s ea ≡ Some p
    → IsPage p × (p ≡ page_at_address b v s ea)
page_of_address-some b v s ea p e = at (cases_Bool (is_vsid b v && is_base_shift b s)) where
  at :
      ((is_vsid b v && is_base_shift b s) ≡ true) ⊎ ((is_vsid b v && is_base_shift b s) ≡ false)
      → IsPage p × (p ≡ page_at_address b v s ea)
  at (inl fine) =
      let some : page_of_address b v s ea ≡ Some (page_at_address b v s ea) = rw fine refl in
      let same : p ≡ page_at_address b v s ea = cc in
      let parts = and_parts (is_vsid b v) (is_base_shift b s) fine in
      let is : IsPage (page_at_address b v s ea) = record {
        vsid = ltb-true v (2 ^ vsid_bits b) parts.0;
        shift = parts.1;
        index = index_in_segment b s ea (kind_of b s parts.1);
      } in
      (subst IsPage (sym same) is, same)
  at (inr refused) = let none : page_of_address b v s ea ≡ None = rw refused refl in cc

-- A page is the one that holds each address in it.
pub page_of_address-is :
    (b : Bool) (v s ea : ℕ) (p : VirtualPage)
    → IsPage p
    → page_at_address b v s ea ≡ p
    → page_of_address b v s ea ≡ Some p
page_of_address-is b v s ea p is e =
    let there : IsPage (page_at_address b v s ea) = subst IsPage (sym e) is in
    let vsid : is_vsid b v ≡ true = lt-ltb v (2 ^ vsid_bits b) there.vsid in
    let fine : (is_vsid b v && is_base_shift b s) ≡ true = rw (vsid, there.shift) refl in
    let some : page_of_address b v s ea ≡ Some (page_at_address b v s ea) = rw fine refl in
    cc
