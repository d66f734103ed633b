-- A tag fits a base page size exactly if a page of that size has the tag.
use Rattle.std.specs.Prelude.{◌==◌, ◌&&◌, nat_le}
use Rattle.std.proofs.Common.{◌≡◌, ℕ, ◌+◌, ◌-◌, ◌*◌, ◌/◌, ◌%◌, ◌^◌, ◌<◌, ◌≤◌, Bool, true, false, arith, sym, ◌∙◌, refl, subst, ◌⊎◌, inl, inr}
use Rattle.std.proofs.lemmas.Bool.{and_parts, cases_Bool, eqb-true, eqb-false, eq-eqb, le-leb, leb-true}
use Rattle.std.specs.Int.Bits.{and_high}
use Rattle.power_addr.specs.Pages.{VirtualPage, IsPage, virtual_page, is_base_shift, offset_bits, virtual_address, tag_of, segment_code_of}
use Rattle.power_addr.proofs.Ranges.{IsKind, small_4k, small_64k, small_16m, large_4k, large_64k, large_16m, large_16g, kind_of, virtual_address-lt}
use Rattle.power_addr.proofs.Tags.{tag_of-parts, segment_code-le}
use Rattle.hpte_fields.specs.Fields.{is_one_tb, segment_code, tag_field}
use Rattle.hpt_hash.specs.Entries.{number_field}
use Rattle.papr_c.specs.Decoding.{fits_tag}
use Rattle.hpt_hash.proofs.PageLemmas.{one_tb-code}

-- ---- the parts of a tag
-- A tag field is B and the address bits.
parts_of_field :
    (dword0 : ℕ)
    → dword0 < 2 ^ 64
    → tag_field dword0 ≡ segment_code dword0 * 2 ^ 62 + number_field dword0 * 2 ^ 7
parts_of_field dword0 range = and_high dword0 57 7 ∙ omega arith

same_parts :
    (b c m n : ℕ)
    → b ≤ 1
    → m < 2 ^ 78
    → n < 2 ^ 55
    → b * 2 ^ 62 + m / 2 ^ 23 * 2 ^ 7 ≡ c * 2 ^ 62 + n * 2 ^ 7
    → (b ≡ c) × (m / 2 ^ 23 ≡ n)
same_parts b c m n small fits low e = (omega arith, omega arith)

-- Of a page's tag.
parts_of_page :
    (p : VirtualPage) (dword0 : ℕ)
    → IsPage p
    → dword0 < 2 ^ 64
    → tag_of p ≡ tag_field dword0
    → (segment_code_of p.one_tb ≡ segment_code dword0)
    × (virtual_address p / 2 ^ 23 ≡ number_field dword0)
parts_of_page p dword0 is range e =
    same_parts (segment_code_of p.one_tb) (segment_code dword0) (virtual_address p)
    (number_field dword0) (segment_code-le p.one_tb) (virtual_address-lt p is) (omega arith)
    (sym (tag_of-parts p is) ∙ e ∙ parts_of_field dword0 range)

code_of :
    (dword0 : ℕ)
    → segment_code dword0 ≤ 1
    → segment_code_of (is_one_tb dword0) ≡ segment_code dword0
code_of dword0 small = at (cases_Bool (segment_code dword0 == 1)) where
  at :
      ((segment_code dword0 == 1) ≡ true) ⊎ ((segment_code dword0 == 1) ≡ false)
      → segment_code_of (is_one_tb dword0) ≡ segment_code dword0
  at (inl one) = rw one (sym (eqb-true (segment_code dword0) 1 one))
  at (inr other) =
      let none : segment_code dword0 ≡ 0 = let e = eqb-false (segment_code dword0) 1 other in
      omega (arith, e) in
      rw other (sym none)

-- ---- a page has a place
clear_inside :
    (bits s v x : ℕ) → IsKind bits s → (v * 2 ^ bits + x * 2 ^ s) / 2 ^ 23 % 2 ^ (s - 23) ≡ 0
clear_inside bits s v x small_4k = omega arith
clear_inside bits s v x small_64k = omega arith
clear_inside bits s v x small_16m = omega arith
clear_inside bits s v x large_4k = omega arith
clear_inside bits s v x large_64k = omega arith
clear_inside bits s v x large_16m = omega arith
clear_inside bits s v x large_16g = omega arith

pub place_of_page :
    (p : VirtualPage) (dword0 base : ℕ)
    → IsPage p
    → dword0 < 2 ^ 64
    → p.shift ≡ base
    → tag_of p ≡ tag_field dword0
    → fits_tag dword0 base ≡ true
place_of_page p dword0 base is range shift tag =
    let parts = parts_of_page p dword0 is range tag in
    let code : nat_le (segment_code dword0) 1 ≡ true = le-leb (segment_code dword0) 1
    (subst (λ c. c ≤ 1) parts.0 (segment_code-le p.one_tb)) in
    let one_tb : is_one_tb dword0 ≡ p.one_tb = one_tb-code p.one_tb dword0 parts.0 in
    let fits : is_base_shift (is_one_tb dword0) base ≡ true = rw (one_tb, ← shift) is.shift in
    let clear : number_field dword0 % 2 ^ (base - 23) ≡ 0 = rw (← parts.1, ← shift)
    (clear_inside (offset_bits p.one_tb) p.shift p.vsid p.index
    (kind_of p.one_tb p.shift is.shift)) in
    rw (code, fits, eq-eqb (number_field dword0 % 2 ^ (base - 23)) 0 clear) refl

-- ---- a place has a page
-- The page that begins at the address of a tag.
abbrev page_at_tag : Bool → ℕ → ℕ → VirtualPage
page_at_tag b n base =
    virtual_page b (n / 2 ^ (offset_bits b - 23)) base
    (n % 2 ^ (offset_bits b - 23) * 2 ^ 23 / 2 ^ base)

-- The page of a tag's number and a base page shift is a page, and has this number.
pub record IsAtTag (b : Bool) (n base : ℕ) : Type 0 where
  pub is : IsPage (page_at_tag b n base)
  pub number : virtual_address (page_at_tag b n base) / 2 ^ 23 ≡ n

at_tag :
    (b : Bool) (n s : ℕ)
    → IsKind (offset_bits b) s
    → is_base_shift b s ≡ true
    → n < 2 ^ 55
    → n % 2 ^ (s - 23) ≡ 0
    → IsAtTag b n s
at_tag false n s small_4k fits low clear =
    record {
      is = record { vsid = omega arith; shift = fits; index = omega arith };
      number = omega arith;
    }
at_tag false n s small_64k fits low clear =
    record {
      is = record { vsid = omega arith; shift = fits; index = omega arith };
      number = omega arith;
    }
at_tag false n s small_16m fits low clear =
    record {
      is = record { vsid = omega arith; shift = fits; index = omega arith };
      number = omega arith;
    }
at_tag true n s large_4k fits low clear =
    record {
      is = record { vsid = omega arith; shift = fits; index = omega arith };
      number = omega arith;
    }
at_tag true n s large_64k fits low clear =
    record {
      is = record { vsid = omega arith; shift = fits; index = omega arith };
      number = omega arith;
    }
at_tag true n s large_16m fits low clear =
    record {
      is = record { vsid = omega arith; shift = fits; index = omega arith };
      number = omega arith;
    }
at_tag true n s large_16g fits low clear =
    record {
      is = record { vsid = omega arith; shift = fits; index = omega arith };
      number = omega arith;
    }

pub page_of_place :
    (dword0 base : ℕ)
    → dword0 < 2 ^ 64
    → fits_tag dword0 base ≡ true
    → (p : VirtualPage) × IsPage p × (p.shift ≡ base) × (tag_of p ≡ tag_field dword0)
page_of_place dword0 base range place =
    let halves = and_parts (nat_le (segment_code dword0) 1 && is_base_shift (is_one_tb dword0) base)
    (number_field dword0 % 2 ^ (base - 23) == 0) place in
    let first = and_parts (nat_le (segment_code dword0) 1) (is_base_shift (is_one_tb dword0) base)
    halves.0 in
    let b : Bool = is_one_tb dword0 in
    let n : ℕ = number_field dword0 in
    let clear : n % 2 ^ (base - 23) ≡ 0 = eqb-true (n % 2 ^ (base - 23)) 0 halves.1 in
    let there : IsAtTag b n base = at_tag b n base (kind_of b base first.1) first.1 (omega arith)
    clear in
    let p : VirtualPage = page_at_tag b n base in
    let code : segment_code_of b ≡ segment_code dword0 = code_of dword0
    (leb-true (segment_code dword0) 1 first.0) in
    let tag : tag_of p ≡ tag_field dword0 = tag_of-parts p there.is ∙
    (λ k. code k * 2 ^ 62 + there.number k * 2 ^ 7) ∙ sym (parts_of_field dword0 range) in
    (p, there.is, refl, tag)
