-- The page of an entry: at most one page is, and `page_at` finds it.
use Rattle.std.specs.Prelude.{◌↔◌, IfSome, if◌then◌else◌, IsSomeAnd, ◌==◌, ◌&&◌}
use Rattle.std.proofs.lemmas.Bool.{eqb-true, eq-eqb, and_parts}
use Rattle.std.specs.Int.Bits.{and_high}
use Rattle.std.specs.Option.{option_and_then}
use Rattle.page_sizes.specs.Sizes.{size_of}
use Rattle.page_sizes.specs.declared.size.PageSize.{PageSize}
use Rattle.hpte_fields.specs.Fields.{is_valid, is_secondary, is_one_tb, segment_code, tag_field}
use Rattle.std.proofs.Common.{Option, ◌≡◌, ℕ, ◌+◌, ◌*◌, ◌/◌, ◌%◌, ◌^◌, ◌<◌, ◌≤◌, Bool, true, false, arith, ap, sym, ◌∙◌, refl, Some, None, subst}
use Rattle.power_addr.specs.Pages.{VirtualPage, IsPage, virtual_address, tag_of, segment_code_of}
use Rattle.power_addr.proofs.Ranges.{virtual_address-lt, page_of_address-some}
use Rattle.power_addr.proofs.Tags.{same_from_tag, tag_of-parts, segment_code-le}
use Rattle.hpt_hash.specs.Hash.{hash_of, group_of}
use Rattle.hpt_hash.specs.Entries.{IsPageOf, SuitsPage, low_hash, number_field, rebuilt_page, confirmed_page, page_of_size, page_at}
use Rattle.hpt_hash.proofs.GroupBits.{low_hash-group}
use Rattle.hpt_hash.proofs.RebuiltPage.{rebuilt_page-is}
use Rattle.hpte_fields.specs.TableSize.{least_order}

-- Two pages of one tag, one base page size and one group are one page.
pub same_page :
    (p q : VirtualPage) (order : ℕ) (secondary : Bool)
    → IsPage p
    → IsPage q
    → least_order ≤ order
    → tag_of p ≡ tag_of q
    → p.shift ≡ q.shift
    → group_of p order secondary ≡ group_of q order secondary
    → p ≡ q
same_page p q order secondary is is' low tags shifts groups =
    let parts = same_from_tag p q is is' tags in
    let hashes : hash_of p % 2 ^ 11 ≡ hash_of q % 2 ^ 11 = sym
    (low_hash-group p order secondary low) ∙ ap (λ g. low_hash g secondary) groups ∙
    low_hash-group q order secondary low in
    let back : rebuilt_page p.one_tb (virtual_address p / 2 ^ 23) p.shift (hash_of p % 2 ^ 11) ≡
    Some p = rebuilt_page-is p is in
    let back' : rebuilt_page q.one_tb (virtual_address q / 2 ^ 23) q.shift (hash_of q % 2 ^ 11) ≡
    Some q = rebuilt_page-is q is' in
    cc

-- ---- the fields of a doubleword 0
-- Its tag is B and the address bits.
pub tag_field-parts : (dword0 : ℕ) → tag_field dword0 ≡ dword0 / 2 ^ 7 % 2 ^ 57 * 2 ^ 7
tag_field-parts dword0 = and_high dword0 57 7

-- The address bits of a page's tag.
number_of_tag :
    (code n dword0 : ℕ)
    → code ≤ 1
    → n < 2 ^ 78
    → code * 2 ^ 62 + n / 2 ^ 23 * 2 ^ 7 ≡ dword0 / 2 ^ 7 % 2 ^ 57 * 2 ^ 7
    → number_field dword0 ≡ n / 2 ^ 23
number_of_tag code n dword0 small fits e = omega arith

number_field-tag :
    (p : VirtualPage) (dword0 : ℕ)
    → IsPage p
    → tag_of p ≡ tag_field dword0
    → number_field dword0 ≡ virtual_address p / 2 ^ 23
number_field-tag p dword0 is e =
    number_of_tag (segment_code_of p.one_tb) (virtual_address p) dword0 (segment_code-le p.one_tb)
    (virtual_address-lt p is) (sym (tag_of-parts p is) ∙ e ∙ tag_field-parts dword0)

-- The segment's size of a page's tag.
code_of_tag :
    (code n dword0 : ℕ)
    → code ≤ 1
    → n < 2 ^ 78
    → dword0 < 2 ^ 64
    → code * 2 ^ 62 + n / 2 ^ 23 * 2 ^ 7 ≡ dword0 / 2 ^ 7 % 2 ^ 57 * 2 ^ 7
    → code ≡ segment_code dword0
code_of_tag code n dword0 small fits range e = omega arith

pub segment_code-tag :
    (p : VirtualPage) (dword0 : ℕ)
    → IsPage p
    → dword0 < 2 ^ 64
    → tag_of p ≡ tag_field dword0
    → segment_code_of p.one_tb ≡ segment_code dword0
segment_code-tag p dword0 is range e =
    code_of_tag (segment_code_of p.one_tb) (virtual_address p) dword0 (segment_code-le p.one_tb)
    (virtual_address-lt p is) range (sym (tag_of-parts p is) ∙ e ∙ tag_field-parts dword0)

pub one_tb-code :
    (b : Bool) (dword0 : ℕ) → segment_code_of b ≡ segment_code dword0 → is_one_tb dword0 ≡ b
one_tb-code false dword0 e = rw (← e) refl
one_tb-code true dword0 e = rw (← e) refl

-- ---- `page_at` is the page of the entry
pub and_then-some :
    {T U : Type 0} (f : T → Option U) (o : Option T) (y : U)
    → option_and_then f o ≡ Some y
    → (x : T) × (o ≡ Some x) × (f x ≡ Some y)
and_then-some f None y e = cc
and_then-some f (Some x) y e = (x, refl, e)

pub if_some :
    {T : Type 0} (b : Bool) (o : Option T) (y : T)
    → (if b then o else None) ≡ Some y
    → (b ≡ true) × (o ≡ Some y)
if_some true o y e = (refl, e)
if_some false o y e = cc

IsSomeAnd-some :
    {T : Type 0} (P : T → Type 0) (o : Option T) → IsSomeAnd o P → (x : T) × (o ≡ Some x) × P x
IsSomeAnd-some P None h = elim h [ ]
IsSomeAnd-some P (Some x) h = (x, refl, h)

-- How the page of an entry is found: the size that the doublewords encode, and the page that this
-- size makes, of the entry's tag and group.
record IsMade (order index dword0 dword1 : ℕ) (p : VirtualPage) : Type 0 where
  valid : is_valid dword0 ≡ true
  size : PageSize
  sized : size_of dword0 dword1 ≡ Some size
  rebuilt :
      rebuilt_page (is_one_tb dword0) (number_field dword0) size.base
      (low_hash (index / 8) (is_secondary dword0))
      ≡ Some p
  tag : tag_of p ≡ tag_field dword0
  group : group_of p order (is_secondary dword0) ≡ index / 8

page_at-made :
    (order index dword0 dword1 : ℕ) (p : VirtualPage)
    → IsMade order index dword0 dword1 p
    → page_at order index dword0 dword1 ≡ Some p
unfolding page_at
page_at-made order index dword0 dword1 p made =
    let tag : (tag_of p == tag_field dword0) ≡ true = eq-eqb (tag_of p) (tag_field dword0) made.tag
    in
    let group : (group_of p order (is_secondary dword0) == index / 8) ≡ true = eq-eqb
    (group_of p order (is_secondary dword0)) (index / 8) made.group in
    let confirmed : confirmed_page order index dword0 p ≡ Some p = ap
    (λ b. if b && (group_of p order (is_secondary dword0) == index / 8) then Some p else None)
    tag ∙ ap (λ b. if b then Some p else None) group in
    ap
    (λ v.
    if v then option_and_then (page_of_size order index dword0) (size_of dword0 dword1) else
    None) made.valid
    ∙ ap (option_and_then (page_of_size order index dword0)) made.sized
    ∙ ap (option_and_then (confirmed_page order index dword0)) made.rebuilt
    ∙ confirmed

made-page_at :
    (order index dword0 dword1 : ℕ) (p : VirtualPage)
    → page_at order index dword0 dword1 ≡ Some p
    → IsMade order index dword0 dword1 p
unfolding page_at
made-page_at order index dword0 dword1 p e =
    let valid = if_some (is_valid dword0)
    (option_and_then (page_of_size order index dword0) (size_of dword0 dword1)) p e in
    let sized = and_then-some (page_of_size order index dword0) (size_of dword0 dword1) p valid.1 in
    let size : PageSize = sized.0 in
    let rebuilt = and_then-some (confirmed_page order index dword0)
    (rebuilt_page (is_one_tb dword0) (number_field dword0) size.base
    (low_hash (index / 8) (is_secondary dword0))) p sized.2 in
    let q : VirtualPage = rebuilt.0 in
    let confirmed = if_some
    ((tag_of q == tag_field dword0) && (group_of q order (is_secondary dword0) == index / 8))
    (Some q) p rebuilt.2 in
    let same : q ≡ p = let some : Some q ≡ Some p = confirmed.1 in cc in
    let tests = and_parts (tag_of q == tag_field dword0)
    (group_of q order (is_secondary dword0) == index / 8) confirmed.0 in
    let made : IsMade order index dword0 dword1 q = record {
      valid = valid.0;
      size = size;
      sized = sized.1;
      rebuilt = rebuilt.1;
      tag = eqb-true _ _ tests.0;
      group = eqb-true _ _ tests.1;
    } in
    subst (IsMade order index dword0 dword1) same made

-- The page of an entry is found.
pub page_at-complete :
    (order index dword0 dword1 : ℕ) (p : VirtualPage)
    → least_order ≤ order
    → IsPage p
    → IsPageOf order index dword0 dword1 p
    → page_at order index dword0 dword1 ≡ Some p
page_at-complete order index dword0 dword1 p low is entry =
    let sized = IsSomeAnd-some (λ (size : PageSize). size.base ≡ p.shift) (size_of dword0 dword1)
    entry.size in
    let one_tb : is_one_tb dword0 ≡ p.one_tb = one_tb-code p.one_tb dword0 entry.segment in
    let number : number_field dword0 ≡ virtual_address p / 2 ^ 23 = number_field-tag p dword0 is
    entry.tag in
    let hash : low_hash (index / 8) (is_secondary dword0) ≡ hash_of p % 2 ^ 11 = ap
    (λ g. low_hash g (is_secondary dword0)) (sym entry.group) ∙ low_hash-group p order
    (is_secondary dword0) low in
    let rebuilt :
    rebuilt_page (is_one_tb dword0) (number_field dword0) sized.0.base
    (low_hash (index / 8) (is_secondary dword0))
    ≡ Some p =
    (λ i. rebuilt_page (one_tb i) (number i) (sized.2 i) (hash i)) ∙ rebuilt_page-is p is in
    page_at-made order index dword0 dword1 p
    (record {
      valid = entry.valid;
      size = sized.0;
      sized = sized.1;
      rebuilt = rebuilt;
      tag = entry.tag;
      group = entry.group;
    })

-- An entry is one of no two pages.
pub one_page :
    (order index dword0 dword1 : ℕ) (p q : VirtualPage)
    → least_order ≤ order
    → IsPage p
    → IsPage q
    → IsPageOf order index dword0 dword1 p
    → IsPageOf order index dword0 dword1 q
    → p ≡ q
one_page order index dword0 dword1 p q low is is' of of' =
    let first : page_at order index dword0 dword1 ≡ Some p = page_at-complete order index dword0
    dword1 p low is of in
    let second : page_at order index dword0 dword1 ≡ Some q = page_at-complete order index dword0
    dword1 q low is' of' in
    cc

-- Of four facts the fifth follows: the tag holds B.
suited-page :
    (order index dword0 dword1 : ℕ) (p : VirtualPage)
    → IsPage p
    → dword0 < 2 ^ 64
    → SuitsPage order index dword0 dword1 p
    → IsPageOf order index dword0 dword1 p
suited-page order index dword0 dword1 p is range suits =
    record {
      valid = suits.valid;
      tag = suits.tag;
      size = suits.size;
      segment = segment_code-tag p dword0 is range suits.tag;
      group = suits.group;
    }

-- What is found is a page, and the page of the entry.
pub page_at-sound :
    (order index dword0 dword1 : ℕ) (p : VirtualPage)
    → dword0 < 2 ^ 64
    → page_at order index dword0 dword1 ≡ Some p
    → IsPage p × IsPageOf order index dword0 dword1 p
page_at-sound order index dword0 dword1 p range e =
    let made = made-page_at order index dword0 dword1 p e in
    let page = page_of_address-some _ _ _ _ p made.rebuilt in
    let shift : p.shift ≡ made.size.base = ap (λ (r : VirtualPage). r.shift) page.1 in (
      page.0,
      record {
        valid = made.valid;
        tag = made.tag;
        size =
            subst (λ o. IsSomeAnd o (λ (s : PageSize). s.base ≡ p.shift)) (sym made.sized)
            (sym shift);
        segment = segment_code-tag p dword0 page.0 range made.tag;
        group = made.group;
      },
    )

-- What is found is this page exactly if the four facts hold of it.
pub page_at-exact :
    (order index dword0 dword1 : ℕ) (found : Option VirtualPage)
    → least_order ≤ order
    → dword0 < 2 ^ 64
    → found ≡ page_at order index dword0 dword1
    → (p : VirtualPage)
    → IsPage p
    → (found ≡ Some p) ↔ SuitsPage order index dword0 dword1 p
page_at-exact order index dword0 dword1 found low range same p is = (to, back) where
  to : found ≡ Some p → SuitsPage order index dword0 dword1 p
  to e =
      let of = (page_at-sound order index dword0 dword1 p range (sym same ∙ e)).1 in
      record { valid = of.valid; tag = of.tag; size = of.size; group = of.group }

  back : SuitsPage order index dword0 dword1 p → found ≡ Some p
  back suits =
      same
      ∙ page_at-complete order index dword0 dword1 p low is
      (suited-page order index dword0 dword1 p is range suits)

-- Doublewords of a page are those of the same page in each group of that page, in a table of any
-- size.
pub page_at-moved :
    (from to index target dword0 dword1 : ℕ) (p : VirtualPage)
    → least_order ≤ from
    → least_order ≤ to
    → page_at from index dword0 dword1 ≡ Some p
    → group_of p to (is_secondary dword0) ≡ target / 8
    → page_at to target dword0 dword1 ≡ Some p
page_at-moved from to index target dword0 dword1 p low low' e there =
    let made = made-page_at from index dword0 dword1 p e in
    let secondary : Bool = is_secondary dword0 in
    let hash : low_hash (target / 8) secondary ≡ low_hash (index / 8) secondary =
    ap (λ g. low_hash g secondary) (sym there)
    ∙ low_hash-group p to secondary low'
    ∙ sym (low_hash-group p from secondary low)
    ∙ ap (λ g. low_hash g secondary) made.group in
    let rebuilt = ap (rebuilt_page (is_one_tb dword0) (number_field dword0) made.size.base) hash ∙
    made.rebuilt in
    page_at-made to target dword0 dword1 p
    (record {
      valid = made.valid;
      size = made.size;
      sized = made.sized;
      rebuilt = rebuilt;
      tag = made.tag;
      group = there;
    })

-- An entry's page has its group.
pub page_at-group :
    (order index dword0 dword1 : ℕ) (p : VirtualPage)
    → page_at order index dword0 dword1 ≡ Some p
    → group_of p order (is_secondary dword0) ≡ index / 8
page_at-group order index dword0 dword1 p e = (made-page_at order index dword0 dword1 p e).group

-- An outcome that is `page_at` is a page of the entry, where there is one.
pub page_at-found :
    (order index dword0 dword1 : ℕ) (o : Option VirtualPage)
    → dword0 < 2 ^ 64
    → o ≡ page_at order index dword0 dword1
    → IfSome o (λ p. IsPage p × IsPageOf order index dword0 dword1 p)
page_at-found order index dword0 dword1 None range e = tt
page_at-found order index dword0 dword1 (Some p) range e =
    page_at-sound order index dword0 dword1 p range (sym e)
