-- Doublewords of an entry that H_ENTER would store as they are, and others that map the same page.
use Rattle.std.specs.Prelude.{◌||◌, is_none, if◌then◌else◌, nat_lt}
use Rattle.std.proofs.Common.{◌≡◌, ℕ, ◌/◌, ◌%◌, ◌^◌, ◌≤◌, List, Bool, true, false, Option, Some, None, ap, sym, ◌∙◌, refl, bit_and, inl, inr, ◌⊎◌, arith}
use Rattle.std.specs.Option.{option_map_or}
use Rattle.std.proofs.lemmas.Bool.{cases_Bool, ltb-false, or_parts}
use Rattle.page_sizes.specs.declared.size.PageSize.{PageSize}
use Rattle.page_sizes.specs.Sizes.{size_of}
use Rattle.hpte_fields.specs.Fields.{page_bits, wimg_of, segment_code, stored_first, stored_second, normal_words, with_rc}
use Rattle.hpte_fields.proofs.Again.{normal_again}
use Rattle.hpte_fields.proofs.Masks.{field_stays}
use Rattle.hpte_fields.proofs.PageBits.{same_size, same_frame}
use Rattle.table_image.proofs.PutBack.{put_off, put_second}
use Rattle.frame_grants.specs.declared.grant.Grant.{Grant}
use Rattle.page_grants.specs.Suited.{suits_size, suits_grants, suited_words, entered_words}

-- ---- what is stored as it is
-- H_ENTER stores these doublewords just as they are: they are legal ones, and a grant suits the
-- page that they map.
pub record AreStored (grants : List Grant) (dword0 dword1 : ℕ) : Type 0 where
  pub legal : (nat_lt 1 (segment_code dword0) || is_none (size_of dword0 dword1)) ≡ false
  pub first : stored_first dword0 ≡ dword0
  pub second : stored_second dword1 ≡ dword1
  pub suits : suits_grants grants dword0 dword1 ≡ true

suited_some :
    (grants : List Grant) (o : Option (ℕ × ℕ)) (w : ℕ × ℕ)
    → suited_words grants o ≡ Some w
    → (o ≡ Some w) × (suits_grants grants w.0 w.1 ≡ true)
suited_some grants None w e = cc
suited_some grants (Some v) w e = at (cases_Bool (suits_grants grants v.0 v.1)) where
  at :
      (suits_grants grants v.0 v.1 ≡ true) ⊎ (suits_grants grants v.0 v.1 ≡ false)
      → (Some v ≡ Some w) × (suits_grants grants w.0 w.1 ≡ true)
  at (inl suits) =
      let is : Some v ≡ Some w = rw suits at e in
      let same : v ≡ w = cc in
      (is, sym (ap (λ (x : ℕ × ℕ). suits_grants grants x.0 x.1) same) ∙ suits)
  at (inr not_so) =
      let none : None ≡ Some w = rw not_so at e in
      cc

legal_some :
    (refused : Bool) (v w : ℕ × ℕ)
    → (if refused then None else Some v) ≡ Some w
    → (refused ≡ false) × (v ≡ w)
legal_some true v w e = cc
legal_some false v w e = (refl, cc)

pub stored_parts :
    (grants : List Grant) (dword0 dword1 : ℕ)
    → entered_words grants dword0 dword1 ≡ Some (dword0, dword1)
    → AreStored grants dword0 dword1
stored_parts grants dword0 dword1 e =
    let both = suited_some grants (normal_words dword0 dword1) (dword0, dword1) e in
    let parts = legal_some _ (stored_first dword0, stored_second dword1) (dword0, dword1) both.0 in
    record {
      legal = parts.0;
      first = ap (λ (w : ℕ × ℕ). w.0) parts.1;
      second = ap (λ (w : ℕ × ℕ). w.1) parts.1;
      suits = both.1;
    }

pub stored_whole :
    (grants : List Grant) (dword0 dword1 : ℕ)
    → AreStored grants dword0 dword1
    → entered_words grants dword0 dword1 ≡ Some (dword0, dword1)
stored_whole grants dword0 dword1 h =
    let legal = h.legal in
    let first = h.first in
    let second = h.second in
    let suits = h.suits in
    let normal : normal_words dword0 dword1 ≡ Some (dword0, dword1) = rw (legal, first, second) refl
    in
    ap (suited_words grants) normal ∙ rw suits refl

-- ---- other words of the page
-- The storage control bits are those under their mask.
pub same_control :
    (dword1 other : ℕ) → bit_and other 0x78 ≡ bit_and dword1 0x78 → wimg_of other ≡ wimg_of dword1
same_control l m e =
    sym (field_stays m 0x78 3 4 refl) ∙ ap (λ n. n / 2 ^ 3 % 2 ^ 4) e ∙ field_stays l 0x78 3 4 refl

suits_same :
    (grants : List Grant) (size : Option PageSize) (dword1 other : ℕ)
    → page_bits other ≡ page_bits dword1
    → wimg_of other ≡ wimg_of dword1
    → option_map_or (suits_size grants other) size false
    ≡ option_map_or (suits_size grants dword1) size false
suits_same grants None l m page control = refl
suits_same grants (Some size) l m page control = rw (same_frame m l size.actual page, control) refl

-- Another second doubleword with the same page, the same storage control bits and the reserved bit
-- clear is stored as it is too.
pub same_stored :
    (grants : List Grant) (dword0 dword1 other : ℕ)
    → page_bits other ≡ page_bits dword1
    → bit_and other 0x78 ≡ bit_and dword1 0x78
    → stored_second other ≡ other
    → AreStored grants dword0 dword1
    → AreStored grants dword0 other
unfolding suits_grants
same_stored grants h l m page control second is =
    let size : size_of h m ≡ size_of h l = same_size h m l page in
    record {
      legal = ap (λ (s : Option PageSize). nat_lt 1 (segment_code h) || is_none s) size ∙ is.legal;
      first = is.first;
      second = second;
      suits =
          ap (λ (s : Option PageSize). option_map_or (suits_size grants m) s false) size
          ∙ suits_same grants (size_of h l) l m page (same_control l m control)
          ∙ is.suits;
    }

-- Doublewords that are stored as they are stay so when R and C are put in.
pub put_stored :
    (grants : List Grant) (dword0 dword1 : ℕ) (referenced changed : Bool)
    → AreStored grants dword0 dword1
    → AreStored grants dword0 (with_rc dword1 referenced changed)
put_stored grants h l r c is =
    same_stored grants h l (with_rc l r c)
    (put_off l 0x0FFFFFFFFFFFF000 r c refl refl)
    (put_off l 0x78 r c refl refl)
    (put_second l r c is.second) is

-- ---- what is stored
-- Whatever words H_ENTER is given, it would store as they are those that it stores.
pub entered_again :
    (grants : List Grant) (pteh ptel : ℕ) (w : ℕ × ℕ)
    → entered_words grants pteh ptel ≡ Some w
    → AreStored grants w.0 w.1
entered_again grants pteh ptel w e =
    let both = suited_some grants (normal_words pteh ptel) w e in
    let legal = (legal_some _ (stored_first pteh, stored_second ptel) w both.0).0 in
    let code : segment_code pteh ≤ 1 = ltb-false 1 (segment_code pteh)
    (or_parts (nat_lt 1 (segment_code pteh)) (is_none (size_of pteh ptel)) legal).0 in
    let again : normal_words w.0 w.1 ≡ Some w = normal_again pteh ptel w (omega arith) both.0 in
    let suits = both.1 in
    let whole : suited_words grants (Some w) ≡ Some w = rw suits refl in
    stored_parts grants w.0 w.1 (ap (suited_words grants) again ∙ whole)
