-- The page of each valid entry lies in a grant.
use Rattle.std.proofs.Common.{◌≡◌, ℕ, ◌^◌, ◌<◌, List, true, Option, Some, ap, sym, subst, arith}
use Rattle.std.specs.Option.{option_map_or}
use Rattle.std.proofs.lemmas.Nat.{pow_pos}
use Rattle.page_sizes.specs.declared.size.PageSize.{PageSize}
use Rattle.page_sizes.specs.Sizes.{size_of}
use Rattle.hpte_fields.specs.Fields.{page_bits, frame_of, protected_word, without_rc}
use Rattle.hpte_fields.proofs.PageBits.{same_size, same_frame, without_rc_page}
use Rattle.hpte_fields.proofs.KeptBits.{protected_page}
use Rattle.frame_grants.specs.declared.grant.Grant.{Grant}
use Rattle.frame_grants.specs.declared.grant.Kind.{Kind}
use Rattle.frame_grants.specs.Grants.{machine_range}
use Rattle.frame_grants.proofs.Landing.{part_range}
use Rattle.entry_model.specs.State.{State}
use Rattle.entry_model.proofs.KeptWords.{HasWords, StaysInEntries}
use Rattle.hpt_walk.specs.Access.{actual_size, logical_of}

-- The range of this size from a frame on lies in one grant.
abbrev pub IsGrantedPage : List Grant → ℕ → ℕ → Type 0
IsGrantedPage grants frame actual =
    (x : ℕ × Kind) × (machine_range grants frame (2 ^ actual) ≡ Some x)

-- The binary logarithm of the size of the real page that these words map.
abbrev pub actual_of : ℕ → ℕ → ℕ
actual_of dword0 dword1 =
    option_map_or (λ (size : PageSize). size.actual) (size_of dword0 dword1) 12

-- The page that these words map lies in one grant, and the first is a doubleword.
pub record IsGrantedWords (grants : List Grant) (dword0 dword1 : ℕ) : Type 0 where
  pub page :
      IsGrantedPage grants (frame_of dword1 (actual_of dword0 dword1)) (actual_of dword0 dword1)
  pub fits : dword0 < 2 ^ 64

-- The page of a valid entry lies in one grant, and its first doubleword has 64 bits.
abbrev pub IsGranted : List Grant → State → Type 0
IsGranted grants s = HasWords (IsGrantedWords grants) s

-- ---- words with the same page
same_words :
    (grants : List Grant) (dword0 dword1 other : ℕ)
    → page_bits other ≡ page_bits dword1
    → IsGrantedWords grants dword0 dword1
    → IsGrantedWords grants dword0 other
same_words grants h l m e granted =
    let size : actual_of h l ≡ actual_of h m = ap
    (λ (s : Option PageSize). option_map_or (λ (size : PageSize). size.actual) s 12)
    (same_size h l m (sym e)) in
    let frame : frame_of l (actual_of h l) ≡ frame_of m (actual_of h l) = same_frame l m
    (actual_of h l) (sym e) in
    record {
      page =
          subst (λ a. IsGrantedPage grants (frame_of m a) a) size
          (subst (λ f. IsGrantedPage grants f (actual_of h l)) frame granted.page);
      fits = granted.fits;
    }

-- ---- operations
-- A granted page stays so in an entry, whatever is done with its other bits.
pub granted_stay : (grants : List Grant) → StaysInEntries (IsGrantedWords grants)
granted_stay grants = record {
  entered = λ h l w. same_words grants h l (without_rc l) (without_rc_page l) w;
  protected =
      λ h l flags w. same_words grants h l (protected_word l flags) (protected_page l flags) w;
}

-- ---- accesses
-- An access by a valid entry has a machine address.
pub access_lands :
    (grants : List Grant) (ea : ℕ) (s : State)
    → IsGranted grants s
    → s.valid ≡ true
    → (x : ℕ × Kind) × (machine_range grants (logical_of ea s) 1 ≡ Some x)
access_lands grants ea s h valid =
    let page = (h valid).page in
    let some : 0 < 2 ^ actual_size s = pow_pos (actual_size s) in
    part_range grants (frame_of s.dword1 (actual_size s)) (2 ^ actual_size s) (logical_of ea s)
    page.0 page.1 (omega arith) (omega arith)
