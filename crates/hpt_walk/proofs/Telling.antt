-- An access shows whether an entry is one of the page.
use Rattle.std.specs.Prelude.{IsTrue, IsSomeAnd, ◌==◌, ◌&&◌}
use Rattle.std.proofs.Common.{◌≡◌, ℕ, ◌+◌, ◌/◌, ◌<◌, ◌≤◌, Bool, true, false, Option, Some, None, ap, sym, ◌∙◌, refl, ◌⊎◌, inl, inr, arith, ◌^◌}
use Rattle.std.specs.Option.{option_map_or}
use Rattle.std.proofs.lemmas.Bool.{cases_Bool, and_parts, eqb-true, eq-eqb}
use Rattle.std.specs.Cmp.Derive.{both_true}
use Rattle.page_sizes.specs.declared.size.PageSize.{PageSize}
use Rattle.page_sizes.specs.Sizes.{size_of}
use Rattle.power_addr.specs.Pages.{VirtualPage, IsPage, tag_of}
use Rattle.hpte_fields.specs.Fields.{is_valid, is_secondary}
use Rattle.hpt_hash.specs.Hash.{group_of}
use Rattle.hpt_hash.specs.Entries.{IsPageOf}
use Rattle.hpt_hash.proofs.GroupBits.{group_of-apart}
use Rattle.hpt_hash.proofs.PageLemmas.{segment_code-tag}
use Rattle.entry_model.specs.State.{State}
use Rattle.entry_model.specs.declared.operation.Answer.{Answer}
use Rattle.entry_model.specs.declared.operation.Answer.TheVariants.{NoMatch}
use Rattle.entry_model.specs.Reply.{compared_bits, has_base, is_match, reply_of, AccessMode}
use Rattle.entry_model.specs.Receipt.{is_no_match, is_decided}
use Rattle.entry_model.proofs.OperationLaws.{decided_match}
use Rattle.hpt_walk.specs.Walk.{access_op, h_bit}
use Rattle.hpt_walk.specs.Laws.{IsEntryState, TellsPage}
use Rattle.hpt_walk.proofs.Tags.{HasTag, compared-has, has-compared}
use Rattle.hpt_walk.proofs.Decided.{accessed_no_match}
use Rattle.hpte_fields.specs.TableSize.{least_order}

-- ---- sizes
sized_base :
    (o : Option PageSize) (base : ℕ)
    → option_map_or (λ (size : PageSize). size.base == base) o false ≡ true
    → IsSomeAnd o (λ size. size.base ≡ base)
sized_base None base h = cc
sized_base (Some size) base h = eqb-true size.base base h

base_sized :
    (o : Option PageSize) (base : ℕ)
    → IsSomeAnd o (λ size. size.base ≡ base)
    → option_map_or (λ (size : PageSize). size.base == base) o false ≡ true
base_sized None base h = elim h [ ]
base_sized (Some size) base h = eq-eqb size.base base h

has_base-size :
    (d₀ d₁ base : ℕ)
    → has_base d₀ d₁ base ≡ true
    → IsSomeAnd (size_of d₀ d₁) (λ size. size.base ≡ base)
unfolding has_base
has_base-size d₀ d₁ base h = sized_base (size_of d₀ d₁) base h

size-has_base :
    (d₀ d₁ base : ℕ)
    → IsSomeAnd (size_of d₀ d₁) (λ size. size.base ≡ base)
    → has_base d₀ d₁ base ≡ true
unfolding has_base
size-has_base d₀ d₁ base h = base_sized (size_of d₀ d₁) base h

-- ---- a match is a page
pub match_page :
    (order entry : ℕ) (page : VirtualPage) (secondary : Bool) (s : State)
    → IsPage page
    → group_of page order secondary ≡ entry / 8
    → s.dword0 < 2 ^ 64
    → is_match s (tag_of page + h_bit secondary + 1) page.shift ≡ true
    → IsPageOf order entry s.dword0 s.dword1 page
match_page order entry page secondary s is group fits same =
    let parts = and_parts s.valid
    ((compared_bits s.dword0 == tag_of page + h_bit secondary + 1) && has_base s.dword0 s.dword1
    page.shift) same in
    let words = and_parts (compared_bits s.dword0 == tag_of page + h_bit secondary + 1)
    (has_base s.dword0 s.dword1 page.shift) parts.1 in
    let has : HasTag s.dword0 (tag_of page) secondary = compared-has page s.dword0 secondary
    (eqb-true _ _ words.0) in
    record {
      valid = has.valid;
      tag = has.tag;
      size = has_base-size s.dword0 s.dword1 page.shift words.1;
      segment = segment_code-tag page s.dword0 is fits has.tag;
      group = ap (group_of page order) has.secondary ∙ group;
    }

-- H of an entry of the page says in which of the two groups it stands.
h_of_group :
    (order entry : ℕ) (page : VirtualPage) (secondary own : Bool)
    → least_order ≤ order
    → group_of page order secondary ≡ entry / 8
    → group_of page order own ≡ entry / 8
    → own ≡ secondary
h_of_group order entry page true true low a b = refl
h_of_group order entry page false false low a b = refl
h_of_group order entry page true false low a b =
    absurd (group_of-apart page order (omega arith) (b ∙ sym a))
h_of_group order entry page false true low a b =
    absurd (group_of-apart page order (omega arith) (a ∙ sym b))

-- An entry that isn't valid is one of no page.
pub valid_of_page :
    (order entry : ℕ) (page : VirtualPage) (s : State)
    → IsEntryState s
    → IsPageOf order entry s.dword0 s.dword1 page
    → s.valid ≡ true
valid_of_page order entry page s state of = at (cases_Bool s.valid) where
  at : (s.valid ≡ true) ⊎ (s.valid ≡ false) → s.valid ≡ true
  at (inl there) = there
  at (inr empty) = let clash :
      false ≡ true = sym (ap is_valid (state.canonical.no_first empty)) ∙ of.valid in cc

pub page_match :
    (order entry : ℕ) (page : VirtualPage) (secondary : Bool) (s : State)
    → least_order ≤ order
    → group_of page order secondary ≡ entry / 8
    → IsEntryState s
    → IsPageOf order entry s.dword0 s.dword1 page
    → is_match s (tag_of page + h_bit secondary + 1) page.shift ≡ true
page_match order entry page secondary s low group state of =
    let has : HasTag s.dword0 (tag_of page) secondary = record {
      tag = of.tag;
      secondary =
          h_of_group order entry page secondary (is_secondary s.dword0) low group of.group;
      valid = of.valid;
    } in
    both_true (valid_of_page order entry page s state of)
    (both_true (eq-eqb _ _ (has-compared page s.dword0 secondary has))
    (size-has_base s.dword0 s.dword1 page.shift of.size))

-- ---- the law of one entry
no_match_is : (a : Answer) → is_no_match a ≡ true → a ≡ NoMatch
no_match_is NoMatch h = refl
no_match_is other h = cc

pub tells_page :
    (order entry : ℕ) (page : VirtualPage) (mode : AccessMode) (secondary : Bool) (s : State)
    → least_order ≤ order
    → IsPage page
    → group_of page order secondary ≡ entry / 8
    → IsEntryState s
    → TellsPage order entry page s (reply_of s (access_op page mode secondary)).0
tells_page order entry page mode secondary s low is group state =
    record { decided = (decided_to, decided_back); no_match = (no_match_to, no_match_back) } where
      answer : Answer
      answer = (reply_of s (access_op page mode secondary)).0

      matching : Bool
      matching = is_match s (tag_of page + h_bit secondary + 1) page.shift

      decided_back : IsPageOf order entry s.dword0 s.dword1 page → IsTrue (is_decided answer)
      decided_back of =
          decided_match s (tag_of page + h_bit secondary + 1) page.shift mode
          (page_match order entry page secondary s low group state of)

      by_test :
          (is_decided answer ≡ true)
          → (matching ≡ true) ⊎ (matching ≡ false)
          → IsPageOf order entry s.dword0 s.dword1 page
      by_test d (inl same) = match_page order entry page secondary s is group state.fits same
      by_test d (inr differs) = let none :
          answer ≡ NoMatch =
          no_match_is answer
          (accessed_no_match s (tag_of page + h_bit secondary + 1) page.shift mode differs) in
          let clash :
          false ≡ true = sym (ap is_decided none) ∙ d in cc

      decided_to : IsTrue (is_decided answer) → IsPageOf order entry s.dword0 s.dword1 page
      decided_to d = by_test d (cases_Bool matching)

      no_match_to : answer ≡ NoMatch → IsPageOf order entry s.dword0 s.dword1 page → ⊥
      no_match_to none of = let clash :
          false ≡ true = sym (ap is_decided none) ∙ decided_back of in cc

      none_by_test :
          (IsPageOf order entry s.dword0 s.dword1 page → ⊥)
          → (matching ≡ true) ⊎ (matching ≡ false)
          → answer ≡ NoMatch
      none_by_test not_of (inl same) =
          absurd (not_of (match_page order entry page secondary s is group state.fits same))
      none_by_test not_of (inr differs) =
          no_match_is answer
          (accessed_no_match s (tag_of page + h_bit secondary + 1) page.shift mode differs)

      no_match_back : (IsPageOf order entry s.dword0 s.dword1 page → ⊥) → answer ≡ NoMatch
      no_match_back not_of = none_by_test not_of (cases_Bool matching)
