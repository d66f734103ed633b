-- What an entry's rights and causes say of its answers.
use Rattle.std.specs.Prelude.{◌↔◌, ◌&&◌, ◌||◌, not, if◌then◌else◌, is_some}
use Rattle.std.proofs.Common.{◌≡◌, ℕ, ◌+◌, Bool, true, false, Option, Some, None, arith, refl, ap, sym, ◌∙◌, ◌⊎◌, inl, inr}
use Rattle.std.proofs.lemmas.Bool.{and_parts, cases_Bool, not-true}
use Rattle.storage_prot.specs.declared.want.Want.{Want}
use Rattle.storage_prot.specs.declared.want.Want.TheVariants.{Load, Store, Fetch}
use Rattle.storage_prot.specs.Protection.{allowed, may_read, permission}
use Rattle.authority_mask.specs.declared.masks.MaskName.{MaskName}
use Rattle.authority_mask.specs.declared.masks.MaskName.TheVariants.{Amr, Iamr}
use Rattle.hpte_fields.specs.Fields.{pp_of, is_no_execute}
use Rattle.power_addr.specs.Pages.{VirtualPage}
use Rattle.entry_model.specs.State.{State}
use Rattle.entry_model.specs.declared.operation.Answer.{Answer}
use Rattle.entry_model.specs.declared.operation.Answer.TheVariants.{At, Denied, Masked}
use Rattle.entry_model.specs.Reply.{AccessMode, is_allowed, is_store, mask_against, masks_refuse, reply_of, touched_state, answer_of_match}
use Rattle.hpt_walk.specs.Walk.{access_op}
use Rattle.papr_c.specs.RightsLaws.{Translates}
use Rattle.c_layout.specs.Rights.{has_right, is_recorded, is_fetch, is_mask, protection_refuses, execution_refused, causes_of}

-- The reply of an entry that translates the page.
replies :
    (s : State) (page : VirtualPage) (mode : AccessMode) (secondary : Bool)
    → Translates s page secondary
    → reply_of s (access_op page mode secondary) ≡ answer_of_match s mode
replies s page mode secondary match = rw match refl

-- ---- rights
recorded_stays :
    (changed store : Bool) → (changed || not store) ≡ true → (changed || store) ≡ changed
recorded_stays true store e = refl
recorded_stays false false e = refl
recorded_stays false true e = cc

stays_recorded :
    (changed store : Bool) → (changed || store) ≡ changed → (changed || not store) ≡ true
stays_recorded true store e = refl
stays_recorded false false e = refl
stays_recorded false true e = cc

touched_same : (s : State) (want : Want) → is_recorded s want ≡ true → touched_state s want ≡ s
touched_same s want recorded =
    let parts = and_parts s.referenced (s.changed || not (is_store want)) recorded in
    let changed : (s.changed || is_store want) ≡ s.changed = recorded_stays s.changed
    (is_store want) parts.1 in
    λ i. record s { referenced = sym parts.0 i; changed = changed i }

same_touched : (s : State) (want : Want) → touched_state s want ≡ s → is_recorded s want ≡ true
same_touched s want same =
    let referenced : s.referenced ≡ true = sym (ap (λ (t : State). t.referenced) same) in
    let changed : (s.changed || not (is_store want)) ≡ true = stays_recorded s.changed
    (is_store want) (ap (λ (t : State). t.changed) same) in
    rw (referenced, changed) refl

right_stays :
    (s : State) (mode : AccessMode) → has_right s mode ≡ true → answer_of_match s mode ≡ (At, s)
right_stays s mode right =
    let parts = and_parts (is_allowed s mode && not (masks_refuse s mode)) (is_recorded s mode.want)
    right in
    let first = and_parts (is_allowed s mode) (not (masks_refuse s mode)) parts.0 in
    rw (first.0, not-true (masks_refuse s mode) first.1)
    (λ i. (At, touched_same s mode.want parts.1 i))

stays_right :
    (s : State) (mode : AccessMode) → answer_of_match s mode ≡ (At, s) → has_right s mode ≡ true
stays_right s mode e = at (cases_Bool (is_allowed s mode)) (cases_Bool (masks_refuse s mode)) where
  at :
      (is_allowed s mode ≡ true) ⊎ (is_allowed s mode ≡ false)
      → (masks_refuse s mode ≡ true) ⊎ (masks_refuse s mode ≡ false)
      → has_right s mode ≡ true
  at (inl fine) (inl masked) = let clash :
      Masked ≡ At = ap (λ (z : Answer × State). z.0) (rw (fine, masked) at e) in cc
  at (inl fine) (inr free) =
      let same : (At, touched_state s mode.want) ≡ (At, s) = rw (fine, free) at e in
      rw (fine, free) (same_touched s mode.want (ap (λ (z : Answer × State). z.1) same))
  at (inr denied) masks = let clash :
      Denied ≡ At = ap (λ (z : Answer × State). z.0) (rw denied at e) in cc

pub rights_stay :
    (s : State) (page : VirtualPage) (mode : AccessMode) (secondary : Bool)
    → Translates s page secondary
    → (has_right s mode ≡ true) ↔ (reply_of s (access_op page mode secondary) ≡ (At, s))
rights_stay s page mode secondary match =
    let is = replies s page mode secondary match in
    (λ right. is ∙ right_stays s mode right, λ e. stays_right s mode (sym is ∙ e))

-- ---- causes
-- Protection allows an access where the bits do, and nothing refuses fetches.
twice : (b : Bool) → b ≡ (not (not b) && true)
twice true = refl
twice false = refl

both_refuse : (b n : Bool) → (b && not n) ≡ (not (not (b && true)) && not n)
both_refuse true true = refl
both_refuse true false = refl
both_refuse false n = refl

by_two :
    (pp : ℕ) (key no_execute : Bool) (want : Want)
    → allowed pp key no_execute want
    ≡ (not (not (allowed pp key false want)) && not (is_fetch want && no_execute))
by_two pp key no_execute Load = twice (allowed pp key false Load)
by_two pp key no_execute Store = twice (allowed pp key false Store)
by_two pp key no_execute Fetch = both_refuse (may_read (permission pp key)) no_execute

allowed_by :
    (s : State) (mode : AccessMode)
    → is_allowed s mode ≡ (not (protection_refuses s mode) && not (execution_refused s mode))
allowed_by s mode =
    by_two (pp_of s.dword1) mode.key (mode.no_execute || is_no_execute s.dword1) mode.want

-- The number of causes.
abbrev sum_of : Bool → Bool → Option MaskName → ℕ
sum_of p e o =
    (if p then 1 else 0)
    + (if e then 2 else 0)
    + (if is_mask Amr o then 4 else 0)
    + (if is_mask Iamr o then 8 else 0)

none_holds :
    (p e : Bool) (o : Option MaskName) → sum_of p e o ≡ 0 → (p ≡ false) × (e ≡ false) × (o ≡ None)
none_holds true e o h = absurd (omega (arith, h))
none_holds false true o h = absurd (omega (arith, h))
none_holds false false None h = (refl, refl, refl)
none_holds false false (Some Amr) h = cc
none_holds false false (Some Iamr) h = cc

unmasked : (o : Option MaskName) → is_some o ≡ false → o ≡ None
unmasked None e = refl
unmasked (Some name) e = cc

no_cause_allows :
    (s : State) (mode : AccessMode) → causes_of s mode ≡ 0 → (answer_of_match s mode).0 ≡ At
no_cause_allows s mode none =
    let holds = none_holds (protection_refuses s mode) (execution_refused s mode)
    (mask_against s mode.masks mode.want) none in
    let yes : is_allowed s mode ≡ true = allowed_by s mode ∙
    (λ i. not (holds.0 i) && not (holds.1 i)) in
    let free : masks_refuse s mode ≡ false = ap (λ (o : Option MaskName). is_some o) holds.2 in
    rw (yes, free) refl

allowed_without :
    (s : State) (mode : AccessMode) → (answer_of_match s mode).0 ≡ At → causes_of s mode ≡ 0
allowed_without s mode e =
    at (cases_Bool (is_allowed s mode)) (cases_Bool (masks_refuse s mode)) where
      at :
          (is_allowed s mode ≡ true) ⊎ (is_allowed s mode ≡ false)
          → (masks_refuse s mode ≡ true) ⊎ (masks_refuse s mode ≡ false)
          → causes_of s mode ≡ 0
      at (inl fine) (inl masked) = let clash : Masked ≡ At = rw (fine, masked) at e in cc
      at (inl fine) (inr free) =
          let parts = and_parts (not (protection_refuses s mode)) (not (execution_refused s mode))
          (sym (allowed_by s mode) ∙ fine) in
          λ i.
          sum_of (not-true (protection_refuses s mode) parts.0 i)
          (not-true (execution_refused s mode) parts.1 i)
          (unmasked (mask_against s mode.masks mode.want) free i)
      at (inr denied) masks = let clash : Denied ≡ At = rw denied at e in cc

pub causes_hold :
    (s : State) (page : VirtualPage) (mode : AccessMode) (secondary : Bool)
    → Translates s page secondary
    → (causes_of s mode ≡ 0) ↔ ((reply_of s (access_op page mode secondary)).0 ≡ At)
causes_hold s page mode secondary match =
    let is = ap (λ (z : Answer × State). z.0) (replies s page mode secondary match) in
    (λ none. is ∙ no_cause_allows s mode none, λ e. allowed_without s mode (sym is ∙ e))
