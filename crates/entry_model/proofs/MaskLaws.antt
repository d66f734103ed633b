-- When an access is answered Masked, and that masks of 0 change no answer.
use Rattle.std.proofs.Common.{◌≡◌, ℕ, ◌↔◌, Bool, true, false, Option, refl, ap}
use Rattle.std.specs.Prelude.{if◌then◌else◌, is_some}
use Rattle.storage_prot.specs.declared.want.Want.{Want}
use Rattle.authority_mask.specs.Authority.{no_masks}
use Rattle.authority_mask.specs.declared.masks.MaskName.{MaskName}
use Rattle.authority_mask.proofs.NoMasks.{none_refused}
use Rattle.hpte_fields.specs.Fields.{key_of}
use Rattle.entry_model.specs.State.{State}
use Rattle.entry_model.specs.declared.operation.Answer.{Answer}
use Rattle.entry_model.specs.declared.operation.Answer.TheVariants.{NoMatch, Denied, Masked, At}
use Rattle.entry_model.specs.Reply.{AccessMode, access_mode, is_match, is_allowed, masks_refuse, answer_of_access, touched_state}
use Rattle.entry_model.specs.Laws.{IsForbidden, answer_by_protection}

-- The answer by the three tests, in their order.
abbrev by_tests : Bool → Bool → Bool → State → State → Answer × State
by_tests match allowed refused s next =
    if match then (if allowed then (if refused then (Masked, s) else (At, next)) else (Denied, s))
    else (NoMatch, s)

all_three :
    (match allowed refused : Bool) (s next : State)
    → (by_tests match allowed refused s next).0 ≡ Masked
    → (match ≡ true) × (allowed ≡ true) × (refused ≡ true)
all_three true true true s next e = (refl, refl, refl)
all_three true true false s next e = cc
all_three true false refused s next e = cc
all_three false allowed refused s next e = cc

by_all_three :
    (match allowed refused : Bool) (s next : State)
    → (match ≡ true) × (allowed ≡ true) × (refused ≡ true)
    → (by_tests match allowed refused s next).0 ≡ Masked
by_all_three true true true s next e = refl
by_all_three true true false s next e = cc
by_all_three true false refused s next e = cc
by_all_three false allowed refused s next e = cc

pub masked_where :
    (s : State) (tag base : ℕ) (mode : AccessMode)
    → ((answer_of_access s tag base mode).0 ≡ Masked) ↔ IsForbidden s tag base mode
masked_where s tag base mode = (
  all_three (is_match s tag base) (is_allowed s mode) (masks_refuse s mode) s
      (touched_state s mode.want),
  by_all_three (is_match s tag base) (is_allowed s mode) (masks_refuse s mode) s
      (touched_state s mode.want),
)

pub zero_changes_nothing :
    (s : State) (tag base : ℕ) (key no_execute : Bool) (want : Want)
    → answer_of_access s tag base (access_mode key no_execute want no_masks)
    ≡ answer_by_protection s tag base (access_mode key no_execute want no_masks)
zero_changes_nothing s tag base key no_execute want =
    ap
    (λ (mask : Option MaskName).
    by_tests (is_match s tag base) (is_allowed s (access_mode key no_execute want no_masks))
    (is_some mask) s (touched_state s want)) (none_refused (key_of s.dword1) want)
