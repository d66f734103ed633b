-- When an access ends refused by a mask.
use Rattle.std.proofs.Common.{◌≡◌, ℕ, ◌*◌, ◌↔◌, ◌⊎◌, inl, inr, List, [], ◌∷◌, Bool, true, false, Option, Some, None, ap, sym, ◌∙◌, refl, subst}
use Rattle.std.specs.Prelude.{is_some, if◌then◌else◌}
use Rattle.std.specs.List.{AllByRecursion, range_with_len}
use Rattle.std.proofs.lemmas.Bool.{cases_Bool, false≢true}
use Rattle.entry_model.proofs.PlanBounds.{each_call}
use Rattle.power_addr.specs.Pages.{VirtualPage}
use Rattle.hpt_hash.specs.Hash.{group_of}
use Rattle.slb_model.specs.declared.segment.Segment.{Segment}
use Rattle.frame_grants.specs.declared.grant.Grant.{Grant}
use Rattle.frame_grants.specs.declared.grant.Kind.{Kind}
use Rattle.frame_grants.specs.Grants.{machine_range}
use Rattle.authority_mask.specs.Authority.{no_masks, forbidden}
use Rattle.authority_mask.specs.declared.masks.Masks.{Masks}
use Rattle.authority_mask.specs.declared.masks.MaskName.{MaskName}
use Rattle.authority_mask.proofs.NoMasks.{none_refused}
use Rattle.hpte_fields.specs.Fields.{key_of}
use Rattle.entry_model.specs.declared.line.Line.{Line}
use Rattle.entry_model.specs.declared.operation.Answer.{Answer}
use Rattle.entry_model.specs.declared.operation.Answer.TheVariants as answers
use Rattle.entry_model.specs.declared.operation.Op.{Op}
use Rattle.entry_model.specs.declared.operation.Op.TheVariants.{Access}
use Rattle.entry_model.specs.declared.receipt.Receipt.{Receipt}
use Rattle.entry_model.specs.declared.access_reply.AccessReply.{AccessReply}
use Rattle.entry_model.specs.declared.access_reply.By.{By}
use Rattle.entry_model.specs.declared.access_reply.By.TheVariants.{Hit, Walk}
use Rattle.entry_model.specs.declared.access_reply.Outcome.TheVariants as outcomes
use Rattle.entry_model.specs.Receipt.{is_no_match, is_at, is_masked, mask_of, mask_against_op, found_of}
use Rattle.entry_model.specs.Trial.{Call, IsTrial}
use Rattle.entry_model.specs.Reply.{AccessMode, reply_of, is_match, mask_against, answer_of_access}
use Rattle.entry_model.proofs.MaskLaws.{masked_where}
use Rattle.hpt_walk.specs.declared.request.Request.{Request}
use Rattle.hpt_walk.specs.Access.{AccessContext, IsAccessReply, IsByWay, hit_calls, mode_for, landing_at, logical_of, refused_by, refusing_mask, outcome_by, outcome_of}
use Rattle.hpt_walk.specs.Laws.{IsRefusedByMask}
use Rattle.hpt_walk.specs.Walk.{access_op, group_calls, walk_calls}
use Rattle.hpt_walk.proofs.Found.{trial_ops, found-on, found-off}
use Rattle.basics.proofs.Each.{each_append}

-- ---- operations of this mode
-- The operation is an access of some page that asks this of protection and of the masks.
abbrev IsInMode : AccessMode → Op → Type 0
IsInMode mode op =
    (tag : ℕ) × (base : ℕ) × (op ≡ Access tag base mode.key mode.no_execute mode.want mode.masks)

calls_in_mode :
    (order : ℕ) (page : VirtualPage) (mode : AccessMode)
    → AllByRecursion (λ (c : Call). IsInMode mode c.op) (walk_calls order page mode)
unfolding walk_calls
calls_in_mode order page mode =
    each_append (λ (c : Call). IsInMode mode c.op)
    (group_calls (access_op page mode false) (group_of page order false))
    (group_calls (access_op page mode true) (group_of page order true))
    (each_call (IsInMode mode) (access_op page mode false)
    (range_with_len (group_of page order false * 8) 8) (_, _, refl))
    (each_call (IsInMode mode) (access_op page mode true)
    (range_with_len (group_of page order true * 8) 8) (_, _, refl))

abbrev AreInMode : AccessMode → List Receipt → Type 0
AreInMode mode rs = AllByRecursion (λ (r : Receipt). IsInMode mode r.op) rs

walk_in_mode :
    (order : ℕ) (page : VirtualPage) (mode : AccessMode) (rs : List Receipt)
    → IsTrial is_no_match (walk_calls order page mode) rs
    → AreInMode mode rs
walk_in_mode order page mode rs trial =
    trial_ops (IsInMode mode) (walk_calls order page mode) rs (calls_in_mode order page mode) trial

way_in_mode :
    (context : AccessContext) (seg : Segment) (a : Request) (line : Option Line) (way : Option By)
    (reply : AccessReply)
    → IsByWay context seg a line way reply
    → AreInMode (mode_for seg a) reply.receipts
way_in_mode context seg a (Some line) (Some Hit) reply h =
    trial_ops (IsInMode (mode_for seg a)) (hit_calls seg a line) reply.receipts ((_, _, refl), tt)
    h.trial
way_in_mode context seg a (Some line) (Some Walk) reply h =
    walk_in_mode context.order seg.page (mode_for seg a) reply.receipts h.trial
way_in_mode context seg a (Some line) None reply h = absurd h
way_in_mode context seg a None (Some Walk) reply h =
    walk_in_mode context.order seg.page (mode_for seg a) reply.receipts h.trial
way_in_mode context seg a None (Some Hit) reply h = absurd h
way_in_mode context seg a None None reply h = absurd h

way_outcome :
    (context : AccessContext) (seg : Segment) (a : Request) (line : Option Line) (way : Option By)
    (reply : AccessReply)
    → IsByWay context seg a line way reply
    → reply.outcome ≡ outcome_of context.grants a.ea reply.receipts
way_outcome context seg a (Some line) (Some Hit) reply h = h.outcome
way_outcome context seg a (Some line) (Some Walk) reply h = h.outcome
way_outcome context seg a (Some line) None reply h = absurd h
way_outcome context seg a None (Some Walk) reply h = h.outcome
way_outcome context seg a None (Some Hit) reply h = absurd h
way_outcome context seg a None None reply h = absurd h

-- ---- answers
masked_is : (answer : Answer) → is_masked answer ≡ true → answer ≡ answers.Masked
masked_is answers.Masked h = refl
masked_is other h = cc

answered :
    (mode : AccessMode) (r : Receipt) (in_mode : IsInMode mode r.op)
    → r.answer ≡ (answer_of_access r.before in_mode.0 in_mode.1 mode).0
answered mode r in_mode = r.lawful ∙ ap (λ op. (reply_of r.before op).0) in_mode.2

named :
    (mode : AccessMode) (r : Receipt)
    → IsInMode mode r.op
    → mask_of r ≡ mask_against r.before mode.masks mode.want
named mode r in_mode = ap (mask_against_op r.before) in_mode.2

-- An entry that doesn't translate the page says so.
matches :
    (mode : AccessMode) (r : Receipt) (in_mode : IsInMode mode r.op)
    → is_no_match r.answer ≡ false
    → is_match r.before in_mode.0 in_mode.1 ≡ true
matches mode r in_mode off = at (cases_Bool (is_match r.before in_mode.0 in_mode.1)) where
  at :
      (is_match r.before in_mode.0 in_mode.1 ≡ true)
      ⊎ (is_match r.before in_mode.0 in_mode.1 ≡ false)
      → is_match r.before in_mode.0 in_mode.1 ≡ true
  at (inl on) = on
  at (inr isnt) =
      let none : (answer_of_access r.before in_mode.0 in_mode.1 mode).0 ≡ answers.NoMatch = rw isnt
      refl in
      absurd (false≢true (sym off ∙ ap is_no_match (answered mode r in_mode ∙ none)))

-- ---- one receipt
landed_elsewhere :
    (place : Option (ℕ × Kind)) (logical : ℕ) (name : MaskName)
    → landing_at place logical ≡ outcomes.Masked name
    → ⊥
landed_elsewhere None logical name e = cc
landed_elsewhere (Some x) logical name e = cc

refused_name :
    (mask : Option MaskName) (name : MaskName)
    → refused_by mask ≡ outcomes.Masked name
    → mask ≡ Some name
refused_name None name e = cc
refused_name (Some x) name e = cc

is_named : (mask : Option MaskName) (name : MaskName) → mask ≡ Some name → is_some mask ≡ true
is_named mask name e = ap is_some e

refusing :
    (r : Receipt) (masked : Bool)
    → is_masked r.answer ≡ masked
    → refusing_mask r ≡ (if masked then mask_of r else None)
refusing r masked is = ap (λ (b : Bool). if b then mask_of r else None) is

one_found :
    (grants : List Grant) (seg : Segment) (a : Request) (r : Receipt) (name : MaskName)
    → is_no_match r.answer ≡ false
    → IsInMode (mode_for seg a) r.op
    → (outcome_by grants a.ea (Some r) ≡ outcomes.Masked name) ↔ IsRefusedByMask (Some seg) a name
    (Some r)
one_found grants seg a r name off in_mode = (to, back) where
  mode : AccessMode
  mode = mode_for seg a

  refuses :
      is_masked r.answer ≡ true → mask_of r ≡ Some name → IsRefusedByMask (Some seg) a name (Some r)
  refuses on is =
      let parts = (masked_where r.before in_mode.0 in_mode.1 mode).0
      (sym (answered mode r in_mode) ∙ masked_is r.answer on) in
      (parts.1, sym (named mode r in_mode) ∙ is)

  by_mask :
      is_at r.answer ≡ false
      → (is_masked r.answer ≡ true) ⊎ (is_masked r.answer ≡ false)
      → outcome_by grants a.ea (Some r) ≡ outcomes.Masked name
      → IsRefusedByMask (Some seg) a name (Some r)
  by_mask not_at (inl on) e =
      refuses on (sym (refusing r true on) ∙ refused_name (refusing_mask r) name (rw not_at at e))
  by_mask not_at (inr isnt) e =
      let none : None ≡ Some name = sym (refusing r false isnt) ∙ refused_name (refusing_mask r)
      name (rw not_at at e) in
      cc

  by_end :
      (is_at r.answer ≡ true) ⊎ (is_at r.answer ≡ false)
      → outcome_by grants a.ea (Some r) ≡ outcomes.Masked name
      → IsRefusedByMask (Some seg) a name (Some r)
  by_end (inl on) e =
      absurd
      (landed_elsewhere (machine_range grants (logical_of a.ea r.before) 1)
      (logical_of a.ea r.before) name (rw on at e))
  by_end (inr not_at) e = by_mask not_at (cases_Bool (is_masked r.answer)) e

  to :
      outcome_by grants a.ea (Some r) ≡ outcomes.Masked name
      → IsRefusedByMask (Some seg) a name (Some r)
  to = by_end (cases_Bool (is_at r.answer))

  back :
      IsRefusedByMask (Some seg) a name (Some r)
      → outcome_by grants a.ea (Some r) ≡ outcomes.Masked name
  back h =
      let masked : r.answer ≡ answers.Masked = answered mode r in_mode ∙
      (masked_where r.before in_mode.0 in_mode.1 mode).1
      (matches mode r in_mode off, h.0, is_named _ name h.1) in
      rw masked (ap refused_by (named mode r in_mode ∙ h.1))

-- ---- all receipts
outcome_where :
    (grants : List Grant) (seg : Segment) (a : Request) (rs : List Receipt) (name : MaskName)
    → AreInMode (mode_for seg a) rs
    → (outcome_by grants a.ea (found_of rs) ≡ outcomes.Masked name) ↔ IsRefusedByMask (Some seg) a
    name (found_of rs)
outcome_where grants seg a [] name h =
    ((λ e. let other : outcomes.NoPage ≡ outcomes.Masked name = e in cc), (λ none. absurd none))
outcome_where grants seg a (r ∷ rs) name h =
    at (cases_Bool (is_no_match r.answer)) (outcome_where grants seg a rs name h.1) where
      at :
          (is_no_match r.answer ≡ true) ⊎ (is_no_match r.answer ≡ false)
          → (outcome_by grants a.ea (found_of rs) ≡ outcomes.Masked name) ↔ IsRefusedByMask
          (Some seg) a
          name (found_of rs)
          → (outcome_by grants a.ea (found_of (r ∷ rs)) ≡ outcomes.Masked name) ↔ IsRefusedByMask
          (Some seg) a name (found_of (r ∷ rs))
      at (inl on) rest = rw (found-on r rs on) rest
      at (inr off) rest = rw (found-off r rs off) (one_found grants seg a r name off h.0)

pub masked_where_refused :
    (context : AccessContext) (cached : VirtualPage → Option Line) (a : Request)
    (segment : Option Segment) (reply : AccessReply) (name : MaskName)
    → IsAccessReply context cached a segment reply
    → (reply.outcome ≡ outcomes.Masked name) ↔ IsRefusedByMask segment a name
    (found_of reply.receipts)
unfolding outcome_of
masked_where_refused context cached a None reply name h = (
  (λ e.
      let other : outcomes.NoSegment ≡ outcomes.Masked name = sym
      (ap (λ (x : AccessReply). x.outcome) h) ∙ e in
      cc),
  (λ none. absurd none),
)
masked_where_refused context cached a (Some seg) reply name h =
    let outcome : reply.outcome ≡ outcome_by context.grants a.ea (found_of reply.receipts) =
    way_outcome context seg a (cached seg.page) reply.by reply h in
    subst
    (λ o.
    (o ≡ outcomes.Masked name) ↔ IsRefusedByMask (Some seg) a name (found_of reply.receipts))
    (sym outcome)
    (outcome_where context.grants seg a reply.receipts name
    (way_in_mode context seg a (cached seg.page) reply.by reply h))

-- ---- masks of 0
one_unmasked :
    (mode : AccessMode) (r : Receipt)
    → mode.masks ≡ no_masks
    → IsInMode mode r.op
    → is_masked r.answer ≡ false
one_unmasked mode r zero in_mode = at (cases_Bool (is_masked r.answer)) where
  at : (is_masked r.answer ≡ true) ⊎ (is_masked r.answer ≡ false) → is_masked r.answer ≡ false
  at (inl on) =
      let parts = (masked_where r.before in_mode.0 in_mode.1 mode).0
      (sym (answered mode r in_mode) ∙ masked_is r.answer on) in
      let none : mask_against r.before mode.masks mode.want ≡ None = ap
      (λ (masks : Masks). forbidden masks (key_of r.before.dword1) mode.want) zero ∙
      none_refused (key_of r.before.dword1) mode.want in
      absurd (false≢true (sym (ap is_some none) ∙ parts.2))
  at (inr isnt) = isnt

all_unmasked :
    (mode : AccessMode) (rs : List Receipt)
    → mode.masks ≡ no_masks
    → AreInMode mode rs
    → AllByRecursion (λ (r : Receipt). is_masked r.answer ≡ false) rs
all_unmasked mode [] zero h = tt
all_unmasked mode (r ∷ rs) zero h = (one_unmasked mode r zero h.0, all_unmasked mode rs zero h.1)

pub zero_refuses_none :
    (context : AccessContext) (cached : VirtualPage → Option Line) (a : Request)
    (segment : Option Segment) (reply : AccessReply)
    → a.masks ≡ no_masks
    → IsAccessReply context cached a segment reply
    → AllByRecursion (λ (r : Receipt). is_masked r.answer ≡ false) reply.receipts
zero_refuses_none context cached a None reply zero h =
    subst
    (λ (x : AccessReply).
    AllByRecursion (λ (r : Receipt). is_masked r.answer ≡ false) x.receipts) (sym h) tt
zero_refuses_none context cached a (Some seg) reply zero h =
    all_unmasked (mode_for seg a) reply.receipts zero
    (way_in_mode context seg a (cached seg.page) reply.by reply h)
