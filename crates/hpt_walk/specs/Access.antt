-- Accesses of a processor to memory: what the reply to one is, by its receipts.
use Rattle.std.specs.Prelude.{◌≡◌, ℕ, ◌+◌, ◌%◌, ◌^◌, Bool, true, if◌then◌else◌, List, [], ◌∷◌, Option, Some, None}
use Rattle.std.specs.List.{AllByRecursion}
use Rattle.std.specs.Option.{option_map_or}
use Rattle.storage_prot.specs.declared.want.Want.{Want}
use Rattle.authority_mask.specs.declared.masks.Masks.{Masks}
use Rattle.authority_mask.specs.declared.masks.MaskName.{MaskName}
use Rattle.page_sizes.specs.declared.size.PageSize.{PageSize}
use Rattle.page_sizes.specs.Sizes.{size_of}
use Rattle.hpte_fields.specs.Fields.{frame_of, is_secondary}
use Rattle.frame_grants.specs.declared.grant.Grant.{Grant}
use Rattle.frame_grants.specs.declared.grant.Kind.{Kind}
use Rattle.frame_grants.specs.Grants.{machine_range}
use Rattle.power_addr.specs.Pages.{VirtualPage}
use Rattle.hpt_walk.specs.declared.request.Request.{Request}
use Rattle.slb_model.specs.declared.segment.Segment.{Segment}
use Rattle.entry_model.specs.State.{State}
use Rattle.entry_model.specs.declared.line.Line.{Line}
use Rattle.entry_model.specs.declared.receipt.Receipt.{Receipt}
use Rattle.entry_model.specs.declared.access_reply.AccessReply.{AccessReply}
use Rattle.entry_model.specs.declared.access_reply.By.{By}
use Rattle.entry_model.specs.declared.access_reply.By.TheVariants.{Hit, Walk}
use Rattle.entry_model.specs.declared.access_reply.Outcome.{Outcome}
use Rattle.entry_model.specs.declared.access_reply.Outcome.TheVariants.{At, Denied, Masked, NoPage, NoSegment, Ungranted}
use Rattle.entry_model.specs.Receipt.{is_no_match, is_decided, is_at, is_masked, mask_of, found_of}
use Rattle.entry_model.specs.CachedLines.{IsCurrent}
use Rattle.entry_model.specs.Trial.{Call, IsTrial, call}
use Rattle.hpt_walk.specs.Walk.{access_op, walk_calls}
use Rattle.entry_model.specs.Reply.{AccessMode, access_mode}

-- What the accesses of a run have in common: the table has 2 ^ order bytes, and this memory is
-- granted.
pub record AccessContext : Type 0 where
  pub order : ℕ
  pub grants : List Grant

-- The context of an access to a table of 2 ^ order bytes, by these grants.
abbrev pub access_context : ℕ → List Grant → AccessContext
access_context order grants = record { order = order; grants = grants }

-- What an access asks: what it wants, the effective address, whether the processor is in problem
-- state, and the processor's masks.
abbrev pub request : Want → ℕ → Bool → Masks → Request
request want ea user masks = record { want = want; ea = ea; user = user; masks = masks }

-- The segment's key: Kp in problem state, else Ks.
abbrev pub key_for : Segment → Bool → Bool
key_for seg user = if user then seg.kp else seg.ks

-- What an access of the segment asks of protection and of the masks.
abbrev pub mode_for : Segment → Request → AccessMode
mode_for seg a = access_mode (key_for seg a.user) seg.no_execute a.want a.masks

-- ---- where an access ends
-- The binary logarithm of the size of the real page; of words that encode none, that of 4 KB.
abbrev pub actual_size : State → ℕ
actual_size s = option_map_or (λ (size : PageSize). size.actual) (size_of s.dword0 s.dword1) 12

-- The address in the real page, whose frame gives the bits from the page's size up, and the
-- effective address those below.
abbrev pub logical_of : ℕ → State → ℕ
logical_of ea s = frame_of s.dword1 (actual_size s) + ea % 2 ^ actual_size s

-- At the machine address of this logical address, where it has one.
abbrev pub landing_at : Option (ℕ × Kind) → ℕ → Outcome
landing_at None logical = Ungranted logical
landing_at (Some x) logical = At x.0

-- Refused by this mask; by none, it is protection that refuses.
abbrev pub refused_by : Option MaskName → Outcome
refused_by None = Denied
refused_by (Some name) = Masked name

-- The mask that refused the access of a receipt, which then says Masked.
abbrev pub refusing_mask : Receipt → Option MaskName
refusing_mask r = if is_masked r.answer then mask_of r else None

-- Where an access ends by the receipt of the entry that it found, if it found one.
abbrev pub outcome_by : List Grant → ℕ → Option Receipt → Outcome
outcome_by grants ea None = NoPage
outcome_by grants ea (Some r) =
    if is_at r.answer
    then landing_at (machine_range grants (logical_of ea r.before) 1) (logical_of ea r.before)
    else refused_by (refusing_mask r)

-- Where an access with these receipts ends.
unfoldable pub outcome_of : List Grant → ℕ → List Receipt → Outcome
outcome_of grants ea rs = outcome_by grants ea (found_of rs)

-- ---- by a cached translation
-- The access of the line's entry, with H as the line has it.
abbrev pub hit_calls : Segment → Request → Line → List Call
hit_calls seg a line =
    call (access_op seg.page (mode_for seg a) (is_secondary line.dword0)) line.entry ∷ []

-- One receipt, of the line's entry, on a state at which the line is current, which says At, Masked
-- or Denied.
pub record IsHit
    (context : AccessContext)
    (seg : Segment)
    (a : Request)
    (line : Line)
    (r : AccessReply)
    : Type 0
  where
    pub trial : IsTrial is_no_match (hit_calls seg a line) r.receipts
    pub current : AllByRecursion (λ (x : Receipt). IsCurrent line x.before) r.receipts
    pub decided : AllByRecursion (λ (x : Receipt). is_decided x.answer ≡ true) r.receipts
    pub outcome : r.outcome ≡ outcome_of context.grants a.ea r.receipts

-- ---- by a walk
-- The receipts are those of a walk of the page.
pub record IsWalk
    (context : AccessContext)
    (seg : Segment)
    (a : Request)
    (r : AccessReply)
    : Type 0
  where
    pub trial : IsTrial is_no_match (walk_calls context.order seg.page (mode_for seg a)) r.receipts
    pub outcome : r.outcome ≡ outcome_of context.grants a.ea r.receipts

-- ---- replies
-- The reply where no segment has the address.
abbrev pub no_segment_reply : AccessReply
no_segment_reply = record { outcome = NoSegment; by = None; receipts = [] }

-- In a segment, with the line of its page that is cached: by Hit only where there is one, or by
-- Walk.
abbrev pub IsByWay :
    AccessContext → Segment → Request → Option Line → Option By → AccessReply → Type 0
IsByWay context seg a (Some line) (Some Hit) r = IsHit context seg a line r
IsByWay context seg a line (Some Walk) r = IsWalk context seg a r
IsByWay context seg a line way r = ⊥

-- The reply of a processor by the segment of the address. What the processor's cache has of a page
-- is given as a function.
abbrev pub IsAccessReply :
    AccessContext → (VirtualPage → Option Line) → Request → Option Segment → AccessReply → Type 0
IsAccessReply context cached a None r = r ≡ no_segment_reply
IsAccessReply context cached a (Some seg) r = IsByWay context seg a (cached seg.page) r.by r
