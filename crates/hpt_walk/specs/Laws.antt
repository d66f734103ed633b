-- The laws of accesses and walks: which entries they use, what they change, what masks refuse, and
-- what can be cached.
use Rattle.std.specs.Prelude.{◌≡◌, ◌≢◌, ℕ, ◌/◌, ◌%◌, ◌^◌, ◌<◌, ◌≤◌, ◌↔◌, Bool, false, IsTrue, List, find, Option, Some, option_map}
use Rattle.std.specs.List.{AllByRecursion}
use Rattle.power_addr.specs.Pages.{VirtualPage, IsPage}
use Rattle.hpte_fields.specs.Fields.{is_secondary, page_bits}
use Rattle.hpte_fields.specs.TableSize.{least_order}
use Rattle.hpt_hash.specs.Hash.{group_of}
use Rattle.hpt_hash.specs.Entries.{IsPageOf}
use Rattle.slb_model.specs.declared.segment.Segment.{Segment}
use Rattle.entry_model.specs.State.{State, IsCanonicalState}
use Rattle.entry_model.specs.declared.line.Line.{Line}
use Rattle.entry_model.specs.declared.operation.Answer.{Answer}
use Rattle.entry_model.specs.declared.operation.Answer.TheVariants.{NoMatch}
use Rattle.entry_model.specs.declared.operation.Op.{Op}
use Rattle.entry_model.specs.declared.receipt.Receipt.{Receipt}
use Rattle.entry_model.specs.declared.access_reply.AccessReply.{AccessReply}
use Rattle.authority_mask.specs.Authority.{no_masks}
use Rattle.authority_mask.specs.declared.masks.MaskName.{MaskName}
use Rattle.entry_model.specs.declared.access_reply.Outcome.TheVariants.{Masked}
use Rattle.entry_model.specs.Reply.{reply_of, AccessMode, is_allowed, mask_against}
use Rattle.entry_model.specs.Receipt.{is_no_match, is_decided, is_at, is_masked, found_of}
use Rattle.entry_model.specs.CachedLines.{IsAccessOf, IsCurrent, line_of}
use Rattle.entry_model.specs.Run.{IsRun}
use Rattle.entry_model.specs.Trial.{IsTrial}
use Rattle.hpt_walk.specs.Walk.{access_op, walk_calls, walk_entries}
use Rattle.hpt_walk.specs.declared.request.Request.{Request}
use Rattle.hpt_walk.specs.Access.{AccessContext, IsHit, IsAccessReply, mode_for, actual_size, logical_of}
use Rattle.hpt_walk.specs.Translations.{TranslatesItsPage, StandsInItsGroup, translations, is_paired}

-- ---- an access and the page of an entry
-- A state as entries have it: written in one way, with a doubleword 0 of 64 bits.
pub record IsEntryState (s : State) : Type 0 where
  pub canonical : IsCanonicalState s
  pub fits : s.dword0 < 2 ^ 64

-- The answer used the entry's translation exactly if the entry is one of the page, and is
-- NoMatch exactly if it isn't.
pub record TellsPage
    (order entry : ℕ)
    (page : VirtualPage)
    (s : State)
    (answer : Answer)
    : Type 0
  where
    pub decided : IsTrue (is_decided answer) ↔ IsPageOf order entry s.dword0 s.dword1 page
    pub no_match : (answer ≡ NoMatch) ↔ ¬ IsPageOf order entry s.dword0 s.dword1 page

-- The answer to an access of a page shows whether an entry is one of it, for each entry of the
-- page's group for the access's H.
abbrev pub AccessTellsPage : Type 0
AccessTellsPage =
    (order entry : ℕ) (page : VirtualPage) (mode : AccessMode) (secondary : Bool) (s : State)
    → least_order ≤ order
    → IsPage page
    → group_of page order secondary ≡ entry / 8
    → IsEntryState s
    → TellsPage order entry page s (reply_of s (access_op page mode secondary)).0

-- ---- a base page inside a larger one
-- An access of any other page by an entry of that page's group is NoMatch, also where both are base
-- pages of the actual page that the entry maps.
abbrev pub OtherPagesDontMatch : Type 0
OtherPagesDontMatch =
    (order entry : ℕ) (page other : VirtualPage) (mode : AccessMode) (secondary : Bool) (s : State)
    → least_order ≤ order
    → IsPage page
    → IsPage other
    → other ≢ page
    → IsPageOf order entry s.dword0 s.dword1 page
    → group_of other order secondary ≡ entry / 8
    → IsEntryState s
    → (reply_of s (access_op other mode secondary)).0 ≡ NoMatch

-- The logical address of an access has the real page number's bits from the actual size up, and the
-- effective address's bits below it.
pub record LiesInActualPage (ea : ℕ) (s : State) : Type 0 where
  pub page : logical_of ea s / 2 ^ actual_size s ≡ page_bits s.dword1 / 2 ^ actual_size s
  pub offset : logical_of ea s % 2 ^ actual_size s ≡ ea % 2 ^ actual_size s

-- The logical address of every access lies in the actual page of its entry.
abbrev pub AddressesLieInActualPages : Type 0
AddressesLieInActualPages = (ea : ℕ) (s : State) → LiesInActualPage ea s

-- ---- the page that an access used
-- The entry of a receipt was one of the page when the receipt was made.
abbrev pub WasOfPage : ℕ → VirtualPage → Receipt → Type 0
WasOfPage order page r = IsPageOf order r.entry r.before.dword0 r.before.dword1 page

-- Where the entry was valid its doubleword 0 has 64 bits.
abbrev pub HasFirstWord : Receipt → Type 0
HasFirstWord r = IsTrue r.before.valid → r.before.dword0 < 2 ^ 64

-- In a walk of the page an answer that used an entry's translation used one of an entry of the
-- page.
abbrev pub WalksUseTheirPage : Type 0
WalksUseTheirPage =
    (order : ℕ) (page : VirtualPage) (mode : AccessMode) (rs : List Receipt)
    → IsPage page
    → AllByRecursion HasFirstWord rs
    → IsTrial is_no_match (walk_calls order page mode) rs
    → AllByRecursion (λ (r : Receipt). IsTrue (is_decided r.answer) → WasOfPage order page r) rs

-- A hit by a line of the page, whose entry is in the page's group, used the translation of an
-- entry of the page.
abbrev pub HitsUseTheirPage : Type 0
HitsUseTheirPage =
    (context : AccessContext) (seg : Segment) (a : Request) (line : Line) (reply : AccessReply)
    → IsPage seg.page
    → line.page ≡ seg.page
    → StandsInItsGroup context.order line
    → AllByRecursion HasFirstWord reply.receipts
    → IsHit context seg a line reply
    → AllByRecursion (WasOfPage context.order seg.page) reply.receipts

-- ---- what an access changes
-- An access without a receipt that says At changes no entry.
abbrev pub OnlyAtChangesEntries : Type 0
OnlyAtChangesEntries =
    (context : AccessContext) (cached : VirtualPage → Option Line) (a : Request)
    (segment : Option Segment) (reply : AccessReply) (old new : List State)
    → IsAccessReply context cached a segment reply
    → AllByRecursion (λ (r : Receipt). is_at r.answer ≡ false) reply.receipts
    → IsRun old reply.receipts new
    → new ≡ old

-- ---- masks
-- Protection allows the access by the entry that was found, as it was before, and this mask refuses
-- it for the entry's key.
abbrev pub IsRefusedByMask : Option Segment → Request → MaskName → Option Receipt → Type 0
IsRefusedByMask (Some seg) a name (Some r) =
    IsTrue (is_allowed r.before (mode_for seg a))
    × (mask_against r.before a.masks a.want ≡ Some name)
IsRefusedByMask segment a name found = ⊥

-- An access ends refused by a mask exactly if the last of its receipts, and the first that
-- doesn't say NoMatch, is of such an entry.
abbrev pub MaskedExactlyWhereRefused : Type 0
MaskedExactlyWhereRefused =
    (context : AccessContext) (cached : VirtualPage → Option Line) (a : Request)
    (segment : Option Segment) (reply : AccessReply) (name : MaskName)
    → IsAccessReply context cached a segment reply
    → (reply.outcome ≡ Masked name) ↔ IsRefusedByMask segment a name (found_of reply.receipts)

-- Where both masks are 0, no receipt of an access says Masked.
abbrev pub ZeroMasksRefuseNoAccess : Type 0
ZeroMasksRefuseNoAccess =
    (context : AccessContext) (cached : VirtualPage → Option Line) (a : Request)
    (segment : Option Segment) (reply : AccessReply)
    → a.masks ≡ no_masks
    → IsAccessReply context cached a segment reply
    → AllByRecursion (λ (r : Receipt). is_masked r.answer ≡ false) reply.receipts

-- ---- a walk and the translations of a table
-- On states that nobody else changes, a walk of the page finds the first entry, in walk order, that
-- the list of translations pairs with the page, and none where it pairs none.
abbrev pub WalkFindsFirst : Type 0
WalkFindsFirst =
    (order : ℕ) (page : VirtualPage) (mode : AccessMode) (a b : List State) (rs : List Receipt)
    → least_order ≤ order
    → IsPage page
    → AllByRecursion IsEntryState a
    → IsTrial is_no_match (walk_calls order page mode) rs
    → IsRun a rs b
    → option_map (λ (r : Receipt). r.entry) (found_of rs)
    ≡ find (is_paired (translations order a) page) (walk_entries order page)

-- ---- lines of a cache
-- In a walk of the page, a receipt that says Denied, Masked or At gives a line that translates the
-- page.
abbrev pub WalksGiveLines : Type 0
WalksGiveLines =
    (order : ℕ) (page : VirtualPage) (mode : AccessMode) (rs : List Receipt)
    → IsTrial is_no_match (walk_calls order page mode) rs
    → AllByRecursion
    (λ (r : Receipt). IsTrue (is_decided r.answer) → TranslatesItsPage (line_of page r))
    rs

-- An access of its page by such a line, with H as the line has it, matches the line.
abbrev pub LinesMatchAccesses : Type 0
LinesMatchAccesses =
    (line : Line) (mode : AccessMode)
    → TranslatesItsPage line
    → IsAccessOf line (access_op line.page mode (is_secondary line.dword0))

-- An access that matches a line is answered Denied, Masked or At on a state at which the line is
-- current.
abbrev pub CurrentLinesDecide : Type 0
CurrentLinesDecide =
    (line : Line) (op : Op) (s : State)
    → IsAccessOf line op
    → IsCurrent line s
    → IsTrue (is_decided (reply_of s op).0)
