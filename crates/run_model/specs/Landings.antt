-- Where accesses land: where the entry that was used maps the page, in granted memory, and in no
-- table.
use Rattle.std.specs.Prelude.{◌≡◌, ◌≢◌, ℕ, ◌+◌, ◌^◌, ◌<◌, ◌≤◌, IsTrue, Option, Some}
use Rattle.frame_grants.specs.declared.grant.Kind.{Kind}
use Rattle.frame_grants.specs.Grants.{GrantedMemory, machine_range}
use Rattle.power_addr.specs.Pages.{VirtualPage}
use Rattle.papr_codes.specs.declared.codes.Rc.TheVariants.{Hardware}
use Rattle.slb_model.specs.declared.segment.Segment.{Segment}
use Rattle.slb_model.specs.Buffer.{segment_of}
use Rattle.entry_model.specs.declared.receipt.Receipt.{Receipt}
use Rattle.entry_model.specs.declared.access_reply.Outcome.{Outcome}
use Rattle.entry_model.specs.declared.access_reply.Outcome.TheVariants.{At, Ungranted}
use Rattle.entry_model.specs.Receipt.{is_at, found_of}
use Rattle.hpt_walk.specs.Access.{logical_of}
use Rattle.hpt_walk.specs.Laws.{WasOfPage}
use Rattle.tlb_model.specs.Processor.{Processor}
use Rattle.trace_line.specs.declared.act.Act.{Act}
use Rattle.trace_reply.specs.declared.reply.Reply.{Reply}
use Rattle.run_model.specs.Stores.{context_of}
use Rattle.run_model.specs.Sections.{Section}
use Rattle.run_model.specs.GoodRun.{EachLine}
use Rattle.trace_line.specs.declared.act.Act.TheVariants as acts
use Rattle.trace_reply.specs.declared.reply.Reply.TheVariants as replies

-- ---- addresses
-- The machine address lies in the pool of table memory.
pub record IsInPool (granted : GrantedMemory) (address : ℕ) : Type 0 where
  pub from_base : granted.pool_base ≤ address
  pub to_end : address < granted.pool_base + 2 ^ granted.pool_order

-- The receipt says At, and its entry was one of the page in the state before. The address is the
-- one that a grant gives the entry's frame, with the effective address's offset in the page; it is
-- none of the pool's, in which all tables lie.
pub record IsLanding
    (granted : GrantedMemory)
    (order ea : ℕ)
    (page : VirtualPage)
    (r : Receipt)
    (address : ℕ)
    : Type 0
  where
    pub allowed : IsTrue (is_at r.answer)
    pub of_page : WasOfPage order page r
    pub kind : Kind
    pub in_grant : machine_range granted.grants (logical_of ea r.before) 1 ≡ Some (address, kind)
    pub off_pool : IsInPool granted address → ⊥

-- ---- accesses
-- An access that is allowed lands so, by the segment of its address and the receipt that it ended
-- with; and none ends outside the grants.
abbrev pub Lands :
    GrantedMemory → ℕ → ℕ → Option Segment → Option Receipt → Outcome → Type 0
Lands granted order ea (Some seg) (Some r) (At address) =
    IsLanding granted order ea seg.page r address
Lands granted order ea segment found (At address) = ⊥
Lands granted order ea segment found (Ungranted address) = ⊥
Lands granted order ea segment found other = Unit {0}

-- The line is no access of this processor, or the access lands so in a table of 2 ^ order bytes.
abbrev pub LandsByItsEntry : GrantedMemory → ℕ → Processor → Act → Reply → Type 0
LandsByItsEntry granted order p (acts.Access want ea user) (replies.Access r) =
    Lands granted order ea (segment_of p.slots ea) (found_of r.receipts) r.outcome
LandsByItsEntry granted order p act reply = Unit {0}

-- Each access of the section lands by its entry, in a table of the section's order.
abbrev pub AccessesLand : GrantedMemory → Section → Type 0
AccessesLand granted s =
    EachLine
    (λ p t. LandsByItsEntry granted (context_of s.before).order p t.line.act t.reply)
    s

-- ---- entries that wear
-- The reply isn't H_HARDWARE, as no entry has come to its last stamp.
abbrev pub IsUnworn : Reply → Type 0
IsUnworn (replies.Hcall h) = h.rc ≢ Hardware
IsUnworn other = Unit {0}
