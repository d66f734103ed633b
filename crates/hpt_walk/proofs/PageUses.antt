-- The page of an entry that an access used.
use Rattle.std.specs.Prelude.{IsTrue}
use Rattle.std.proofs.Common.{◌≡◌, ℕ, zero, suc, ◌+◌, ◌*◌, ◌/◌, ◌≤◌, map, List, [], ◌∷◌, Bool, true, false, arith, ap, sym, ◌∙◌, refl}
use Rattle.std.specs.List.{AllByRecursion, range_with_len}
use Rattle.power_addr.specs.Pages.{VirtualPage, IsPage, tag_of}
use Rattle.hpte_fields.specs.Fields.{is_secondary}
use Rattle.hpt_hash.specs.Hash.{group_of}
use Rattle.slb_model.specs.declared.segment.Segment.{Segment}
use Rattle.entry_model.specs.declared.line.Line.{Line}
use Rattle.entry_model.specs.declared.operation.Op.{Op}
use Rattle.entry_model.specs.declared.receipt.Receipt.{Receipt}
use Rattle.entry_model.specs.declared.access_reply.AccessReply.{AccessReply}
use Rattle.entry_model.specs.Receipt.{is_no_match, is_decided}
use Rattle.entry_model.specs.Reply.{reply_of, is_match, AccessMode}
use Rattle.entry_model.specs.Trial.{Call, IsTrial, call}
use Rattle.entry_model.proofs.OperationLaws.{decided_valid}
use Rattle.hpt_walk.specs.declared.request.Request.{Request}
use Rattle.hpt_walk.specs.Access.{AccessContext, IsHit, hit_calls, mode_for}
use Rattle.hpt_walk.specs.Laws.{WasOfPage, HasFirstWord}
use Rattle.hpt_walk.specs.Translations.{StandsInItsGroup}
use Rattle.hpt_walk.specs.Walk.{access_op, group_calls, walk_calls, h_bit}
use Rattle.hpt_walk.proofs.Decided.{decided_off, match_of}
use Rattle.hpt_walk.proofs.Found.{trial_calls}
use Rattle.hpt_walk.proofs.Telling.{match_page}
use Rattle.basics.proofs.Each.{each_append}

-- The operation is an access of the page by an entry of its group.
record AsksGroup (order : ℕ) (page : VirtualPage) (mode : AccessMode) (op : Op) (entry : ℕ) :
    Type 0 where
  secondary : Bool
  access : op ≡ access_op page mode secondary
  group : group_of page order secondary ≡ entry / 8

-- An answer that used the entry's translation shows that the entry was one of the page.
used_page :
    (order : ℕ) (page : VirtualPage) (mode : AccessMode) (r : Receipt)
    → IsPage page
    → HasFirstWord r
    → AsksGroup order page mode r.op r.entry
    → IsTrue (is_decided r.answer)
    → WasOfPage order page r
used_page order page mode r is fits asks decided =
    let answer : r.answer ≡ (reply_of r.before (access_op page mode asks.secondary)).0 = r.lawful ∙
    ap (λ o. (reply_of r.before o).0) asks.access in
    let same : is_match r.before (tag_of page + h_bit asks.secondary + 1) page.shift ≡ true =
    match_of r.before _ _ mode (ap is_no_match (sym answer) ∙ decided_off r.answer decided) in
    let valid : IsTrue r.before.valid = decided_valid r.before r.op
    (ap is_decided (sym r.lawful) ∙ decided) in
    match_page order r.entry page asks.secondary r.before is asks.group (fits valid) same

-- ---- a walk
-- Entries from one on that lie in the group.
from_entry :
    (order : ℕ) (page : VirtualPage) (mode : AccessMode) (secondary : Bool) (start count : ℕ)
    → group_of page order secondary * 8 ≤ start
    → start + count ≤ group_of page order secondary * 8 + 8
    → AllByRecursion (λ (c : Call). AsksGroup order page mode c.op c.entry)
    (map (call (access_op page mode secondary)) (range_with_len start count))
from_entry order page mode secondary start zero low high = tt
from_entry order page mode secondary start (suc count) low high = (
  record { secondary = secondary; access = refl; group = omega arith },
  from_entry order page mode secondary (start + 1) count (omega arith) (omega arith),
)

in_group :
    (order : ℕ) (page : VirtualPage) (mode : AccessMode) (secondary : Bool)
    → AllByRecursion (λ (c : Call). AsksGroup order page mode c.op c.entry)
    (group_calls (access_op page mode secondary) (group_of page order secondary))
in_group order page mode secondary =
    from_entry order page mode secondary (group_of page order secondary * 8) 8 (omega arith)
    (omega arith)

walk_asks :
    (order : ℕ) (page : VirtualPage) (mode : AccessMode)
    → AllByRecursion (λ (c : Call). AsksGroup order page mode c.op c.entry)
    (walk_calls order page mode)
unfolding walk_calls
walk_asks order page mode =
    each_append (λ (c : Call). AsksGroup order page mode c.op c.entry)
    (group_calls (access_op page mode false) (group_of page order false))
    (group_calls (access_op page mode true) (group_of page order true))
    (in_group order page mode false) (in_group order page mode true)

each_used :
    (order : ℕ) (page : VirtualPage) (mode : AccessMode) (rs : List Receipt)
    → IsPage page
    → AllByRecursion HasFirstWord rs
    → AllByRecursion (λ (r : Receipt). AsksGroup order page mode r.op r.entry) rs
    → AllByRecursion (λ (r : Receipt). IsTrue (is_decided r.answer) → WasOfPage order page r) rs
each_used order page mode [] is fits asks = tt
each_used order page mode (r ∷ rs) is fits asks =
    (used_page order page mode r is fits.0 asks.0, each_used order page mode rs is fits.1 asks.1)

pub walks_use :
    (order : ℕ) (page : VirtualPage) (mode : AccessMode) (rs : List Receipt)
    → IsPage page
    → AllByRecursion HasFirstWord rs
    → IsTrial is_no_match (walk_calls order page mode) rs
    → AllByRecursion (λ (r : Receipt). IsTrue (is_decided r.answer) → WasOfPage order page r) rs
walks_use order page mode rs is fits trial =
    each_used order page mode rs is fits
    (trial_calls (AsksGroup order page mode) (walk_calls order page mode) rs
    (walk_asks order page mode) trial)

-- ---- a hit
hit_asks :
    (order : ℕ) (seg : Segment) (a : Request) (line : Line)
    → line.page ≡ seg.page
    → StandsInItsGroup order line
    → AllByRecursion (λ (c : Call). AsksGroup order seg.page (mode_for seg a) c.op c.entry)
    (hit_calls seg a line)
hit_asks order seg a line of group = (
  record {
    secondary = is_secondary line.dword0;
    access = refl;
    group = ap (λ p. group_of p order (is_secondary line.dword0)) (sym of) ∙ group;
  },
  tt,
)

both_used :
    (order : ℕ) (page : VirtualPage) (rs : List Receipt)
    → AllByRecursion (λ (r : Receipt). IsTrue (is_decided r.answer) → WasOfPage order page r) rs
    → AllByRecursion (λ (r : Receipt). is_decided r.answer ≡ true) rs
    → AllByRecursion (WasOfPage order page) rs
both_used order page [] used decided = tt
both_used order page (r ∷ rs) used decided =
    (used.0 decided.0, both_used order page rs used.1 decided.1)

pub hits_use :
    (context : AccessContext) (seg : Segment) (a : Request) (line : Line) (reply : AccessReply)
    → IsPage seg.page
    → line.page ≡ seg.page
    → StandsInItsGroup context.order line
    → AllByRecursion HasFirstWord reply.receipts
    → IsHit context seg a line reply
    → AllByRecursion (WasOfPage context.order seg.page) reply.receipts
hits_use context seg a line reply is of group fits hit =
    let asks = trial_calls (AsksGroup context.order seg.page (mode_for seg a))
    (hit_calls seg a line) reply.receipts (hit_asks context.order seg a line of group) hit.trial
    in
    both_used context.order seg.page reply.receipts
    (each_used context.order seg.page (mode_for seg a) reply.receipts is fits asks) hit.decided
