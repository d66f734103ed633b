-- Hypervisor calls by a pass on the running table: those that end, and those that are held up. The
-- pass before a call is x, and after it y.
use Rattle.std.specs.Prelude.{◌≡◌, ◌≢◌, ◌⊎◌, ◌==◌, ◌++◌, ℕ, MatchBool, List, length, Option, Some, None}
use Rattle.std.specs.Arc.{arc_value}
use Rattle.papr_codes.specs.ReturnCodes.{rc_code}
use Rattle.papr_codes.specs.declared.codes.Rc.TheVariants.{Busy}
use Rattle.papr_codes.specs.Hcalls.{hcall_of}
use Rattle.frame_grants.specs.declared.grant.Grant.{Grant}
use Rattle.entry_model.specs.declared.receipt.Receipt.{Receipt}
use Rattle.entry_model.specs.declared.hreply.HReply.{HReply}
use Rattle.entry_model.specs.Trial.{Plan, IsTrial, receipts_added, reply_by}
use Rattle.call_plan.specs.Hcalls.{entries_plan}
use Rattle.shared_pass.specs.declared.working.Working.{Working}
use Rattle.shared_pass.specs.declared.held.Pending.{Pending}
use Rattle.shared_pass.specs.declared.held.Pending.TheVariants.{Nothing, Call}
use Rattle.shared_pass.specs.Held.{plan_of_held}
use Rattle.shared_pass.specs.Workings.{IsMade}
use Rattle.shared_pass.specs.Attempts.{KeepsCall}
use Rattle.papr_shared.specs.Answers.{Handed, HandsOver, IsRefused}

-- ---- one try
-- The call came to its end, and hands over the reply that its receipts give, which isn't H_BUSY.
pub record HasEnded (plan : Plan) (y : Working) (h : Handed) : Type 0 where
  pub trial : IsTrial plan.goes_on plan.calls y.receipts
  pub nothing : y.pending ≡ Nothing
  pub over : HandsOver (reply_by plan y.receipts) h
  pub not_busy : h.answer.rc ≢ rc_code Busy

-- H_BUSY, with the words of the receipts so far.
abbrev pub reply_so_far : Plan → List Receipt → HReply
reply_so_far plan rs = record { rc = Busy; words = (plan.told rs).1; receipts = rs }

-- The call is held up at its next operation, and the pass keeps it, with the words that the last
-- step of this try found. Another pass has a share.
pub record IsHeldUp (plan : Plan) (x y : Working) (h : Handed) : Type 0 where
  pub kept : KeepsCall plan x.sharer y y.busy
  pub not_alone : y.sharer.pass.shares ≢ (arc_value y.sharer.table).passes
  pub over : HandsOver (reply_so_far plan y.receipts) h

-- No receipts of a call give H_BUSY.
abbrev pub NeverBusy : Plan → Type 0
NeverBusy plan = (rs : List Receipt) → (plan.told rs).0 ≢ Busy

-- One of the two.
abbrev pub IsTried : Plan → Working → Working → Handed → Type 0
IsTried plan x y h = HasEnded plan y h ⊎ IsHeldUp plan x y h

-- A call that was begun: its receipts are all that were made.
pub record IsBegunNow (plan : Plan) (x y : Working) (h : Handed) : Type 0 where
  pub made : IsMade x y y.receipts
  pub tried : IsTried plan x y h

-- A call that went on: the new receipts follow those that there were, and are all that were
-- made.
pub record HasGoneOn (plan : Plan) (x y : Working) (h : Handed) : Type 0 where
  pub behind : y.receipts ≡ x.receipts ++ receipts_added x.receipts y.receipts
  pub made : IsMade x y (receipts_added x.receipts y.receipts)
  pub tried : IsTried plan x y h

-- ---- calls that begin
-- Where the pass has nothing to go on with; otherwise the call is refused, and nothing changes.
abbrev pub IsCallBy : Pending → Plan → Working → Working → Handed → Type 0
IsCallBy Nothing plan x y h = IsBegunNow plan x y h
IsCallBy pending plan x y h = (y ≡ x) × IsRefused h

-- On a pass as C has it: a closed one refuses the call, and nothing changes.
abbrev pub IsCall : (ℕ → Plan) → Option Working → Option Working → Handed → Type 0
IsCall plan (Some x) (Some y) h =
    IsCallBy x.pending (plan (arc_value x.sharer.table).order) x y h
IsCall plan None None h = IsRefused h
IsCall plan before after h = ⊥

-- H_BULK_REMOVE, which has four pairs of words.
abbrev pub IsBulkCall :
    List ℕ → (ℕ → Plan) → Option Working → Option Working → Handed → Type 0
IsBulkCall pairs plan before after h =
    MatchBool
    (length pairs == 8)
    (IsCall plan before after h)
    ((after ≡ before) × IsRefused h)

-- The plan of the call with this number, whose words are these.
abbrev pub numbered_plan : List Grant → ℕ → List ℕ → ℕ → Plan
numbered_plan grants number words order =
    entries_plan order grants (hcall_of number) words

-- ---- calls that go on
-- The pass goes on with the call that it has; with none, nothing changes.
abbrev pub IsAgainBy : Pending → Working → Working → Handed → Type 0
IsAgainBy (Call call) x y h = HasGoneOn (plan_of_held call) x y h
IsAgainBy pending x y h = (y ≡ x) × IsRefused h

-- On a pass as C has it.
abbrev pub IsAgain : Option Working → Option Working → Handed → Type 0
IsAgain (Some x) (Some y) h = IsAgainBy x.pending x y h
IsAgain None None h = IsRefused h
IsAgain before after h = ⊥
