-- What is proved of DMA windows: when H_PUT_TCE is busy, what its entry keeps, and where accesses
-- end.
use Rattle.std.specs.Prelude.{◌≡◌, ◌≢◌, ℕ, ◌↔◌, ◌⊎◌, Bool, true, false, IsTrue, List, [], ◌∷◌, Some}
use Rattle.std.specs.List.{AllByRecursion}
use Rattle.bus_window.specs.Windows.{BusWindow}
use Rattle.frame_grants.specs.declared.grant.Grant.{Grant}
use Rattle.frame_grants.specs.declared.grant.Kind.{Kind}
use Rattle.frame_grants.specs.Grants.{machine_range}
use Rattle.papr_codes.specs.declared.codes.Rc.TheVariants.{Busy}
use Rattle.entry_model.specs.State.{State}
use Rattle.entry_model.specs.declared.operation.Answer.TheVariants.{Taken}
use Rattle.entry_model.specs.declared.operation.Op.{Op}
use Rattle.entry_model.specs.declared.operation.Op.TheVariants.{Enter, Remove}
use Rattle.entry_model.specs.declared.receipt.Receipt.{Receipt}
use Rattle.entry_model.specs.declared.hreply.HReply.{HReply}
use Rattle.entry_model.specs.Reply.{entered_state, no_test}
use Rattle.entry_model.specs.Trial.{Call, IsReplyOf, plan_run}
use Rattle.entry_model.specs.declared.device_reply.DeviceOutcome.TheVariants.{At, Ungranted}
use Rattle.dma_window.specs.Pages.{is_ram}
use Rattle.dma_window.specs.Entries.{address_of, permits, first_word, second_word, tce_of}
use Rattle.dma_window.specs.Calls.{put_tce_plan}
use Rattle.dma_window.specs.Devices.{logical_of, outcome_by}

-- ---- H_PUT_TCE
-- One of the receipts says Taken, which only an entering is answered.
abbrev pub HasTaken : List Receipt → Type 0
HasTaken [] = ⊥
HasTaken (r ∷ rs) = (r.answer ≡ Taken) ⊎ HasTaken rs

-- H_BUSY comes exactly if this call's entering has a receipt that says Taken.
abbrev pub BusyExactlyWhereTaken : Type 0
BusyExactlyWhereTaken =
    (grants : List Grant) (window : BusWindow) (ioba tce : ℕ) (reply : HReply)
    → IsReplyOf (put_tce_plan grants window ioba tce) reply
    → (reply.rc ≡ Busy) ↔ HasTaken reply.receipts

-- On states that nobody else changes H_BUSY never comes: the entering finds the entry empty.
abbrev pub NeverBusyAlone : Type 0
NeverBusyAlone =
    (grants : List Grant) (window : BusWindow) (ioba tce : ℕ) (states : List State)
    → (plan_run (put_tce_plan grants window ioba tce) states).0.rc ≢ Busy

-- The operation empties an entry, whatever it has, or enters the words of this TCE, whose page lies
-- in one grant of ram.
abbrev pub IsTceCall : List Grant → ℕ → Op → Type 0
IsTceCall grants tce op =
    (op ≡ Remove no_test)
    ⊎ ((op ≡ Enter (first_word tce) (second_word tce)) × (is_ram grants (address_of tce) ≡ true))

-- H_PUT_TCE makes no other operations than these.
abbrev pub TcesHavePages : Type 0
TcesHavePages =
    (grants : List Grant) (window : BusWindow) (ioba tce : ℕ)
    → AllByRecursion
    (λ (c : Call). IsTceCall grants tce c.op)
    (put_tce_plan grants window ioba tce).calls

-- ---- what an entry keeps
-- The two words have the same address and the same permissions.
pub record IsKept (tce kept : ℕ) : Type 0 where
  pub address : address_of kept ≡ address_of tce
  pub permissions : (write : Bool) → permits kept write ≡ permits tce write

-- The entry that a TCE makes keeps its address and its permissions.
abbrev pub KeptWordsAreReadBack : Type 0
KeptWordsAreReadBack =
    (tce : ℕ) → IsKept tce (tce_of (entered_state (first_word tce) (second_word tce)))

-- ---- a device's access
-- An access that is permitted ends outside the grants exactly if no single grant of ram holds its
-- page.
abbrev pub UngrantedExactlyWhere : Type 0
UngrantedExactlyWhere =
    (grants : List Grant) (ioba tce : ℕ) (write : Bool)
    → IsTrue (permits tce write)
    → (outcome_by grants ioba write tce ≡ Ungranted (logical_of ioba tce))
    ↔ (is_ram grants (address_of tce) ≡ false)

-- The access is permitted, one grant of ram holds its page, and its logical address has this
-- machine address.
pub record Lands (grants : List Grant) (ioba : ℕ) (write : Bool) (tce address : ℕ) : Type 0 where
  pub permitted : permits tce write ≡ true
  pub ram : is_ram grants (address_of tce) ≡ true
  pub landing :
      (kind : Kind) × (machine_range grants (logical_of ioba tce) 1 ≡ Some (address, kind))

-- An access ends at a machine address exactly if it lands there.
abbrev pub PermittedAccessesLand : Type 0
PermittedAccessesLand =
    (grants : List Grant) (ioba tce address : ℕ) (write : Bool)
    → (outcome_by grants ioba write tce ≡ At address) ↔ Lands grants ioba write tce address
