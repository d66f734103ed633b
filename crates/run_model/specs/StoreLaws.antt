-- Laws of replies and of histories over any store, for callers with a store of their own.
use Rattle.std.specs.Prelude.{◌≡◌, ℕ, ◌<◌, true, false, List, ◌∷◌, ◌++◌}
use Rattle.std.specs.List.{AllByRecursion}
use Rattle.papr_codes.specs.declared.calls.Hcall.{Hcall}
use Rattle.entry_model.specs.State.{State}
use Rattle.entry_model.specs.declared.hreply.HReply.{HReply}
use Rattle.entry_model.specs.declared.receipt.Receipt.{Receipt}
use Rattle.entry_model.specs.History.{IsLegal, state_eq, place, history}
use Rattle.entry_model.specs.Receipt.{after_of}
use Rattle.entry_model.specs.Trial.{IsReplyOf}
use Rattle.run_model.specs.StoreContexts.{StoreContext}
use Rattle.run_model.specs.LineReplies.{hcall_plan}
use Rattle.run_model.specs.RefusedCalls.{is_refusal, keeps_removals, LeavesEntry}

-- ---- refused calls
-- The reply of a hypervisor call with a code that refuses it leaves the entry of each of its
-- receipts, except for the removals that the call keeps with that code.
abbrev pub RefusedCallsLeaveEntries : Type 0
RefusedCallsLeaveEntries =
    (context : StoreContext) (hcall : Hcall) (args : List ℕ) (reply : HReply)
    → IsReplyOf (hcall_plan context hcall args) reply
    → is_refusal reply.rc ≡ true
    → AllByRecursion (LeavesEntry (keeps_removals hcall reply.rc)) reply.receipts

-- ---- histories
-- The receipt changed its entry.
abbrev pub ChangesEntry : Receipt → Type 0
ChangesEntry r = state_eq (after_of r) r.before ≡ false

-- In a legal history of an entry each receipt after one that changed the entry has a higher place.
-- So no two that changed it have one place.
abbrev pub ChangesHavePlacesOfTheirOwn : Type 0
ChangesHavePlacesOfTheirOwn =
    (e : ℕ) (a b : State) (all xs ys zs : List Receipt) (r s : Receipt)
    → IsLegal a (history e all) b
    → history e all ≡ xs ++ r ∷ ys ++ s ∷ zs
    → ChangesEntry r
    → place r < place s
