-- A base page inside a larger page: which accesses match its entry, and where they land.
use Rattle.std.proofs.Common.{◌≡◌, ◌≢◌, ℕ, ◌/◌, ◌%◌, ◌^◌, ◌<◌, ◌≤◌, Bool, arith}
use Rattle.std.proofs.Math.Nat.{mod-lt, one-le-pow}
use Rattle.std.proofs.lemmas.Nat.{div-mul-add, mod-mul-add}
use Rattle.power_addr.specs.Pages.{VirtualPage, IsPage}
use Rattle.hpte_fields.specs.Fields.{page_bits}
use Rattle.hpt_hash.specs.Hash.{group_of}
use Rattle.hpt_hash.specs.Entries.{IsPageOf}
use Rattle.hpt_hash.proofs.PageLemmas.{one_page}
use Rattle.entry_model.specs.State.{State}
use Rattle.entry_model.specs.declared.operation.Answer.TheVariants.{NoMatch}
use Rattle.entry_model.specs.Reply.{reply_of, AccessMode}
use Rattle.hpt_walk.specs.Walk.{access_op}
use Rattle.hpt_walk.specs.Access.{actual_size}
use Rattle.hpt_walk.specs.Laws.{IsEntryState, LiesInActualPage}
use Rattle.hpt_walk.proofs.Telling.{tells_page}
use Rattle.hpte_fields.specs.TableSize.{least_order}

pub other_page :
    (order entry : ℕ) (page other : VirtualPage) (mode : AccessMode) (secondary : Bool) (s : State)
    → least_order ≤ order
    → IsPage page
    → IsPage other
    → other ≢ page
    → IsPageOf order entry s.dword0 s.dword1 page
    → group_of other order secondary ≡ entry / 8
    → IsEntryState s
    → (reply_of s (access_op other mode secondary)).0 ≡ NoMatch
other_page order entry page other mode secondary s low is is' apart of group state =
    (tells_page order entry other mode secondary s low is' group state).no_match.1
    (λ of'. apart (one_page order entry s.dword0 s.dword1 other page low is' is of' of))

pub in_actual_page : (ea : ℕ) (s : State) → LiesInActualPage ea s
in_actual_page ea s =
    let size : ℕ = 2 ^ actual_size s in
    let some : 1 ≤ size = one-le-pow (actual_size s) 2 (omega arith) in
    let low : ea % size < size = mod-lt ea some in
    record {
      page = div-mul-add (page_bits s.dword1 / size) size (ea % size) low;
      offset = mod-mul-add (page_bits s.dword1 / size) size (ea % size) low;
    }
