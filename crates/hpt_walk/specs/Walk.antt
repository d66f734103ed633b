-- The search of a page's two groups for an entry that translates the page.
-- Power ISA 2.07 Book III-S, hashed page table search: first the primary group, then the secondary
-- one.
use Rattle.std.specs.Prelude.{◌≡◌, ℕ, ◌+◌, ◌*◌, Bool, true, false, if◌then◌else◌, IsTrue, List, length, ◌++◌, map}
use Rattle.std.specs.List.{AllByRecursion, range_with_len}
use Rattle.power_addr.specs.Pages.{VirtualPage, tag_of}
use Rattle.hpt_hash.specs.Hash.{group_of}
use Rattle.entry_model.specs.declared.operation.Op.{Op}
use Rattle.entry_model.specs.declared.operation.Op.TheVariants.{Access}
use Rattle.entry_model.specs.declared.receipt.Receipt.{Receipt}
use Rattle.entry_model.specs.Receipt.{is_no_match}
use Rattle.entry_model.specs.Trial.{Call, call}
use Rattle.entry_model.specs.Reply.{AccessMode}

-- H, as it counts in doubleword 0.
abbrev pub h_bit : Bool → ℕ
h_bit secondary = if secondary then 2 else 0

-- The access of a page by an entry: the tag has V, and H where the entry is in the secondary group.
abbrev pub access_op : VirtualPage → AccessMode → Bool → Op
access_op page mode secondary =
    Access
    (tag_of page + h_bit secondary + 1)
    page.shift
    mode.key
    mode.no_execute
    mode.want
    mode.masks

-- The operation on the eight entries of a group, in slot order.
abbrev pub group_calls : Op → ℕ → List Call
group_calls op group = map (call op) (range_with_len (group * 8) 8)

-- The walk order: the eight entries of the primary group with H clear, then the eight of the
-- secondary group with H set.
unfoldable pub walk_calls : ℕ → VirtualPage → AccessMode → List Call
walk_calls order page mode =
    group_calls (access_op page mode false) (group_of page order false)
    ++ group_calls (access_op page mode true) (group_of page order true)

-- The sixteen entries of a walk, in its order.
unfoldable pub walk_entries : ℕ → VirtualPage → List ℕ
walk_entries order page =
    range_with_len (group_of page order false * 8) 8
    ++ range_with_len (group_of page order true * 8) 8

-- All sixteen entries were tried, and each said NoMatch.
pub record AreAllNoMatch (rs : List Receipt) : Type 0 where
  pub count : length rs ≡ 16
  pub each : AllByRecursion (λ (r : Receipt). IsTrue (is_no_match r.answer)) rs
