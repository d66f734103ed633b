-- What the run of a set assures each partition: replies as if alone, up to the first H_NO_MEM.
use Rattle.std.specs.Prelude.{◌≡◌, ◌≢◌, ℕ, ◌<◌, ◌==◌, Bool, true, false, IsTrue, List, [], ◌∷◌, length, map, take, if◌then◌else◌, Contains}
use Rattle.std.specs.List.{AllByRecursion}
use Rattle.papr_codes.specs.declared.codes.Rc.{Rc}
use Rattle.papr_codes.specs.declared.codes.Rc.TheVariants.{NoMem}
use Rattle.frame_grants.specs.declared.grant.Grant.{Grant}
use Rattle.frame_grants.specs.Ranges.{range_within}
use Rattle.entry_model.specs.declared.access_reply.Outcome.{Outcome}
use Rattle.entry_model.specs.declared.access_reply.Outcome.TheVariants.{At}
use Rattle.entry_model.specs.declared.device_reply.DeviceOutcome.{DeviceOutcome}
use Rattle.entry_model.specs.declared.device_reply.DeviceOutcome.TheVariants as devices
use Rattle.trace_read.specs.Trace.{AcceptedTrace}
use Rattle.trace_reply.specs.declared.reply.Reply.{Reply}
use Rattle.trace_reply.specs.declared.reply.Reply.TheVariants as replies
use Rattle.trace_reply.specs.Replies.{AreReplies}
use Rattle.run_model.specs.SerialRun.{serial_replies}
use Rattle.run_model.specs.Assurances.{Assures}
use Rattle.run_model.specs.Landings.{IsInPool}
use Rattle.lpar_set.specs.declared.turn.Turn.{Turn}
use Rattle.lpar_set.specs.SetTrace.{AcceptedSet, IsAcceptedSet, partition_at}
use Rattle.lpar_set.specs.SetRun.{set_replies}

-- ---- the replies of one partition
-- The replies to the turns of one partition.
abbrev pub replies_of : ℕ → List Turn → List Reply → List Reply
replies_of k [] rs = []
replies_of k (t ∷ ts) [] = []
replies_of k (t ∷ ts) (r ∷ rs) =
    if t.partition == k then r ∷ replies_of k ts rs else replies_of k ts rs

-- The code is H_NO_MEM: the pool had no room for a table.
abbrev pub is_no_mem_code : Rc → Bool
is_no_mem_code NoMem = true
is_no_mem_code other = false

-- The reply is one to a hypervisor call, with the code H_NO_MEM.
abbrev pub is_no_mem : Reply → Bool
is_no_mem (replies.Hcall h) = is_no_mem_code h.rc
is_no_mem other = false

-- The replies before the first H_NO_MEM.
abbrev pub served : List Reply → List Reply
served [] = []
served (r ∷ rs) = if is_no_mem r then [] else r ∷ served rs

-- ---- as if alone
-- The reply, but that a dump doesn't say where in the pool the table lies.
abbrev pub without_place : Reply → Reply
without_place (replies.Dump shown) = replies.Dump (record shown { place = 0 })
without_place other = other

-- The trace with its first lines alone.
abbrev pub first_lines : ℕ → AcceptedTrace → AcceptedTrace
first_lines n t = record t { lines = take n t.lines }

-- The replies are the first ones of the serial run of the trace, which has the whole pool to
-- itself, but that the place in a dump may differ.
abbrev pub RunsAsIfAlone : AcceptedTrace → List Reply → Type 0
RunsAsIfAlone t rs =
    map without_place rs ≡ map without_place (take (length rs) (serial_replies t))

-- ---- addresses
-- The grant's machine range has the address.
abbrev pub IsInGrant : ℕ → Grant → Type 0
IsInGrant address g = IsTrue (range_within address 1 g.machine g.length)

-- A machine address of the partition: a grant of its own has it, no grant of another partition has
-- it, and it is none of the pool's, in which all tables lie.
pub record IsOwnAddress (s : AcceptedSet) (k address : ℕ) : Type 0 where
  pub grant : Grant
  pub own : Contains (partition_at s k).trace.config.granted.grants grant
  pub in_grant : IsInGrant address grant
  pub strange :
      (other : ℕ) (g : Grant)
      → other < length s.partitions
      → other ≢ k
      → Contains (partition_at s other).trace.config.granted.grants g
      → IsInGrant address g
      → ⊥
  pub off_pool : IsInPool (partition_at s k).trace.config.granted address → ⊥

-- An access that is allowed lands at such an address.
abbrev pub EndsAtHome : AcceptedSet → ℕ → Outcome → Type 0
EndsAtHome s k (At address) = IsOwnAddress s k address
EndsAtHome s k other = Unit {0}

-- A device's access that is allowed lands at an address of its own partition.
abbrev pub DeviceEndsAtHome : AcceptedSet → ℕ → DeviceOutcome → Type 0
DeviceEndsAtHome s k (devices.At address) = IsOwnAddress s k address
DeviceEndsAtHome s k other = Unit {0}

-- The reply shows no other machine address at an access, of a processor or of a device.
abbrev pub StaysAtHome : AcceptedSet → ℕ → Reply → Type 0
StaysAtHome s k (replies.Access r) = EndsAtHome s k r.outcome
StaysAtHome s k (replies.Device r) = DeviceEndsAtHome s k r.outcome
StaysAtHome s k other = Unit {0}

-- ---- what a set assures each partition
-- Its replies, one for each of its lines and of the line's kind, show at accesses machine addresses
-- of its own alone. Up to its first H_NO_MEM they are the first ones of its trace alone, and assure
-- what good runs do: no store is lost, committed resizes keep the bolted pages, and accesses land
-- in its grants.
pub record IsPartitionAssured (s : AcceptedSet) (k : ℕ) (rs : List Reply) : Type 0 where
  pub kinds : AreReplies (partition_at s k).trace.lines rs
  pub at_home : AllByRecursion (StaysAtHome s k) rs
  pub alone : RunsAsIfAlone (partition_at s k).trace (served rs)
  pub assured : Assures (first_lines (length (served rs)) (partition_at s k).trace) (served rs)

-- There is a reply for each turn, and each partition's replies are so.
pub record IsSetAssured (s : AcceptedSet) (rs : List Reply) : Type 0 where
  pub count : length rs ≡ length s.turns
  pub each :
      (k : ℕ) → k < length s.partitions → IsPartitionAssured s k (replies_of k s.turns rs)

-- The run of each accepted set assures this.
abbrev pub SetsAreAssured : Type 0
SetsAreAssured = (s : AcceptedSet) → IsAcceptedSet s → IsSetAssured s (set_replies s)
