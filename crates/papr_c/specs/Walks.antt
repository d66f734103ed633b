-- What a walk by C finds and leaves, and the probe that finds the same without a change. A walk
-- changes the entries and the slots for receipts.
use Rattle.std.specs.Prelude.{◌≡◌, ℕ, if◌then◌else◌, List, length, map, min, Option, Some}
use Rattle.storage_prot.specs.declared.want.Want.{Want}
use Rattle.power_addr.specs.Pages.{VirtualPage}
use Rattle.hpte_fields.specs.Fields.{without_rc}
use Rattle.entry_model.specs.State.{State}
use Rattle.entry_model.specs.Receipt.{is_no_match, found_of, after_of}
use Rattle.entry_model.specs.Trial.{Call, receipt_at, trial_run}
use Rattle.entry_model.specs.declared.receipt.Receipt.{Receipt}
use Rattle.hpt_walk.specs.Walk.{walk_calls}
use Rattle.c_layout.specs.declared.receipts.PaprReceipt.{PaprReceipt}
use Rattle.c_layout.specs.declared.walking.PaprAccess.{PaprAccess}
use Rattle.c_layout.specs.declared.walking.PaprWalk.{PaprWalk}
use Rattle.c_layout.specs.Tables.{is_table}
use Rattle.c_layout.specs.Slots.{filled, shown_receipt}
use Rattle.c_layout.specs.Accesses.{want_of, page_of}
use Rattle.c_layout.specs.WalkEnds.{mode_of, refused_walk, walk_end}

-- The memory that a walk may change: the entries, and the slots for receipts.
pub record WalkMemory : Type 0 where
  pub entries : List State
  pub receipts : List PaprReceipt

-- The memory of these parts.
abbrev pub walk_memory : List State → List PaprReceipt → WalkMemory
walk_memory entries receipts = record { entries = entries; receipts = receipts }

-- ---- outcomes
-- The walk of a page's groups, in walk order, up to the first entry that translates the page: its
-- receipts, and the entries after them.
abbrev pub walk_run :
    ℕ → PaprAccess → VirtualPage → Want → List State → List Receipt × List State
walk_run order a page want entries =
    trial_run is_no_match entries (walk_calls order page (mode_of a want))

-- What C has of a walk's receipts and the entries after them: the words and the rights are those of
-- the entry as the walk left it.
abbrev pub walked_by :
    PaprAccess → Want → WalkMemory → List Receipt × List State → PaprWalk × WalkMemory
walked_by a want m run = (
  walk_end after_of a want (found_of run.0) (min (length m.receipts) (length run.0)),
  walk_memory run.1 (filled m.receipts (map shown_receipt run.0)),
)

-- The outcome of a walk of the page by this kind of access; without either it is refused, and
-- nothing changes.
abbrev pub walk_where :
    Option VirtualPage → Option Want → ℕ → PaprAccess → WalkMemory → PaprWalk × WalkMemory
walk_where (Some page) (Some want) order a m =
    walked_by a want m (walk_run order a page want m.entries)
walk_where page want order a m = (refused_walk, m)

-- Arguments out of range, and entries that are no table, are refused, and nothing changes.
abbrev pub outcome_of_walk : ℕ → PaprAccess → WalkMemory → PaprWalk × WalkMemory
outcome_of_walk order a m =
    if is_table order m.entries
    then walk_where (page_of a) (want_of a.want) order a m
    else (refused_walk, m)

-- ---- without a change
-- The receipts of calls, each on its entry as it is, whatever the others answer.
unfoldable pub each_as_is : List State → List Call → List Receipt
each_as_is entries calls = map (receipt_at entries) calls

-- What a walk of these entries would find, by the entry as it is; there are no receipts.
abbrev pub probe_where :
    Option VirtualPage → Option Want → ℕ → PaprAccess → List State → PaprWalk
probe_where (Some page) (Some want) order a entries =
    let found = found_of (walk_run order a page want entries).0 in
    walk_end (λ r. r.before) a want found 0
probe_where page want order a entries = refused_walk

-- The outcome of a probe, which has the arguments of a walk.
abbrev pub outcome_of_probe : ℕ → PaprAccess → List State → PaprWalk
outcome_of_probe order a entries =
    if is_table order entries
    then probe_where (page_of a) (want_of a.want) order a entries
    else refused_walk

-- ---- the two
-- They find the same, except for R and C, the rights that depend on these, and the receipts.
pub record Agree (walk probe : PaprWalk) : Type 0 where
  pub logical : probe.logical ≡ walk.logical
  pub entry : probe.entry ≡ walk.entry
  pub outcome : probe.outcome ≡ walk.outcome
  pub causes : probe.causes ≡ walk.causes
  pub base_shift : probe.base_shift ≡ walk.base_shift
  pub actual_shift : probe.actual_shift ≡ walk.actual_shift
  pub dword0 : probe.dword0 ≡ walk.dword0
  pub dword1 : without_rc probe.dword1 ≡ without_rc walk.dword1

-- For each table and each access the walk and the probe agree.
abbrev pub ProbesAgreeWithWalks : Type 0
ProbesAgreeWithWalks =
    (order : ℕ) (a : PaprAccess) (m : WalkMemory)
    → Agree (outcome_of_walk order a m).0 (outcome_of_probe order a m.entries)
