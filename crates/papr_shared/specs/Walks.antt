-- Walks by a pass on the running table: those that end, and those that are held up. The pass before
-- a walk is x, and after it y.
use Rattle.std.specs.Prelude.{◌≡◌, ◌≢◌, ◌⊎◌, ◌++◌, List, length, map, min, Option, Some, None}
use Rattle.std.specs.Arc.{arc_value}
use Rattle.entry_model.specs.declared.receipt.Receipt.{Receipt}
use Rattle.entry_model.specs.Receipt.{is_no_match, found_of, after_of}
use Rattle.entry_model.specs.Trial.{IsTrial, receipts_added}
use Rattle.c_layout.specs.declared.receipts.PaprReceipt.{PaprReceipt}
use Rattle.c_layout.specs.declared.walking.PaprAccess.{PaprAccess}
use Rattle.c_layout.specs.declared.walking.PaprWalk.{PaprWalk}
use Rattle.c_layout.specs.Slots.{filled, shown_receipt}
use Rattle.c_layout.specs.WalkEnds.{no_entry, walk_end}
use Rattle.shared_pass.specs.declared.working.Working.{Working}
use Rattle.shared_pass.specs.declared.held.Pending.{Pending}
use Rattle.shared_pass.specs.declared.held.Pending.TheVariants.{Nothing, Walk}
use Rattle.shared_pass.specs.declared.walk.PageWalk.{PageWalk}
use Rattle.shared_pass.specs.Walks.{walk_asked, calls_of_walk}
use Rattle.shared_pass.specs.Workings.{IsMade}
use Rattle.shared_pass.specs.Attempts.{KeepsWalk}
use Rattle.papr_shared.specs.Answers.{HandedWalk, IsRefusedWalk}

-- ---- one try
-- What the receipts show at the end: the entry that was found, as the walk left it, or that there
-- is none.
abbrev pub end_told : PageWalk → List Receipt → List PaprReceipt → PaprWalk
end_told w rs slots =
    walk_end after_of w.access w.want (found_of rs) (min (length slots) (length rs))

-- The answer while an entry is busy.
abbrev pub busy_told : List Receipt → List PaprReceipt → PaprWalk
busy_told rs slots = no_entry 6 (min (length slots) (length rs))

-- The walk came to its end, and doesn't say that it is busy.
pub record HasFound (w : PageWalk) (y : Working) (h : HandedWalk) : Type 0 where
  pub trial :
      IsTrial is_no_match (calls_of_walk (arc_value y.sharer.table).order w) y.receipts
  pub nothing : y.pending ≡ Nothing
  pub found : h.found ≡ end_told w y.receipts h.receipts
  pub not_busy : h.found.outcome ≢ 6

-- The walk is held up at its next entry, and the pass keeps it, with the words that the last step
-- of this try found. Another pass has a share.
pub record IsHeldUpWalk (w : PageWalk) (x y : Working) (h : HandedWalk) : Type 0 where
  pub kept : KeepsWalk (arc_value y.sharer.table).order w x.sharer y y.busy
  pub not_alone : y.sharer.pass.shares ≢ (arc_value y.sharer.table).passes
  pub found : h.found ≡ busy_told y.receipts h.receipts

-- One of the two. The receipts are in the slots, as far as they go.
pub record IsWalked (w : PageWalk) (x y : Working) (h : HandedWalk) : Type 0 where
  pub receipts : h.receipts_after ≡ filled h.receipts (map shown_receipt y.receipts)
  pub tried : HasFound w y h ⊎ IsHeldUpWalk w x y h

-- A walk that was begun: its receipts are all that were made.
pub record IsWalkBegun (w : PageWalk) (x y : Working) (h : HandedWalk) : Type 0 where
  pub made : IsMade x y y.receipts
  pub walked : IsWalked w x y h

-- A walk that went on: the new receipts follow those that there were, and are all that were
-- made.
pub record HasWalkedOn (w : PageWalk) (x y : Working) (h : HandedWalk) : Type 0 where
  pub behind : y.receipts ≡ x.receipts ++ receipts_added x.receipts y.receipts
  pub made : IsMade x y (receipts_added x.receipts y.receipts)
  pub walked : IsWalked w x y h

-- ---- walks that begin
-- Where the arguments are in range and the pass has nothing to go on with; otherwise the walk is
-- refused, and nothing changes.
abbrev pub IsWalkBy :
    Pending → Option PageWalk → Working → Working → HandedWalk → Type 0
IsWalkBy Nothing (Some w) x y h = IsWalkBegun w x y h
IsWalkBy pending w x y h = (y ≡ x) × IsRefusedWalk h

-- On a pass as C has it: a closed one refuses the walk, and nothing changes.
abbrev pub IsWalk : PaprAccess → Option Working → Option Working → HandedWalk → Type 0
IsWalk a (Some x) (Some y) h = IsWalkBy x.pending (walk_asked a) x y h
IsWalk a None None h = IsRefusedWalk h
IsWalk a before after h = ⊥

-- ---- walks that go on
-- The pass goes on with the walk that it has; with none, nothing changes.
abbrev pub IsWalkAgainBy : Pending → Working → Working → HandedWalk → Type 0
IsWalkAgainBy (Walk w) x y h = HasWalkedOn w x y h
IsWalkAgainBy pending x y h = (y ≡ x) × IsRefusedWalk h

-- On a pass as C has it.
abbrev pub IsWalkAgain : Option Working → Option Working → HandedWalk → Type 0
IsWalkAgain (Some x) (Some y) h = IsWalkAgainBy x.pending x y h
IsWalkAgain None None h = IsRefusedWalk h
IsWalkAgain before after h = ⊥
