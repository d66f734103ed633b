-- The laws of runs: the serial run is a good one, and what follows of a run from its being good.
use Rattle.std.specs.Prelude.{◌≡◌, ℕ, ◌<◌, ◌↔◌, false, List, Contains, Some}
use Rattle.std.specs.List.{AllByRecursion}
use Rattle.table_image.specs.declared.entry.ImageEntry.{ImageEntry}
use Rattle.table_image.specs.declared.layout.Layout.{Layout}
use Rattle.table_image.specs.Layouts.{entry_digits}
use Rattle.trace_line.specs.declared.line.TraceLine.{TraceLine}
use Rattle.trace_line.specs.Lines.{is_quiet}
use Rattle.entry_model.specs.State.{State}
use Rattle.entry_model.specs.Reply.{words_of}
use Rattle.trace_read.specs.Configuration.{Configuration}
use Rattle.trace_read.specs.Trace.{AcceptedTrace, IsAccepted}
use Rattle.trace_reply.specs.declared.reply.Reply.{Reply}
use Rattle.trace_reply.specs.Replies.{AreReplies}
use Rattle.bus_window.specs.Windows.{BusWindow}
use Rattle.run_model.specs.BusyCalls.{BusyWhereTaken, PutIsNotBusy}
use Rattle.run_model.specs.DeviceLandings.{DeviceLands}
use Rattle.run_model.specs.EachReplied.{EachReplied}
use Rattle.run_model.specs.EnteredEntries.{CanBeEntered}
use Rattle.run_model.specs.OpeningAgain.{IsOpenedAgain, entry_line_words, memory_after}
use Rattle.run_model.specs.Stores.{states_of}
use Rattle.run_model.specs.QuietLines.{shown_of}
use Rattle.run_model.specs.Sections.{sections_of, window_sections}
use Rattle.run_model.specs.SerialRun.{serial_replies, table_after}
use Rattle.run_model.specs.GoodRun.{IsGoodRun}
use Rattle.run_model.specs.SideBySide.{IsGoodSideBySide}
use Rattle.run_model.specs.ShownStores.{NoStoreIsLostIn, NoSetBitIsLostIn, ClearedBitsAreShown}
use Rattle.run_model.specs.CommittedResizes.{ResizesKeepTranslations}
use Rattle.run_model.specs.Landings.{AccessesLand, IsUnworn}
use Rattle.run_model.specs.CachedAccesses.{AccessesUseCaches}
use Rattle.run_model.specs.MaskedAccesses.{SetsZero, MasksRefuse, NoneIsMasked}
use Rattle.run_model.specs.RefusedCalls.{RefusedLinesLeave, RefusedWindowLinesLeave, RefusedQuietLinesLeave}
use Rattle.run_model.specs.ParallelRun.{IsParallel}

-- ---- which runs are good
-- The serial run of each accepted trace is a good run.
abbrev pub SerialIsGood : Type 0
SerialIsGood = (t : AcceptedTrace) → IsAccepted t → IsGoodRun t (serial_replies t)

-- Each run in which the processors work on their own is a good one.
abbrev pub ParallelIsGood : Type 0
ParallelIsGood =
    (t : AcceptedTrace) (rs : List Reply)
    → AreReplies t.lines rs
    → IsParallel t rs
    → IsGoodRun t rs

-- The serial run of an accepted trace is such a run: a processor that nobody disturbs keeps all
-- that is promised.
abbrev pub SerialIsParallel : Type 0
SerialIsParallel = (t : AcceptedTrace) → IsAccepted t → IsParallel t (serial_replies t)

-- A run is good store by store exactly if it is good section by section.
abbrev pub GoodSideBySide : Type 0
GoodSideBySide = (t : AcceptedTrace) (rs : List Reply) → IsGoodRun t rs ↔ IsGoodSideBySide t rs

-- ---- one processor
-- All run lines but quiet ones have this processor.
abbrev pub HasOneProcessor : ℕ → List TraceLine → Type 0
HasOneProcessor cpu lines =
    AllByRecursion (λ (l : TraceLine). is_quiet l.act ≡ false → l.cpu ≡ cpu) lines

-- A trace of one processor has one good run, the serial one.
abbrev pub SerialIsTheOneGoodRun : Type 0
SerialIsTheOneGoodRun =
    (t : AcceptedTrace) (cpu : ℕ) (rs : List Reply)
    → IsAccepted t
    → HasOneProcessor cpu t.lines
    → IsGoodRun t rs
    → rs ≡ serial_replies t

-- ---- what good runs assure
-- The replies of each good run have this property.
abbrev pub OfGoodRuns : (AcceptedTrace → List Reply → Type 0) → Type 0
OfGoodRuns P = (t : AcceptedTrace) (rs : List Reply) → IsGoodRun t rs → P t rs

-- The replies of each good run of an accepted trace have this property.
abbrev pub OfAcceptedRuns : (AcceptedTrace → List Reply → Type 0) → Type 0
OfAcceptedRuns P =
    (t : AcceptedTrace) (rs : List Reply) → IsAccepted t → IsGoodRun t rs → P t rs

-- In a good run every store that succeeds shows in a change bit until a reply reports or clears it.
abbrev pub NoStoreIsLost : Type 0
NoStoreIsLost = OfAcceptedRuns (λ t rs. NoStoreIsLostIn (sections_of t rs))

-- In a good run every change bit that is set when a section begins, and so when the run begins,
-- shows until a reply reports or clears it.
abbrev pub NoSetBitIsLost : Type 0
NoSetBitIsLost = OfAcceptedRuns (λ t rs. NoSetBitIsLostIn (sections_of t rs))

-- In a good run the reply that clears a change bit shows it.
abbrev pub ClearingRepliesShow : Type 0
ClearingRepliesShow = OfGoodRuns (λ t rs. AllByRecursion ClearedBitsAreShown (sections_of t rs))

-- In a good run a committed resize keeps each bolted page's translation, and no other line changes
-- the table between two sections.
abbrev pub ResizesKeepBoltedPages : Type 0
ResizesKeepBoltedPages = OfAcceptedRuns (λ t rs. ResizesKeepTranslations (sections_of t rs))

-- In a good run each access that is allowed, by a walk or by a cached translation, lands where an
-- entry that was then one of its page maps it: in a grant, and in no table. None is ungranted.
abbrev pub AccessesLandByTheirEntries : Type 0
AccessesLandByTheirEntries =
    OfAcceptedRuns (λ t rs. AllByRecursion (AccessesLand t.config.granted) (sections_of t rs))

-- In a good run each access of a device that is allowed lands where the TCE in its receipt maps the
-- page: in granted main storage, and in no table. None is ungranted.
abbrev pub DevicesLandByTheirTces : Type 0
DevicesLandByTheirTces = OfAcceptedRuns (λ t. EachReplied (DeviceLands t.config.granted) t)

-- In a good run no reply is H_HARDWARE.
abbrev pub NoEntryIsWorn : Type 0
NoEntryIsWorn = OfAcceptedRuns (λ t rs. AllByRecursion IsUnworn rs)

-- In a good run a hit is by a cached translation that is current at the hit's place, and a walk
-- goes past a cached translation only where its entry has left the line's stamp.
abbrev pub CachedLinesAreCurrentOrGone : Type 0
CachedLinesAreCurrentOrGone =
    OfGoodRuns (λ t rs. AllByRecursion AccessesUseCaches (sections_of t rs))

-- ---- H_PUT_TCE and H_BUSY
-- In a good run the reply of an H_PUT_TCE is H_BUSY exactly if a receipt of it says Taken.
abbrev pub PutsAreBusyWhereTaken : Type 0
PutsAreBusyWhereTaken = OfGoodRuns (EachReplied BusyWhereTaken)

-- In the serial run no reply of an H_PUT_TCE is H_BUSY.
abbrev pub SerialPutsAreNotBusy : Type 0
SerialPutsAreNotBusy =
    (t : AcceptedTrace) → IsAccepted t → EachReplied PutIsNotBusy t (serial_replies t)

-- ---- masks
-- In a good run an access is refused by a mask exactly if protection allows it by the entry that
-- it ended with, and a mask of its processor refuses it for the entry's key.
abbrev pub MasksRefuseExactlyWhere : Type 0
MasksRefuseExactlyWhere = OfGoodRuns (λ t rs. AllByRecursion MasksRefuse (sections_of t rs))

-- In a good run of a trace that sets no mask but to 0, no access is refused by a mask: each entry
-- answers by its protection alone.
abbrev pub ZeroMasksRefuseNothing : Type 0
ZeroMasksRefuseNothing =
    (t : AcceptedTrace) (rs : List Reply)
    → AllByRecursion (λ (l : TraceLine). SetsZero l.act) t.lines
    → IsGoodRun t rs
    → AllByRecursion NoneIsMasked (sections_of t rs)

-- ---- what a refusal leaves
-- In a good run a refused line changes no entry, no segment and no other cached translation than
-- one that was gone; but a bulk removal that ends with H_PARAMETER or H_HARDWARE keeps the pairs
-- that it has removed.
abbrev pub RefusedLinesChangeNothing : Type 0
RefusedLinesChangeNothing =
    OfAcceptedRuns (λ t rs. AllByRecursion RefusedLinesLeave (sections_of t rs))

-- In a good run a refused line on a window changes no entry of it; but an H_PUT_TCE that ends with
-- H_BUSY or H_HARDWARE has removed the TCE that was there.
abbrev pub RefusedWindowLinesChangeNothing : Type 0
RefusedWindowLinesChangeNothing =
    OfGoodRuns
    (λ t rs.
    AllByRecursion
    (λ (w : BusWindow). AllByRecursion RefusedWindowLinesLeave (window_sections t rs w))
    t.config.windows)

-- In a good run a refused resize call changes nothing; but a prepare that answers H_NO_MEM and a
-- commit that answers H_PTEG_FULL have dropped the pending table.
abbrev pub RefusedResizesChangeNothing : Type 0
RefusedResizesChangeNothing = OfGoodRuns (λ t rs. RefusedQuietLinesLeave (sections_of t rs))

-- ---- what entries are
-- Whatever lines the serial run of an accepted trace's configuration executes, each valid entry is
-- one that H_ENTER could have made: its doublewords came from H_ENTER, from H_PROTECT or from the
-- configuration, and a resize keeps them.
abbrev pub EntriesCanBeEntered : Type 0
EntriesCanBeEntered =
    (t : AcceptedTrace) (lines : List TraceLine)
    → IsAccepted t
    → AllByRecursion
    (CanBeEntered t.config.granted.grants)
    (states_of (table_after t.config lines))

-- What a layout holds of a table can be opened again: each valid entry of each table that a serial
-- run reaches, written by its index and its digits, after `entry` lines of lower indices, in a
-- trace whose opening table has the order of that table, and whose grants are the same.
abbrev pub ImagesOpenAgain : Type 0
ImagesOpenAgain =
    (t : AcceptedTrace) (lines : List TraceLine) (layout : Layout) (index : ℕ) (s : State)
    (digits : List ℕ) (c : Configuration)
    → IsAccepted t
    → Contains (shown_of (memory_after t lines)).states (index, s)
    → entry_digits layout (words_of s) ≡ Some digits
    → c.order ≡ (memory_after t lines).table.order
    → c.granted.grants ≡ t.config.granted.grants
    → AllByRecursion (λ (e : ImageEntry). e.index < index) c.entries
    → IsOpenedAgain c (entry_line_words layout index digits) index s
