-- What is promised of the runs whose replies the program writes, each promise by itself.
use Rattle.std.specs.Prelude.{◌≡◌, ℕ, List, Option, Ok}
use Rattle.std.specs.List.{AllByRecursion}
use Rattle.bus_window.specs.Windows.{BusWindow}
use Rattle.trace_io.specs.Outside.{Put}
use Rattle.trace_line.specs.declared.line.TraceLine.{TraceLine}
use Rattle.trace_read.specs.Trace.{AcceptedTrace}
use Rattle.trace_read.specs.Grammar.{trace_of}
use Rattle.trace_reply.specs.declared.reply.Reply.{Reply}
use Rattle.run_model.specs.BusyCalls.{PutIsNotBusy}
use Rattle.run_model.specs.CachedAccesses.{AccessesUseCaches}
use Rattle.run_model.specs.CommittedResizes.{ResizesKeepTranslations}
use Rattle.run_model.specs.DeviceLandings.{DeviceLands}
use Rattle.run_model.specs.EachReplied.{EachReplied}
use Rattle.run_model.specs.GoodRun.{IsGoodRun}
use Rattle.run_model.specs.Landings.{AccessesLand, IsUnworn}
use Rattle.run_model.specs.Laws.{HasOneProcessor}
use Rattle.run_model.specs.MaskedAccesses.{SetsZero, MasksRefuse, NoneIsMasked}
use Rattle.run_model.specs.RefusedCalls.{RefusedLinesLeave, RefusedWindowLinesLeave, RefusedQuietLinesLeave}
use Rattle.run_model.specs.Sections.{sections_of, window_sections}
use Rattle.run_model.specs.SerialRun.{serial_replies}
use Rattle.run_model.specs.ShownStores.{NoStoreIsLostIn, NoSetBitIsLostIn, ClearedBitsAreShown}
use Rattle.history_check.specs.declared.verdict.Verdict.TheVariants.{Good}
use Rattle.history_check.specs.Verdict.{IsVerdict}
use Rattle.reply_text.specs.Text.{text_of}
use Rattle.papr_top.specs.Texts.{IsAssured, IsSerialAssured}

-- What is promised of the replies to a trace.
abbrev pub Promise : Type 1
Promise = AcceptedTrace → List Reply → Type 0

-- The bytes are a trace, and the text of replies to it that keep the promise was appended to
-- what was there.
pub record PutsReplies (promise : Promise) (bytes : List ℕ) (old new : Option (List ℕ)) :
    Type 0 where
  pub trace : AcceptedTrace
  pub replies : List Reply
  pub accepted : trace_of bytes ≡ Ok trace
  pub put : Put old (text_of trace replies) new
  pub kept : promise trace replies

-- ---- what the program's clause says
-- The clause on the replies that the program writes under `par`.
pub record IsOfThreads (t : AcceptedTrace) (rs : List Reply) : Type 0 where
  pub assured : IsAssured t rs
  pub one : (cpu : ℕ) → HasOneProcessor cpu t.lines → rs ≡ serial_replies t

-- The promise is kept by the replies that the program writes under `par`.
abbrev pub Follows : Promise → Type 0
Follows promise = (t : AcceptedTrace) (rs : List Reply) → IsOfThreads t rs → promise t rs

-- The clause on the replies that the program writes under `run`.
pub record IsOfOneThread (t : AcceptedTrace) (rs : List Reply) : Type 0 where
  pub serial : rs ≡ serial_replies t
  pub assured : IsSerialAssured t

-- ---- the promises
-- A store that succeeds, and a change bit that is set at first, shows until a reply clears it,
-- which shows it.
pub record StoresShow (t : AcceptedTrace) (rs : List Reply) : Type 0 where
  pub stores : NoStoreIsLostIn (sections_of t rs)
  pub set : NoSetBitIsLostIn (sections_of t rs)
  pub cleared : AllByRecursion ClearedBitsAreShown (sections_of t rs)

-- A committed resize keeps the translations of the bolted pages, and no other quiet line changes
-- the table.
abbrev pub ResizesKeep : Promise
ResizesKeep t rs = ResizesKeepTranslations (sections_of t rs)

-- An access that is allowed lands by an entry of its page, in a grant and in no table; none ends
-- outside the grants.
abbrev pub EachAccessLands : Promise
EachAccessLands t rs = AllByRecursion (AccessesLand t.config.granted) (sections_of t rs)

-- A device's access that is allowed lands by its TCE, in a grant of main storage and in no table.
abbrev pub EachDeviceLands : Promise
EachDeviceLands t rs = EachReplied (DeviceLands t.config.granted) t rs

-- No reply is H_HARDWARE.
abbrev pub NoneIsHardware : Promise
NoneIsHardware t rs = AllByRecursion IsUnworn rs

-- A hit uses a line that is current, and a walk goes past a cached translation only where that is
-- gone.
abbrev pub CachesAreRight : Promise
CachesAreRight t rs = AllByRecursion AccessesUseCaches (sections_of t rs)

-- An access is refused by a mask exactly if the entry allows it and the mask doesn't.
abbrev pub MasksAreRight : Promise
MasksAreRight t rs = AllByRecursion MasksRefuse (sections_of t rs)

-- Where no line sets a mask but to 0, no access is refused by one.
abbrev pub ZeroMasksAreSilent : Promise
ZeroMasksAreSilent t rs =
    AllByRecursion (λ (l : TraceLine). SetsZero l.act) t.lines
    → AllByRecursion NoneIsMasked (sections_of t rs)

-- Where one processor has all lines, these are the replies of the serial run, and there is no other
-- good run.
abbrev pub OneProcessorHasOneRun : Promise
OneProcessorHasOneRun t rs =
    (cpu : ℕ)
    → HasOneProcessor cpu t.lines
    → (rs ≡ serial_replies t) × ((qs : List Reply) → IsGoodRun t qs → qs ≡ rs)

-- A refused line leaves all that the definitions name, on the table, on windows and of resizes.
pub record RefusalsLeave (t : AcceptedTrace) (rs : List Reply) : Type 0 where
  pub lines : AllByRecursion RefusedLinesLeave (sections_of t rs)
  pub on_windows :
      AllByRecursion
      (λ (w : BusWindow). AllByRecursion RefusedWindowLinesLeave (window_sections t rs w))
      t.config.windows
  pub resizes : RefusedQuietLinesLeave (sections_of t rs)

-- The text is judged good, and is that of no other good run.
pub record TextTellsRun (t : AcceptedTrace) (rs : List Reply) : Type 0 where
  pub good : IsVerdict t (text_of t rs) Good
  pub only : (qs : List Reply) → IsGoodRun t qs → text_of t qs ≡ text_of t rs → qs ≡ rs

-- No H_PUT_TCE answers H_BUSY.
abbrev pub NoPutIsBusy : Promise
NoPutIsBusy t rs = EachReplied PutIsNotBusy t rs
