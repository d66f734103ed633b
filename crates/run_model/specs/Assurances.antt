-- What a run assures its guest: stores show, bolted pages stay, and accesses land in granted
-- memory.
use Rattle.std.specs.Prelude.{List}
use Rattle.std.specs.List.{AllByRecursion}
use Rattle.trace_read.specs.Trace.{AcceptedTrace}
use Rattle.trace_reply.specs.declared.reply.Reply.{Reply}
use Rattle.run_model.specs.DeviceLandings.{DeviceLands}
use Rattle.run_model.specs.EachReplied.{EachReplied}
use Rattle.run_model.specs.Sections.{sections_of}
use Rattle.run_model.specs.ShownStores.{NoStoreIsLostIn, NoSetBitIsLostIn, ClearedBitsAreShown}
use Rattle.run_model.specs.CommittedResizes.{ResizesKeepTranslations}
use Rattle.run_model.specs.Landings.{AccessesLand, IsUnworn}

-- No store is lost, nor a change bit that is set at first, and a reply that clears a change bit
-- shows it; committed resizes keep the bolted pages; accesses land by their entries' translations,
-- and those of devices by their TCEs, in granted memory alone; and no entry is worn.
pub record Assures (t : AcceptedTrace) (rs : List Reply) : Type 0 where
  pub stores : NoStoreIsLostIn (sections_of t rs)
  pub set : NoSetBitIsLostIn (sections_of t rs)
  pub cleared : AllByRecursion ClearedBitsAreShown (sections_of t rs)
  pub pages : ResizesKeepTranslations (sections_of t rs)
  pub landings : AllByRecursion (AccessesLand t.config.granted) (sections_of t rs)
  pub devices : EachReplied (DeviceLands t.config.granted) t rs
  pub unworn : AllByRecursion IsUnworn rs
