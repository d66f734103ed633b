-- What an access by a walk shows of its page.
use Rattle.std.specs.Prelude.{List, Option, Some, IfSome}
use Rattle.power_addr.specs.Pages.{VirtualPage}
use Rattle.slb_model.specs.declared.segment.Segment.{Segment}
use Rattle.entry_model.specs.declared.access_reply.By.{By}
use Rattle.entry_model.specs.declared.access_reply.By.TheVariants.{Walk}
use Rattle.entry_model.specs.declared.receipt.Receipt.{Receipt}
use Rattle.entry_model.specs.Receipt.{found_of}
use Rattle.entry_model.specs.CachedLines.{line_of}
use Rattle.hpt_walk.specs.Translations.{TranslatesItsPage}

-- The entry that was found, if one was, translates the page.
abbrev pub FindsPage : VirtualPage → List Receipt → Type 0
FindsPage page rs = IfSome (found_of rs) (λ r. TranslatesItsPage (line_of page r))

-- Where the access was by a walk, the entry found translates the page of the segment.
abbrev pub WalkFindsPage : Option Segment → Option By → List Receipt → Type 0
WalkFindsPage (Some segment) (Some Walk) rs = FindsPage segment.page rs
WalkFindsPage segment by rs = Unit {0}
