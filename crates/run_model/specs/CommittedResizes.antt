-- What quiet lines leave of the table: a committed resize keeps each bolted page's translation, and
-- no other line changes the table.
use Rattle.std.specs.Prelude.{◌≡◌, Bool, true, false, not, List, ◌∷◌, Option, Some, None}
use Rattle.papr_codes.specs.declared.calls.Hcall.{Hcall}
use Rattle.papr_codes.specs.Hcalls.{hcall_of}
use Rattle.hpt_resize.specs.Resize.{Table}
use Rattle.trace_line.specs.declared.act.Act.{Act}
use Rattle.trace_reply.specs.declared.reply.Reply.{Reply}
use Rattle.trace_reply.specs.Replies.{RepliedLine}
use Rattle.run_model.specs.QuietLines.{is_success}
use Rattle.run_model.specs.Sections.{Section, closing}
use Rattle.run_model.specs.ShownStores.{has_table_of}
use Rattle.hpt_resize.specs.Translations.{KeepsTranslations}
use Rattle.papr_codes.specs.declared.calls.Hcall.TheVariants as calls
use Rattle.trace_line.specs.declared.act.Act.TheVariants as acts
use Rattle.trace_reply.specs.declared.reply.Reply.TheVariants as replies

-- ---- commits
-- The call is H_RESIZE_HPT_COMMIT, and the reply H_SUCCESS.
abbrev pub commits_call : Hcall → Reply → Bool
commits_call calls.Commit (replies.Hcall h) = is_success h.rc
commits_call call reply = false

-- The line is a commit that succeeded.
abbrev pub commits_by : Act → Reply → Bool
commits_by (acts.Call number args spelt) reply = commits_call (hcall_of number) reply
commits_by act reply = false

-- The quiet line after a section is a commit that succeeded.
abbrev pub is_committed : Option RepliedLine → Bool
is_committed None = false
is_committed (Some q) = commits_by q.line.act q.reply

-- ---- tables
-- The table that a section closes on.
abbrev pub closing_table : Section → Table
closing_table s = (closing s).memory.table

-- What a quiet line leaves of the table: another one exactly if it is a commit that succeeded,
-- which then has the translations; and else the same.
pub record LeavesTable (s next : Section) : Type 0 where
  pub told : has_table_of s next ≡ not (is_committed s.quiet)
  pub keeps :
      is_committed s.quiet ≡ true → KeepsTranslations (closing_table s) next.before.memory.table
  pub stays : is_committed s.quiet ≡ false → next.before.memory.table ≡ closing_table s

-- Each quiet line leaves the next section the table, or a new one with its translations.
abbrev pub ResizesKeepTranslations : List Section → Type 0
ResizesKeepTranslations (s ∷ next ∷ rest) =
    LeavesTable s next × ResizesKeepTranslations (next ∷ rest)
ResizesKeepTranslations other = Unit {0}
