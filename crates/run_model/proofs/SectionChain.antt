-- From one section to the next: what stands at memory, and how the table moves.
use Rattle.std.specs.Prelude.{Bool, not, length, IfSome, Option, Some, None}
use Rattle.std.proofs.Common.{◌≡◌, List, [], ◌∷◌, true, false, ap, sym, ◌∙◌, refl, subst, ◌⊎◌, inl, inr, ◌+◌, arith}
use Rattle.std.specs.List.{AllByRecursion}
use Rattle.std.proofs.lemmas.Bool.{cases_Bool, eq-eqb, eqb-true}
use Rattle.hpt_resize.specs.Resize.{Table}
use Rattle.trace_line.specs.declared.act.Act.{Act}
use Rattle.trace_read.specs.Trace.{AcceptedTrace, IsAccepted}
use Rattle.trace_reply.specs.declared.reply.Reply.{Reply}
use Rattle.trace_reply.specs.Replies.{RepliedLine, lines_with_replies}
use Rattle.run_model.specs.Stores.{Store, states_of, page_table, is_on}
use Rattle.run_model.specs.QuietLines.{run_quiet_line}
use Rattle.run_model.specs.Quiet.{QuietPart, cut}
use Rattle.run_model.specs.Histories.{receipts_from_processor}
use Rattle.run_model.specs.Sections.{Section, closing, section_end, after_quiet, quiet_on, section_of, sections_from, sections_of}
use Rattle.run_model.specs.GoodRun.{IsGoodRun, IsGoodSection}
use Rattle.run_model.specs.ShownStores.{has_table_of}
use Rattle.run_model.specs.CommittedResizes.{commits_by, is_committed, LeavesTable, ResizesKeepTranslations}
use Rattle.run_model.proofs.Memories.{MemoryStands}
use Rattle.run_model.proofs.Resized.{IsResized, IsAfter, same_after, quiet_after, keeps_translations}
use Rattle.run_model.proofs.StoreSerial.{page_table_sound}
use Rattle.run_model.proofs.OneProcessor.{closing_size}

-- ---- the end of a section
pub closed_memory :
    (w : Store) (ts : List RepliedLine)
    → MemoryStands w.memory
    → MemoryStands (section_end w ts).memory
unfolding section_end
closed_memory w ts h =
    record {
      limited = h.limited;
      low = h.low;
      size =
          closing_size (states_of w) (receipts_from_processor (length w.processors) 0 ts)
          ∙ h.size;
      allowed = h.allowed;
    }

pub closed_number :
    (w : Store) (ts : List RepliedLine)
    → (section_end w ts).memory.table.number ≡ w.memory.table.number
unfolding section_end
closed_number w ts = refl

pub closed_order :
    (w : Store) (ts : List RepliedLine)
    → (section_end w ts).memory.table.order ≡ w.memory.table.order
unfolding section_end
closed_order w ts = refl

-- ---- all sections
-- The memory on which each opens stands, and is what the quiet line leaves of the memory on which
-- the section before it closed.
abbrev pub AreChained : List Section → Type 0
AreChained [] = Unit {0}
AreChained (s ∷ []) = MemoryStands s.before.memory
AreChained (s ∷ next ∷ rest) =
    MemoryStands s.before.memory
    × IsAfter (is_committed s.quiet) (closing s).memory next.before.memory
    × AreChained (next ∷ rest)

pub chained_rest : (s : Section) (ss : List Section) → AreChained (s ∷ ss) → AreChained ss
chained_rest s [] h = tt
chained_rest s (next ∷ rest) h = h.2

replied_after :
    (s : Store) (quiet : Option RepliedLine)
    → MemoryStands s.memory
    → IfSome quiet (λ q. q.reply ≡ (run_quiet_line s q.line.act).0)
    → IsAfter (is_committed quiet) s.memory (after_quiet s quiet).memory
replied_after s None h said = same_after s.memory h
replied_after s (Some q) h said =
    subst (λ r. IsAfter (commits_by q.line.act r) s.memory (run_quiet_line s q.line.act).1.memory)
    (sym said) (quiet_after s q.line.act h)

sections_chained :
    (on : Act → Bool) (s : Store) (ts : List RepliedLine) (qs : List QuietPart)
    → MemoryStands s.memory
    → AllByRecursion IsGoodSection (sections_from on s ts qs)
    → AreChained (sections_from on s ts qs)
sections_chained on s ts [] h good = h
sections_chained on s ts (q ∷ []) h good =
    let x = section_of on s ts (quiet_on on q.0) in
    let after = replied_after (closing x) x.quiet (closed_memory s x.replied_lines h) good.0.quiet
    in
    (h, after, after.stands)
sections_chained on s ts (q ∷ p ∷ qs) h good =
    let x = section_of on s ts (quiet_on on q.0) in
    let after = replied_after (closing x) x.quiet (closed_memory s x.replied_lines h) good.0.quiet
    in (
      h,
      after,
      sections_chained on (after_quiet (closing x) x.quiet) q.1 (p ∷ qs) after.stands good.1,
    )

pub chained :
    (t : AcceptedTrace) (rs : List Reply)
    → IsAccepted t
    → IsGoodRun t rs
    → AreChained (sections_of t rs)
chained t rs is good =
    let c = cut (lines_with_replies t.lines rs) in
    sections_chained (is_on t.config.windows (page_table t.config).window) (page_table t.config) c.0
    c.1 (page_table_sound t is).memory good.stores.0

-- ---- the number shows whether the table is another
pub same_number :
    (s next : Section)
    → next.before.memory.table ≡ (closing s).memory.table
    → has_table_of s next ≡ true
same_number s next same =
    eq-eqb next.before.memory.table.number s.before.memory.table.number
    (ap (λ (table : Table). table.number) same ∙ closed_number s.before s.replied_lines)

pub other_number :
    (s next : Section)
    → IsResized (closing s).memory.table next.before.memory.table
    → has_table_of s next ≡ false
other_number s next r = at (cases_Bool (has_table_of s next)) where
  at : (has_table_of s next ≡ true) ⊎ (has_table_of s next ≡ false) → has_table_of s next ≡ false
  at (inl e) =
      let same : next.before.memory.table.number ≡ s.before.memory.table.number = eqb-true _ _ e in
      let old : (closing s).memory.table.number ≡ s.before.memory.table.number = closed_number
      s.before s.replied_lines in
      let more : next.before.memory.table.number ≡ (closing s).memory.table.number + 1 = r.number in
      absurd (omega arith)
  at (inr e) = e

-- ---- committed resizes
leaves_table :
    (s next : Section) (committed : Bool)
    → is_committed s.quiet ≡ committed
    → MemoryStands s.before.memory
    → IsAfter committed (closing s).memory next.before.memory
    → LeavesTable s next
leaves_table s next true e h after = record {
  told = other_number s next after.moves ∙ ap not (sym e);
  keeps =
      λ _.
      keeps_translations (closing s).memory.table next.before.memory.table
      (closed_memory s.before s.replied_lines h).low after.stands.low after.moves;
  stays = λ off. absurd (let no : true ≡ false = sym e ∙ off in cc);
}
leaves_table s next false e h after = record {
  told = same_number s next after.moves ∙ ap not (sym e);
  keeps = λ on. absurd (let no : true ≡ false = sym on ∙ e in cc);
  stays = λ _. after.moves;
}

resizes_keep : (ss : List Section) → AreChained ss → ResizesKeepTranslations ss
resizes_keep [] h = tt
resizes_keep (s ∷ []) h = tt
resizes_keep (s ∷ next ∷ rest) h =
    (leaves_table s next (is_committed s.quiet) refl h.0 h.1, resizes_keep (next ∷ rest) h.2)

-- In a good run a committed resize keeps each bolted page's translation.
pub resizes_keep_bolted_pages :
    (t : AcceptedTrace) (rs : List Reply)
    → IsAccepted t
    → IsGoodRun t rs
    → ResizesKeepTranslations (sections_of t rs)
resizes_keep_bolted_pages t rs is good = resizes_keep (sections_of t rs) (chained t rs is good)
