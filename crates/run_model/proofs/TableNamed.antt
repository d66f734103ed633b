-- The page table's entries are no window's: in each section of a run, and after each quiet line.
use Rattle.std.proofs.Common.{◌≡◌, ℕ, List, [], ◌∷◌, ap, ◌∙◌, refl, true, false, ◌⊎◌, inl, inr}
use Rattle.std.specs.Prelude.{Bool, Option, Some, None}
use Rattle.std.specs.List.{AllByRecursion}
use Rattle.bus_window.specs.Windows.{BusWindow}
use Rattle.papr_codes.specs.declared.calls.Hcall.{Hcall}
use Rattle.papr_codes.specs.Hcalls.{hcall_of}
use Rattle.std.proofs.lemmas.Bool.{cases_Bool}
use Rattle.trace_line.specs.Lines.{is_quiet}
use Rattle.trace_line.specs.declared.line.TraceLine.{TraceLine}
use Rattle.run_model.specs.SerialRun.{run_on}
use Rattle.trace_line.specs.declared.act.Act.{Act}
use Rattle.trace_read.specs.Trace.{AcceptedTrace}
use Rattle.trace_reply.specs.declared.reply.Reply.{Reply}
use Rattle.trace_reply.specs.Replies.{RepliedLine, lines_with_replies}
use Rattle.run_model.specs.Quiet.{QuietPart, cut}
use Rattle.run_model.specs.Stores.{Store, context_of, page_table, is_on}
use Rattle.run_model.specs.QuietLines.{run_resize, run_quiet_line}
use Rattle.run_model.specs.Sections.{Section, closing, section_end, after_quiet, quiet_on, section_of, sections_from, sections_of}
use Rattle.run_model.specs.StoreContexts.{StoreContext, access_of, table_context}
use Rattle.papr_codes.specs.declared.calls.Hcall.TheVariants as calls
use Rattle.trace_line.specs.declared.act.Act.TheVariants as acts

-- The store is the page table, and not a window.
abbrev pub IsTable : Store → Type 0
IsTable w = w.window ≡ None

abbrev context_with : Store → Option BusWindow → StoreContext
context_with w o = record { order = w.memory.table.order; grants = w.grants; window = o }

pub table_is : (w : Store) → IsTable w → context_of w ≡ table_context (access_of (context_of w))
table_is w e = ap (context_with w) e

resize_window :
    (w : Store) (call : Hcall) (args : List ℕ) → (run_resize w call args).1.window ≡ w.window
unfolding run_resize
resize_window w calls.Prepare args = refl
resize_window w calls.Commit args = refl
resize_window w other args = refl

pub quiet_window : (w : Store) (act : Act) → (run_quiet_line w act).1.window ≡ w.window
unfolding run_quiet_line
quiet_window w (acts.Call number args spelt) = resize_window w (hcall_of number) args
quiet_window w other = refl

resize_grants :
    (w : Store) (call : Hcall) (args : List ℕ) → (run_resize w call args).1.grants ≡ w.grants
unfolding run_resize
resize_grants w calls.Prepare args = refl
resize_grants w calls.Commit args = refl
resize_grants w other args = refl

pub quiet_grants : (w : Store) (act : Act) → (run_quiet_line w act).1.grants ≡ w.grants
unfolding run_quiet_line
quiet_grants w (acts.Call number args spelt) = resize_grants w (hcall_of number) args
quiet_grants w other = refl

-- A line leaves its store's window as it is.
pub line_window : (w : Store) (l : TraceLine) → (run_on w l).1.window ≡ w.window
unfolding run_on
line_window w l = at (cases_Bool (is_quiet l.act)) where
  at : (is_quiet l.act ≡ true) ⊎ (is_quiet l.act ≡ false) → (run_on w l).1.window ≡ w.window
  at (inl q) = rw q (quiet_window w l.act)
  at (inr q) = rw q refl

pub closed_window : (w : Store) (ts : List RepliedLine) → (section_end w ts).window ≡ w.window
unfolding section_end
closed_window w ts = refl

pub after_window :
    (s : Store) (quiet : Option RepliedLine) → (after_quiet s quiet).window ≡ s.window
after_window s None = refl
after_window s (Some q) = quiet_window s q.line.act

-- Each section is of the same store.
pub sections_named :
    (on : Act → Bool) (o : Option BusWindow) (s : Store) (ts : List RepliedLine)
    (qs : List QuietPart)
    → s.window ≡ o
    → AllByRecursion (λ (x : Section). x.before.window ≡ o) (sections_from on s ts qs)
sections_named on o s ts [] e = (e, tt)
sections_named on o s ts (q ∷ qs) e =
    let x = section_of on s ts (quiet_on on q.0) in (
      e,
      sections_named on o (after_quiet (closing x) x.quiet) q.1 qs
          (after_window (closing x) x.quiet ∙ closed_window s x.replied_lines ∙ e),
    )

pub opening_table : (t : AcceptedTrace) → IsTable (page_table t.config)
unfolding page_table
opening_table t = refl

pub all_table :
    (t : AcceptedTrace) (rs : List Reply)
    → AllByRecursion (λ (s : Section). IsTable s.before) (sections_of t rs)
all_table t rs =
    let c = cut (lines_with_replies t.lines rs) in
    sections_named (is_on t.config.windows (page_table t.config).window) None (page_table t.config)
    c.0 c.1 (opening_table t)
