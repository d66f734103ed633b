-- A good run is good replies to each part between two quiet lines, on all stores side by side.
use Rattle.std.specs.Prelude.{IfSome}
use Rattle.std.proofs.Common.{true, ◌≡◌, ℕ, zero, suc, ◌≤◌, List, [], ◌∷◌, ap, sym, ◌∙◌, refl, subst, map, length, arith, Option, Some, None}
use Rattle.std.specs.List.{AllByRecursion}
use Rattle.std.proofs.lemmas.List.{length-replicate}
use Rattle.run_model.proofs.LowStampRuns.{processors_by_size}
use Rattle.tlb_model.specs.Processor.{new_processor}
use Rattle.trace_line.specs.declared.act.Act.{Act}
use Rattle.trace_line.specs.Lines.{is_quiet}
use Rattle.trace_read.specs.Configuration.{Configuration}
use Rattle.trace_read.specs.Trace.{AcceptedTrace}
use Rattle.trace_reply.specs.declared.reply.Reply.{Reply}
use Rattle.trace_reply.specs.Replies.{RepliedLine, AreReplies, lines_with_replies}
use Rattle.run_model.specs.AllStores.{WindowState, AllStores, as_store, all_stores, opening_all, windows_in}
use Rattle.run_model.specs.GoodRun.{IsGoodRun, IsGoodSection}
use Rattle.run_model.specs.Quiet.{QuietPart, cut}
use Rattle.run_model.specs.QuietLines.{run_quiet_line}
use Rattle.run_model.specs.Sections.{section_end, states_behind, quiet_on, after_quiet}
use Rattle.run_model.specs.SideBySide.{part_on, left_by, AreGood}
use Rattle.run_model.specs.SideBySide.{stores_behind as behind_all}
use Rattle.run_model.specs.StoreNumbers.{store_at}
use Rattle.run_model.specs.Stores.{Store, states_of, page_table, opening_stores, plain_store, window_store, lines_on, is_on, is_on_window}
use Rattle.run_model.proofs.CallLines.{AllQuiet, cut_quiet}
use Rattle.basics.proofs.Each.{each_at, each_by_index}
use Rattle.run_model.proofs.SectionGood.{quiet_size, section_good}
use Rattle.run_model.proofs.SideBySide.{side_by_side}
use Rattle.run_model.proofs.StoreLines.{quiet_on_table, quiet_off_window}
use Rattle.run_model.proofs.StoreNumbers.{stores_count, window_at, windows_opened}
use Rattle.run_model.proofs.TableNamed.{quiet_grants, quiet_window, closed_window}
use Rattle.run_model.proofs.WindowLines.{opened_all, window_closes_on}
use Rattle.history_check.specs.FoundSection.{Opening, opening_of, IsGoodOn}
use Rattle.history_check.specs.FoundStores.{windows_of, lines_at, AreGoodOn, stores_behind, run_quiet_on}

-- ---- parts
-- The lines of a run before its first quiet line, and each quiet line with those after it.
abbrev pub Parts : Type 0
Parts = List RepliedLine × List QuietPart

-- What the run carries after these lines and the quiet line that follows them.
abbrev pub next_stores : AllStores → List RepliedLine → Act → AllStores
next_stores s ts act = (run_quiet_on (stores_behind s ts) act).1

-- The reply to the quiet line that follows them.
abbrev pub quiet_reply : AllStores → List RepliedLine → Act → Reply
quiet_reply s ts act = (run_quiet_on (stores_behind s ts) act).0

-- All parts are good, from these stores on, and each quiet line has its reply.
abbrev pub AllGood : AllStores → List RepliedLine → List QuietPart → Type 0
AllGood s ts [] = AreGoodOn s ts
AllGood s ts (q ∷ qs) =
    AreGoodOn s ts
    × (q.0.reply ≡ quiet_reply s ts q.0.line.act)
    × AllGood (next_stores s ts q.0.line.act) q.1 qs

-- ---- stores of a run
pub closed_grants : (w : Store) (ts : List RepliedLine) → (section_end w ts).grants ≡ w.grants
unfolding section_end
closed_grants w ts = refl

pub closed_size :
    (w : Store) (ts : List RepliedLine) → length (section_end w ts).processors ≡ length w.processors
unfolding section_end
closed_size w ts = processors_by_size 0 w.processors ts

pub closed_states :
    (w : Store) (ts : List RepliedLine) → states_of (section_end w ts) ≡ states_behind w ts
unfolding section_end
closed_states w ts = refl

-- The windows keep their numbers and pages.
windows_stay :
    (table : Store) (ts : List RepliedLine) (vs : List WindowState)
    → windows_in
    (map
    (λ (v : WindowState).
    record v {
      states = states_behind (as_store table v) (lines_on (is_on_window v.window) ts);
    }) vs)
    ≡ windows_in vs
windows_stay table ts [] = refl
windows_stay table ts (v ∷ vs) = ap (λ z. v.window ∷ z) (windows_stay table ts vs)

pub next_windows :
    (s : AllStores) (ts : List RepliedLine) (act : Act)
    → windows_of (next_stores s ts act) ≡ windows_of s
next_windows s ts act = windows_stay s.table ts s.windows

-- The processors are as many.
pub next_size :
    (s : AllStores) (ts : List RepliedLine) (act : Act)
    → length (next_stores s ts act).table.processors ≡ length s.table.processors
next_size s ts act =
    quiet_size (stores_behind s ts).table act ∙ closed_size s.table (lines_at s 0 ts)

-- The first store stays the page table.
pub next_named :
    (s : AllStores) (ts : List RepliedLine) (act : Act)
    → s.table.window ≡ None
    → (next_stores s ts act).table.window ≡ None
next_named s ts act named =
    quiet_window (stores_behind s ts).table act
    ∙ closed_window s.table (lines_at s 0 ts)
    ∙ named

pub opening_named : (c : Configuration) → (opening_all c).table.window ≡ None
unfolding page_table
opening_named c = refl

-- Each store has as many processors.
pub each_size :
    (s : AllStores) (number : ℕ)
    → number ≤ length s.windows
    → length (store_at s number).processors ≡ length s.table.processors
each_size s zero low = refl
each_size s (suc k) low =
    ap (λ (x : Store). length x.processors)
    ((window_at s.table s.windows k (omega (arith, low))).store s.table)
    ∙ length-replicate (length s.table.processors) new_processor

-- ---- a section of one store
-- A window as its lines leave it.
pub window_end :
    (table : Store) (ts : List RepliedLine) (v : WindowState)
    → section_end (as_store table v) (lines_on (is_on_window v.window) ts)
    ≡ as_store table
    (record v {
      states = states_behind (as_store table v) (lines_on (is_on_window v.window) ts);
    })
unfolding section_end
window_end table ts v =
    window_closes_on table.grants (length table.processors) v.window v.states
    (states_behind (as_store table v) (lines_on (is_on_window v.window) ts)) ts

to_part :
    (s : Store) (ts : List RepliedLine) (quiet : Option RepliedLine)
    → IsGoodSection (record { before = s; replied_lines = ts; quiet = quiet })
    → IsGoodOn (opening_of s) ts
unfolding section_end
to_part s ts quiet h =
    (h.legal, h.in_order, h.calls, h.accesses)

from_part :
    (s : Store) (ts : List RepliedLine) (quiet : Option RepliedLine)
    → IsGoodOn (opening_of s) ts
    → IfSome quiet (λ q. q.reply ≡ (run_quiet_line (section_end s ts) q.line.act).0)
    → IsGoodSection (record { before = s; replied_lines = ts; quiet = quiet })
unfolding section_end
from_part s ts quiet h q =
    record {
      legal = h.0;
      in_order = h.1;
      calls = h.2;
      accesses = h.3;
      quiet = q;
    }

-- A section without lines is good.
pub store_empty : (o : Opening) → IsGoodOn o []
store_empty o =
    let s = plain_store o.context o.states o.processors in
    to_part s [] None
    (section_good (record { before = s; replied_lines = []; quiet = None }) o.states tt refl tt)

-- ---- a section of all stores
module _ (s : AllStores) (ts : List RepliedLine) where
  abbrev IsGoodAt : Option RepliedLine → Store → Type 0
  IsGoodAt quiet x = IsGoodSection (part_on (windows_of s) ts quiet x)

  -- The lines on a store.
  abbrev on : Store → List RepliedLine
  on x = lines_on (is_on (windows_of s) x.window) ts

  one_to :
      (quiet : Option RepliedLine) (x : Store) → IsGoodAt quiet x → IsGoodOn (opening_of x) (on x)
  one_to None x k = to_part x (on x) None k
  one_to (Some q) x k = to_part x (on x) (quiet_on (is_on (windows_of s) x.window) q) k

  to_parts :
      (quiet : Option RepliedLine)
      → AllByRecursion (IsGoodAt quiet) (all_stores s)
      → AreGoodOn s ts
  to_parts quiet h number low =
      one_to quiet (store_at s number)
      (each_at (IsGoodAt quiet) (all_stores s) number s.table h.0 h)

  from_last : AreGoodOn s ts → AllByRecursion (IsGoodAt None) (all_stores s)
  from_last g =
      each_by_index (IsGoodAt None) (all_stores s) s.table
      (λ number low.
      from_part (store_at s number) (on (store_at s number)) None
      (g number (omega (arith, low, stores_count s))) tt)

  -- A quiet line after the section, which is on the page table.
  module _ (q : RepliedLine) (named : s.table.window ≡ None) (quiet : is_quiet q.line.act ≡ true)
    where
      abbrev quiet_at : Store → Option RepliedLine
      quiet_at x = quiet_on (is_on (windows_of s) x.window) q

      there : quiet_at s.table ≡ Some q
      there = ap (λ o. quiet_on (is_on (windows_of s) o) q) named ∙ table where
        table : quiet_on (is_on (windows_of s) None) q ≡ Some q
        table = rw (quiet_on_table (windows_of s) q.line.act quiet) refl

      away : (v : WindowState) → quiet_on (is_on_window v.window) q ≡ None
      away v = rw (quiet_off_window v.window q.line.act quiet) refl

      -- It has the reply that the store gives after its lines, if it is on it.
      abbrev IsSaid : Store → Option RepliedLine → Type 0
      IsSaid x o = IfSome o (λ z. z.reply ≡ (run_quiet_line (section_end x (on x)) z.line.act).0)

      to_reply : IsSaid s.table (quiet_at s.table) → q.reply ≡ quiet_reply s ts q.line.act
      to_reply h = subst (IsSaid s.table) there h

      said_at :
          q.reply ≡ quiet_reply s ts q.line.act
          → (number : ℕ)
          → number ≤ length s.windows
          → IsSaid (store_at s number) (quiet_at (store_at s number))
      said_at said zero low = subst (IsSaid s.table) (sym there) said
      said_at said (suc k) low =
          let w = window_at s.table s.windows k (omega (arith, low)) in
          let none : quiet_at (store_at s (suc k)) ≡ None = ap quiet_at (w.store s.table) ∙
          away w.window in
          subst (IsSaid (store_at s (suc k))) (sym none) tt

      from_section :
          AreGoodOn s ts
          → q.reply ≡ quiet_reply s ts q.line.act
          → AllByRecursion (IsGoodAt (Some q)) (all_stores s)
      from_section g said =
          each_by_index (IsGoodAt (Some q)) (all_stores s) s.table
          (λ number low.
          let inside : number ≤ length s.windows = omega (arith, low, stores_count s) in
          from_part (store_at s number) (on (store_at s number)) (quiet_at (store_at s number))
          (g number inside) (said_at said number inside))

      -- What the section and the quiet line leave.
      abbrev next : AllStores
      next = next_stores s ts q.line.act

      table_left : left_by (part_on (windows_of s) ts (Some q) s.table) ≡ next.table
      table_left = ap (after_quiet (section_end s.table (on s.table))) there

      granted : s.table.grants ≡ next.table.grants
      granted =
          sym
          (quiet_grants (stores_behind s ts).table q.line.act
          ∙ closed_grants s.table (lines_at s 0 ts))

      window_left :
          (v : WindowState)
          → left_by (part_on (windows_of s) ts (Some q) (as_store s.table v))
          ≡ as_store next.table
          (record v {
            states = states_behind (as_store s.table v) (lines_on (is_on_window v.window) ts);
          })
      window_left v =
          ap (after_quiet (section_end (as_store s.table v) (lines_on (is_on_window v.window) ts)))
          (away v)
          ∙ window_end s.table ts v
          ∙
          (λ i.
          window_store (granted i) (sym (next_size s ts q.line.act) i)
          (states_behind (as_store s.table v) (lines_on (is_on_window v.window) ts)) v.window)

      windows_left :
          (vs : List WindowState)
          → map (λ (x : Store). left_by (part_on (windows_of s) ts (Some q) x))
          (map (as_store s.table) vs)
          ≡ map (as_store next.table)
          (map
          (λ (v : WindowState).
          record v {
            states = states_behind (as_store s.table v) (lines_on (is_on_window v.window) ts);
          }) vs)
      windows_left [] = refl
      windows_left (v ∷ vs) = λ i. window_left v i ∷ windows_left vs i

      left_is : behind_all (windows_of s) (all_stores s) ts q ≡ all_stores next
      left_is = λ i. table_left i ∷ windows_left s.windows i

      -- The rest of the run, from there.
      rest_is :
          (us : List RepliedLine) (qs : List QuietPart)
          → AreGood (windows_of s) (behind_all (windows_of s) (all_stores s) ts q) us qs
          ≡ AreGood (windows_of next) (all_stores next) us qs
      rest_is us qs =
          λ i. AreGood (sym (next_windows s ts q.line.act) i) (left_is i) us qs

all_good :
    (s : AllStores) (ts : List RepliedLine) (qs : List QuietPart)
    → s.table.window ≡ None
    → AllQuiet qs
    → AreGood (windows_of s) (all_stores s) ts qs
    → AllGood s ts qs
all_good s ts [] named quiet h = to_parts s ts None h
all_good s ts (q ∷ qs) named quiet h = (
  to_parts s ts (Some q.0) h.0,
  to_reply s ts q.0 named quiet.0 h.0.0.quiet,
  all_good (next_stores s ts q.0.line.act) q.1 qs (next_named s ts q.0.line.act named) quiet.1
      (subst (λ (X : Type 0). X) (rest_is s ts q.0 named quiet.0 q.1 qs) h.1),
)

all_from :
    (s : AllStores) (ts : List RepliedLine) (qs : List QuietPart)
    → s.table.window ≡ None
    → AllQuiet qs
    → AllGood s ts qs
    → AreGood (windows_of s) (all_stores s) ts qs
all_from s ts [] named quiet g = from_last s ts g
all_from s ts (q ∷ qs) named quiet g = (
  from_section s ts q.0 named quiet.0 g.0 g.1,
  subst (λ (X : Type 0). X) (sym (rest_is s ts q.0 named quiet.0 q.1 qs))
      (all_from (next_stores s ts q.0.line.act) q.1 qs (next_named s ts q.0.line.act named)
      quiet.1 g.2),
)

-- ---- a trace
-- The parts of a trace's lines with these replies.
abbrev pub parts_of : AcceptedTrace → List Reply → Parts
parts_of t rs = cut (lines_with_replies t.lines rs)

-- The stores that it opens with.
opening_is :
    (t : AcceptedTrace) (ts : List RepliedLine) (qs : List QuietPart)
    → AreGood (windows_of (opening_all t.config)) (all_stores (opening_all t.config)) ts qs
    ≡ AreGood t.config.windows (opening_stores t.config) ts qs
opening_is t ts qs =
    λ i. AreGood (windows_opened t.config.windows i) (opened_all t.config i) ts qs

-- The parts of a good run.
pub parts_good :
    (t : AcceptedTrace) (rs : List Reply)
    → IsGoodRun t rs
    → AllGood (opening_all t.config) (parts_of t rs).0 (parts_of t rs).1
parts_good t rs g =
    let x = parts_of t rs in
    all_good (opening_all t.config) x.0 x.1 (opening_named t.config)
    (cut_quiet (lines_with_replies t.lines rs))
    (subst (λ (X : Type 0). X) (sym (opening_is t x.0 x.1)) ((side_by_side t rs).0 g).sections)

-- A run whose parts are good is a good run.
pub good_parts :
    (t : AcceptedTrace) (rs : List Reply)
    → AreReplies t.lines rs
    → AllGood (opening_all t.config) (parts_of t rs).0 (parts_of t rs).1
    → IsGoodRun t rs
good_parts t rs kinds g =
    let x = parts_of t rs in
    (side_by_side t rs).1
    (record {
      kinds = kinds;
      sections =
          subst (λ (X : Type 0). X) (opening_is t x.0 x.1)
          (all_from (opening_all t.config) x.0 x.1 (opening_named t.config)
          (cut_quiet (lines_with_replies t.lines rs)) g);
    })
