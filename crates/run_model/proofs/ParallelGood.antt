-- A run in which each processor works on its own is a good run.
use Rattle.std.specs.Prelude.{IfSome, Bool, ◌==◌, max}
use Rattle.std.proofs.Common.{◌≡◌, ℕ, zero, suc, ◌<◌, ◌≤◌, List, [], ◌∷◌, ◌++◌, true, false, ap, sym, ◌∙◌, subst, ◌⊎◌, inl, inr, map, length, arith, Option, Some, None, eqb, append_assoc}
use Rattle.std.specs.List.{AllByRecursion}
use Rattle.std.proofs.lemmas.Bool.{cond_both, cases_Bool, eqb-true, eqb-false}
use Rattle.std.proofs.lemmas.List.{get_or-set_same, get_or-set_other, length-set}
use Rattle.entry_model.specs.State.{State}
use Rattle.entry_model.specs.declared.line.Line.{Line}
use Rattle.entry_model.specs.declared.receipt.Receipt.{Receipt}
use Rattle.entry_model.specs.Receipt.{after_of}
use Rattle.entry_model.specs.Run.{state_at}
use Rattle.entry_model.specs.CachedLines.{AllLater}
use Rattle.entry_model.specs.History.{pair_of}
use Rattle.entry_model.specs.Fronts.{front_at, opening_fronts, fronts_after, KeepsFronts, IsGone, pair_beyond}
use Rattle.entry_model.proofs.FrontLaws.{keeps_below}
use Rattle.tlb_model.specs.Processor.{Processor}
use Rattle.trace_read.specs.Trace.{AcceptedTrace}
use Rattle.trace_reply.specs.declared.reply.Reply.{Reply}
use Rattle.trace_reply.specs.Replies.{RepliedLine, AreReplies, receipts_in, lines_with_replies}
use Rattle.trace_line.specs.declared.act.Act.{Act}
use Rattle.run_model.specs.GoodRun.{EachLineOfProcessor, IsAccessLine, IsGoodSection, IsGoodOn, IsGoodRun}
use Rattle.run_model.specs.Histories.{lines_of_processor, Event, made, InOrder, gone_events, events_by}
use Rattle.run_model.specs.LineReplies.{IsCallReply}
use Rattle.run_model.specs.ParallelRun.{Works, RunsApart, RunsParallel, IsParallelOn, IsParallel}
use Rattle.run_model.specs.Processors.{processor_at, processor_after, gone_line_of}
use Rattle.run_model.specs.Quiet.{QuietPart, cut}
use Rattle.run_model.specs.QuietLines.{run_quiet_line}
use Rattle.run_model.specs.Sections.{Section, AreLegalTo, made_in, closing, closing_on, section_end, after_quiet, quiet_on, section_of, sections_from}
use Rattle.run_model.specs.StoreContexts.{StoreContext, access_of}
use Rattle.run_model.specs.Stores.{Store, context_of, states_of, opening_stores, is_on}
use Rattle.basics.proofs.Each.{each_map}
use Rattle.run_model.proofs.SectionGood.{closing_is, stamp_pair}

-- ---- fronts
-- each receipt is of an entry that has a front
abbrev InTable : List ℕ → List Receipt → Type 0
InTable f rs = AllByRecursion (λ (r : Receipt). r.entry < length f) rs

in_table_on :
    (f : List ℕ) (r : Receipt) (rs : List Receipt) → InTable f rs → InTable (fronts_after f r) rs
in_table_on f r rs h =
    subst (λ n. AllByRecursion (λ (x : Receipt). x.entry < n) rs)
    (sym (length-set f r.entry (pair_of (after_of r)))) h

set_same :
    (f : List ℕ) (r : Receipt) (e : ℕ)
    → r.entry < length f
    → eqb r.entry e ≡ true
    → front_at (fronts_after f r) e ≡ pair_of (after_of r)
set_same f r e h own =
    ap (front_at (fronts_after f r)) (sym (eqb-true r.entry e own))
    ∙ get_or-set_same f r.entry (pair_of (after_of r)) 0 h

set_other :
    (f : List ℕ) (r : Receipt) (e : ℕ)
    → eqb r.entry e ≡ false
    → front_at (fronts_after f r) e ≡ front_at f e
set_other f r e other =
    get_or-set_other f r.entry e (pair_of (after_of r)) 0
    (λ same. eqb-false r.entry e other (sym same))

-- ---- one line
-- with no cached translation gone
keeps_order :
    (e p : ℕ) (f g : List ℕ) (rs : List Receipt) (evs : List Event)
    → InTable f rs
    → KeepsFronts f rs g
    → p ≤ front_at f e
    → ((q : ℕ) → q ≤ front_at g e → InOrder e q evs)
    → InOrder e p (map (λ (r : Receipt). made r) rs ++ evs)
keeps_order e p f g [] evs within h low rest = rest p (omega (arith, h.low e))
keeps_order e p f g (r ∷ rs) evs within h low rest =
    at (cases_Bool (eqb r.entry e))
    (λ q k.
    keeps_order e q (fronts_after f r) g rs evs (in_table_on f r rs within.1) h.1 k rest) where
      at :
          (eqb r.entry e ≡ true) ⊎ (eqb r.entry e ≡ false)
          →
          ((q : ℕ)
          → q ≤ front_at (fronts_after f r) e
          → InOrder e q (map (λ (r : Receipt). made r) rs ++ evs))
          → InOrder e p (made r ∷ (map (λ (r : Receipt). made r) rs ++ evs))
      at (inl own) more =
          let low' : front_at f e ≤ pair_of r.before = subst (λ k. front_at f k ≤ pair_of r.before)
          (eqb-true r.entry e own) h.0 in
          let first : p ≤ pair_of r.before = omega arith in
          let high : pair_of (after_of r) ≤ front_at (fronts_after f r) e = subst
          (λ n. pair_of (after_of r) ≤ n) (sym (set_same f r e within.0 own)) (omega arith) in
          rw own (first, more (pair_of (after_of r)) high)
      at (inr off) more = rw off (more p (subst (λ n. p ≤ n) (sym (set_other f r e off)) low))

-- with one of this entry gone
gone_order :
    (line : Line) (p : ℕ) (f g : List ℕ) (rs : List Receipt) (evs : List Event)
    → InTable f rs
    → KeepsFronts f rs g
    → AllLater line rs
    → IsGone g line
    → p ≤ max (front_at f line.entry) (pair_beyond line)
    → ((q : ℕ) → q ≤ front_at g line.entry → InOrder line.entry q evs)
    → InOrder line.entry p (map (λ (r : Receipt). made r) rs ++ evs)
gone_order line p f g [] evs within h past gone low rest = rest p (omega (arith, h.low line.entry))
gone_order line p f g (r ∷ rs) evs within h past gone low rest =
    at (cases_Bool (eqb r.entry line.entry))
    (λ q k.
    keeps_order line.entry q (fronts_after f r) g rs evs (in_table_on f r rs within.1) h.1 k
    rest)
    (λ q k.
    gone_order line q (fronts_after f r) g rs evs (in_table_on f r rs within.1) h.1 past.1 gone
    k rest) where
      at :
          (eqb r.entry line.entry ≡ true) ⊎ (eqb r.entry line.entry ≡ false)
          →
          ((q : ℕ)
          → q ≤ front_at (fronts_after f r) line.entry
          → InOrder line.entry q (map (λ (r : Receipt). made r) rs ++ evs))
          →
          ((q : ℕ)
          → q ≤ max (front_at (fronts_after f r) line.entry) (pair_beyond line)
          → InOrder line.entry q (map (λ (r : Receipt). made r) rs ++ evs))
          → InOrder line.entry p (made r ∷ (map (λ (r : Receipt). made r) rs ++ evs))
      at (inl own) more other =
          let same : r.entry ≡ line.entry = eqb-true r.entry line.entry own in
          let low' : front_at f line.entry ≤ pair_of r.before = subst
          (λ k. front_at f k ≤ pair_of r.before) same h.0 in
          let above :
          pair_beyond line ≤ pair_of r.before = stamp_pair line.stamp r.before (past.0 same)
          in
          let first : p ≤ pair_of r.before = omega arith in
          let high : pair_of (after_of r) ≤ front_at (fronts_after f r) line.entry = subst
          (λ n. pair_of (after_of r) ≤ n) (sym (set_same f r line.entry within.0 own)) (omega arith)
          in
          rw own (first, more (pair_of (after_of r)) high)
      at (inr off) more other =
          rw off
          (other p
          (subst (λ n. p ≤ max n (pair_beyond line)) (sym (set_other f r line.entry off)) low))

-- with one gone, or none
line_order :
    (e p : ℕ) (f g : List ℕ) (line : Option Line) (rs : List Receipt) (evs : List Event)
    → InTable f rs
    → KeepsFronts f rs g
    → IfSome line (λ l. AllLater l rs)
    → IfSome line (IsGone g)
    → p ≤ front_at f e
    → ((q : ℕ) → q ≤ front_at g e → InOrder e q evs)
    → InOrder e p (gone_events line ++ (map (λ (r : Receipt). made r) rs ++ evs))
line_order e p f g None rs evs within h past gone low rest =
    keeps_order e p f g rs evs within h low rest
line_order e p f g (Some line) rs evs within h past gone low rest =
    cond_both (line.entry == e) (max p (pair_beyond line)) p
    (λ n. InOrder e n (map (λ (r : Receipt). made r) rs ++ evs)) here
    (λ off. keeps_order e p f g rs evs within h low rest) where
      here :
          line.entry == e ≡ true
          → InOrder e (max p (pair_beyond line)) (map (λ (r : Receipt). made r) rs ++ evs)
      here own =
          let same : line.entry ≡ e = eqb-true line.entry e own in
          let low' : p ≤ front_at f line.entry = subst (λ k. p ≤ front_at f k) (sym same) low in
          let all : InOrder line.entry (max p (pair_beyond line))
          (map (λ (r : Receipt). made r) rs ++ evs) = gone_order line (max p (pair_beyond line)) f g
          rs evs within h past gone (omega arith)
          (subst (λ k. (q : ℕ) → q ≤ front_at g k → InOrder k q evs) (sym same) rest) in
          subst
          (λ k. InOrder k (max p (pair_beyond line)) (map (λ (r : Receipt). made r) rs ++ evs))
          same all

-- ---- a processor
work_order :
    (set : StoreContext) (e p : ℕ) (f g : List ℕ) (processor : Processor) (ts : List RepliedLine)
    → Works set f processor ts g
    → p ≤ front_at f e
    → InOrder e p (events_by processor ts)
work_order set e p f g processor [] h low = tt
work_order set e p f g processor (t ∷ ts) h low =
    let line = gone_line_of processor t.line.act t.reply in
    let later = events_by (processor_after processor t.line.act t.reply) ts in
    subst (InOrder e p)
    (sym
    (append_assoc (gone_events line) (map (λ (r : Receipt). made r) (receipts_in t.reply))
    later))
    (line_order e p f h.0 line (receipts_in t.reply) later h.1.in_table h.1.keeps
    h.1.comes_later h.1.gone low
    (λ q k.
    work_order set e q h.0 g (processor_after processor t.line.act t.reply) ts h.2 k))

work_up :
    (set : StoreContext) (e : ℕ) (f g : List ℕ) (processor : Processor) (ts : List RepliedLine)
    → Works set f processor ts g
    → front_at f e ≤ front_at g e
work_up set e f g processor [] h = subst (λ x. front_at f e ≤ front_at x e) (sym h) (omega arith)
work_up set e f g processor (t ∷ ts) h =
    let first : front_at f e ≤ front_at h.0 e =
    (keeps_below f h.0 (receipts_in t.reply) h.1.keeps).low e in
    let rest : front_at h.0 e ≤ front_at g e = work_up set e h.0 g
    (processor_after processor t.line.act t.reply) ts h.2 in
    omega arith

work_calls :
    (set : StoreContext) (f g : List ℕ) (processor : Processor) (ts : List RepliedLine)
    → Works set f processor ts g
    → EachLineOfProcessor (λ processor t. IsCallReply set t.line.act t.reply) processor ts
work_calls set f g processor [] h = tt
work_calls set f g processor (t ∷ ts) h =
    (h.1.call, work_calls set h.0 g (processor_after processor t.line.act t.reply) ts h.2)

gone_closed :
    (f g : List ℕ) (b : List State) (line : Option Line)
    → IfSome line (IsGone f)
    → ((e : ℕ) → front_at f e ≤ front_at g e)
    → ((l : Line) → IsGone g l → l.stamp < (state_at b l.entry).stamp)
    → IfSome line (λ l. l.stamp < (state_at b l.entry).stamp)
gone_closed f g b None h rise end = tt
gone_closed f g b (Some line) h rise end = end line (omega (arith, rise line.entry))

work_reaches :
    (set : StoreContext) (f g : List ℕ) (b : List State) (processor : Processor)
    (ts : List RepliedLine)
    → Works set f processor ts g
    → ((l : Line) → IsGone g l → l.stamp < (state_at b l.entry).stamp)
    → EachLineOfProcessor (IsAccessLine (access_of set) b) processor ts
work_reaches set f g b processor [] h end = tt
work_reaches set f g b processor (t ∷ ts) h end = (
  record {
    reply = h.1.access;
    gone =
        gone_closed h.0 g b (gone_line_of processor t.line.act t.reply) h.1.gone
        (λ e. work_up set e h.0 g (processor_after processor t.line.act t.reply) ts h.2)
        end;
  },
  work_reaches set h.0 g b (processor_after processor t.line.act t.reply) ts h.2 end,
)

-- ---- a section
-- each entry's front at the opening states
opening_front : (a : List State) (e : ℕ) → pair_of (state_at a e) ≤ front_at (opening_fronts a) e
unfolding pair_of
opening_front [] e = omega arith
opening_front (s ∷ a) zero = omega arith
opening_front (s ∷ a) (suc e) = opening_front a e

closes : (s : Section) (b : List State) → RunsApart s b → closing s ≡ closing_on s b
unfolding section_end
closes s b h =
    ap (closing_on s)
    (closing_is (states_of s.before) b (made_in s) h.closed.size h.closed.legal.legal)

-- What works apart is good.
section_parallel : (s : Section) (b : List State) → RunsApart s b → IsGoodSection s
section_parallel s b h =
    let set = context_of s.before in
    let ps = s.before.processors in
    let a = states_of s.before in
    let f = opening_fronts a in
    let e : closing_on s b ≡ closing s = sym (closes s b h) in
    record {
      legal = subst (λ (v : Store). AreLegalTo s (states_of v)) e h.closed.legal;
      in_order =
          λ cpu k.
          work_order set k (pair_of (state_at a k)) f (h.fronts cpu) (processor_at ps cpu)
          (lines_of_processor cpu s.replied_lines) (h.work cpu) (opening_front a k);
      calls =
          λ cpu.
          work_calls set f (h.fronts cpu) (processor_at ps cpu)
          (lines_of_processor cpu s.replied_lines) (h.work cpu);
      accesses =
          λ cpu.
          subst
          (λ (v : Store).
          EachLineOfProcessor (IsAccessLine (access_of set) (states_of v))
          (processor_at ps cpu) (lines_of_processor cpu s.replied_lines)) e
          (work_reaches set f (h.fronts cpu) b (processor_at ps cpu)
          (lines_of_processor cpu s.replied_lines) (h.work cpu) (h.closed.gone cpu));
      quiet =
          subst (λ v. IfSome s.quiet (λ q. q.reply ≡ (run_quiet_line v q.line.act).0)) e h.quiet;
    }

-- ---- all sections
sections_parallel :
    (on : Act → Bool) (s : Store) (ts : List RepliedLine) (qs : List QuietPart)
    → RunsParallel on s ts qs
    → AllByRecursion IsGoodSection (sections_from on s ts qs)
sections_parallel on s ts [] h = (section_parallel (section_of on s ts None) h.0 h.1, tt)
sections_parallel on s ts (q ∷ qs) h =
    let x = section_of on s ts (quiet_on on q.0) in (
      section_parallel x h.0 h.1,
      subst (λ v. AllByRecursion IsGoodSection (sections_from on (after_quiet v x.quiet) q.1 qs))
          (sym (closes x h.0 h.1))
          (sections_parallel on (after_quiet (closing_on x h.0) x.quiet) q.1 qs h.2),
    )

pub parallel_good :
    (t : AcceptedTrace) (rs : List Reply) → AreReplies t.lines rs → IsParallel t rs → IsGoodRun t rs
parallel_good t rs kinds h =
    let c = cut (lines_with_replies t.lines rs) in
    record {
      kinds = kinds;
      stores =
          each_map (IsParallelOn t rs) (IsGoodOn t rs) (opening_stores t.config)
          (λ s k. sections_parallel (is_on t.config.windows s.window) s c.0 c.1 k) h;
    }
