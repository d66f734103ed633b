-- What one processor's worker did in a section.
use Rattle.std.specs.Prelude.{IsSomeAnd, is_some, min, ◌≢◌}
use Rattle.std.proofs.Common.{◌≡◌, ℕ, zero, suc, ◌+◌, ◌-◌, ◌^◌, ◌<◌, ◌≤◌, List, [], ◌∷◌, ◌++◌, length, map, ap, sym, ◌∙◌, refl, subst, ◌⊎◌, inl, inr, cond, arith, Option, Some, None}
use Rattle.entry_model.specs.State.{State}
use Rattle.entry_model.specs.declared.line.Line.{Line}
use Rattle.tlb_model.specs.Cache.{AllCached}
use Rattle.entry_model.specs.Fronts.{opening_fronts, AreBelow, IsGone}
use Rattle.tlb_model.proofs.CachedPages.{all_cached_weaker}
use Rattle.entry_model.proofs.FrontLaws.{keeps_below, below_self, below_on, gone_on}
use Rattle.entry_lock.specs.declared.table.LockTable.{LockTable}
use Rattle.entry_lock.specs.declared.table.Pass.{Pass}
use Rattle.entry_lock.specs.PassOfTable.{view_of}
use Rattle.run_model.specs.StoreContexts.{StoreContext}
use Rattle.tlb_model.specs.Processor.{Processor}
use Rattle.trace_line.specs.declared.line.TraceLine.{TraceLine}
use Rattle.trace_reply.specs.declared.reply.Reply.{Reply}
use Rattle.trace_reply.specs.Replies.{RepliedLine, AreReplies, receipts_in, lines_with_replies}
use Rattle.run_model.specs.Processors.{processor_at, processor_after}
use Rattle.run_model.specs.Histories.{lines_of_processor, receipts_by, receipts_from_processor}
use Rattle.run_model.specs.Sections.{processor_after_lines, processors_after_lines}
use Rattle.run_model.specs.ParallelRun.{Works}
use Rattle.trace_runner.specs.declared.worker.Worker.{Worker}
use Rattle.run_model.specs.HeldLines.{Holding, AllHold}
use Rattle.trace_runner.specs.Workers.{Keeping, lines_of_cpu, replied_lines_of_cpu, count_with_lines, IsSeenBy, HasRun, IsIdle, IsDone, AllNumbered}
use Rattle.trace_runner.specs.SectionRun.{made_in, all_made, pass_count, IsGoneFor, IsSeenFor, AnyGone, AnySeen}

-- ---- fronts of a processor
pub works_below :
    (set : StoreContext) (f g : List ℕ) (processor : Processor) (ts : List RepliedLine)
    → Works set f processor ts g
    → AreBelow f g
works_below set f g processor [] h = subst (AreBelow f) (sym h) (below_self f)
works_below set f g processor (t ∷ ts) h =
    below_on f h.0 g (keeps_below f h.0 (receipts_in t.reply) h.1.keeps)
    (works_below set h.0 g (processor_after processor t.line.act t.reply) ts h.2)

-- ---- one processor
-- It is done, and its log keeps these replies to its lines.
pub record DoneWith {L : Type 0} (keeps : Keeping L) (set : StoreContext) (table : LockTable)
    (lines : List TraceLine) (cpu : ℕ) (rs : List Reply) (w : Worker L) :
    Type 0 where
  pub kept : keeps w.log (lines_of_cpu cpu lines) rs
  pub kinds : AreReplies (lines_of_cpu cpu lines) rs
  pub done : IsIdle keeps table cpu lines w ⊎ IsSomeAnd w.pass (HasRun set table cpu lines rs w)

kinds_of :
    {L : Type 0} (set : StoreContext) (table : LockTable) (lines : List TraceLine) (cpu : ℕ)
    (rs : List Reply) (w : Worker L) (o : Option Pass)
    → IsSomeAnd o (HasRun set table cpu lines rs w)
    → AreReplies (lines_of_cpu cpu lines) rs
kinds_of set table lines cpu rs w None h = absurd h
kinds_of set table lines cpu rs w (Some p) h = h.kinds

pub done_with :
    {L : Type 0} (keeps : Keeping L) (set : StoreContext) (table : LockTable)
    (lines : List TraceLine) (cpu : ℕ) (w : Worker L)
    → IsDone keeps set table cpu lines w
    → (rs : List Reply) × DoneWith keeps set table lines cpu rs w
done_with keeps set table lines cpu w (inl idle) = (
  [],
  record {
    kept = subst (λ ls. keeps w.log ls []) (sym idle.no_line) idle.none;
    kinds = subst (λ ls. AreReplies ls []) (sym idle.no_line) tt;
    done = inl idle;
  },
)
done_with keeps set table lines cpu w (inr ended) = (
  ended.replies,
  record {
    kept = ended.kept;
    kinds = kinds_of set table lines cpu ended.replies w w.pass ended.run;
    done = inr ended.run;
  },
)

module _ {L : Type 0} (keeps : Keeping L) (set : StoreContext) (table : LockTable)
    (lines : List TraceLine) (ts : List RepliedLine) (picks : ℕ → List Reply) where
  -- The states that the table was opened on.
  abbrev pub a : List State
  a = table.opening.items

  -- The processor is done, and its own lines among all are those with its replies.
  abbrev pub IsPart : ℕ → Worker L → Type 0
  IsPart cpu w =
      DoneWith keeps set table lines cpu (picks cpu) w
      × (lines_of_processor cpu ts ≡ replied_lines_of_cpu cpu lines (picks cpu))

  abbrev Run : ℕ → Worker L → Pass → Type 0
  Run cpu w = HasRun set table cpu lines (picks cpu) w

  -- a fact of its pass, by the pass's case
  by_pass :
      (o : Option Pass) (P : Pass → Type 0) (Q : Option Pass → Type 0)
      → ((p : Pass) → P p → Q (Some p))
      → IsSomeAnd o P
      → Q o
  by_pass None P Q f h = absurd h
  by_pass (Some p) P Q f h = f p h

  by_case :
      (cpu : ℕ) (w : Worker L) (Q : Option Pass → Type 0)
      → ((p : Pass) → Run cpu w p → Q (Some p))
      → (IsIdle keeps table cpu lines w → Q None)
      → IsIdle keeps table cpu lines w ⊎ IsSomeAnd w.pass (Run cpu w)
      → Q w.pass
  by_case cpu w Q f g (inl idle) = subst Q (sym idle.no_pass) (g idle)
  by_case cpu w Q f g (inr ended) = by_pass w.pass (Run cpu w) Q f ended

  by_done :
      (cpu : ℕ) (w : Worker L) (Q : Option Pass → Type 0)
      → ((p : Pass) → Run cpu w p → Q (Some p))
      → (IsIdle keeps table cpu lines w → Q None)
      → DoneWith keeps set table lines cpu (picks cpu) w
      → Q w.pass
  by_done cpu w Q f g h = by_case cpu w Q f g h.done

  idle_lines :
      (cpu : ℕ) (w : Worker L)
      → IsPart cpu w
      → IsIdle keeps table cpu lines w
      → lines_of_processor cpu ts ≡ []
  idle_lines cpu w h idle = h.1 ∙ ap (λ ls. lines_with_replies ls (picks cpu)) idle.no_line

  part_made :
      (cpu : ℕ) (w : Worker L)
      → IsPart cpu w
      → made_in w.pass ≡ receipts_by (lines_of_processor cpu ts)
  part_made cpu w h =
      by_done cpu w (λ o. made_in o ≡ receipts_by (lines_of_processor cpu ts))
      (λ p run. run.made ∙ ap receipts_by (sym h.1))
      (λ idle. ap receipts_by (sym (idle_lines cpu w h idle))) h.0

  part_processor :
      (cpu : ℕ) (w : Worker L)
      → IsPart cpu w
      → processor_after_lines w.before.value (lines_of_processor cpu ts) ≡ w.cpu
  part_processor cpu w h =
      by_done cpu w (λ o. processor_after_lines w.before.value (lines_of_processor cpu ts) ≡ w.cpu)
      (λ p run. ap (processor_after_lines w.before.value) h.1 ∙ sym run.processor)
      (λ idle.
      ap (processor_after_lines w.before.value) (idle_lines cpu w h idle) ∙ sym idle.processor)
      h.0

  -- ---- all processors
  pub made_is :
      (n : ℕ) (ws : List (Worker L))
      → AllNumbered IsPart n ws
      → all_made ws ≡ receipts_from_processor (length ws) n ts
  made_is n [] h = refl
  made_is n (w ∷ ws) h = (λ j. part_made n w h.0 j ++ made_is (suc n) ws h.1 j)

  pub processors_are :
      (n : ℕ) (ws : List (Worker L))
      → AllNumbered IsPart n ws
      → processors_after_lines n (map (λ (w : Worker L). w.before.value) ws) ts
      ≡ map (λ (w : Worker L). w.cpu) ws
  processors_are n [] h = refl
  processors_are n (w ∷ ws) h = (λ j. part_processor n w h.0 j ∷ processors_are (suc n) ws h.1 j)

  -- The fronts of a processor's pass; where it has none the opening ones.
  abbrev pub fronts_in : Option Pass → List ℕ
  fronts_in None = opening_fronts a
  fronts_in (Some p) = (view_of p).fronts

  -- The fronts of each processor; of one that there isn't the opening ones.
  abbrev pub fronts_of : List (Worker L) → ℕ → List ℕ
  fronts_of [] cpu = opening_fronts a
  fronts_of (w ∷ ws) zero = fronts_in w.pass
  fronts_of (w ∷ ws) (suc cpu) = fronts_of ws cpu

  part_works :
      (cpu : ℕ) (w : Worker L)
      → IsPart cpu w
      → Works set (opening_fronts a) w.before.value (lines_of_processor cpu ts) (fronts_in w.pass)
  part_works cpu w h =
      by_done cpu w
      (λ o.
      Works set (opening_fronts a) w.before.value (lines_of_processor cpu ts) (fronts_in o))
      (λ p run.
      subst (λ us. Works set (opening_fronts a) w.before.value us (view_of p).fronts) (sym h.1)
      run.works)
      (λ idle.
      subst (λ us. Works set (opening_fronts a) w.before.value us (opening_fronts a))
      (sym (idle_lines cpu w h idle)) refl) h.0

  pub works_at :
      (n cpu : ℕ) (ws : List (Worker L))
      → AllNumbered IsPart n ws
      → cpu < length ws
      → Works set (opening_fronts a) (processor_at (map (λ (w : Worker L). w.before.value) ws) cpu)
      (lines_of_processor (n + cpu) ts) (fronts_of ws cpu)
  works_at n cpu [] h within = absurd (omega arith)
  works_at n zero (w ∷ ws) h within =
      let e : n ≡ n + 0 = omega arith in
      subst
      (λ k.
      Works set (opening_fronts a) w.before.value (lines_of_processor k ts) (fronts_in w.pass))
      e (part_works n w h.0)
  works_at n (suc cpu) (w ∷ ws) h within =
      let e : suc n + cpu ≡ n + suc cpu = omega arith in
      subst
      (λ k.
      Works set (opening_fronts a)
      (processor_at (map (λ (w : Worker L). w.before.value) ws) cpu)
      (lines_of_processor k ts) (fronts_of ws cpu)) e
      (works_at (suc n) cpu ws h.1 (omega arith))

  pub fronts_past :
      (ws : List (Worker L)) (cpu : ℕ) → length ws ≤ cpu → fronts_of ws cpu ≡ opening_fronts a
  fronts_past [] cpu h = refl
  fronts_past (w ∷ ws) zero h = absurd (omega arith)
  fronts_past (w ∷ ws) (suc cpu) h = fronts_past ws cpu (omega arith)

  -- ---- lines that are gone
  -- What is gone by a processor's fronts is so for its pass, or by the opening fronts.
  gone_by :
      (o : Option Pass) (line : Line)
      → IsGone (fronts_in o) line
      → IsGoneFor o line ⊎ IsGone (opening_fronts a) line
  gone_by None line gone = inr gone
  gone_by (Some p) line gone = inl gone

  first_gone :
      (line : Line) (w : Worker L) (ws : List (Worker L))
      → IsGoneFor w.pass line ⊎ IsGone (opening_fronts a) line
      → AnyGone line (w ∷ ws) ⊎ IsGone (opening_fronts a) line
  first_gone line w ws (inl own) = inl (inl own)
  first_gone line w ws (inr gone) = inr gone

  later_gone :
      (line : Line) (w : Worker L) (ws : List (Worker L))
      → AnyGone line ws ⊎ IsGone (opening_fronts a) line
      → AnyGone line (w ∷ ws) ⊎ IsGone (opening_fronts a) line
  later_gone line w ws (inl any) = inl (inr any)
  later_gone line w ws (inr gone) = inr gone

  pub gone_case :
      (cpu : ℕ) (ws : List (Worker L)) (line : Line)
      → IsGone (fronts_of ws cpu) line
      → AnyGone line ws ⊎ IsGone (opening_fronts a) line
  gone_case cpu [] line gone = inr gone
  gone_case zero (w ∷ ws) line gone = first_gone line w ws (gone_by w.pass line gone)
  gone_case (suc cpu) (w ∷ ws) line gone = later_gone line w ws (gone_case cpu ws line gone)

  -- A line that is gone by the opening fronts is gone for each pass.
  pub opening_gone :
      (n : ℕ) (ws : List (Worker L)) (line : Line)
      → AllNumbered IsPart n ws
      → 0 < pass_count ws
      → IsGone (opening_fronts a) line
      → AnyGone line ws
  opening_gone n [] line h some gone = absurd (omega arith)
  opening_gone n (w ∷ ws) line h some gone =
      by_front w.pass (part_works n w h.0) (opening_gone (suc n) ws line h.1) some where
        by_front :
            (o : Option Pass)
            → Works set (opening_fronts a) w.before.value (lines_of_processor n ts) (fronts_in o)
            → (0 < pass_count ws → IsGone (opening_fronts a) line → AnyGone line ws)
            → 0 < cond (is_some o) 1 0 + pass_count ws
            → IsGoneFor o line ⊎ AnyGone line ws
        by_front None works rest low = inr (rest (omega (arith, low)) gone)
        by_front (Some p) works rest low =
            inl
            (gone_on (opening_fronts a) (view_of p).fronts line
            (works_below set (opening_fronts a) (view_of p).fronts w.before.value
            (lines_of_processor n ts) works) gone)

  -- ---- cached translations
  part_holds :
      (b : List State) (n : ℕ) (w : Worker L)
      → DoneWith keeps set table lines n (picks n) w
      →
      ((line : Line)
      → line.entry < 2 ^ (table.order - 4)
      → IsSeenFor a w.pass line
      → Holding b line)
      → ((line : Line) → Holding a line → Holding b line)
      → AllCached (Holding b) w.cpu.cache
  part_holds b n w h f kept =
      by_done n w
      (λ o.
      ((line : Line)
      → line.entry < 2 ^ (table.order - 4)
      → IsSeenFor a o line
      → Holding b line)
      → AllCached (Holding b) w.cpu.cache)
      (λ p run g.
      all_cached_weaker (IsSeenBy table p) (Holding b) (λ line s. g line s.inside s.seen)
      w.cpu.cache run.seen)
      (λ idle g. all_cached_weaker (Holding a) (Holding b) kept w.cpu.cache idle.hold) h f

  pub all_hold :
      (b : List State) (n : ℕ) (ws : List (Worker L))
      → AllNumbered (λ j w. DoneWith keeps set table lines j (picks j) w) n ws
      → ((line : Line) → line.entry < 2 ^ (table.order - 4) → AnySeen a line ws → Holding b line)
      → ((line : Line) → Holding a line → Holding b line)
      → AllHold b (map (λ (w : Worker L). w.cpu) ws)
  all_hold b n [] h f kept = tt
  all_hold b n (w ∷ ws) h f kept = (
    part_holds b n w h.0 (λ line inside s. f line inside (inl s)) kept,
    all_hold b (suc n) ws h.1 (λ line inside s. f line inside (inr s)) kept,
  )

  -- ---- how many have passes
  abbrev counted : Option Pass → ℕ
  counted o = cond (is_some o) 1 0

  some_pass : (o : Option Pass) (P : Pass → Type 0) → IsSomeAnd o P → counted o ≡ 1
  some_pass None P h = absurd h
  some_pass (Some p) P h = refl

  some_lines : (ls : List TraceLine) → ls ≢ [] → min 1 (length ls) ≡ 1
  some_lines [] h = absurd (h refl)
  some_lines (l ∷ ls) h = omega arith

  part_count :
      (n : ℕ) (w : Worker L)
      → IsDone keeps set table n lines w
      → counted w.pass ≡ min 1 (length (lines_of_cpu n lines))
  part_count n w (inl idle) =
      ap counted idle.no_pass ∙ sym (ap (λ ls. min 1 (length ls)) idle.no_line)
  part_count n w (inr ended) =
      some_pass w.pass (HasRun set table n lines ended.replies w) ended.run
      ∙ sym (some_lines (lines_of_cpu n lines) ended.some)

  pub passes_counted :
      (n : ℕ) (ws : List (Worker L))
      → AllNumbered (λ j w. IsDone keeps set table j lines w) n ws
      → pass_count ws ≡ count_with_lines (length ws) n lines
  passes_counted n [] h = refl
  passes_counted n (w ∷ ws) h = (λ j. part_count n w h.0 j + passes_counted (suc n) ws h.1 j)
