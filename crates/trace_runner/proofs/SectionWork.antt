-- What the processors of a section did together, and what there is after the section.
use Rattle.std.proofs.Common.{◌≡◌, ℕ, zero, suc, ◌+◌, ◌<◌, ◌≤◌, List, [], ◌∷◌, length, map, true, false, ap, sym, ◌∙◌, refl, subst, ◌⊎◌, inl, inr, eqb, arith}
use Rattle.std.specs.List.{AllByRecursion}
use Rattle.std.proofs.lemmas.Bool.{cases_Bool, eqb-true, cases_lt}
use Rattle.std.proofs.lemmas.List.{length-map}
use Rattle.entry_model.specs.State.{State}
use Rattle.entry_model.specs.declared.line.Line.{Line}
use Rattle.entry_model.specs.declared.receipt.Receipt.{Receipt}
use Rattle.entry_model.specs.Run.{state_at}
use Rattle.entry_model.specs.History.{pair_of, IsLegal, history}
use Rattle.entry_model.specs.Fronts.{front_at, opening_fronts, IsGone}
use Rattle.entry_model.proofs.FrontLaws.{keeps_below}
use Rattle.entry_lock.specs.declared.table.LockTable.{LockTable}
use Rattle.entry_lock.specs.declared.table.Pass.{Pass}
use Rattle.entry_lock.specs.PassOfTable.{view_of}
use Rattle.entry_lock.specs.Closing.{Closes}
use Rattle.run_model.specs.StoreContexts.{StoreContext}
use Rattle.tlb_model.specs.Processor.{Processor}
use Rattle.trace_line.specs.declared.line.TraceLine.{TraceLine}
use Rattle.trace_reply.specs.declared.reply.Reply.{Reply}
use Rattle.trace_reply.specs.Replies.{RepliedLine, receipts_in, lines_with_replies}
use Rattle.run_model.specs.Processors.{processor_at, processor_after}
use Rattle.run_model.specs.Histories.{lines_of_processor, receipts_by, receipts_from_processor}
use Rattle.run_model.specs.Sections.{processors_after_lines, Section, made_in as made_by}
use Rattle.run_model.specs.ParallelRun.{Works, AllWork, RunsApart}
use Rattle.basics.proofs.Each.{each_append}
use Rattle.trace_runner.specs.declared.worker.Worker.{Worker}
use Rattle.trace_runner.specs.Workers.{Keeping, lines_of_cpu, replied_lines_of_cpu, processors_before, AllNumbered}
use Rattle.trace_runner.proofs.Numbered.{all_of}
use Rattle.trace_runner.specs.SectionRun.{pass_count, AnyGone, IsJoinOf}
use Rattle.trace_runner.specs.StoreRuns.{HavePicked, section_on}
use Rattle.trace_runner.proofs.ProcessorWork.{works_below, IsPart, made_is, processors_are, fronts_of, works_at, fronts_past, gone_case, opening_gone}

-- ---- lines of no processor
pub no_own :
    (n cpu : ℕ) (lines : List TraceLine)
    → AllByRecursion (λ (l : TraceLine). l.cpu < n) lines
    → n ≤ cpu
    → lines_of_cpu cpu lines ≡ []
no_own n cpu [] h past = refl
no_own n cpu (l ∷ ls) h past = at (cases_Bool (eqb l.cpu cpu)) (no_own n cpu ls h.1 past) where
  at :
      (eqb l.cpu cpu ≡ true) ⊎ (eqb l.cpu cpu ≡ false)
      → lines_of_cpu cpu ls ≡ []
      → lines_of_cpu cpu (l ∷ ls) ≡ []
  at (inl same) rest = let e : l.cpu ≡ cpu = eqb-true l.cpu cpu same in absurd (omega (arith, h.0))
  at (inr other) rest = rw other rest

-- ---- receipts of a processor
works_inside :
    (set : StoreContext) (n : ℕ) (f g : List ℕ) (processor : Processor) (ts : List RepliedLine)
    → length f ≡ n
    → Works set f processor ts g
    → AllByRecursion (λ (r : Receipt). r.entry < n) (receipts_by ts)
works_inside set n f g processor [] size h = tt
works_inside set n f g processor (t ∷ ts) size h =
    let first = subst (λ m. AllByRecursion (λ (r : Receipt). r.entry < m) (receipts_in t.reply))
    size h.1.in_table in
    let next = (keeps_below f h.0 (receipts_in t.reply) h.1.keeps).size ∙ size in
    each_append (λ (r : Receipt). r.entry < n) (receipts_in t.reply) (receipts_by ts) first
    (works_inside set n h.0 g (processor_after processor t.line.act t.reply) ts next h.2)

pub listed_inside :
    (n m from : ℕ) (ts : List RepliedLine)
    →
    ((k : ℕ)
    → k < m
    → AllByRecursion (λ (r : Receipt). r.entry < n)
    (receipts_by (lines_of_processor (from + k) ts)))
    → AllByRecursion (λ (r : Receipt). r.entry < n) (receipts_from_processor m from ts)
listed_inside n zero from ts h = tt
listed_inside n (suc m) from ts h =
    let e : from + 0 ≡ from = omega arith in
    each_append (λ (r : Receipt). r.entry < n) (receipts_by (lines_of_processor from ts))
    (receipts_from_processor m (suc from) ts)
    (subst
    (λ k.
    AllByRecursion (λ (r : Receipt). r.entry < n) (receipts_by (lines_of_processor k ts)))
    e (h 0 (omega arith)))
    (listed_inside n m (suc from) ts
    (λ k low.
    let s : from + suc k ≡ suc from + k = omega arith in
    subst
    (λ i.
    AllByRecursion (λ (r : Receipt). r.entry < n)
    (receipts_by (lines_of_processor i ts))) s (h (suc k) (omega (arith, low)))))

past_end : (f : List ℕ) (e : ℕ) → length f ≤ e → front_at f e ≡ 0
past_end [] e h = refl
past_end (x ∷ xs) zero h = absurd (omega arith)
past_end (x ∷ xs) (suc e) h = past_end xs e (omega arith)

-- A line that is gone is of an entry that has a front.
gone_inside : (f : List ℕ) (line : Line) → IsGone f line → line.entry < length f
gone_inside f line gone = at (cases_lt line.entry (length f)) where
  at : (line.entry < length f) ⊎ (length f ≤ line.entry) → line.entry < length f
  at (inl h) = h
  at (inr h) = let zero_front = past_end f line.entry h in absurd (omega (arith, gone, zero_front))

-- Each processor's lines among all are its own with the replies that are picked for it.
pub own_parts :
    {L : Type 0} (lines : List TraceLine) (picks : ℕ → List Reply) (ts : List RepliedLine)
    (ws : List (Worker L))
    → HavePicked lines picks ts
    → AllNumbered (λ j x. lines_of_processor j ts ≡ replied_lines_of_cpu j lines (picks j)) 0 ws
own_parts lines picks ts ws own =
    all_of (λ j. lines_of_processor j ts ≡ replied_lines_of_cpu j lines (picks j)) 0 ws
    (λ k low. own k)

-- ---- the section
module _ {L : Type 0} (keeps : Keeping L) (set : StoreContext) (opening : List State)
    (processors : List Processor) (table : LockTable) (lines : List TraceLine)
    (picks : ℕ → List Reply) (ts : List RepliedLine) (ws : List (Worker L)) where
  abbrev s : Section
  s = section_on set opening processors ts

  pub after_parts :
      processors_before ws ≡ processors
      → AllNumbered (IsPart keeps set table lines ts picks) 0 ws
      → map (λ (x : Worker L). x.cpu) ws ≡ processors_after_lines 0 processors ts
  after_parts before parts =
      sym (processors_are keeps set table lines ts picks 0 ws parts)
      ∙ ap (λ s. processors_after_lines 0 s ts) before

  pub ran_apart : (all : Pass) (b : List State)
      → table.opening.items ≡ opening → 0 < pass_count ws
      → processors_before ws ≡ processors
      → AllByRecursion (λ (l : TraceLine). l.cpu < length ws) lines
      → HavePicked lines picks ts → AllNumbered (IsPart keeps set table lines ts picks) 0 ws
      → IsJoinOf table ws all → Closes table.opening.items (view_of all) b
      → RunsApart s b
  ran_apart all b is some before cpus own parts gathered closes = record {
    fronts = fronts;
    work = work;
    closed = record {
      size = closes.size ∙ ap length is;
      legal = record {
        in_table =
            subst
            (λ n.
            AllByRecursion (λ (r : Receipt). r.entry < length opening)
            (receipts_from_processor n 0 ts)) count
            (listed_inside (length opening) (length ws) 0 ts
            (λ k low.
            let e : k ≡ 0 + k = omega arith in
            subst
            (λ n.
            AllByRecursion (λ (r : Receipt). r.entry < length opening)
            (receipts_by (lines_of_processor n ts))) e
            (works_inside set (length opening) (opening_fronts a) (fronts k)
            (processor_at processors k) (lines_of_processor k ts) sizes
            (here k low))));
        legal =
            λ entry low.
            rw (sym made)
            (subst
            (λ l.
            IsLegal (state_at l entry) (history entry (view_of all).actor.receipts)
            (state_at b entry)) is
            (closes.legal entry (subst (λ l. entry < length l) (sym is) low)));
      };
      gone =
          λ cpu line gone.
          at line (inside_of cpu line gone)
          (gone_case keeps set table lines ts picks cpu ws line gone);
    };
    quiet = tt;
  } where
    a : List State
    a = table.opening.items

    fronts : ℕ → List ℕ
    fronts cpu = fronts_of keeps set table lines ts picks ws cpu

    count : length ws ≡ length processors
    count = sym (length-map ws (λ (x : Worker L). x.before.value)) ∙ ap length before

    sizes : length (opening_fronts a) ≡ length opening
    sizes = length-map a pair_of ∙ ap length is

    here :
        (cpu : ℕ)
        → cpu < length ws
        → Works set (opening_fronts a) (processor_at processors cpu) (lines_of_processor cpu ts)
        (fronts cpu)
    here cpu low = let e :
        0 + cpu ≡ cpu =
        omega arith in subst
        (λ n.
        Works set (opening_fronts a) (processor_at processors cpu)
        (lines_of_processor n ts) (fronts cpu)) e
        (subst
        (λ s.
        Works set (opening_fronts a) (processor_at s cpu)
        (lines_of_processor (0 + cpu) ts) (fronts cpu)) before
        (works_at keeps set table lines ts picks 0 cpu ws parts low))

    none_past : (cpu : ℕ) → length ws ≤ cpu → lines_of_processor cpu ts ≡ []
    none_past cpu past =
        own cpu
        ∙ ap (λ ls. lines_with_replies ls (picks cpu)) (no_own (length ws) cpu lines cpus past)

    work : AllWork s fronts
    work cpu =
        subst
        (λ l.
        Works set (opening_fronts l) (processor_at processors cpu) (lines_of_processor cpu ts)
        (fronts cpu)) is (each (cases_lt cpu (length ws))) where
          each :
              (cpu < length ws) ⊎ (length ws ≤ cpu)
              → Works set (opening_fronts a) (processor_at processors cpu)
              (lines_of_processor cpu ts)
              (fronts cpu)
          each (inl low) = here cpu low
          each (inr past) =
              rw (none_past cpu past) (fronts_past keeps set table lines ts picks ws cpu past)

    made : (view_of all).actor.receipts ≡ made_by s
    made =
        gathered.made
        ∙ made_is keeps set table lines ts picks 0 ws parts
        ∙ ap (λ n. receipts_from_processor n 0 ts) count

    closing :
        (line : Line)
        → line.entry < length a
        → AnyGone line ws
        → line.stamp < (state_at b line.entry).stamp
    closing line inside any = closes.gone line inside (gathered.gone line any)

    opening_size : length (opening_fronts a) ≡ length a
    opening_size = length-map a pair_of

    front_size : (cpu : ℕ) → (cpu < length ws) ⊎ (length ws ≤ cpu) → length (fronts cpu) ≡ length a
    front_size cpu (inl low) =
        (works_below set (opening_fronts a) (fronts cpu) (processor_at processors cpu)
        (lines_of_processor cpu ts) (here cpu low)).size
        ∙ opening_size
    front_size cpu (inr past) =
        ap length (fronts_past keeps set table lines ts picks ws cpu past) ∙ opening_size

    inside_of : (cpu : ℕ) (line : Line) → IsGone (fronts cpu) line → line.entry < length a
    inside_of cpu line gone =
        subst (λ n. line.entry < n) (front_size cpu (cases_lt cpu (length ws)))
        (gone_inside (fronts cpu) line gone)

    at :
        (line : Line)
        → line.entry < length a
        → AnyGone line ws ⊎ IsGone (opening_fronts a) line
        → line.stamp < (state_at b line.entry).stamp
    at line inside (inl any) = closing line inside any
    at line inside (inr gone) =
        closing line inside (opening_gone keeps set table lines ts picks 0 ws line parts some gone)
