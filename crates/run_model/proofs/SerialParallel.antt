-- Lines that run with nobody else at the table are also lines of processors that work on their own:
-- each has come, on every entry, to the state after its own last line.
use Rattle.std.specs.Prelude.{IfSome, Bool, if◌then◌else◌}
use Rattle.std.proofs.Common.{◌≡◌, ℕ, zero, suc, ◌<◌, ◌≤◌, ◌+◌, ◌*◌, List, [], ◌∷◌, ap, sym, ◌∙◌, subst, ◌⊎◌, inl, inr, map, length, true, false, refl, arith, Option, Some, None, eqb}
use Rattle.std.specs.List.{AllByRecursion}
use Rattle.std.proofs.lemmas.Bool.{cases_Bool, eqb-true}
use Rattle.std.proofs.lemmas.List.{length-map, map-set}
use Rattle.entry_model.specs.State.{State}
use Rattle.entry_model.specs.declared.line.Line.{Line}
use Rattle.entry_model.specs.declared.receipt.Receipt.{Receipt}
use Rattle.entry_model.specs.Receipt.{after_of}
use Rattle.entry_model.specs.Run.{state_at, IsRun, IsStep}
use Rattle.entry_model.proofs.Runs.{run-length}
use Rattle.entry_model.specs.CachedLines.{AllLater}
use Rattle.entry_model.specs.History.{bits, pair_of}
use Rattle.entry_model.specs.Fronts.{front_at, opening_fronts, fronts_after, AreBelow, KeepsFronts, IsGone}
use Rattle.entry_model.proofs.RunFollows.{run_follows}
use Rattle.entry_model.proofs.FrontLaws.{below_self, below_on, lower_keeps}
use Rattle.entry_model.proofs.LineLaws.{run_past}
use Rattle.tlb_model.specs.Processor.{Processor}
use Rattle.trace_line.specs.declared.act.Act.{Act}
use Rattle.trace_read.specs.Trace.{AcceptedTrace, IsAccepted}
use Rattle.trace_reply.specs.Replies.{RepliedLine, receipts_in, lines_with_replies}
use Rattle.run_model.specs.Histories.{lines_of_processor, receipts_by}
use Rattle.run_model.specs.ParallelRun.{WorksLine, Works, IsClosed, RunsApart, RunsParallel, IsParallelOn, IsParallel}
use Rattle.run_model.specs.Processors.{processor_at, processor_after, processors_after, gone_line_of}
use Rattle.run_model.specs.Quiet.{QuietPart, cut}
use Rattle.run_model.specs.QuietLines.{run_quiet_line}
use Rattle.run_model.specs.Sections.{Section, closing_on, after_quiet, quiet_on, section_of}
use Rattle.run_model.specs.SerialRun.{serial_replies}
use Rattle.run_model.specs.StoreContexts.{StoreContext}
use Rattle.run_model.specs.Stores.{Store, context_of, states_of, opening_stores, is_on}
use Rattle.basics.proofs.Each.{each_map}
use Rattle.run_model.proofs.LinesByProcessor.{Cpus, own_yes, own_no, processor_own, processor_other, cpus_after, own_processors, file_listed}
use Rattle.run_model.proofs.SectionGood.{AllCpus, OnCpus, RunsAlone, QuietMeets, Stands, behind, alone_run, within_run, each_regrouped, section_legal, follows_pair, stamp_pair, on_cpus, after_size, processors_on_size, gone_on}
use Rattle.run_model.proofs.StoreSerial.{RunsHere, each_runs, serial_cpus}
use Rattle.run_model.proofs.Undisturbed.{IsUndisturbed, AreUndisturbed}
use Rattle.hpt_resize.specs.TableMemory.{with_states}

-- ---- the fronts of states
pub front_of : (a : List State) (e : ℕ) → front_at (opening_fronts a) e ≡ pair_of (state_at a e)
unfolding pair_of
front_of [] e = refl
front_of (s ∷ a) zero = refl
front_of (s ∷ a) (suc e) = front_of a e

below_run :
    (a b : List State) (rs : List Receipt)
    → IsRun a rs b
    → AreBelow (opening_fronts a) (opening_fronts b)
below_run a b rs run = record {
  size = length-map b pair_of ∙ run-length a b rs run ∙ sym (length-map a pair_of);
  low =
      λ e.
      let high : pair_of (state_at a e) ≤ pair_of (state_at b e) = follows_pair (state_at a e)
      (state_at b e) (run_follows a b rs e run) in
      omega (arith, high, front_of a e, front_of b e);
}

step_fronts :
    (a mid : List State) (r : Receipt)
    → IsStep a r mid
    → fronts_after (opening_fronts a) r ≡ opening_fronts mid
step_fronts a mid r step =
    sym (map-set pair_of a r.entry (after_of r)) ∙ ap (map pair_of) (sym step.after)

run_keeps :
    (a b : List State) (rs : List Receipt)
    → IsRun a rs b
    → KeepsFronts (opening_fronts a) rs (opening_fronts b)
run_keeps a b [] run =
    subst (λ (s : List State). AreBelow (opening_fronts a) (opening_fronts s)) (sym run)
    (below_self (opening_fronts a))
run_keeps a b (r ∷ rs) run =
    let here : pair_of r.before ≡ front_at (opening_fronts a) r.entry = ap pair_of run.1.before ∙
    sym (front_of a r.entry) in (
      omega (arith, here),
      subst (λ f. KeepsFronts f rs (opening_fronts b)) (sym (step_fronts a run.0 r run.1))
          (run_keeps run.0 b rs run.2),
    )

-- ---- lines that were gone
gone_by :
    (b : List State) (line : Line)
    → line.stamp < (state_at b line.entry).stamp
    → IsGone (opening_fronts b) line
gone_by b line h = let high :
    (line.stamp + 1) * 4 ≤ pair_of (state_at b line.entry) =
    stamp_pair line.stamp (state_at b line.entry) h in omega
    (arith, high, front_of b line.entry)

pub bits_few : (r c : Bool) → (if r then 1 else 0) + (if c then 1 else 0) ≤ 2
bits_few true true = omega arith
bits_few true false = omega arith
bits_few false true = omega arith
bits_few false false = omega arith

by_gone :
    (g : List ℕ) (b : List State) (line : Line)
    → AreBelow g (opening_fronts b)
    → IsGone g line
    → line.stamp < (state_at b line.entry).stamp
unfolding pair_of
by_gone g b line below gone =
    let s = state_at b line.entry in
    let few : bits s ≤ 2 = bits_few s.referenced s.changed in
    let high : (line.stamp + 1) * 4 ≤ s.stamp * 4 + bits s = omega
    (arith, gone, below.low line.entry, front_of b line.entry) in
    omega (arith, few, high)

-- ---- a processor
-- Its lines lead from these fronts to some that are not above the states' own.
abbrev WorksBelow : StoreContext → List ℕ → Processor → List RepliedLine → List State → Type 0
WorksBelow set f processor ts b =
    (g : List ℕ) × Works set f processor ts g × AreBelow g (opening_fronts b)

left_gone :
    (mid : List State) (line : Option Line)
    → IfSome line (λ l. l.stamp < (state_at mid l.entry).stamp)
    → IfSome line (IsGone (opening_fronts mid))
left_gone mid None h = tt
left_gone mid (Some line) h = gone_by mid line h

past_by :
    (a mid : List State) (rs : List Receipt) (line : Option Line)
    → IsRun a rs mid
    → IfSome line (λ l. l.stamp < (state_at a l.entry).stamp)
    → IfSome line (λ l. AllLater l rs)
past_by a mid rs None run h = tt
past_by a mid rs (Some line) run h = run_past a mid rs line run h

-- One of its lines leads to the states' own fronts.
one_works :
    (set : StoreContext) (f : List ℕ) (processor : Processor) (a mid : List State) (t : RepliedLine)
    → AreBelow f (opening_fronts a)
    → IsUndisturbed set processor a t mid
    → WorksLine set f processor t (opening_fronts mid)
one_works set f processor a mid t below h =
    let line = gone_line_of processor t.line.act t.reply in
    let rs = receipts_in t.reply in
    let size : length a ≡ length f = sym (length-map a pair_of) ∙ below.size in
    record {
      call = h.call;
      access = h.access;
      in_table =
          subst (λ n. AllByRecursion (λ (r : Receipt). r.entry < n) rs) size
          (within_run a mid rs h.run);
      keeps =
          lower_keeps f (opening_fronts a) (opening_fronts mid) rs below (run_keeps a mid rs h.run);
      comes_later = past_by a mid rs line h.run h.gone;
      gone = left_gone mid line (gone_on a mid rs line h.run h.gone);
    }

works_below :
    (set : StoreContext) (cpu : ℕ) (f : List ℕ) (processors : List Processor) (a b : List State)
    (ts : List RepliedLine)
    → Cpus (length processors) ts
    → AreUndisturbed set processors a ts b
    → AreBelow f (opening_fronts a)
    → WorksBelow set f (processor_at processors cpu) (lines_of_processor cpu ts) b
works_below set cpu f processors a b [] within h below =
    (f, refl, subst (λ (s : List State). AreBelow f (opening_fronts s)) (sym h) below)
works_below set cpu f processors a b (t ∷ ts) within h below =
    at (cases_Bool (eqb t.line.cpu cpu))
    (λ g k.
    works_below set cpu g (processors_after processors t) h.0 b ts
    (cpus_after processors t ts within.1) h.2 k) where
      mid : List State
      mid = h.0

      at :
          (eqb t.line.cpu cpu ≡ true) ⊎ (eqb t.line.cpu cpu ≡ false)
          →
          ((g : List ℕ)
          → AreBelow g (opening_fronts mid)
          → WorksBelow set g (processor_at (processors_after processors t) cpu)
          (lines_of_processor cpu ts) b)
          → WorksBelow set f (processor_at processors cpu) (lines_of_processor cpu (t ∷ ts)) b
      at (inl own) rest =
          let same : t.line.cpu ≡ cpu = eqb-true t.line.cpu cpu own in
          let processor : processor_at (processors_after processors t) cpu ≡ processor_after
          (processor_at processors cpu) t.line.act t.reply = ap
          (processor_at (processors_after processors t)) (sym same) ∙ processor_own processors t
          within.0 ∙ ap (λ k. processor_after (processor_at processors k) t.line.act t.reply) same
          in
          let first :
          WorksLine set f (processor_at processors cpu) t (opening_fronts mid) = one_works
          set f (processor_at processors cpu) a mid t below
          (subst (λ k. IsUndisturbed set (processor_at processors k) a t mid) same h.1) in
          let later : WorksBelow set (opening_fronts mid)
          (processor_after (processor_at processors cpu) t.line.act t.reply)
          (lines_of_processor cpu ts) b = subst
          (λ s. WorksBelow set (opening_fronts mid) s (lines_of_processor cpu ts) b) processor
          (rest (opening_fronts mid) (below_self (opening_fronts mid))) in
          subst (λ us. WorksBelow set f (processor_at processors cpu) us b)
          (sym (own_yes cpu t ts same)) (later.0, (opening_fronts mid, first, later.1), later.2)
      at (inr other) rest =
          let up :
          AreBelow f (opening_fronts mid) = below_on f (opening_fronts a) (opening_fronts mid)
          below (below_run a mid (receipts_in t.reply) h.1.run) in
          let later : WorksBelow set f (processor_at processors cpu) (lines_of_processor cpu ts) b =
          subst (λ s. WorksBelow set f s (lines_of_processor cpu ts) b)
          (processor_other processors t cpu other) (rest f up) in
          subst (λ us. WorksBelow set f (processor_at processors cpu) us b)
          (sym (own_no cpu t ts other)) later

-- ---- a section
all_work :
    (s : Section) (b : List State)
    → OnCpus s
    → RunsAlone s b
    → (cpu : ℕ)
    → WorksBelow (context_of s.before) (opening_fronts (states_of s.before))
    (processor_at s.before.processors cpu) (lines_of_processor cpu s.replied_lines) b
all_work s b within h cpu =
    works_below (context_of s.before) cpu (opening_fronts (states_of s.before)) s.before.processors
    (states_of s.before) b s.replied_lines within h
    (below_self (opening_fronts (states_of s.before)))

closed :
    (s : Section) (b : List State) (within : OnCpus s) (h : RunsAlone s b)
    → IsClosed s (λ cpu. (all_work s b within h cpu).0) b
closed s b within h =
    let a = states_of s.before in
    let run : IsRun a (receipts_by s.replied_lines) b = alone_run s b h in
    record {
      size = run-length a b (receipts_by s.replied_lines) run;
      legal = record {
        in_table =
            each_regrouped (λ (r : Receipt). r.entry < length a)
            (file_listed (length s.before.processors) s.replied_lines within)
            (within_run a b (receipts_by s.replied_lines) run);
        legal = λ e k. section_legal s b within h e;
      };
      gone =
          λ cpu line gone.
          by_gone (all_work s b within h cpu).0 b line (all_work s b within h cpu).2 gone;
    }

behind_is : (s : Section) (b : List State) → OnCpus s → behind s b ≡ closing_on s b
behind_is s b within =
    ap (λ ps. record s.before { memory = with_states s.before.memory b; processors = ps })
    (sym (own_processors s.before.processors s.replied_lines within))

apart : (s : Section) (b : List State) → OnCpus s → RunsAlone s b → QuietMeets s b → RunsApart s b
apart s b within h q = record {
  fronts = λ cpu. (all_work s b within h cpu).0;
  work = λ cpu. (all_work s b within h cpu).1;
  closed = closed s b within h;
  quiet =
      subst (λ v. IfSome s.quiet (λ q. q.reply ≡ (run_quiet_line v q.line.act).0))
      (behind_is s b within) q;
}

-- ---- all sections
pub stands_apart :
    (on : Act → Bool) (n : ℕ) (s : Store) (ts : List RepliedLine) (qs : List QuietPart)
    → length s.processors ≡ n
    → AllCpus n ts qs
    → Stands on s ts qs
    → RunsParallel on s ts qs
stands_apart on n s ts [] size cpus h =
    (h.0, apart (section_of on s ts None) h.0 (on_cpus on n s ts None size cpus.0) h.1 tt)
stands_apart on n s ts (q ∷ qs) size cpus h =
    let x = section_of on s ts (quiet_on on q.0) in
    let within : OnCpus x = on_cpus on n s ts x.quiet size cpus.0 in
    let v = after_quiet (behind x h.0) x.quiet in
    let size' : length v.processors ≡ n = after_size (behind x h.0) x.quiet ∙ processors_on_size
    s.processors x.replied_lines ∙ size in (
      h.0,
      apart x h.0 within h.1 h.2,
      subst (λ v. RunsParallel on (after_quiet v x.quiet) q.1 qs) (behind_is x h.0 within)
          (stands_apart on n v q.1 qs size' (cpus.1.0, cpus.1.1) h.3),
    )

-- ---- the serial run
pub serial_parallel : (t : AcceptedTrace) → IsAccepted t → IsParallel t (serial_replies t)
serial_parallel t is =
    let c = cut (lines_with_replies t.lines (serial_replies t)) in
    each_map (RunsHere t) (IsParallelOn t (serial_replies t)) (opening_stores t.config)
    (λ s h.
    stands_apart (is_on t.config.windows s.window) t.config.cpus s c.0 c.1 h.1
    (serial_cpus t is) h.0) (each_runs t is)
