-- A section that runs with nobody else at the table is good.
use Rattle.std.specs.Prelude.{IfSome, if◌then◌else◌, ◌==◌, max}
use Rattle.std.proofs.Common.{◌≡◌, ℕ, suc, ◌<◌, ◌≤◌, ◌+◌, ◌*◌, List, [], ◌∷◌, ◌++◌, Bool, true, false, ap, sym, ◌∙◌, refl, subst, ◌⊎◌, inl, inr, map, length, arith, Option, Some, None, cond, eqb, append_assoc}
use Rattle.std.specs.List.{AllByRecursion}
use Rattle.std.proofs.lemmas.Bool.{cond_both, cases_Bool, eqb-true}
use Rattle.std.proofs.lemmas.List.{length-map}
use Rattle.entry_model.specs.State.{State, Follows}
use Rattle.entry_model.specs.declared.line.Line.{Line}
use Rattle.entry_model.specs.declared.receipt.Receipt.{Receipt}
use Rattle.entry_model.specs.Receipt.{after_of}
use Rattle.entry_model.specs.Run.{state_at, IsRun, IsStep}
use Rattle.entry_model.proofs.Runs.{run_more, run-length}
use Rattle.entry_model.specs.History.{IsLegal, history, last_after, bits, pair_of, Regrouped, nothing, kept, swapped, twice}
use Rattle.entry_model.proofs.Follows.{same_or_more}
use Rattle.entry_model.proofs.RunFollows.{run_follows}
use Rattle.entry_model.proofs.LineLaws.{run_leaves}
use Rattle.entry_model.proofs.Regroup.{history_regrouped}
use Rattle.entry_model.proofs.RunHistory.{run_history, own_state, other_state}
use Rattle.tlb_model.specs.Processor.{Processor, without_cache}
use Rattle.papr_codes.specs.Hcalls.{hcall_of}
use Rattle.papr_codes.specs.declared.calls.Hcall.{Hcall}
use Rattle.trace_line.specs.declared.act.Act.{Act}
use Rattle.trace_reply.specs.Replies.{RepliedLine, receipts_in}
use Rattle.hpt_resize.specs.TableMemory.{with_states}
use Rattle.entry_model.specs.Fronts.{pair_beyond}
use Rattle.run_model.specs.GoodRun.{EachLineOfProcessor, IsAccessLine, IsGoodSection}
use Rattle.run_model.specs.Histories.{lines_of_processor, receipts_by, closing_from, closing_states, Event, made, InOrder, gone_events, events_by}
use Rattle.run_model.specs.LineReplies.{IsCallReply}
use Rattle.run_model.specs.Processors.{processor_at, processor_after, processors_after, gone_line_of, processors_behind}
use Rattle.run_model.specs.Quiet.{QuietPart}
use Rattle.run_model.specs.QuietLines.{run_resize, run_quiet_line}
use Rattle.run_model.specs.Sections.{Section, made_in, closing, section_end, after_quiet, quiet_on, section_of, processors_after_lines, sections_from}
use Rattle.run_model.specs.StoreContexts.{StoreContext, access_of}
use Rattle.run_model.specs.Stores.{Store, context_of, states_of}
use Rattle.basics.proofs.Each.{each_filter}
use Rattle.run_model.proofs.LinesByProcessor.{Cpus, InFileOrder, own_yes, own_no, processor_own, processor_other, processors_size, cpus_after, own_lines, own_processors, file_listed}
use Rattle.run_model.proofs.Undisturbed.{AreUndisturbed}
use Rattle.papr_codes.specs.declared.calls.Hcall.TheVariants as calls
use Rattle.trace_line.specs.declared.act.Act.TheVariants as acts

-- ---- the receipts of all lines
pub replied_lines_run :
    (set : StoreContext) (processors : List Processor) (a b : List State) (ts : List RepliedLine)
    → AreUndisturbed set processors a ts b
    → IsRun a (receipts_by ts) b
replied_lines_run set processors a b [] h = h
replied_lines_run set processors a b (t ∷ ts) h =
    run_more a h.0 b (receipts_in t.reply) (receipts_by ts) h.1.run
    (replied_lines_run set (processors_after processors t) h.0 b ts h.2)

pub within_run :
    (a b : List State) (rs : List Receipt)
    → IsRun a rs b
    → AllByRecursion (λ (r : Receipt). r.entry < length a) rs
within_run a b [] h = tt
within_run a b (r ∷ rs) h = (
  h.1.in_table,
  subst (λ n. AllByRecursion (λ (r : Receipt). r.entry < n) rs)
      (run-length a h.0 (r ∷ []) (h.0, h.1, refl)) (within_run h.0 b rs h.2),
)

pub each_regrouped :
    (P : Receipt → Type 0) {xs ys : List Receipt}
    → Regrouped xs ys
    → AllByRecursion P xs
    → AllByRecursion P ys
each_regrouped P nothing h = h
each_regrouped P (kept m r) h = (h.0, each_regrouped P r h.1)
each_regrouped P (swapped m n xs) h = (h.1.0, (h.0, h.1.1))
each_regrouped P (twice r s) h = each_regrouped P s (each_regrouped P r h)

-- ---- closing states
pub last_is : (s t : State) (ms : List Receipt) → IsLegal s ms t → t ≡ last_after s ms
last_is s t [] h = h
last_is s t (m ∷ ms) h = last_is (after_of m) t ms h.1

closing_from_is :
    (n : ℕ) (a b : List State) (ms : List Receipt)
    → length b ≡ length a
    → ((e : ℕ) → e < length a → IsLegal (state_at a e) (history (n + e) ms) (state_at b e))
    → closing_from n a ms ≡ b
closing_from_is n [] [] ms l h = refl
closing_from_is n [] (t ∷ b) ms l h = absurd (omega arith)
closing_from_is n (s ∷ a) [] ms l h = absurd (omega arith)
closing_from_is n (s ∷ a) (t ∷ b) ms l h =
    let zeroth : n + 0 ≡ n = omega arith in
    let first : t ≡ last_after s (history n ms) = last_is s t (history n ms)
    (subst (λ k. IsLegal s (history k ms) t) zeroth (h 0 (omega arith))) in
    let rest : closing_from (suc n) a ms ≡ b = closing_from_is (suc n) a b ms (omega arith)
    (λ e within.
    subst (λ k. IsLegal (state_at a e) (history k ms) (state_at b e))
    (let q : n + suc e ≡ suc n + e = omega arith in q) (h (suc e) (omega arith))) in
    λ i. sym first i ∷ rest i

pub closing_is :
    (a b : List State) (ms : List Receipt)
    → length b ≡ length a
    → ((e : ℕ) → e < length a → IsLegal (state_at a e) (history e ms) (state_at b e))
    → closing_states a ms ≡ b
unfolding closing_states
closing_is a b ms l h =
    closing_from_is 0 a b ms l
    (λ e within.
    subst (λ k. IsLegal (state_at a e) (history k ms) (state_at b e))
    (let q : e ≡ 0 + e = omega arith in q) (h e within))

-- ---- fronts
pub follows_pair : (s t : State) → Follows s t → pair_of s ≤ pair_of t
unfolding pair_of
follows_pair s t (inl touches) = at (same_or_more s t touches) where
  at : (t ≡ s) ⊎ (bits s < bits t) → s.stamp * 4 + bits s ≤ t.stamp * 4 + bits t
  at (inl same) = subst (λ x. s.stamp * 4 + bits s ≤ x.stamp * 4 + bits x) (sym same) (omega arith)
  at (inr more) = omega (arith, touches.stamp)
follows_pair s t (inr higher) = at s.referenced s.changed where
  at : (r c : Bool) → s.stamp * 4 + (cond r 1 0 + cond c 1 0) ≤ t.stamp * 4 + bits t
  at true true = omega arith
  at true false = omega arith
  at false true = omega arith
  at false false = omega arith

pub stamp_pair : (n : ℕ) (s : State) → n < s.stamp → (n + 1) * 4 ≤ pair_of s
unfolding pair_of
stamp_pair n s h = omega arith

-- one receipt on a list of states, before further events
step_in_order :
    (e p : ℕ) (a mid : List State) (r : Receipt) (evs : List Event)
    → IsStep a r mid
    → p ≤ pair_of (state_at a e)
    → ((q : ℕ) → q ≤ pair_of (state_at mid e) → InOrder e q evs)
    → InOrder e p (made r ∷ evs)
step_in_order e p a mid r evs step low rest = at (cases_Bool (r.entry == e)) where
  at : (r.entry == e ≡ true) ⊎ (r.entry == e ≡ false) → InOrder e p (made r ∷ evs)
  at (inl own) =
      let states = own_state a mid r e step (eqb-true r.entry e own) in
      let before : p ≤ pair_of r.before = subst (λ s. p ≤ pair_of s) (sym states.0) low in
      let after : InOrder e (pair_of (after_of r)) evs = rest (pair_of (after_of r))
      (subst (λ s. pair_of (after_of r) ≤ pair_of s) (sym states.1) (omega arith)) in
      rw own (before, after)
  at (inr other) =
      rw other (rest p (subst (λ s. p ≤ pair_of s) (sym (other_state a mid r e step other)) low))

-- the events of receipts on a list of states, before further events
run_in_order :
    (e p : ℕ) (a b : List State) (rs : List Receipt) (evs : List Event)
    → IsRun a rs b
    → p ≤ pair_of (state_at a e)
    → ((q : ℕ) → q ≤ pair_of (state_at b e) → InOrder e q evs)
    → InOrder e p (map (λ (r : Receipt). made r) rs ++ evs)
run_in_order e p a b [] evs run low rest =
    rest p (subst (λ s. p ≤ pair_of (state_at s e)) (sym run) low)
run_in_order e p a b (r ∷ rs) evs run low rest =
    step_in_order e p a run.0 r (map (λ (r : Receipt). made r) rs ++ evs) run.1 low
    (λ q k. run_in_order e q run.0 b rs evs run.2 k rest)

-- a raise by a line whose entry has left its stamp
left_in_order :
    (e p : ℕ) (a : List State) (line : Option Line) (evs : List Event)
    → IfSome line (λ l. l.stamp < (state_at a l.entry).stamp)
    → p ≤ pair_of (state_at a e)
    → ((q : ℕ) → q ≤ pair_of (state_at a e) → InOrder e q evs)
    → InOrder e p (gone_events line ++ evs)
left_in_order e p a None evs gone low rest = rest p low
left_in_order e p a (Some line) evs gone low rest =
    rest (if line.entry == e then max p (pair_beyond line) else p)
    (cond_both (line.entry == e) (max p (pair_beyond line)) p (λ n. n ≤ pair_of (state_at a e))
    (λ own. raised own) (λ other. low)) where
      higher : (s : State) → line.stamp < s.stamp → pair_beyond line ≤ pair_of s
      higher s h = stamp_pair line.stamp s h

      raised : line.entry == e ≡ true → max p (pair_beyond line) ≤ pair_of (state_at a e)
      raised own =
          let here :
          line.stamp < (state_at a e).stamp = subst (λ k. line.stamp < (state_at a k).stamp)
          (eqb-true line.entry e own) gone in
          let high : pair_beyond line ≤ pair_of (state_at a e) = higher (state_at a e) here in
          omega arith

pub replied_lines_in_order :
    (set : StoreContext) (cpu e p : ℕ) (processors : List Processor) (a b : List State)
    (ts : List RepliedLine)
    → Cpus (length processors) ts
    → AreUndisturbed set processors a ts b
    → p ≤ pair_of (state_at a e)
    → InOrder e p (events_by (processor_at processors cpu) (lines_of_processor cpu ts))
replied_lines_in_order set cpu e p processors a b [] within h low = tt
replied_lines_in_order set cpu e p processors a b (t ∷ ts) within h low =
    at (cases_Bool (eqb t.line.cpu cpu))
    (λ q k.
    replied_lines_in_order set cpu e q (processors_after processors t) h.0 b ts
    (cpus_after processors t ts within.1) h.2 k) where
      later : List Event
      later =
          events_by (processor_at (processors_after processors t) cpu) (lines_of_processor cpu ts)

      at :
          (eqb t.line.cpu cpu ≡ true) ⊎ (eqb t.line.cpu cpu ≡ false)
          → ((q : ℕ) → q ≤ pair_of (state_at h.0 e) → InOrder e q later)
          → InOrder e p (events_by (processor_at processors cpu) (lines_of_processor cpu (t ∷ ts)))
      at (inl own) rest =
          let same : t.line.cpu ≡ cpu = eqb-true t.line.cpu cpu own in
          let line = gone_line_of (processor_at processors t.line.cpu) t.line.act t.reply in
          let mine : InOrder e p
          (gone_events line ++ (map (λ (r : Receipt). made r) (receipts_in t.reply) ++ later)) =
          left_in_order e p a line (map (λ (r : Receipt). made r) (receipts_in t.reply) ++ later)
          h.1.gone low (λ q k. run_in_order e q a h.0 (receipts_in t.reply) later h.1.run k rest) in
          let processor : processor_at (processors_after processors t) cpu ≡ processor_after
          (processor_at processors t.line.cpu) t.line.act t.reply = ap
          (processor_at (processors_after processors t)) (sym same) ∙ processor_own processors t
          within.0 in
          let whole :
          events_by (processor_at processors t.line.cpu) (t ∷ lines_of_processor cpu ts) ≡
          gone_events line ++ (map (λ (r : Receipt). made r) (receipts_in t.reply) ++ later) =
          append_assoc (gone_events line) (map (λ (r : Receipt). made r) (receipts_in t.reply))
          (events_by (processor_after (processor_at processors t.line.cpu) t.line.act t.reply)
          (lines_of_processor cpu ts)) ∙ ap
          (λ s.
          gone_events line
          ++
          (map (λ (r : Receipt). made r) (receipts_in t.reply)
          ++ events_by s (lines_of_processor cpu ts))) (sym processor) in
          let all : events_by (processor_at processors cpu) (lines_of_processor cpu (t ∷ ts)) ≡
          gone_events line ++ (map (λ (r : Receipt). made r) (receipts_in t.reply) ++ later) = ap
          (events_by (processor_at processors cpu)) (own_yes cpu t ts same) ∙ ap
          (λ k. events_by (processor_at processors k) (t ∷ lines_of_processor cpu ts)) (sym same) ∙
          whole in
          subst (InOrder e p) (sym all) mine
      at (inr other) rest =
          let all :
          events_by (processor_at processors cpu) (lines_of_processor cpu (t ∷ ts)) ≡ later =
          ap (events_by (processor_at processors cpu)) (own_no cpu t ts other) ∙ ap
          (λ s. events_by s (lines_of_processor cpu ts))
          (sym (processor_other processors t cpu other)) in
          subst (InOrder e p) (sym all)
          (rest p
          (omega (
            arith,
            follows_pair (state_at a e) (state_at h.0 e)
                (run_follows a h.0 (receipts_in t.reply) e h.1.run),
          )))

-- ---- each line
pub replied_lines_calls :
    (set : StoreContext) (processors : List Processor) (a b : List State) (ts : List RepliedLine)
    → AreUndisturbed set processors a ts b
    → InFileOrder (λ processor t. IsCallReply set t.line.act t.reply) processors ts
replied_lines_calls set processors a b [] h = tt
replied_lines_calls set processors a b (t ∷ ts) h =
    (h.1.call, replied_lines_calls set (processors_after processors t) h.0 b ts h.2)

pub gone_on :
    (a b : List State) (rs : List Receipt) (line : Option Line)
    → IsRun a rs b
    → IfSome line (λ l. l.stamp < (state_at a l.entry).stamp)
    → IfSome line (λ l. l.stamp < (state_at b l.entry).stamp)
gone_on a b rs None run h = tt
gone_on a b rs (Some line) run h = run_leaves a b rs line run h

pub replied_lines_reaches :
    (set : StoreContext) (processors : List Processor) (a b : List State) (ts : List RepliedLine)
    → AreUndisturbed set processors a ts b
    → InFileOrder (IsAccessLine (access_of set) b) processors ts
replied_lines_reaches set processors a b [] h = tt
replied_lines_reaches set processors a b (t ∷ ts) h = (
  record {
    reply = h.1.access;
    gone =
        gone_on a b (receipts_by (t ∷ ts))
        (gone_line_of (processor_at processors t.line.cpu) t.line.act t.reply)
        (replied_lines_run set processors a b (t ∷ ts) h) h.1.gone;
  },
  replied_lines_reaches set (processors_after processors t) h.0 b ts h.2,
)

-- ---- a section
-- With nobody else at the store its lines lead to these states.
abbrev pub RunsAlone : Section → List State → Type 0
RunsAlone s b =
    AreUndisturbed (context_of s.before) s.before.processors (states_of s.before) s.replied_lines b

-- Each line has one of its processors.
abbrev pub OnCpus : Section → Type 0
OnCpus s = Cpus (length s.before.processors) s.replied_lines

-- The store after it.
abbrev pub behind : Section → List State → Store
behind s b =
    record s.before {
      memory = with_states s.before.memory b;
      processors = processors_behind s.before.processors s.replied_lines;
    }

-- The quiet line has the reply of that store.
abbrev pub QuietMeets : Section → List State → Type 0
QuietMeets s b = IfSome s.quiet (λ q. q.reply ≡ (run_quiet_line (behind s b) q.line.act).0)

pub alone_run :
    (s : Section) (b : List State)
    → RunsAlone s b
    → IsRun (states_of s.before) (receipts_by s.replied_lines) b
alone_run s b h =
    replied_lines_run (context_of s.before) s.before.processors (states_of s.before) b
    s.replied_lines h

pub section_legal :
    (s : Section) (b : List State)
    → OnCpus s
    → RunsAlone s b
    → (e : ℕ)
    → IsLegal (state_at (states_of s.before) e) (history e (made_in s)) (state_at b e)
section_legal s b within h e =
    history_regrouped e _ _ (receipts_by s.replied_lines) (made_in s)
    (file_listed (length s.before.processors) s.replied_lines within)
    (run_history e (states_of s.before) b (receipts_by s.replied_lines) (alone_run s b h))

pub alone_closes :
    (s : Section) (b : List State)
    → OnCpus s
    → RunsAlone s b
    → closing_states (states_of s.before) (made_in s) ≡ b
alone_closes s b within h =
    closing_is (states_of s.before) b (made_in s)
    (run-length (states_of s.before) b (receipts_by s.replied_lines) (alone_run s b h))
    (λ e k. section_legal s b within h e)

pub closes : (s : Section) (b : List State) → OnCpus s → RunsAlone s b → closing s ≡ behind s b
unfolding section_end
closes s b within h =
    let states : closing_states (states_of s.before) (made_in s) ≡ b = alone_closes s b within h in
    let processors :
    processors_after_lines 0 s.before.processors s.replied_lines ≡ processors_behind
    s.before.processors s.replied_lines = own_processors s.before.processors s.replied_lines
    within in
    λ i.
    record s.before { memory = with_states s.before.memory (states i); processors = processors i }

-- What runs alone is good.
pub section_good :
    (s : Section) (b : List State) → OnCpus s → RunsAlone s b → QuietMeets s b → IsGoodSection s
section_good s b within h q =
    let set = context_of s.before in
    let ps = s.before.processors in
    let a = states_of s.before in
    let ts = s.replied_lines in
    let e : behind s b ≡ closing s = sym (closes s b within h) in
    record {
      legal = record {
        in_table =
            each_regrouped (λ (r : Receipt). r.entry < length a) (file_listed (length ps) ts within)
            (within_run a b (receipts_by ts) (alone_run s b h));
        legal =
            λ k low.
            subst
            (λ (v : Store).
            IsLegal (state_at a k) (history k (made_in s)) (state_at (states_of v) k)) e
            (section_legal s b within h k);
      };
      in_order =
          λ cpu k.
          replied_lines_in_order set cpu k (pair_of (state_at a k)) ps a b ts within h
          (omega arith);
      calls =
          λ cpu.
          own_lines (λ processor t. IsCallReply set t.line.act t.reply) ps ts cpu within
          (replied_lines_calls set ps a b ts h);
      accesses =
          λ cpu.
          subst
          (λ (v : Store).
          EachLineOfProcessor (IsAccessLine (access_of set) (states_of v))
          (processor_at ps cpu) (lines_of_processor cpu ts)) e
          (own_lines (IsAccessLine (access_of set) b) ps ts cpu within
          (replied_lines_reaches set ps a b ts h));
      quiet = subst (λ v. IfSome s.quiet (λ q. q.reply ≡ (run_quiet_line v q.line.act).0)) e q;
    }

-- ---- all sections
-- Each section's lines run alone, from the store after the one before it, and each quiet line has
-- its reply.
abbrev pub Stands : (Act → Bool) → Store → List RepliedLine → List QuietPart → Type 0
Stands on s ts [] = (b : List State) × RunsAlone (section_of on s ts None) b
Stands on s ts (q ∷ qs) =
    let x = section_of on s ts (quiet_on on q.0) in
    (b : List State)
    × RunsAlone x b
    × QuietMeets x b
    × Stands on (after_quiet (behind x b) x.quiet) q.1 qs

pub processors_on_size :
    (processors : List Processor) (ts : List RepliedLine)
    → length (processors_behind processors ts) ≡ length processors
processors_on_size processors [] = refl
processors_on_size processors (t ∷ ts) =
    processors_on_size (processors_after processors t) ts ∙ processors_size processors t

committed_size :
    (s : Store) (b : Bool)
    → length (if b then map without_cache s.processors else s.processors) ≡ length s.processors
committed_size s true = length-map s.processors without_cache
committed_size s false = refl

resize_size :
    (s : Store) (call : Hcall) (args : List ℕ)
    → length (run_resize s call args).1.processors ≡ length s.processors
unfolding run_resize
resize_size s calls.Prepare args = refl
resize_size s calls.Commit args = committed_size s _
resize_size s other args = refl

pub quiet_size :
    (s : Store) (act : Act) → length (run_quiet_line s act).1.processors ≡ length s.processors
unfolding run_quiet_line
quiet_size s (acts.Call number args spelt) = resize_size s (hcall_of number) args
quiet_size s other = refl

pub after_size :
    (s : Store) (quiet : Option RepliedLine)
    → length (after_quiet s quiet).processors ≡ length s.processors
after_size s None = refl
after_size s (Some q) = quiet_size s q.line.act

-- Each line of each section has one of n processors.
abbrev pub AllCpus : ℕ → List RepliedLine → List QuietPart → Type 0
AllCpus n ts qs = Cpus n ts × AllByRecursion (λ (q : QuietPart). Cpus n q.1) qs

pub on_cpus :
    (on : Act → Bool) (n : ℕ) (s : Store) (ts : List RepliedLine) (quiet : Option RepliedLine)
    → length s.processors ≡ n
    → Cpus n ts
    → OnCpus (section_of on s ts quiet)
on_cpus on n s ts quiet size h =
    each_filter (λ (t : RepliedLine). t.line.cpu < length s.processors)
    (λ (t : RepliedLine). on t.line.act) ts (subst (λ k. Cpus k ts) (sym size) h)

pub sections_good :
    (on : Act → Bool) (n : ℕ) (s : Store) (ts : List RepliedLine) (qs : List QuietPart)
    → length s.processors ≡ n
    → AllCpus n ts qs
    → Stands on s ts qs
    → AllByRecursion IsGoodSection (sections_from on s ts qs)
sections_good on n s ts [] size cpus h =
    (section_good (section_of on s ts None) h.0 (on_cpus on n s ts None size cpus.0) h.1 tt, tt)
sections_good on n s ts (q ∷ qs) size cpus h =
    let x = section_of on s ts (quiet_on on q.0) in
    let within : OnCpus x = on_cpus on n s ts x.quiet size cpus.0 in
    let v = after_quiet (behind x h.0) x.quiet in
    let size' : length v.processors ≡ n = after_size (behind x h.0) x.quiet ∙ processors_on_size
    s.processors x.replied_lines ∙ size in (
      section_good x h.0 within h.1 h.2,
      subst (λ v. AllByRecursion IsGoodSection (sections_from on (after_quiet v x.quiet) q.1 qs))
          (sym (closes x h.0 within h.1))
          (sections_good on n v q.1 qs size' (cpus.1.0, cpus.1.1) h.3),
    )
