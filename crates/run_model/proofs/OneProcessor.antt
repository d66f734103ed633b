-- The good runs of one processor run with nobody else at the table.
use Rattle.std.specs.Prelude.{IfSome, if◌then◌else◌, ◌==◌, max, filter, slice_set}
use Rattle.std.proofs.Common.{◌≡◌, ℕ, suc, ◌<◌, ◌≤◌, ◌+◌, ◌*◌, List, [], ◌∷◌, ◌++◌, Bool, true, false, ap, sym, ◌∙◌, refl, subst, ◌⊎◌, inl, inr, set, map, length, length-set, arith, Option, Some, None, eqb, append_assoc}
use Rattle.std.specs.List.{AllByRecursion}
use Rattle.std.proofs.lemmas.Bool.{cases_Bool, eq-eqb, eqb-true, eqb-false}
use Rattle.std.proofs.lemmas.Bool.Decides.{nat_tests}
use Rattle.std.proofs.lemmas.List.{get_or-set_same, get_or-set_other}
use Rattle.entry_model.specs.State.{State, empty_state}
use Rattle.entry_model.specs.declared.line.Line.{Line}
use Rattle.entry_model.specs.declared.receipt.Receipt.{Receipt}
use Rattle.entry_model.specs.Receipt.{after_of}
use Rattle.entry_model.specs.Run.{state_at, IsRun, IsStep}
use Rattle.entry_model.specs.History.{IsLegal, history, by_place, put_in, precedes, place, pair_of}
use Rattle.entry_model.proofs.Regroup.{history_regrouped, regrouped_back, put_front}
use Rattle.entry_model.proofs.Sorted.{rises, flag, place_same, bits_low}
use Rattle.entry_model.proofs.RunHistory.{run_chain}
use Rattle.tlb_model.specs.Processor.{Processor}
use Rattle.trace_line.specs.declared.act.Act.{Act}
use Rattle.run_model.specs.GoodRun.{IsAccessLine, IsGoodSection}
use Rattle.run_model.specs.Histories.{lines_of_processor, receipts_by, closing_states, closing_from, Event, made, gone, InOrder, gone_events, events_by}
use Rattle.run_model.specs.Laws.{HasOneProcessor}
use Rattle.run_model.specs.LineReplies.{IsCallReply}
use Rattle.run_model.specs.Processors.{processor_at, processor_after, processors_after, gone_line_of}
use Rattle.run_model.specs.Quiet.{QuietPart, cut, cut_before}
use Rattle.run_model.specs.QuietLines.{run_quiet_line}
use Rattle.run_model.specs.Sections.{Section, made_in, closing, section_end, after_quiet, quiet_on, section_of, sections_from}
use Rattle.run_model.specs.StoreContexts.{StoreContext, access_of}
use Rattle.run_model.specs.Stores.{Store, context_of, states_of}
use Rattle.basics.proofs.Each.{each_filter}
use Rattle.run_model.proofs.LinesByProcessor.{Cpus, InFileOrder, own_yes, processor_own, cpus_after, file_lines, file_listed}
use Rattle.run_model.proofs.SectionGood.{each_regrouped, AllCpus, OnCpus, RunsAlone, QuietMeets, Stands, behind, closes, on_cpus, after_size, processors_on_size}
use Rattle.run_model.proofs.Undisturbed.{AreUndisturbed}
use Rattle.trace_line.specs.declared.line.TraceLine.{TraceLine}
use Rattle.trace_line.specs.Lines.{is_quiet}
use Rattle.trace_reply.specs.declared.reply.Reply.{Reply}
use Rattle.trace_reply.specs.Replies.{RepliedLine, receipts_in, lines_with_replies}
use Rattle.entry_model.specs.Fronts.{pair_beyond}

-- ---- receipts of one entry and one processor, in its order
-- The pair of each receipt's state before isn't below that of the state that the receipt before it
-- left; for the first receipt it isn't below p.
abbrev pub Rising : ℕ → List Receipt → Type 0
Rising p [] = Unit {0}
Rising p (r ∷ rs) = (p ≤ pair_of r.before) × Rising (pair_of (after_of r)) rs

lower : (p q : ℕ) (rs : List Receipt) → p ≤ q → Rising q rs → Rising p rs
lower p q [] h k = tt
lower p q (r ∷ rs) h k = (omega (arith, k.0), k.1)

-- two in a row are in the order of their places
in_place : (x y : Receipt) → pair_of (after_of x) ≤ pair_of y.before → place x ≤ place y
in_place x y h = at (rises x) where
  at : (after_of x ≡ x.before) ⊎ (pair_of x.before < pair_of (after_of x)) → place x ≤ place y
  at (inl same) =
      let low : place x ≡ pair_of x.before * 2 = place_same x same in
      let e : pair_of (after_of x) ≡ pair_of x.before = ap pair_of same in
      omega (arith, (flag y).0)
  at (inr more) = omega (arith, (flag x).1, (flag y).0)

pub precedes_level : (x y : Receipt) → place x ≤ place y → precedes x y ≡ true
precedes_level x y h = grind (arith, nat_tests)

-- such receipts are sorted already
sorted_is : (p : ℕ) (rs : List Receipt) → Rising p rs → by_place rs ≡ rs
sorted_is p [] k = refl
sorted_is p (x ∷ []) k = refl
sorted_is p (x ∷ y ∷ ys) k =
    let rest : by_place (y ∷ ys) ≡ y ∷ ys = sorted_is (pair_of (after_of x)) (y ∷ ys) k.1 in
    ap (put_in x) rest ∙ put_front x y ys (precedes_level x y (in_place x y k.1.0))

-- ---- from the events of the processor
-- The receipts of one entry, in their order.
abbrev pub of_entry : ℕ → List Receipt → List Receipt
of_entry e rs = filter (λ (r : Receipt). eqb r.entry e) rs

step_rising :
    (e p : ℕ) (r : Receipt) (evs : List Event) (rs : List Receipt)
    → InOrder e p (made r ∷ evs)
    → ((q : ℕ) → InOrder e q evs → Rising q (of_entry e rs))
    → Rising p (of_entry e (r ∷ rs))
step_rising e p r evs rs h rest = at (cases_Bool (eqb r.entry e)) where
  at : (eqb r.entry e ≡ true) ⊎ (eqb r.entry e ≡ false) → Rising p (of_entry e (r ∷ rs))
  at (inl own) = let k = rw own at h in rw own (k.0, rest (pair_of (after_of r)) k.1)
  at (inr other) = let k = rw other at h in rw other (rest p k)

receipts_rising :
    (e p : ℕ) (rs : List Receipt) (evs : List Event) (more : List Receipt)
    → InOrder e p (map (λ (r : Receipt). made r) rs ++ evs)
    → ((q : ℕ) → InOrder e q evs → Rising q (of_entry e more))
    → Rising p (of_entry e (rs ++ more))
receipts_rising e p [] evs more h rest = rest p h
receipts_rising e p (r ∷ rs) evs more h rest =
    step_rising e p r (map (λ (r : Receipt). made r) rs ++ evs) (rs ++ more) h
    (λ q k. receipts_rising e q rs evs more k rest)

left_rising :
    (e p : ℕ) (line : Option Line) (evs : List Event) (rs : List Receipt)
    → InOrder e p (gone_events line ++ evs)
    → ((q : ℕ) → InOrder e q evs → Rising q (of_entry e rs))
    → Rising p (of_entry e rs)
left_rising e p None evs rs h rest = rest p h
left_rising e p (Some line) evs rs h rest = at (cases_Bool (eqb line.entry e)) where
  at : (eqb line.entry e ≡ true) ⊎ (eqb line.entry e ≡ false) → Rising p (of_entry e rs)
  at (inl own) =
      let k = rw own at h in
      lower p (max p (pair_beyond line)) (of_entry e rs) (omega arith)
      (rest (max p (pair_beyond line)) k)
  at (inr other) = let k = rw other at h in rest p k

-- the events of the first line and of the rest
pub first_events :
    (processor : Processor) (t : RepliedLine) (ts : List RepliedLine)
    → events_by processor (t ∷ ts)
    ≡ gone_events (gone_line_of processor t.line.act t.reply)
    ++
    (map (λ (r : Receipt). made r) (receipts_in t.reply)
    ++ events_by (processor_after processor t.line.act t.reply) ts)
first_events processor t ts =
    append_assoc (gone_events (gone_line_of processor t.line.act t.reply))
    (map (λ (r : Receipt). made r) (receipts_in t.reply))
    (events_by (processor_after processor t.line.act t.reply) ts)

-- a processor's receipts on one entry
pub replied_lines_rising :
    (e p : ℕ) (processor : Processor) (ts : List RepliedLine)
    → InOrder e p (events_by processor ts)
    → Rising p (of_entry e (receipts_by ts))
replied_lines_rising e p processor [] h = tt
replied_lines_rising e p processor (t ∷ ts) h =
    let evs = events_by (processor_after processor t.line.act t.reply) ts in
    let h' : InOrder e p
    (gone_events (gone_line_of processor t.line.act t.reply)
    ++ (map (λ (r : Receipt). made r) (receipts_in t.reply) ++ evs)) = subst (InOrder e p)
    (first_events processor t ts) h in
    left_rising e p (gone_line_of processor t.line.act t.reply)
    (map (λ (r : Receipt). made r) (receipts_in t.reply) ++ evs) (receipts_by (t ∷ ts)) h'
    (λ q k.
    receipts_rising e q (receipts_in t.reply) evs (receipts_by ts) k
    (λ q' k'.
    replied_lines_rising e q' (processor_after processor t.line.act t.reply) ts k'))

-- all lines have this processor
abbrev pub OneCpu : ℕ → List RepliedLine → Type 0
OneCpu c ts = AllByRecursion (λ (t : RepliedLine). t.line.cpu ≡ c) ts

own_all : (c : ℕ) (ts : List RepliedLine) → OneCpu c ts → lines_of_processor c ts ≡ ts
own_all c [] one = refl
own_all c (t ∷ ts) one = own_yes c t ts one.0 ∙ ap (λ l. t ∷ l) (own_all c ts one.1)

-- ---- legal histories in the order of the lines are a run
same_states :
    (a b : List State)
    → length b ≡ length a
    → ((e : ℕ) → e < length a → state_at b e ≡ state_at a e)
    → b ≡ a
same_states [] [] l h = refl
same_states [] (t ∷ b) l h = absurd (omega arith)
same_states (s ∷ a) [] l h = absurd (omega arith)
same_states (s ∷ a) (t ∷ b) l h =
    let first : t ≡ s = h 0 (omega arith) in
    let rest : b ≡ a = same_states a b (omega arith) (λ e within. h (suc e) (omega arith)) in
    λ i. first i ∷ rest i

-- one entry's chain after the first receipt was made
chain_step :
    (e : ℕ) (a : List State) (end : State) (m : Receipt) (ms : List Receipt)
    → m.entry < length a
    → IsLegal (state_at a e) (of_entry e (m ∷ ms)) end
    → IsLegal (state_at (slice_set a m.entry (after_of m)) e) (of_entry e ms) end
chain_step e a end m ms within h = at (cases_Bool (eqb m.entry e)) where
  at :
      (eqb m.entry e ≡ true) ⊎ (eqb m.entry e ≡ false)
      → IsLegal (state_at (slice_set a m.entry (after_of m)) e) (of_entry e ms) end
  at (inl own) =
      let k = rw own at h in
      let e' : state_at (slice_set a m.entry (after_of m)) m.entry ≡ after_of m = get_or-set_same a
      m.entry (after_of m) (empty_state 0) within in
      let e'' : state_at (slice_set a m.entry (after_of m)) e ≡ after_of m = ap
      (state_at (slice_set a m.entry (after_of m))) (sym (eqb-true m.entry e own)) ∙ e' in
      subst (λ s. IsLegal s (of_entry e ms) end) (sym e'') k.1
  at (inr other) =
      let k = rw other at h in
      subst (λ s. IsLegal s (of_entry e ms) end)
      (sym
      (get_or-set_other a m.entry e (after_of m) (empty_state 0)
      (λ same. eqb-false m.entry e other (sym same)))) k

chain_first :
    (a : List State) (end : State) (m : Receipt) (ms : List Receipt)
    → IsLegal (state_at a m.entry) (of_entry m.entry (m ∷ ms)) end
    → m.before ≡ state_at a m.entry
chain_first a end m ms h = let k = rw (eq-eqb m.entry m.entry refl) at h in k.0

pub chain_run :
    (a b : List State) (ms : List Receipt)
    → length b ≡ length a
    → AllByRecursion (λ (m : Receipt). m.entry < length a) ms
    → ((e : ℕ) → e < length a → IsLegal (state_at a e) (of_entry e ms) (state_at b e))
    → IsRun a ms b
chain_run a b [] l within h = same_states a b l h
chain_run a b (m ∷ ms) l within h =
    let mid = slice_set a m.entry (after_of m) in
    let size : length mid ≡ length a = length-set a m.entry (after_of m) in
    let step : IsStep a m mid = record {
      in_table = within.0;
      before = chain_first a (state_at b m.entry) m ms (h m.entry within.0);
      after = refl;
    } in (
      mid,
      step,
      chain_run mid b ms (l ∙ sym size)
          (subst (λ n. AllByRecursion (λ (m : Receipt). m.entry < n) ms) (sym size) within.1)
          (λ e k. chain_step e a (state_at b e) m ms within.0 (h e (subst (λ n. e < n) size k))),
    )

-- ---- line by line
run_split :
    (a b : List State) (xs ys : List Receipt)
    → IsRun a (xs ++ ys) b
    → (mid : List State) × IsRun a xs mid × IsRun mid ys b
run_split a b [] ys h = (a, refl, h)
run_split a b (x ∷ xs) ys h = let k = run_split h.0 b xs ys h.2 in (k.0, (h.0, h.1, k.1), k.2)

pub pair_stamp : (n : ℕ) (s : State) → (n + 1) * 4 ≤ pair_of s → n < s.stamp
unfolding pair_of
pair_stamp n s h = omega (arith, bits_low s.referenced s.changed)

-- a raised front and a higher stamp at the end: the entry has left the stamp
left_now :
    (n q : ℕ) (s t : State) (ms : List Receipt)
    → (n + 1) * 4 ≤ q
    → Rising q ms
    → IsLegal s ms t
    → n < t.stamp
    → n < s.stamp
left_now n q s t [] high rise legal end = subst (λ x. n < x.stamp) legal end
left_now n q s t (m ∷ ms) high rise legal end =
    subst (λ x. n < x.stamp) legal.0 (pair_stamp n m.before (omega (arith, rise.0)))

-- the front goes on
step_rest :
    (e p : ℕ) (r : Receipt) (evs more : List Event)
    → InOrder e p (made r ∷ evs)
    → ((q : ℕ) → InOrder e q evs → (q' : ℕ) × InOrder e q' more)
    → (q : ℕ) × InOrder e q more
step_rest e p r evs more h rest = at (cases_Bool (eqb r.entry e)) where
  at : (eqb r.entry e ≡ true) ⊎ (eqb r.entry e ≡ false) → (q : ℕ) × InOrder e q more
  at (inl own) = let k = rw own at h in rest (pair_of (after_of r)) k.1
  at (inr other) = let k = rw other at h in rest p k

pub receipts_rest :
    (e p : ℕ) (rs : List Receipt) (evs : List Event)
    → InOrder e p (map (λ (r : Receipt). made r) rs ++ evs)
    → (q : ℕ) × InOrder e q evs
receipts_rest e p [] evs h = (p, h)
receipts_rest e p (r ∷ rs) evs h =
    step_rest e p r (map (λ (r : Receipt). made r) rs ++ evs) evs h
    (λ q k. receipts_rest e q rs evs k)

pub left_high :
    (p : ℕ) (line : Line) (evs : List Event)
    → InOrder line.entry p (gone line ∷ evs)
    → InOrder line.entry (max p (pair_beyond line)) evs
left_high p line evs h =
    subst (λ n. InOrder line.entry n evs)
    (let e : (if line.entry == line.entry then max p (pair_beyond line) else p) ≡ max p
    (pair_beyond line) = rw (eq-eqb line.entry line.entry refl) refl in
    e) h

pub left_rest :
    (e p : ℕ) (line : Option Line) (evs : List Event)
    → InOrder e p (gone_events line ++ evs)
    → (q : ℕ) × InOrder e q evs
left_rest e p None evs h = (p, h)
left_rest e p (Some line) evs h = (if line.entry == e then max p (pair_beyond line) else p, h)

-- one line: what it went past is gone
gone_now :
    (a b : List State) (rs : List Receipt) (evs : List Event) (more : List Receipt)
    (line : Option Line)
    → IsRun a (rs ++ more) b
    →
    ((e : ℕ)
    → (p : ℕ) × InOrder e p (gone_events line ++ (map (λ (r : Receipt). made r) rs ++ evs)))
    → ((e q : ℕ) → InOrder e q evs → Rising q (of_entry e more))
    → IfSome line (λ l. l.stamp < (state_at b l.entry).stamp)
    → IfSome line (λ l. l.stamp < (state_at a l.entry).stamp)
gone_now a b rs evs more None run order rest end = tt
gone_now a b rs evs more (Some line) run order rest end =
    let o = order line.entry in
    let high : InOrder line.entry (max o.0 (pair_beyond line))
    (map (λ (r : Receipt). made r) rs ++ evs) = left_high o.0 line
    (map (λ (r : Receipt). made r) rs ++ evs) o.1 in
    let rise = receipts_rising line.entry (max o.0 (pair_beyond line)) rs evs more high
    (rest line.entry) in
    left_now line.stamp (max o.0 (pair_beyond line)) (state_at a line.entry) (state_at b line.entry)
    (of_entry line.entry (rs ++ more)) (omega arith) rise
    (run_chain line.entry a b (rs ++ more) run) end

pub replied_lines_stand :
    (set : StoreContext) (c : ℕ) (processors : List Processor) (a b : List State)
    (ts : List RepliedLine)
    → OneCpu c ts
    → Cpus (length processors) ts
    → IsRun a (receipts_by ts) b
    → ((e : ℕ) → (p : ℕ) × InOrder e p (events_by (processor_at processors c) ts))
    → InFileOrder (λ processor t. IsCallReply set t.line.act t.reply) processors ts
    → InFileOrder (IsAccessLine (access_of set) b) processors ts
    → AreUndisturbed set processors a ts b
replied_lines_stand set c processors a b [] one within run order calls reaches = run
replied_lines_stand set c processors a b (t ∷ ts) one within run order calls reaches =
    let processor = processor_at processors t.line.cpu in
    let line = gone_line_of processor t.line.act t.reply in
    let rest = events_by (processor_after processor t.line.act t.reply) ts in
    let order' : (e : ℕ) → (p : ℕ) × InOrder e p
    (gone_events line ++ (map (λ (r : Receipt). made r) (receipts_in t.reply) ++ rest)) = λ e. (
      (order e).0,
      subst (InOrder e (order e).0)
          (ap (λ k. events_by (processor_at processors k) (t ∷ ts)) (sym one.0)
          ∙ first_events processor t ts) (order e).1,
    ) in
    let next : processor_after processor t.line.act t.reply ≡ processor_at
    (processors_after processors t) c = sym (processor_own processors t within.0) ∙ ap
    (processor_at (processors_after processors t)) one.0 in
    let later : (e : ℕ) → (p : ℕ) × InOrder e p
    (events_by (processor_at (processors_after processors t) c) ts) = λ e.
    (let k = left_rest e (order' e).0 line
    (map (λ (r : Receipt). made r) (receipts_in t.reply) ++ rest) (order' e).1 in
    let k' = receipts_rest e k.0 (receipts_in t.reply) rest k.1 in
    (k'.0, subst (λ s. InOrder e k'.0 (events_by s ts)) next k'.1)) in
    let parts = run_split a b (receipts_in t.reply) (receipts_by ts) run in (
      parts.0,
      record {
        call = calls.0;
        access = reaches.0.reply;
        gone =
            gone_now a b (receipts_in t.reply) rest (receipts_by ts) line run order'
            (λ e q k.
            replied_lines_rising e q (processor_after processor t.line.act t.reply) ts k)
            reaches.0.gone;
        run = parts.1;
      },
      replied_lines_stand set c (processors_after processors t) parts.0 b ts one.1
          (cpus_after processors t ts within.1) parts.2 later calls.1 reaches.1,
    )

-- ---- sections
closing_from_size :
    (n : ℕ) (a : List State) (rs : List Receipt) → length (closing_from n a rs) ≡ length a
closing_from_size n [] rs = refl
closing_from_size n (s ∷ a) rs = ap suc (closing_from_size (suc n) a rs)

pub closing_size : (a : List State) (rs : List Receipt) → length (closing_states a rs) ≡ length a
unfolding closing_states
closing_size a rs = closing_from_size 0 a rs

pub section_alone :
    (c : ℕ) (s : Section)
    → OneCpu c s.replied_lines
    → OnCpus s
    → IsGoodSection s
    → RunsAlone s (closing_states (states_of s.before) (made_in s))
unfolding section_end
section_alone c s one within h =
    let set = context_of s.before in
    let ps = s.before.processors in
    let a = states_of s.before in
    let b = closing_states a (made_in s) in
    let ts = s.replied_lines in
    let rs = receipts_by ts in
    let back = regrouped_back (file_listed (length ps) ts within) in
    let order : (e : ℕ) → InOrder e (pair_of (state_at a e)) (events_by (processor_at ps c) ts) = λ
    e. subst (λ l. InOrder e (pair_of (state_at a e)) (events_by (processor_at ps c) l))
    (own_all c ts one) (h.in_order c e) in
    let sorted : (e : ℕ) → history e rs ≡ of_entry e rs = λ e. sorted_is (pair_of (state_at a e))
    (of_entry e rs)
    (replied_lines_rising e (pair_of (state_at a e)) (processor_at ps c) ts (order e)) in
    let legal : (e : ℕ) → e < length a → IsLegal (state_at a e) (of_entry e rs) (state_at b e) = λ e
    k. subst (λ l. IsLegal (state_at a e) l (state_at b e)) (sorted e)
    (history_regrouped e (state_at a e) (state_at b e) (made_in s) rs back (h.legal.legal e k))
    in
    let run : IsRun a rs b = chain_run a b rs (closing_size a (made_in s))
    (each_regrouped (λ (r : Receipt). r.entry < length a) back h.legal.in_table) legal in
    replied_lines_stand set c ps a b ts one within run (λ e. (pair_of (state_at a e), order e))
    (file_lines (λ processor t. IsCallReply set t.line.act t.reply) ps ts within h.calls)
    (file_lines (IsAccessLine (access_of set) b) ps ts within h.accesses)

-- every section has this processor
abbrev pub AllOne : ℕ → List RepliedLine → List QuietPart → Type 0
AllOne c ts qs = OneCpu c ts × AllByRecursion (λ (q : QuietPart). OneCpu c q.1) qs

-- Good sections of one processor run alone, one after the other.
pub sections_stand :
    (on : Act → Bool) (n c : ℕ) (s : Store) (ts : List RepliedLine) (qs : List QuietPart)
    → length s.processors ≡ n
    → AllCpus n ts qs
    → AllOne c ts qs
    → AllByRecursion IsGoodSection (sections_from on s ts qs)
    → Stands on s ts qs
sections_stand on n c s ts [] size cpus one h =
    let x = section_of on s ts None in (
      closing_states (states_of s) (made_in x),
      section_alone c x
          (each_filter (λ (t : RepliedLine). t.line.cpu ≡ c) (λ (t : RepliedLine). on t.line.act) ts
          one.0) (on_cpus on n s ts None size cpus.0) h.0,
    )
sections_stand on n c s ts (q ∷ qs) size cpus one h =
    let x = section_of on s ts (quiet_on on q.0) in
    let b = closing_states (states_of s) (made_in x) in
    let within : OnCpus x = on_cpus on n s ts x.quiet size cpus.0 in
    let here = section_alone c x
    (each_filter (λ (t : RepliedLine). t.line.cpu ≡ c) (λ (t : RepliedLine). on t.line.act) ts
    one.0) within h.0 in
    let e : closing x ≡ behind x b = closes x b within here in
    let v = after_quiet (behind x b) x.quiet in
    let size' : length v.processors ≡ n = after_size (behind x b) x.quiet ∙ processors_on_size
    s.processors x.replied_lines ∙ size in
    let rest : AllByRecursion IsGoodSection (sections_from on v q.1 qs) = subst
    (λ u. AllByRecursion IsGoodSection (sections_from on (after_quiet u x.quiet) q.1 qs)) e h.1
    in
    let said : QuietMeets x b = subst
    (λ u. IfSome x.quiet (λ z. z.reply ≡ (run_quiet_line u z.line.act).0)) e h.0.quiet in (
      b,
      here,
      said,
      sections_stand on n c v q.1 qs size' (cpus.1.0, cpus.1.1) (one.1.0, one.1.1) rest,
    )

-- ---- a trace
front_one :
    (c : ℕ) (t : RepliedLine) (x : List RepliedLine × List (RepliedLine × List RepliedLine))
    → (is_quiet t.line.act ≡ false → t.line.cpu ≡ c)
    → AllOne c x.0 x.1
    → AllOne c (cut_before t x).0 (cut_before t x).1
front_one c t x h k = at (cases_Bool (is_quiet t.line.act)) where
  at :
      (is_quiet t.line.act ≡ true) ⊎ (is_quiet t.line.act ≡ false)
      → AllOne c (cut_before t x).0 (cut_before t x).1
  at (inl q) = rw q (tt, (k.0, k.1))
  at (inr q) = rw q ((h q, k.0), k.1)

-- All lines but quiet ones have this processor.
abbrev pub OneCpuButQuiet : ℕ → List RepliedLine → Type 0
OneCpuButQuiet c ts =
    AllByRecursion (λ (t : RepliedLine). is_quiet t.line.act ≡ false → t.line.cpu ≡ c) ts

pub cut_one : (c : ℕ) (ts : List RepliedLine) → OneCpuButQuiet c ts → AllOne c (cut ts).0 (cut ts).1
cut_one c [] h = (tt, tt)
cut_one c (t ∷ ts) h = front_one c t (cut ts) h.0 (cut_one c ts h.1)

pub lines_of_one :
    (c : ℕ) (ls : List TraceLine) (rs : List Reply)
    → HasOneProcessor c ls
    → OneCpuButQuiet c (lines_with_replies ls rs)
lines_of_one c [] rs h = tt
lines_of_one c (l ∷ ls) [] h = tt
lines_of_one c (l ∷ ls) (r ∷ rs) h = (h.0, lines_of_one c ls rs h.1)
