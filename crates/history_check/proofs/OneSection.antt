-- A section that two runs show alike is one section, on each store.
use Rattle.std.specs.Prelude.{None}
use Rattle.std.proofs.Common.{◌≡◌, ℕ, zero, suc, ◌<◌, ◌+◌, List, [], ◌∷◌, ◌++◌, Bool, true, false, ap, sym, ◌∙◌, refl, subst, ◌⊎◌, inl, inr, map, length, arith, cond, eqb}
use Rattle.std.specs.Prelude.{◌==◌, filter}
use Rattle.std.specs.List.{AllByRecursion}
use Rattle.std.proofs.lemmas.Bool.{cond_both, cases_Bool, eq-eqb}
use Rattle.entry_model.specs.State.{State}
use Rattle.entry_model.specs.Run.{state_at}
use Rattle.entry_model.specs.History.{IsLegal, history}
use Rattle.tlb_model.specs.Processor.{Processor}
use Rattle.trace_line.specs.declared.act.Act.{Act}
use Rattle.trace_line.specs.declared.line.TraceLine.{TraceLine}
use Rattle.trace_line.specs.Lines.{is_quiet}
use Rattle.trace_reply.specs.declared.reply.Reply.{Reply}
use Rattle.trace_reply.specs.Replies.{RepliedLine, receipts_in}
use Rattle.run_model.specs.Processors.{processor_at, processor_after}
use Rattle.run_model.specs.LineReplies.{IsCallReply, IsReplyToAccess}
use Rattle.run_model.specs.Histories.{lines_of_processor, receipts_by, receipts_from_processor}
use Rattle.run_model.specs.StoreContexts.{StoreContext, access_of}
use Rattle.run_model.specs.Sections.{made_in}
use Rattle.run_model.specs.AllStores.{AllStores}
use Rattle.run_model.specs.StoreNumbers.{store_at}
use Rattle.run_model.specs.Stores.{is_on}
use Rattle.run_model.specs.GoodRun.{EachLineOfProcessor, IsAccessLine}
use Rattle.basics.proofs.Each.{each_append, each_front, each_back, each_filter}
use Rattle.history_check.specs.ReplyMarks.{ShowsSame}
use Rattle.history_check.specs.FoundSection.{Opening, opening_of, section_on, IsGoodOn, closing_of, IsGoodTo}
use Rattle.history_check.specs.FoundStores.{windows_of, AreGoodOn}
use Rattle.history_check.proofs.Alike.{Alike, Pair, firsts, seconds, AllAlike, AllBefore, same_states, cond_map}
use Rattle.history_check.proofs.AtMostOne.{zip, zip_firsts, zip_seconds, line_alike, line_same, segments_and_masks, kept_after}
use Rattle.history_check.proofs.ByStore.{each_by_store, filter_map}
use Rattle.history_check.proofs.GoodStores.{each_size}

-- ---- a line with two replies
-- A line of a trace with two replies to it, one of each of two runs.
pub record Twice : Type 0 where
  pub line : TraceLine
  pub one : Reply
  pub two : Reply

-- The line with the first of its replies.
abbrev pub first : Twice → RepliedLine
first p = record { line = p.line; reply = p.one }

-- The line with the second of its replies.
abbrev pub second : Twice → RepliedLine
second p = record { line = p.line; reply = p.two }

-- The lines, each with its first reply.
abbrev pub ones : List Twice → List RepliedLine
ones ps = map first ps

-- The lines, each with its second reply.
abbrev pub twos : List Twice → List RepliedLine
twos ps = map second ps

-- The two replies to each line show the same marks and the same way.
abbrev pub Shown : List Twice → Type 0
Shown ps = AllByRecursion (λ p. ShowsSame p.one p.two) ps

-- None of the lines is quiet.
abbrev pub Plain : List Twice → Type 0
Plain ps = AllByRecursion (λ p. is_quiet p.line.act ≡ false) ps

-- The two replies to each line are the same one.
abbrev pub AllSame : List Twice → Type 0
AllSame ps = AllByRecursion (λ p. p.one ≡ p.two) ps

abbrev own : ℕ → List Twice → List Twice
own c ps = filter (λ p. p.line.cpu == c) ps

abbrev pairs_by : List Twice → List Pair
pairs_by [] = []
pairs_by (p ∷ ps) = zip (receipts_in p.one) (receipts_in p.two) ++ pairs_by ps

abbrev pairs_from : ℕ → ℕ → List Twice → List Pair
pairs_from zero c ps = []
pairs_from (suc n) c ps = pairs_by (own c ps) ++ pairs_from n (suc c) ps

-- ---- lists of the two

own_ones : (c : ℕ) (ps : List Twice) → lines_of_processor c (ones ps) ≡ ones (own c ps)
own_ones c [] = refl
own_ones c (p ∷ ps) =
    ap (λ l. cond (eqb p.line.cpu c) (first p ∷ l) l) (own_ones c ps)
    ∙ sym (cond_map ones (eqb p.line.cpu c) (p ∷ own c ps) (own c ps))

own_twos : (c : ℕ) (ps : List Twice) → lines_of_processor c (twos ps) ≡ twos (own c ps)
own_twos c [] = refl
own_twos c (p ∷ ps) =
    ap (λ l. cond (eqb p.line.cpu c) (second p ∷ l) l) (own_twos c ps)
    ∙ sym (cond_map twos (eqb p.line.cpu c) (p ∷ own c ps) (own c ps))

each_own :
    (P : Twice → Type 0) (c : ℕ) (ps : List Twice)
    → AllByRecursion P ps
    → AllByRecursion P (own c ps)
each_own P c [] h = tt
each_own P c (p ∷ ps) h =
    cond_both (eqb p.line.cpu c) (p ∷ own c ps) (own c ps) (AllByRecursion P)
    (λ e. (h.0, each_own P c ps h.1)) (λ e. each_own P c ps h.1)

firsts_append : (xs ys : List Pair) → firsts (xs ++ ys) ≡ firsts xs ++ firsts ys
firsts_append [] ys = refl
firsts_append (x ∷ xs) ys = ap (λ l. x.first ∷ l) (firsts_append xs ys)

seconds_append : (xs ys : List Pair) → seconds (xs ++ ys) ≡ seconds xs ++ seconds ys
seconds_append [] ys = refl
seconds_append (x ∷ xs) ys = ap (λ l. x.second ∷ l) (seconds_append xs ys)

by_firsts : (ps : List Twice) → Shown ps → firsts (pairs_by ps) ≡ receipts_by (ones ps)
by_firsts [] h = refl
by_firsts (p ∷ ps) h =
    firsts_append (zip (receipts_in p.one) (receipts_in p.two)) (pairs_by ps)
    ∙ (λ i. zip_firsts (receipts_in p.one) (receipts_in p.two) h.0.marks i ++ by_firsts ps h.1 i)

by_seconds : (ps : List Twice) → Shown ps → seconds (pairs_by ps) ≡ receipts_by (twos ps)
by_seconds [] h = refl
by_seconds (p ∷ ps) h =
    seconds_append (zip (receipts_in p.one) (receipts_in p.two)) (pairs_by ps)
    ∙ (λ i. zip_seconds (receipts_in p.one) (receipts_in p.two) h.0.marks i ++ by_seconds ps h.1 i)

from_firsts :
    (n c : ℕ) (ps : List Twice)
    → Shown ps
    → firsts (pairs_from n c ps) ≡ receipts_from_processor n c (ones ps)
from_firsts zero c ps h = refl
from_firsts (suc n) c ps h =
    firsts_append (pairs_by (own c ps)) (pairs_from n (suc c) ps)
    ∙
    (λ i.
    (by_firsts (own c ps) (each_own (λ p. ShowsSame p.one p.two) c ps h)
    ∙ ap receipts_by (sym (own_ones c ps))) i
    ++ from_firsts n (suc c) ps h i)

from_seconds :
    (n c : ℕ) (ps : List Twice)
    → Shown ps
    → seconds (pairs_from n c ps) ≡ receipts_from_processor n c (twos ps)
from_seconds zero c ps h = refl
from_seconds (suc n) c ps h =
    seconds_append (pairs_by (own c ps)) (pairs_from n (suc c) ps)
    ∙
    (λ i.
    (by_seconds (own c ps) (each_own (λ p. ShowsSame p.one p.two) c ps h)
    ∙ ap receipts_by (sym (own_twos c ps))) i
    ++ from_seconds n (suc c) ps h i)

-- ---- one processor
abbrev Calls : StoreContext → Processor → RepliedLine → Type 0
Calls set processor t = IsCallReply set t.line.act t.reply

own_alike :
    (set : StoreContext) (a b : List State) (s s' : Processor) (ps : List Twice)
    → segments_and_masks s ≡ segments_and_masks s'
    → Plain ps
    → Shown ps
    → EachLineOfProcessor (Calls set) s (ones ps)
    → EachLineOfProcessor (IsAccessLine (access_of set) a) s (ones ps)
    → EachLineOfProcessor (Calls set) s' (twos ps)
    → EachLineOfProcessor (IsAccessLine (access_of set) b) s' (twos ps)
    → AllAlike (pairs_by ps)
own_alike set a b s s' [] e n m h h' k k' = tt
own_alike set a b s s' (p ∷ ps) e n m h h' k k' =
    each_append (λ z. Alike z.first z.second) (zip (receipts_in p.one) (receipts_in p.two))
    (pairs_by ps)
    (line_alike set s s' p.line.act p.one p.two n.0 e h.0 h'.0.reply k.0 k'.0.reply m.0)
    (own_alike set a b (processor_after s p.line.act p.one)
    (processor_after s' p.line.act p.two) ps (kept_after s s' p.line.act p.one p.two e) n.1
    m.1 h.1 h'.1 k.1 k'.1)

own_same :
    (set : StoreContext) (a b : List State) (s s' : Processor) (ps : List Twice)
    → s ≡ s'
    → Plain ps
    → Shown ps
    → EachLineOfProcessor (Calls set) s (ones ps)
    → EachLineOfProcessor (IsAccessLine (access_of set) a) s (ones ps)
    → EachLineOfProcessor (Calls set) s' (twos ps)
    → EachLineOfProcessor (IsAccessLine (access_of set) b) s' (twos ps)
    → AllBefore (pairs_by ps)
    → AllSame ps
own_same set a b s s' [] e n m h h' k k' z = tt
own_same set a b s s' (p ∷ ps) e n m h h' k k' z =
    let here : p.one ≡ p.two = line_same set s p.line.act p.one p.two n.0 h.0 h'.0.reply k.0
    (subst (λ x. IsReplyToAccess (access_of set) x p.line.act p.two) (sym e) k'.0.reply) m.0
    (each_front (λ w. w.first.before ≡ w.second.before)
    (zip (receipts_in p.one) (receipts_in p.two)) (pairs_by ps) z) in (
      here,
      own_same set a b (processor_after s p.line.act p.one) (processor_after s' p.line.act p.two) ps
          (λ i. processor_after (e i) p.line.act (here i)) n.1 m.1 h.1 h'.1 k.1 k'.1
          (each_back (λ w. w.first.before ≡ w.second.before)
          (zip (receipts_in p.one) (receipts_in p.two)) (pairs_by ps) z),
    )

-- ---- all processors
from_each :
    (P : Pair → Type 0) (n c : ℕ) (ps : List Twice)
    → ((k : ℕ) → AllByRecursion P (pairs_by (own k ps)))
    → AllByRecursion P (pairs_from n c ps)
from_each P zero c ps h = tt
from_each P (suc n) c ps h =
    each_append P (pairs_by (own c ps)) (pairs_from n (suc c) ps) (h c) (from_each P n (suc c) ps h)

each_from :
    (P : Pair → Type 0) (n c i : ℕ) (ps : List Twice)
    → i < n
    → AllByRecursion P (pairs_from n c ps)
    → AllByRecursion P (pairs_by (own (c + i) ps))
each_from P zero c i ps h k = absurd (omega arith)
each_from P (suc n) c zero ps h k =
    subst (λ j. AllByRecursion P (pairs_by (own j ps))) (let e : c ≡ c + 0 = omega arith in e)
    (each_front P (pairs_by (own c ps)) (pairs_from n (suc c) ps) k)
each_from P (suc n) c (suc i) ps h k =
    subst (λ j. AllByRecursion P (pairs_by (own j ps)))
    (let e : suc c + i ≡ c + suc i = omega arith in e)
    (each_from P n (suc c) i ps (omega arith)
    (each_back P (pairs_by (own c ps)) (pairs_from n (suc c) ps) k))

head_own :
    (P : Twice → Type 0) (p : Twice) (ps : List Twice)
    → AllByRecursion P (own p.line.cpu (p ∷ ps))
    → P p
head_own P p ps h = let k = rw (eq-eqb p.line.cpu p.line.cpu refl) at h in k.0

tail_own :
    (P : Twice → Type 0) (c : ℕ) (p : Twice) (ps : List Twice)
    → AllByRecursion P (own c (p ∷ ps))
    → AllByRecursion P (own c ps)
tail_own P c p ps h = at (cases_Bool (eqb p.line.cpu c)) where
  at : (eqb p.line.cpu c ≡ true) ⊎ (eqb p.line.cpu c ≡ false) → AllByRecursion P (own c ps)
  at (inl q) = let k = rw q at h in k.1
  at (inr q) = let k = rw q at h in k

of_owns :
    (P : Twice → Type 0) (n : ℕ) (ps : List Twice)
    → AllByRecursion (λ p. p.line.cpu < n) ps
    → ((c : ℕ) → c < n → AllByRecursion P (own c ps))
    → AllByRecursion P ps
of_owns P n [] low h = tt
of_owns P n (p ∷ ps) low h =
    (head_own P p ps (h p.line.cpu low.0), of_owns P n ps low.1 (λ c k. tail_own P c p ps (h c k)))

-- ---- a section of a store
pub section_same :
    (o : Opening) (ps : List Twice) (a b : List State)
    → AllByRecursion (λ p. p.line.cpu < length o.processors) ps
    → Plain ps
    → Shown ps
    → IsGoodTo (section_on o (ones ps)) a
    → IsGoodTo (section_on o (twos ps)) b
    → AllSame ps
section_same o ps a b low n m g k =
    let set = o.context in
    let N = length o.processors in
    let shown : (c : ℕ) → Shown (own c ps) = λ c. each_own (λ p. ShowsSame p.one p.two) c ps m in
    let plain : (c : ℕ) → Plain (own c ps) = λ c. each_own (λ p. is_quiet p.line.act ≡ false) c ps n
    in
    let h1 : (c : ℕ) → EachLineOfProcessor (Calls set) (processor_at o.processors c)
    (ones (own c ps)) = λ c. subst
    (λ l. EachLineOfProcessor (Calls set) (processor_at o.processors c) l) (own_ones c ps)
    (g.2 c) in
    let h2 : (c : ℕ) → EachLineOfProcessor (IsAccessLine (access_of set) a)
    (processor_at o.processors c) (ones (own c ps)) = λ c. subst
    (λ l. EachLineOfProcessor (IsAccessLine (access_of set) a) (processor_at o.processors c) l)
    (own_ones c ps) (g.3 c) in
    let k1 : (c : ℕ) → EachLineOfProcessor (Calls set) (processor_at o.processors c)
    (twos (own c ps)) = λ c. subst
    (λ l. EachLineOfProcessor (Calls set) (processor_at o.processors c) l) (own_twos c ps)
    (k.2 c) in
    let k2 : (c : ℕ) → EachLineOfProcessor (IsAccessLine (access_of set) b)
    (processor_at o.processors c) (twos (own c ps)) = λ c. subst
    (λ l. EachLineOfProcessor (IsAccessLine (access_of set) b) (processor_at o.processors c) l)
    (own_twos c ps) (k.3 c) in
    let alike : AllAlike (pairs_from N 0 ps) = from_each (λ z. Alike z.first z.second) N 0 ps
    (λ c.
    own_alike set a b (processor_at o.processors c) (processor_at o.processors c) (own c ps)
    refl (plain c) (shown c) (h1 c) (h2 c) (k1 c) (k2 c)) in
    let e1 : made_in (section_on o (ones ps)) ≡ firsts (pairs_from N 0 ps) = sym
    (from_firsts N 0 ps m) in
    let e2 : made_in (section_on o (twos ps)) ≡ seconds (pairs_from N 0 ps) = sym
    (from_seconds N 0 ps m) in
    let before : AllBefore (pairs_from N 0 ps) = same_states (length o.states) (state_at o.states)
    (state_at a) (state_at b) (pairs_from N 0 ps) alike
    (subst (λ l. AllByRecursion (λ r. r.entry < length o.states) l) e1 g.0.in_table)
    (λ e q.
    subst (λ l. IsLegal (state_at o.states e) (history e l) (state_at a e)) e1 (g.0.legal e q))
    (λ e q.
    subst (λ l. IsLegal (state_at o.states e) (history e l) (state_at b e)) e2 (k.0.legal e q))
    in
    of_owns (λ p. p.one ≡ p.two) N ps low
    (λ c q.
    own_same set a b (processor_at o.processors c) (processor_at o.processors c) (own c ps)
    refl (plain c) (shown c) (h1 c) (h2 c) (k1 c) (k2 c)
    (subst (λ j. AllBefore (pairs_by (own j ps))) (let e : 0 + c ≡ c = omega arith in e)
    (each_from (λ z. z.first.before ≡ z.second.before) N 0 c ps q before)))

-- ---- all stores
-- A section of one store, of some of the lines.
part_same :
    (o : Opening) (n : ℕ) (f : Act → Bool) (ps : List Twice)
    → length o.processors ≡ n
    → AllByRecursion (λ p. p.line.cpu < n) ps
    → Plain ps
    → Shown ps
    → IsGoodOn o (filter (λ (t : RepliedLine). f t.line.act) (ones ps))
    → IsGoodOn o (filter (λ (t : RepliedLine). f t.line.act) (twos ps))
    → AllSame (filter (λ p. f p.line.act) ps)
part_same o n f ps size low plain shown g k =
    let on = λ (p : Twice). f p.line.act in
    let own = filter on ps in
    let cpus = each_filter (λ p. p.line.cpu < length o.processors) on ps
    (subst (λ m. AllByRecursion (λ p. p.line.cpu < m) ps) (sym size) low) in
    let g' : IsGoodOn o (ones own) = subst (IsGoodOn o)
    (filter_map first (λ (t : RepliedLine). f t.line.act) ps) g in
    let k' : IsGoodOn o (twos own) = subst (IsGoodOn o)
    (filter_map second (λ (t : RepliedLine). f t.line.act) ps) k in
    section_same o own (closing_of (section_on o (ones own))) (closing_of (section_on o (twos own)))
    cpus (each_filter (λ p. is_quiet p.line.act ≡ false) on ps plain)
    (each_filter (λ p. ShowsSame p.one p.two) on ps shown) g' k'

pub stores_same :
    (s : AllStores) (ps : List Twice)
    → s.table.window ≡ None
    → AllByRecursion (λ p. p.line.cpu < length s.table.processors) ps
    → Plain ps
    → Shown ps
    → AreGoodOn s (ones ps)
    → AreGoodOn s (twos ps)
    → AllSame ps
stores_same s ps named low plain shown g k =
    each_by_store (λ p. p.one ≡ p.two) (λ p. p.line.act) s ps named
    (λ number inside.
    part_same (opening_of (store_at s number)) (length s.table.processors)
    (is_on (windows_of s) (store_at s number).window) ps (each_size s number inside) low plain
    shown (g number inside) (k number inside))
