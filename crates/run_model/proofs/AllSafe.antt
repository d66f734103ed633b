-- In a good run each access lands by its entry, and no entry is worn.
use Rattle.std.specs.Prelude.{Bool, IfSome}
use Rattle.std.proofs.Common.{◌≡◌, ℕ, ◌+◌, ◌*◌, ◌<◌, ◌≤◌, List, [], ◌∷◌, true, false, sym, subst, ◌⊎◌, inl, inr, length, Option, Some, None, arith}
use Rattle.std.specs.List.{AllByRecursion}
use Rattle.std.proofs.lemmas.Bool.{cases_Bool}
use Rattle.frame_grants.specs.Grants.{GrantedMemory, AreApart}
use Rattle.entry_model.specs.State.{State}
use Rattle.entry_model.specs.declared.receipt.Receipt.{Receipt}
use Rattle.entry_model.specs.History.{Regrouped}
use Rattle.entry_model.proofs.Heights.{weight, weight_regrouped}
use Rattle.entry_model.proofs.Regroup.{regrouped_back}
use Rattle.entry_model.proofs.PlanBounds.{EntersOnly}
use Rattle.tlb_model.specs.Processor.{Processor}
use Rattle.hpt_walk.specs.Access.{AccessContext}
use Rattle.hpt_walk.proofs.Granted.{IsGrantedWords}
use Rattle.trace_line.specs.declared.act.Act.{Act}
use Rattle.trace_line.specs.declared.line.TraceLine.{TraceLine}
use Rattle.trace_line.specs.Lines.{is_quiet, most_lines}
use Rattle.trace_read.specs.Trace.{AcceptedTrace, IsAccepted}
use Rattle.trace_reply.specs.declared.reply.Reply.{Reply}
use Rattle.trace_reply.specs.Replies.{RepliedLine, IsOfKind, AreReplies, receipts_in, lines_with_replies}
use Rattle.run_model.proofs.TableNamed.{table_is, opening_table}
use Rattle.run_model.specs.StoreContexts.{StoreContext, access_of, table_context}
use Rattle.run_model.specs.Processors.{processors_after}
use Rattle.run_model.specs.LineReplies.{IsCallReply}
use Rattle.run_model.specs.Stores.{Store, context_of, states_of, page_table, is_on, lines_on}
use Rattle.run_model.specs.QuietLines.{run_quiet_line}
use Rattle.run_model.specs.GoodRun.{EachLine, IsAccessLine, IsGoodSection, IsGoodRun}
use Rattle.run_model.specs.Histories.{receipts_by}
use Rattle.run_model.specs.Quiet.{QuietPart, cut, cut_before}
use Rattle.run_model.specs.Sections.{Section, made_in, closing, after_quiet, quiet_on, section_of, sections_from, sections_of}
use Rattle.run_model.specs.Landings.{AccessesLand, IsUnworn}
use Rattle.basics.proofs.Each.{each_map, each_front, each_back, each_filter, each_where, filter_length}
use Rattle.run_model.proofs.LineReceipts.{each_receipt, weight_by_lines}
use Rattle.run_model.proofs.LinesByProcessor.{Cpus, InFileOrder, file_lines, file_listed}
use Rattle.run_model.proofs.SectionGood.{each_regrouped}
use Rattle.run_model.proofs.SerialGood.{opening_processors}
use Rattle.run_model.proofs.LowStamps.{IsLowStamp, low_stamp_more, top, EnterGranted, FromLowStamp, closed_size, states_low_stamp}
use Rattle.run_model.proofs.LowStampRuns.{IsLowStampRun, quiet_safe, closed_run_state, opening_states, opening_grants, opening_placed}
use Rattle.run_model.proofs.PlacedCaches.{section_lands}
use Rattle.run_model.proofs.StoreLines.{HoldsOn, HoldOn}
use Rattle.run_model.proofs.SafeReplies.{IsTameLine, line_tame}

-- ---- the lines of a section
-- A line of one of so many processors, with a reply of its kind.
abbrev pub IsLine : ℕ → RepliedLine → Type 0
IsLine cpus t = (t.line.cpu < cpus) × IsOfKind t.line.act t.reply

-- Each line's reply enters words of granted pages alone, raises few stamps, and is no H_HARDWARE
-- where the stamps before were low.
abbrev pub AreTame : GrantedMemory → List RepliedLine → Type 0
AreTame granted ts = AllByRecursion (λ (t : RepliedLine). IsTameLine granted t.reply) ts

-- None of the replies is H_HARDWARE.
abbrev pub AreUnworn : List RepliedLine → Type 0
AreUnworn ts = AllByRecursion (λ (t : RepliedLine). IsUnworn t.reply) ts

lines_tame :
    (granted : GrantedMemory) (set : AccessContext) (b : List State) (cpus : ℕ)
    (processors : List Processor) (ts : List RepliedLine)
    → set.grants ≡ granted.grants
    → AllByRecursion (IsLine cpus) ts
    → InFileOrder (λ processor t. IsCallReply (table_context set) t.line.act t.reply) processors ts
    → InFileOrder (IsAccessLine set b) processors ts
    → AreTame granted ts
lines_tame granted set b cpus processors [] same lines calls accesses = tt
lines_tame granted set b cpus processors (t ∷ ts) same lines calls accesses = (
  line_tame granted set _ t.line.act t.reply same lines.0.1 calls.0 accesses.0.reply,
  lines_tame granted set b cpus (processors_after processors t) ts same lines.1 calls.1
      accesses.1,
)

tame_enters :
    (granted : GrantedMemory) (ts : List RepliedLine)
    → AreTame granted ts
    → EnterGranted granted.grants (receipts_by ts)
tame_enters granted ts h =
    each_receipt (λ (r : Receipt). EntersOnly (IsGrantedWords granted.grants) r.op) ts
    (each_map (λ (t : RepliedLine). IsTameLine granted t.reply)
    (λ (t : RepliedLine). EnterGranted granted.grants (receipts_in t.reply)) ts
    (λ t k. k.enters) h)

tame_weight :
    (granted : GrantedMemory) (ts : List RepliedLine)
    → AreTame granted ts
    → weight (receipts_by ts) ≤ 32 * length ts
tame_weight granted ts h =
    weight_by_lines ts
    (each_map (λ (t : RepliedLine). IsTameLine granted t.reply)
    (λ (t : RepliedLine). weight (receipts_in t.reply) ≤ 32) ts (λ t k. k.few) h)

tame_safe :
    (granted : GrantedMemory) (ts : List RepliedLine)
    → AreTame granted ts
    → FromLowStamp granted.grants top (receipts_by ts)
    → AreUnworn ts
tame_safe granted [] h low_stamp = tt
tame_safe granted (t ∷ ts) h low_stamp = (
  h.0.safe
      (each_front (λ (r : Receipt). IsLowStamp granted.grants top r.before) (receipts_in t.reply)
      (receipts_by ts) low_stamp),
  tame_safe granted ts h.1
      (each_back (λ (r : Receipt). IsLowStamp granted.grants top r.before) (receipts_in t.reply)
      (receipts_by ts) low_stamp),
)

-- ---- a section
abbrev HasCalls : StoreContext → Section → Type 0
HasCalls set s = EachLine (λ p t. IsCallReply set t.line.act t.reply) s

section_safe :
    (granted : GrantedMemory) (n m cpus : ℕ) (s : Section)
    → AreApart granted
    → IsLowStampRun granted n cpus s.before
    → AllByRecursion (IsLine cpus) s.replied_lines
    → n + 32 * length s.replied_lines ≤ m
    → m ≤ top
    → IsGoodSection s
    → AreUnworn s.replied_lines × AccessesLand granted s × IsLowStampRun granted m cpus (closing s)
section_safe granted n m cpus s apart run lines low high good =
    let w = s.before in
    let ts = s.replied_lines in
    let within : Cpus (length w.processors) ts = subst (λ k. Cpus k ts) (sym run.processors)
    (each_map (IsLine cpus) (λ (t : RepliedLine). t.line.cpu < cpus) ts (λ t h. h.0) lines) in
    let tame : AreTame granted ts = lines_tame granted (access_of (context_of w))
    (states_of (closing s)) cpus w.processors ts run.grants lines
    (file_lines
    (λ processor t.
    IsCallReply (table_context (access_of (context_of w))) t.line.act t.reply)
    w.processors ts within
    (subst (λ set. HasCalls set s) (table_is w run.table) good.calls))
    (file_lines (IsAccessLine (access_of (context_of w)) (states_of (closing s))) w.processors
    ts within good.accesses) in
    let listed : Regrouped (receipts_by ts) (made_in s) = file_listed (length w.processors) ts
    within in
    let same : weight (receipts_by ts) ≡ weight (made_in s) = weight_regrouped listed in
    let enters : EnterGranted granted.grants (made_in s) = each_regrouped
    (λ (r : Receipt). EntersOnly (IsGrantedWords granted.grants) r.op) listed
    (tame_enters granted ts tame) in
    let all = states_low_stamp granted.grants n m (states_of w) (states_of (closing s)) (made_in s)
    run.states good.legal.in_table good.legal.legal (closed_size w ts) enters
    (omega (arith, tame_weight granted ts tame)) in
    let back : FromLowStamp granted.grants m (receipts_by ts) = each_regrouped
    (λ (r : Receipt). IsLowStamp granted.grants m r.before) (regrouped_back listed) all.0 in
    let low_stamp : FromLowStamp granted.grants top (receipts_by ts) = each_map
    (λ (r : Receipt). IsLowStamp granted.grants m r.before)
    (λ (r : Receipt). IsLowStamp granted.grants top r.before) (receipts_by ts)
    (λ r h. low_stamp_more granted.grants m top r.before high h) back in
    let lands = section_lands granted w (states_of (closing s)) ts apart run.grants run.placed
    low_stamp good.accesses in (
      tame_safe granted ts tame low_stamp,
      lands.0,
      closed_run_state granted n m cpus w ts run all.1 lands.1,
    )

left_safe :
    (granted : GrantedMemory) (n cpus : ℕ) (s : Store) (quiet : Option RepliedLine)
    → IfSome quiet (λ q. q.reply ≡ (run_quiet_line s q.line.act).0)
    → IsLowStampRun granted n cpus s
    → IfSome quiet (λ q. IsUnworn q.reply) × IsLowStampRun granted n cpus (after_quiet s quiet)
left_safe granted n cpus s None said h = (tt, h)
left_safe granted n cpus s (Some q) said h =
    let k = quiet_safe granted n cpus s q.line.act h in
    (subst IsUnworn (sym said) k.0, k.1)

-- ---- all sections
-- A fact of each line of each section.
abbrev pub InSections : (RepliedLine → Type 0) → List RepliedLine → List QuietPart → Type 0
InSections P ts qs =
    AllByRecursion P ts × AllByRecursion (λ (q : QuietPart). P q.0 × AllByRecursion P q.1) qs

-- How many lines the sections have, without the quiet ones between them.
abbrev pub line_count : List RepliedLine → List QuietPart → ℕ
line_count ts [] = length ts
line_count ts (q ∷ qs) = length ts + line_count q.1 qs

quiet_there :
    (P : RepliedLine → Type 0) (on : Act → Bool) (q : RepliedLine)
    → IfSome (quiet_on on q) P
    → HoldsOn on P q
quiet_there P on q h here = let k : P q = rw here at h in k

-- A fact of each line on the store in a section, and of the quiet line, is one of each line there.
pub section_joined :
    (P : RepliedLine → Type 0) (on : Act → Bool) (ts : List RepliedLine) (q : QuietPart)
    (qs : List QuietPart)
    → IfSome (quiet_on on q.0) P
    → AllByRecursion P (lines_on on ts)
    → InSections (HoldsOn on P) q.1 qs
    → InSections (HoldsOn on P) ts (q ∷ qs)
section_joined P on ts q qs quiet h rest = (
  each_where P (λ (t : RepliedLine). on t.line.act) ts h,
  ((quiet_there P on q.0 quiet, rest.0), rest.1),
)

sections_safe :
    (granted : GrantedMemory) (n cpus : ℕ) (on : Act → Bool) (s : Store) (ts : List RepliedLine)
    (qs : List QuietPart)
    → AreApart granted
    → IsLowStampRun granted n cpus s
    → InSections (IsLine cpus) ts qs
    → n + 32 * line_count ts qs ≤ top
    → AllByRecursion IsGoodSection (sections_from on s ts qs)
    → InSections (HoldsOn on (λ (t : RepliedLine). IsUnworn t.reply)) ts qs
    × AllByRecursion (AccessesLand granted) (sections_from on s ts qs)
sections_safe granted n cpus on s ts [] apart run lines low good =
    let here = λ (t : RepliedLine). on t.line.act in
    let only = section_safe granted n (n + 32 * length ts) cpus (section_of on s ts None) apart run
    (each_filter (IsLine cpus) here ts lines.0) (omega (arith, filter_length here ts)) low
    good.0 in
    ((each_where (λ (t : RepliedLine). IsUnworn t.reply) here ts only.0, tt), (only.1, tt))
sections_safe granted n cpus on s ts (q ∷ qs) apart run lines low good =
    let here = λ (t : RepliedLine). on t.line.act in
    let m = n + 32 * length ts in
    let x = section_of on s ts (quiet_on on q.0) in
    let first = section_safe granted n m cpus x apart run
    (each_filter (IsLine cpus) here ts lines.0) (omega (arith, filter_length here ts))
    (omega arith) good.0 in
    let between = left_safe granted m cpus (closing x) x.quiet good.0.quiet first.2 in
    let rest = sections_safe granted m cpus on (after_quiet (closing x) x.quiet) q.1 qs apart
    between.1 (lines.1.0.1, lines.1.1) (omega arith) good.1 in (
      section_joined (λ (t : RepliedLine). IsUnworn t.reply) on ts q qs between.0 first.0 rest.0,
      (first.1, rest.1),
    )

-- ---- from lines to sections, and back
front_in :
    (P : RepliedLine → Type 0) (t : RepliedLine) (x : List RepliedLine × List QuietPart)
    → P t
    → InSections P x.0 x.1
    → InSections P (cut_before t x).0 (cut_before t x).1
front_in P t x h k = at (cases_Bool (is_quiet t.line.act)) where
  at :
      (is_quiet t.line.act ≡ true) ⊎ (is_quiet t.line.act ≡ false)
      → InSections P (cut_before t x).0 (cut_before t x).1
  at (inl q) = rw q (tt, ((h, k.0), k.1))
  at (inr q) = rw q ((h, k.0), k.1)

pub cut_in :
    (P : RepliedLine → Type 0) (ts : List RepliedLine)
    → AllByRecursion P ts
    → InSections P (cut ts).0 (cut ts).1
cut_in P [] h = (tt, tt)
cut_in P (t ∷ ts) h = front_in P t (cut ts) h.0 (cut_in P ts h.1)

front_out :
    (P : RepliedLine → Type 0) (t : RepliedLine) (x : List RepliedLine × List QuietPart)
    → InSections P (cut_before t x).0 (cut_before t x).1
    → P t × InSections P x.0 x.1
front_out P t x = at (cases_Bool (is_quiet t.line.act)) where
  at :
      (is_quiet t.line.act ≡ true) ⊎ (is_quiet t.line.act ≡ false)
      → InSections P (cut_before t x).0 (cut_before t x).1
      → P t × InSections P x.0 x.1
  at (inl q) h =
      let k : InSections P [] ((t, x.0) ∷ x.1) = rw q at h in
      (k.1.0.0, (k.1.0.1, k.1.1))
  at (inr q) h =
      let k : InSections P (t ∷ x.0) x.1 = rw q at h in
      (k.0.0, (k.0.1, k.1))

pub cut_out :
    (P : RepliedLine → Type 0) (ts : List RepliedLine)
    → InSections P (cut ts).0 (cut ts).1
    → AllByRecursion P ts
cut_out P [] h = tt
cut_out P (t ∷ ts) h =
    let k = front_out P t (cut ts) h in
    (k.0, cut_out P ts k.1)

front_count :
    (t : RepliedLine) (x : List RepliedLine × List QuietPart)
    → line_count (cut_before t x).0 (cut_before t x).1 ≤ 1 + line_count x.0 x.1
front_count t x = at (cases_Bool (is_quiet t.line.act)) where
  more :
      (ts : List RepliedLine) (qs : List QuietPart) → line_count (t ∷ ts) qs ≤ 1 + line_count ts qs
  more ts [] = omega arith
  more ts (q ∷ qs) = omega arith

  at :
      (is_quiet t.line.act ≡ true) ⊎ (is_quiet t.line.act ≡ false)
      → line_count (cut_before t x).0 (cut_before t x).1 ≤ 1 + line_count x.0 x.1
  at (inl q) = rw q (omega arith)
  at (inr q) = rw q (more x.0 x.1)

pub cut_count : (ts : List RepliedLine) → line_count (cut ts).0 (cut ts).1 ≤ length ts
cut_count [] = omega arith
cut_count (t ∷ ts) = omega (arith, front_count t (cut ts), cut_count ts)

-- ---- lines and their replies
pub replied_lines_count :
    (ls : List TraceLine) (rs : List Reply) → length (lines_with_replies ls rs) ≤ length ls
replied_lines_count [] rs = omega arith
replied_lines_count (l ∷ ls) [] = omega arith
replied_lines_count (l ∷ ls) (r ∷ rs) = omega (arith, replied_lines_count ls rs)

pub replied_lines_lines :
    (cpus : ℕ) (ls : List TraceLine) (rs : List Reply)
    → AllByRecursion (λ (l : TraceLine). l.cpu < cpus) ls
    → AreReplies ls rs
    → AllByRecursion (IsLine cpus) (lines_with_replies ls rs)
replied_lines_lines cpus [] rs on kinds = tt
replied_lines_lines cpus (l ∷ ls) [] on kinds = tt
replied_lines_lines cpus (l ∷ ls) (r ∷ rs) on kinds =
    ((on.0, kinds.0), replied_lines_lines cpus ls rs on.1 kinds.1)

-- ---- the lines on the page table
table_safe :
    (t : AcceptedTrace) (rs : List Reply)
    → IsAccepted t
    → IsGoodRun t rs
    → HoldOn (λ (x : RepliedLine). IsUnworn x.reply) t.config.windows
    (lines_with_replies t.lines rs) (page_table t.config)
    × AllByRecursion (AccessesLand t.config.granted) (sections_of t rs)
table_safe t rs is good =
    let granted = t.config.granted in
    let cpus = t.config.cpus in
    let first = page_table t.config in
    let on = is_on t.config.windows first.window in
    let all = lines_with_replies t.lines rs in
    let c = cut all in
    let run : IsLowStampRun granted 1 cpus first = record {
      grants = opening_grants t.config;
      processors = opening_processors t;
      states = opening_states t.config is.entries;
      placed = opening_placed t.config;
      table = opening_table t;
    } in
    let lines : InSections (IsLine cpus) c.0 c.1 = cut_in (IsLine cpus) all
    (replied_lines_lines cpus t.lines rs is.lines.on_cpus good.kinds) in
    let few : length t.lines ≤ most_lines = is.lines.few in
    let low : 1 + 32 * line_count c.0 c.1 ≤ top = omega
    (arith, cut_count all, replied_lines_count t.lines rs) in
    let safe = sections_safe granted 1 cpus on first c.0 c.1 is.sound.apart run lines low
    good.stores.0 in
    (cut_out (HoldsOn on (λ (x : RepliedLine). IsUnworn x.reply)) all safe.0, safe.1)

pub table_unworn :
    (t : AcceptedTrace) (rs : List Reply)
    → IsAccepted t
    → IsGoodRun t rs
    → HoldOn (λ (x : RepliedLine). IsUnworn x.reply) t.config.windows
    (lines_with_replies t.lines rs) (page_table t.config)
table_unworn t rs is good = (table_safe t rs is good).0

pub accesses_land :
    (t : AcceptedTrace) (rs : List Reply)
    → IsAccepted t
    → IsGoodRun t rs
    → AllByRecursion (AccessesLand t.config.granted) (sections_of t rs)
accesses_land t rs is good = (table_safe t rs is good).1
