-- In a good run a hit is by a line that is current, and a walk goes past a line only where it is
-- gone.
use Rattle.std.specs.Prelude.{max, IfSome}
use Rattle.std.proofs.Common.{◌≡◌, ℕ, ◌+◌, ◌*◌, ◌<◌, ◌≤◌, List, [], ◌∷◌, ◌++◌, true, false, refl, sym, subst, ◌⊎◌, inl, inr, map, Option, Some, None, eqb, arith}
use Rattle.std.specs.List.{AllByRecursion}
use Rattle.std.proofs.lemmas.Bool.{cases_Bool, eq-eqb}
use Rattle.entry_model.specs.State.{State}
use Rattle.entry_model.specs.declared.line.Line.{Line}
use Rattle.entry_model.specs.declared.receipt.Receipt.{Receipt}
use Rattle.entry_model.specs.declared.access_reply.AccessReply.{AccessReply}
use Rattle.entry_model.specs.declared.access_reply.By.{By}
use Rattle.entry_model.specs.declared.access_reply.By.TheVariants.{Hit, Walk}
use Rattle.entry_model.specs.Receipt.{is_no_match, after_of}
use Rattle.entry_model.specs.Run.{state_at}
use Rattle.entry_model.specs.History.{pair_of}
use Rattle.entry_model.specs.Fronts.{pair_beyond}
use Rattle.entry_model.specs.CachedLines.{IsCurrent, AllLater}
use Rattle.entry_model.specs.Trial.{IsTrial}
use Rattle.entry_model.proofs.FrontLaws.{after_rises}
use Rattle.slb_model.specs.declared.segment.Segment.{Segment}
use Rattle.slb_model.specs.Buffer.{segment_of}
use Rattle.hpt_walk.specs.declared.request.Request.{Request}
use Rattle.hpt_walk.specs.Access.{AccessContext, IsAccessReply, IsByWay, IsHit, hit_calls, request}
use Rattle.tlb_model.specs.Cache.{cached_line}
use Rattle.tlb_model.specs.CacheAfter.{gone_line, gone_by_way}
use Rattle.tlb_model.specs.Processor.{Processor}
use Rattle.trace_read.specs.Trace.{AcceptedTrace}
use Rattle.trace_line.specs.declared.act.Act.{Act}
use Rattle.trace_reply.specs.declared.reply.Reply.{Reply}
use Rattle.trace_reply.specs.Replies.{RepliedLine, receipts_in}
use Rattle.run_model.specs.StoreContexts.{access_of}
use Rattle.run_model.specs.Processors.{processor_at, processor_after, gone_line_of}
use Rattle.run_model.specs.LineReplies.{IsReplyToAccess}
use Rattle.run_model.specs.Stores.{context_of, states_of}
use Rattle.run_model.specs.Histories.{lines_of_processor, Event, made, InOrder, gone_events, events_by}
use Rattle.run_model.specs.Sections.{Section, closing, sections_of}
use Rattle.run_model.specs.GoodRun.{IsGoodRun, IsGoodSection, AreInOrder, EachLineOfProcessor, IsAccessLine, AccessesAreReplied}
use Rattle.run_model.specs.CachedAccesses.{IsByCurrentLine, UsesLine, line_in, UsesItsCache, AccessesUseCaches}
use Rattle.basics.proofs.Each.{each_map}
use Rattle.run_model.proofs.OneProcessor.{first_events, left_high, left_rest, receipts_rest, pair_stamp}
use Rattle.trace_line.specs.declared.act.Act.TheVariants as acts
use Rattle.trace_reply.specs.declared.reply.Reply.TheVariants as replies
use Rattle.basics.proofs.Bools.{no_more}

-- ---- hits
hit_by_line :
    (context : AccessContext) (seg : Segment) (a : Request) (line : Line) (r : AccessReply)
    (rs : List Receipt)
    → r.receipts ≡ rs
    → IsHit context seg a line r
    → IsByCurrentLine line rs
hit_by_line context seg a line r [] e h =
    absurd (subst (λ xs. IsTrial is_no_match (hit_calls seg a line) xs) e h.trial)
hit_by_line context seg a line r (x ∷ []) e h =
    let trial = subst (λ xs. IsTrial is_no_match (hit_calls seg a line) xs) e h.trial in
    let current = subst (λ xs. AllByRecursion (λ (y : Receipt). IsCurrent line y.before) xs) e
    h.current in
    record { receipt = x; only = refl; entry = trial.0.entry; current = current.0 }
hit_by_line context seg a line r (x ∷ y ∷ ys) e h =
    let trial = subst (λ xs. IsTrial is_no_match (hit_calls seg a line) xs) e h.trial in
    absurd (no_more (is_no_match x.answer) y ys trial.1)

-- ---- walks past a line
-- A front beyond the line's pair puts the entry's receipts after the line.
differ :
    (r : Receipt) (line : Line) → eqb r.entry line.entry ≡ true → eqb r.entry line.entry ≡ false → ⊥
differ r line a b = cc

step_later :
    (line : Line) (p : ℕ) (r : Receipt) (rs : List Receipt) (evs : List Event)
    → pair_beyond line ≤ p
    → InOrder line.entry p (made r ∷ evs)
    → ((q : ℕ) → pair_beyond line ≤ q → InOrder line.entry q evs → AllLater line rs)
    → AllLater line (r ∷ rs)
step_later line p r rs evs high h rest = at (cases_Bool (eqb r.entry line.entry)) where
  at : (eqb r.entry line.entry ≡ true) ⊎ (eqb r.entry line.entry ≡ false) → AllLater line (r ∷ rs)
  at (inl own) =
      let k = rw own at h in
      let level : (line.stamp + 1) * 4 ≤ pair_of r.before = omega (arith, k.0) in (
        λ same.
            pair_stamp line.stamp r.before level,
        rest (pair_of (after_of r)) (omega (arith, after_rises r)) k.1,
      )
  at (inr other) =
      let k = rw other at h in
      (λ same. absurd (differ r line (eq-eqb r.entry line.entry same) other), rest p high k)

front_later :
    (line : Line) (p : ℕ) (rs : List Receipt) (evs : List Event)
    → pair_beyond line ≤ p
    → InOrder line.entry p (map (λ (r : Receipt). made r) rs ++ evs)
    → AllLater line rs
front_later line p [] evs high h = tt
front_later line p (r ∷ rs) evs high h =
    step_later line p r rs (map (λ (r : Receipt). made r) rs ++ evs) high h
    (λ q k o. front_later line q rs evs k o)

gone_later :
    (line : Option Line) (rs : List Receipt) (evs : List Event)
    →
    ((e : ℕ)
    → (p : ℕ) × InOrder e p (gone_events line ++ (map (λ (r : Receipt). made r) rs ++ evs)))
    → IfSome line (λ l. AllLater l rs)
gone_later None rs evs order = tt
gone_later (Some line) rs evs order =
    let o = order line.entry in
    let events = map (λ (r : Receipt). made r) rs ++ evs in
    front_later line (max o.0 (pair_beyond line)) rs evs (omega arith)
    (left_high o.0 line events o.1)

-- ---- accesses
way_uses :
    (context : AccessContext) (states : List State) (seg : Segment) (a : Request)
    (line : Option Line) (way : Option By) (r : AccessReply)
    → IsByWay context seg a line way r
    → IfSome (gone_by_way way line) (λ l. l.stamp < (state_at states l.entry).stamp)
    → IfSome (gone_by_way way line) (λ l. AllLater l r.receipts)
    → UsesLine states way line r.receipts
way_uses context states seg a (Some line) (Some Hit) r h left later =
    hit_by_line context seg a line r r.receipts refl h
way_uses context states seg a (Some line) (Some Walk) r h left later =
    record { left = left; later = later }
way_uses context states seg a None (Some Walk) r h left later = tt
way_uses context states seg a None (Some Hit) r h left later = absurd h
way_uses context states seg a None None r h left later = tt
way_uses context states seg a (Some line) None r h left later = tt

segment_uses :
    (context : AccessContext) (states : List State) (p : Processor) (a : Request)
    (segment : Option Segment) (r : AccessReply)
    → IsAccessReply context (cached_line p.cache) a segment r
    → IfSome (gone_line p.cache segment r) (λ l. l.stamp < (state_at states l.entry).stamp)
    → IfSome (gone_line p.cache segment r) (λ l. AllLater l r.receipts)
    → UsesLine states r.by (line_in p segment) r.receipts
segment_uses context states p a None r h left later =
    subst (λ (x : AccessReply). UsesLine states x.by None x.receipts) (sym h) tt
segment_uses context states p a (Some seg) r h left later =
    way_uses context states seg a (cached_line p.cache seg.page) r.by r h left later

act_uses :
    (context : AccessContext) (states : List State) (p : Processor) (act : Act) (reply : Reply)
    → IsReplyToAccess context p act reply
    → IfSome (gone_line_of p act reply) (λ l. l.stamp < (state_at states l.entry).stamp)
    → IfSome (gone_line_of p act reply) (λ l. AllLater l (receipts_in reply))
    → UsesItsCache states p act reply
act_uses context states p (acts.Access want ea user) (replies.Access r) h left later =
    segment_uses context states p (request want ea user p.masks) (segment_of p.slots ea) r h left
    later
act_uses context states p act reply h left later = tt

-- ---- the lines of one processor
lines_use :
    (context : AccessContext) (states : List State) (p : Processor) (ts : List RepliedLine)
    → EachLineOfProcessor (IsAccessLine context states) p ts
    → ((e : ℕ) → (q : ℕ) × InOrder e q (events_by p ts))
    → EachLineOfProcessor (λ p t. UsesItsCache states p t.line.act t.reply) p ts
lines_use context states p [] h order = tt
lines_use context states p (t ∷ ts) h order =
    let line = gone_line_of p t.line.act t.reply in
    let rs = receipts_in t.reply in
    let rest = events_by (processor_after p t.line.act t.reply) ts in
    let order' : (e : ℕ) → (q : ℕ) × InOrder e q
    (gone_events line ++ (map (λ (r : Receipt). made r) rs ++ rest)) = λ e.
    ((order e).0, subst (InOrder e (order e).0) (first_events p t ts) (order e).1) in
    let next : (e : ℕ) → (q : ℕ) × InOrder e q rest = λ e.
    (let k = left_rest e (order' e).0 line (map (λ (r : Receipt). made r) rs ++ rest)
    (order' e).1 in
    receipts_rest e k.0 rs rest k.1) in (
      act_uses context states p t.line.act t.reply h.0.reply h.0.gone
          (gone_later line rs rest order'),
      lines_use context states (processor_after p t.line.act t.reply) ts h.1 next,
    )

-- ---- sections
section_uses : (s : Section) → AreInOrder s → AccessesAreReplied s → AccessesUseCaches s
section_uses s order replied =
    λ cpu.
    lines_use (access_of (context_of s.before)) (states_of (closing s))
    (processor_at s.before.processors cpu) (lines_of_processor cpu s.replied_lines)
    (replied cpu) (λ e. (pair_of (state_at (states_of s.before) e), order cpu e))

sections_use :
    (ss : List Section)
    → AllByRecursion AreInOrder ss
    → AllByRecursion AccessesAreReplied ss
    → AllByRecursion AccessesUseCaches ss
sections_use [] order replied = tt
sections_use (s ∷ ss) order replied =
    (section_uses s order.0 replied.0, sections_use ss order.1 replied.1)

pub accesses_use_caches :
    (t : AcceptedTrace) (rs : List Reply)
    → IsGoodRun t rs
    → AllByRecursion AccessesUseCaches (sections_of t rs)
accesses_use_caches t rs good =
    let ss = sections_of t rs in
    sections_use ss (each_map IsGoodSection AreInOrder ss (λ s h. h.in_order) good.stores.0)
    (each_map IsGoodSection AccessesAreReplied ss (λ s h. h.accesses) good.stores.0)
