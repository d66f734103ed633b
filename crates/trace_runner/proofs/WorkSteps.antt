-- A processor of a section, one line on.
use Rattle.std.proofs.Common.{◌≡◌, ℕ, suc, ◌+◌, ◌-◌, ◌^◌, ◌<◌, List, [], ◌∷◌, ◌++◌, length, take, get_or, if◌then◌else◌, true, false, ap, sym, ◌∙◌, refl, subst, inl, inr, eqb, append-nil, append_assoc, All, Some, None}
use Rattle.std.proofs.lemmas.List.Elements.{All-head, All-tail}
use Rattle.std.specs.Prelude.{IfSome}
use Rattle.std.specs.List.{AllByRecursion}
use Rattle.hpte_fields.specs.TableSize.{entry_count}
use Rattle.entry_model.specs.CachedLines.{AllLater}
use Rattle.run_model.specs.LineReplies.{IsCallReply, IsReplyToAccess}
use Rattle.std.proofs.lemmas.List.Elements.{filter_more}
use Rattle.run_model.proofs.LineReceipts.{lines_append}
use Rattle.entry_model.specs.declared.receipt.Receipt.{Receipt}
use Rattle.tlb_model.specs.Cache.{AllCached}
use Rattle.entry_model.specs.Fronts.{opening_fronts, KeepsFronts, IsGone}
use Rattle.entry_model.proofs.FrontLaws.{keeps_below}
use Rattle.entry_lock.specs.declared.table.LockTable.{LockTable}
use Rattle.entry_lock.specs.declared.table.Pass.{Pass}
use Rattle.entry_lock.specs.PassOfTable.{IsOf, view_of}
use Rattle.entry_lock.specs.WaitingStore.{IsInTable, MadeInTable}
use Rattle.run_model.specs.StoreContexts.{StoreContext, StoreSurroundings, access_of, context_on}
use Rattle.tlb_model.specs.Processor.{Processor}
use Rattle.trace_line.specs.declared.line.TraceLine.{TraceLine}
use Rattle.trace_reply.specs.declared.reply.Reply.{Reply}
use Rattle.trace_reply.specs.Replies.{RepliedLine, IsOfKind, AreReplies, receipts_in, lines_with_replies}
use Rattle.run_model.specs.Processors.{processor_after, gone_line_of}
use Rattle.run_model.specs.Sections.{processor_after_lines}
use Rattle.run_model.specs.Histories.{receipts_by}
use Rattle.run_model.specs.ParallelRun.{WorksLine, Works}
use Rattle.trace_runner.specs.declared.worker.Worker.{Worker}
use Rattle.trace_runner.specs.Workers.{Keeping, replied_line, lines_of_cpu, replied_lines_of_cpu, IsSeenBy, HasRun, HasStart, IsReady}

-- ---- lists of replied_lines
pub kinds_more :
    (ls ms : List TraceLine) (rs ss : List Reply)
    → AreReplies ls rs
    → AreReplies ms ss
    → AreReplies (ls ++ ms) (rs ++ ss)
kinds_more [] ms [] ss h k = k
kinds_more [] ms (r ∷ rs) ss h k = absurd h
kinds_more (l ∷ ls) ms [] ss h k = absurd h
kinds_more (l ∷ ls) ms (r ∷ rs) ss h k = (h.0, kinds_more ls ms rs ss h.1 k)

pub kinds_count : (ls : List TraceLine) (rs : List Reply) → AreReplies ls rs → length rs ≡ length ls
kinds_count [] [] h = refl
kinds_count [] (r ∷ rs) h = absurd h
kinds_count (l ∷ ls) [] h = absurd h
kinds_count (l ∷ ls) (r ∷ rs) h = ap suc (kinds_count ls rs h.1)

pub works_more :
    (set : StoreContext) (f : List ℕ) (processor : Processor) (ts : List RepliedLine)
    (t : RepliedLine) (mid later : List ℕ)
    → Works set f processor ts mid
    → WorksLine set mid (processor_after_lines processor ts) t later
    → Works set f processor (ts ++ t ∷ []) later
works_more set f processor [] t mid later h k =
    (later, subst (λ g. WorksLine set g processor t later) h k, refl)
works_more set f processor (u ∷ us) t mid later h k = (
  h.0,
  h.1,
  works_more set h.0 (processor_after processor u.line.act u.reply) us t mid later h.2 k,
)

pub processor_more :
    (processor : Processor) (ts : List RepliedLine) (t : RepliedLine)
    → processor_after_lines processor (ts ++ t ∷ [])
    ≡ processor_after (processor_after_lines processor ts) t.line.act t.reply
processor_more processor [] t = refl
processor_more processor (u ∷ us) t =
    processor_more (processor_after processor u.line.act u.reply) us t

pub receipts_more :
    (ts : List RepliedLine) (t : RepliedLine)
    → receipts_by (ts ++ t ∷ []) ≡ receipts_by ts ++ receipts_in t.reply
receipts_more [] t = append-nil (receipts_in t.reply)
receipts_more (u ∷ us) t =
    ap (λ rs. receipts_in u.reply ++ rs) (receipts_more us t)
    ∙ sym (append_assoc (receipts_in u.reply) (receipts_by us) (receipts_in t.reply))

-- ---- lines of one processor
pub own_more :
    (cpu : ℕ) (lines : List TraceLine) (k : ℕ) (d : TraceLine)
    → k < length lines
    → eqb (get_or lines k d).cpu cpu ≡ true
    → lines_of_cpu cpu (take (k + 1) lines)
    ≡ lines_of_cpu cpu (take k lines) ++ get_or lines k d ∷ []
own_more cpu lines k d within own =
    filter_more (λ (l : TraceLine). eqb l.cpu cpu) lines k d within
    ∙ ap (λ b. lines_of_cpu cpu (take k lines) ++ (if b then get_or lines k d ∷ [] else [])) own

pub own_same :
    (cpu : ℕ) (lines : List TraceLine) (k : ℕ) (d : TraceLine)
    → k < length lines
    → eqb (get_or lines k d).cpu cpu ≡ false
    → lines_of_cpu cpu (take (k + 1) lines) ≡ lines_of_cpu cpu (take k lines)
own_same cpu lines k d within other =
    filter_more (λ (l : TraceLine). eqb l.cpu cpu) lines k d within
    ∙ ap (λ b. lines_of_cpu cpu (take k lines) ++ (if b then get_or lines k d ∷ [] else [])) other
    ∙ append-nil (lines_of_cpu cpu (take k lines))

-- ---- receipts
pub all_in :
    (order n : ℕ) (rs : List Receipt)
    → n ≡ entry_count order
    → All (IsInTable order) rs
    → AllByRecursion (λ (r : Receipt). r.entry < n) rs
all_in order n [] e h = tt
all_in order n (r ∷ rs) e h = (
  subst (λ m. r.entry < m) (sym e) (All-head (IsInTable order) r rs h),
  all_in order n rs e (All-tail (IsInTable order) r rs h),
)

pub kept_size :
    (f g : List ℕ) (rs : List Receipt) (n : ℕ) → KeepsFronts f rs g → length f ≡ n → length g ≡ n
kept_size f g rs n keeps size = (keeps_below f g rs keeps).size ∙ size

-- ---- one line on
-- What it has run of its own lines it has run of any among which it has just these.
pub same_run :
    {L : Type 0} (set : StoreContext) (table : LockTable) (cpu : ℕ) (one other : List TraceLine)
    (rs : List Reply) (w v : Worker L) (pass : Pass)
    → lines_of_cpu cpu one ≡ lines_of_cpu cpu other
    → v.cpu ≡ w.cpu
    → v.before.value ≡ w.before.value
    → HasRun set table cpu one rs w pass
    → HasRun set table cpu other rs v pass
same_run set table cpu one other rs w v pass e same before h = record {
  of = h.of;
  share = h.share;
  made =
      subst (λ ls. (view_of pass).actor.receipts ≡ receipts_by (lines_with_replies ls rs)) e h.made;
  kinds = subst (λ ls. AreReplies ls rs) e h.kinds;
  works =
      rw before
      (subst
      (λ ls.
      Works set (opening_fronts table.opening.items) w.before.value
      (lines_with_replies ls rs) (view_of pass).fronts) e h.works);
  size = h.size;
  processor =
      rw (before, same)
      (subst (λ ls. w.cpu ≡ processor_after_lines w.before.value (lines_with_replies ls rs)) e
      h.processor);
  seen = rw same h.seen;
}

-- ---- ready and done
-- A worker that is ready and has a pass has lines to run.
pub has_start :
    {L : Type 0} (keeps : Keeping L) (room_in : L → ℕ) (set : StoreContext) (table : LockTable)
    (cpu : ℕ) (lines : List TraceLine) (w : Worker L) (pass : Pass)
    → w.pass ≡ Some pass
    → IsReady keeps room_in set table cpu lines w
    → HasStart keeps room_in set table cpu lines w
has_start keeps room_in set table cpu lines w pass has (inl idle) =
    absurd (let clash : None ≡ Some pass = sym idle.no_pass ∙ has in cc)
has_start keeps room_in set table cpu lines w pass has (inr start) = start

-- ---- one line
-- What the line of this processor leaves.
pub record Ran (set : StoreContext) (table : LockTable) (l : TraceLine)
    (processor later : Processor) (pass behind : Pass) (r : Reply) :
    Type 0 where
  pub of : IsOf table behind
  pub share : behind.shares ≡ pass.shares
  pub made : (view_of behind).actor.receipts ≡ (view_of pass).actor.receipts ++ receipts_in r
  pub line :
      WorksLine set (view_of pass).fronts processor (replied_line l r) (view_of behind).fronts
  pub size : length (view_of behind).fronts ≡ 2 ^ (table.order - 4)
  pub kind : IsOfKind l.act r
  pub place : later ≡ processor_after processor l.act r
  pub seen : AllCached (IsSeenBy table behind) later.cache

pub own_run :
    {L : Type 0} (set : StoreContext) (table : LockTable) (cpu : ℕ) (lines : List TraceLine) (k : ℕ)
    (d : TraceLine) (rs ss : List Reply) (w v : Worker L) (pass behind : Pass) (r : Reply)
    → k < length lines
    → eqb (get_or lines k d).cpu cpu ≡ true
    → HasRun set table cpu (take k lines) rs w pass
    → v.before.value ≡ w.before.value
    → ss ≡ rs ++ r ∷ []
    → Ran set table (get_or lines k d) w.cpu v.cpu pass behind r
    → HasRun set table cpu (take (k + 1) lines) ss v behind
own_run set table cpu lines k d rs ss w v pass behind r within own h before replies ran =
    let l = get_or lines k d in
    let old = replied_lines_of_cpu cpu (take k lines) rs in
    let e = own_more cpu lines k d within own in
    let grown : replied_lines_of_cpu cpu (take (k + 1) lines) ss ≡ old ++ replied_line l r ∷ [] =
    (λ i. lines_with_replies (e i) (replies i)) ∙ lines_append
    (lines_of_cpu cpu (take k lines)) (l ∷ []) rs (r ∷ []) h.kinds in
    let processor : v.cpu ≡ processor_after_lines w.before.value (old ++ replied_line l r ∷ []) =
    ran.place ∙ ap (λ s. processor_after s l.act r) h.processor ∙ sym
    (processor_more w.before.value old (replied_line l r)) in
    let line : WorksLine set (view_of pass).fronts (processor_after_lines w.before.value old)
    (replied_line l r) (view_of behind).fronts = subst
    (λ s. WorksLine set (view_of pass).fronts s (replied_line l r) (view_of behind).fronts)
    h.processor ran.line in
    record {
      of = ran.of;
      share = ran.share ∙ h.share;
      made =
          ran.made
          ∙ ap (λ l. l ++ receipts_in r) h.made
          ∙ sym (receipts_more old (replied_line l r))
          ∙ ap receipts_by (sym grown);
      kinds =
          subst (λ ls. AreReplies ls ss) (sym e)
          (subst (λ z. AreReplies (lines_of_cpu cpu (take k lines) ++ l ∷ []) z) (sym replies)
          (kinds_more (lines_of_cpu cpu (take k lines)) (l ∷ []) rs (r ∷ []) h.kinds
          (ran.kind, tt)));
      works =
          rw (before, grown)
          (works_more set (opening_fronts table.opening.items) w.before.value old
          (replied_line l r) (view_of pass).fronts (view_of behind).fronts h.works line);
      size = ran.size;
      processor = rw (before, grown) processor;
      seen = ran.seen;
    }

-- ---- what the generic call gives over the store of a pass
pub line_works :
    (table : LockTable) (around : StoreSurroundings) (l : TraceLine) (processor : Processor)
    (pass behind : Pass) (r : Reply)
    → MadeInTable table.order (view_of pass) (view_of behind) (receipts_in r)
    → length (view_of pass).fronts ≡ 2 ^ (table.order - 4)
    → IsCallReply (context_on table.order around) l.act r
    → IsReplyToAccess (access_of (context_on table.order around)) processor l.act r
    → IfSome (gone_line_of processor l.act r) (λ line. AllLater line (receipts_in r))
    → IfSome (gone_line_of processor l.act r) (IsGone (view_of behind).fronts)
    → WorksLine (context_on table.order around) (view_of pass).fronts processor (replied_line l r)
    (view_of behind).fronts
line_works table around l processor pass behind r made size call reach past gone = record {
  call = call;
  access = reach;
  in_table = all_in table.order (length (view_of pass).fronts) (receipts_in r) size made.inside;
  keeps = made.made.fronts;
  comes_later = past;
  gone = gone;
}
