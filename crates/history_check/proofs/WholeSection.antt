-- A section, from what its parts show of it.
use Rattle.std.specs.List.{AllByRecursion}
use Rattle.std.proofs.Common.{◌≡◌, ℕ, ◌+◌, ◌<◌, ◌≤◌, List, [], ◌∷◌, ◌++◌, ap, sym, ◌∙◌, refl, subst, map, take, drop, length, arith}
use Rattle.std.proofs.lemmas.List.{length-map, length-append, take-append-drop}
use Rattle.std.proofs.Math.Seq.{take-append_seam, drop-append_seam}
use Rattle.entry_model.specs.State.{State}
use Rattle.entry_model.specs.declared.receipt.Receipt.{Receipt}
use Rattle.entry_model.specs.History.{pair_of}
use Rattle.entry_model.specs.Run.{state_at}
use Rattle.entry_model.specs.Fronts.{front_at, opening_fronts}
use Rattle.run_model.specs.StoreContexts.{StoreContext, access_of}
use Rattle.tlb_model.specs.Processor.{Processor}
use Rattle.trace_line.specs.declared.line.TraceLine.{TraceLine}
use Rattle.trace_reply.specs.declared.reply.Reply.{Reply}
use Rattle.trace_reply.specs.Replies.{RepliedLine, AreReplies, receipts_in, lines_with_replies}
use Rattle.run_model.specs.Processors.{processor_at, processors_after, processors_behind}
use Rattle.run_model.specs.LineReplies.{IsCallReply, IsReplyToAccess}
use Rattle.run_model.specs.Histories.{InOrder, receipts_by, lines_of_processor, events_by}
use Rattle.run_model.specs.GoodRun.{EachLineOfProcessor, IsAccessLine}
use Rattle.entry_model.proofs.Regroup.{regrouped_back}
use Rattle.basics.proofs.Each.{each_front, each_back}
use Rattle.run_model.proofs.SectionGood.{each_regrouped}
use Rattle.run_model.proofs.SerialParallel.{front_of}
use Rattle.run_model.proofs.LinesByProcessor.{Cpus, InFileOrder, own_lines, file_lines, file_listed, own_processors}
use Rattle.receipt_text.specs.declared.mark.Mark.{Mark}
use Rattle.receipt_text.specs.Receipts.{mark_of}
use Rattle.history_check.specs.declared.mark_steps.LineStep.{LineStep}
use Rattle.history_check.specs.ReplyMarks.{marks_in}
use Rattle.history_check.specs.Replay.{before_each}
use Rattle.history_check.specs.PlacedSteps.{PlacedStep, placed_step, placed_line, FindStates, AreInTable}
use Rattle.history_check.specs.OrderedSteps.{numbered, numbered_by}
use Rattle.trace_line.specs.Lines.{AreOnProcessors}
use Rattle.run_model.specs.Quiet.{NoneQuiet}
use Rattle.history_check.specs.FoundSection.{Opening, section_on, IsFound, HasSection, HasNoSection, closing_of}
use Rattle.history_check.specs.LineReply.{StandsOn}
use Rattle.history_check.specs.JudgedLines.{AllStand, AllInOrder, AreReplied, judged}
use Rattle.history_check.specs.SectionMarks.{section_steps, HasItsMarks, ShowMarks, MarkEntries, ReadMarks, NoMarks}
use Rattle.history_check.proofs.TextMarks.{short_marks}
use Rattle.history_check.proofs.Short.{LowStates, ShortLines, lines_short}
use Rattle.history_check.proofs.LineSteps as shown
use Rattle.history_check.proofs.FoundStates.{section_finds, found_section}
use Rattle.hpte_fields.specs.TableSize.{entry_count, greatest_order}

-- ---- fronts

cpus_of :
    (n : ℕ) (ls : List TraceLine) (rs : List Reply)
    → AreOnProcessors n ls
    → Cpus n (lines_with_replies ls rs)
cpus_of n [] rs h = tt
cpus_of n (l ∷ ls) [] h = tt
cpus_of n (l ∷ ls) (r ∷ rs) h = (h.0, cpus_of n ls rs h.1)

before_append : (xs ys : List Receipt) → before_each (xs ++ ys) ≡ before_each xs ++ before_each ys
before_append [] ys = refl
before_append (x ∷ xs) ys = ap (λ l. x.before ∷ l) (before_append xs ys)

placed_append :
    (xs ys : List Receipt) → map placed_step (xs ++ ys) ≡ map placed_step xs ++ map placed_step ys
placed_append [] ys = refl
placed_append (x ∷ xs) ys = ap (λ l. placed_step x ∷ l) (placed_append xs ys)

-- ---- from the lines that stand
stand_kinds :
    (context : StoreContext) (closing : List State) (ps : List Processor) (ls : List TraceLine)
    (ns : List ℕ) (found : List State) (rs : List Reply)
    → AllStand context closing ps ls ns found rs
    → AreReplies ls rs
stand_kinds context closing ps [] [] found [] h = tt
stand_kinds context closing ps [] [] found (r ∷ rs) h = absurd h
stand_kinds context closing ps [] (n ∷ ns) found rs h = absurd h
stand_kinds context closing ps (l ∷ ls) [] found rs h = absurd h
stand_kinds context closing ps (l ∷ ls) (n ∷ ns) found [] h = absurd h
stand_kinds context closing ps (l ∷ ls) (n ∷ ns) found (r ∷ rs) h = (
  h.1.reply.kind,
  stand_kinds context closing (processors_after ps (record { line = l; reply = r })) ls ns
      (drop n found) rs h.2,
)

stand_before :
    (context : StoreContext) (closing : List State) (ps : List Processor) (ls : List TraceLine)
    (ns : List ℕ) (found : List State) (rs : List Reply)
    → AllStand context closing ps ls ns found rs
    → before_each (receipts_by (lines_with_replies ls rs)) ≡ found
stand_before context closing ps [] [] found [] h = sym h
stand_before context closing ps [] [] found (r ∷ rs) h = absurd h
stand_before context closing ps [] (n ∷ ns) found rs h = absurd h
stand_before context closing ps (l ∷ ls) [] found rs h = absurd h
stand_before context closing ps (l ∷ ls) (n ∷ ns) found [] h = absurd h
stand_before context closing ps (l ∷ ls) (n ∷ ns) found (r ∷ rs) h =
    before_append (receipts_in r) (receipts_by (lines_with_replies ls rs))
    ∙
    (λ i.
    h.1.before i
    ++ stand_before context closing (processors_after ps (record { line = l; reply = r })) ls
    ns (drop n found) rs h.2 i)
    ∙ take-append-drop n found

stand_calls :
    (context : StoreContext) (closing : List State) (ps : List Processor) (ls : List TraceLine)
    (ns : List ℕ) (found : List State) (rs : List Reply)
    → AllStand context closing ps ls ns found rs
    → InFileOrder (λ p t. IsCallReply context t.line.act t.reply) ps (lines_with_replies ls rs)
stand_calls context closing ps [] ns found rs h = tt
stand_calls context closing ps (l ∷ ls) [] found rs h = absurd h
stand_calls context closing ps (l ∷ ls) (n ∷ ns) found [] h = absurd h
stand_calls context closing ps (l ∷ ls) (n ∷ ns) found (r ∷ rs) h = (
  h.1.reply.call,
  stand_calls context closing (processors_after ps (record { line = l; reply = r })) ls ns
      (drop n found) rs h.2,
)

stand_accesses :
    (context : StoreContext) (closing : List State) (ps : List Processor) (ls : List TraceLine)
    (ns : List ℕ) (found : List State) (rs : List Reply)
    → AllStand context closing ps ls ns found rs
    → InFileOrder (IsAccessLine (access_of context) closing) ps (lines_with_replies ls rs)
stand_accesses context closing ps [] ns found rs h = tt
stand_accesses context closing ps (l ∷ ls) [] found rs h = absurd h
stand_accesses context closing ps (l ∷ ls) (n ∷ ns) found [] h = absurd h
stand_accesses context closing ps (l ∷ ls) (n ∷ ns) found (r ∷ rs) h = (
  record { reply = h.1.reply.access; gone = h.1.gone },
  stand_accesses context closing (processors_after ps (record { line = l; reply = r })) ls ns
      (drop n found) rs h.2,
)

stand_marks :
    (context : StoreContext) (closing : List State) (ps : List Processor) (ls : List TraceLine)
    (ns : List ℕ) (found : List State) (rs : List Reply)
    → NoneQuiet ls
    → AllStand context closing ps ls ns found rs
    → AllByRecursion (HasItsMarks context) (lines_with_replies ls rs)
stand_marks context closing ps [] ns found rs plain h = tt
stand_marks context closing ps (l ∷ ls) [] found rs plain h = absurd h
stand_marks context closing ps (l ∷ ls) (n ∷ ns) found [] plain h = absurd h
stand_marks context closing ps (l ∷ ls) (n ∷ ns) found (r ∷ rs) plain h = (
  record {
    marks = h.1.marks;
    few =
        (shown.line_shows context (processor_at ps l.cpu) l.act r plain.0 h.1.reply.call
        h.1.reply.access).few;
  },
  stand_marks context closing (processors_after ps (record { line = l; reply = r })) ls ns
      (drop n found) rs plain.1 h.2,
)

-- ---- steps by marks
steps_by_marks :
    (context : StoreContext) (ps : List Processor) (ls : List TraceLine) (rs : List Reply)
    → NoneQuiet ls
    → AreReplies ls rs
    → InFileOrder (λ p t. IsCallReply context t.line.act t.reply) ps (lines_with_replies ls rs)
    → InFileOrder (λ p t. IsReplyToAccess (access_of context) p t.line.act t.reply) ps
    (lines_with_replies ls rs)
    → section_steps ls (map marks_in rs) ≡ map placed_step (receipts_by (lines_with_replies ls rs))
steps_by_marks context ps [] [] plain kinds call access = refl
steps_by_marks context ps [] (r ∷ rs) plain kinds call access = absurd kinds
steps_by_marks context ps (l ∷ ls) [] plain kinds call access = absurd kinds
steps_by_marks context ps (l ∷ ls) (r ∷ rs) plain kinds call access =
    let t : RepliedLine = record { line = l; reply = r } in
    let ts = lines_with_replies ls rs in
    let here : placed_line l.act (marks_in r) ≡ map placed_step (receipts_in r) = sym
    (shown.line_shows context (processor_at ps l.cpu) l.act r plain.0 call.0 access.0).steps in
    (λ i.
    here i
    ++ steps_by_marks context (processors_after ps t) ls rs plain.1 kinds.1 call.1 access.1 i)
    ∙ sym (placed_append (receipts_in r) (receipts_by ts))

just_access :
    (context : StoreContext) (closing : List State) (ps : List Processor) (ts : List RepliedLine)
    → InFileOrder (IsAccessLine (access_of context) closing) ps ts
    → InFileOrder (λ p t. IsReplyToAccess (access_of context) p t.line.act t.reply) ps ts
just_access context closing ps [] h = tt
just_access context closing ps (t ∷ ts) h =
    (h.0.reply, just_access context closing (processors_after ps t) ts h.1)

-- ---- what the parts show
-- The steps that were read, the states that they find, and the good replies by these.
pub record Told (o : Opening) (ls : List TraceLine) (given : List ℕ) (n : ℕ) (closing : List State)
    (later : List Processor) :
    Type 0 where
  pub steps : List LineStep
  pub counts : List ℕ
  pub listed : List State
  pub read : ReadMarks o.context (length o.states) ls given steps counts
  pub find :
      (xs : List PlacedStep)
      → map (numbered_by ls) steps ≡ numbered 0 xs
      → FindStates o.states xs listed closing
  pub replies : List Reply
  pub replied :
      AreReplied (judged o.context closing ls counts listed) o.processors
      (λ cpu e. front_at (opening_fronts o.states) e) given replies (drop n given) later

-- ---- a section that is found
found_order :
    (a : List State) (ps : List Processor) (ts : List RepliedLine)
    → AllInOrder (λ cpu e. front_at (opening_fronts a) e) ps ts
    → (cpu e : ℕ)
    → InOrder e (pair_of (state_at a e))
    (events_by (processor_at ps cpu) (lines_of_processor cpu ts))
found_order a ps ts h cpu e =
    subst (λ p. InOrder e p (events_by (processor_at ps cpu) (lines_of_processor cpu ts)))
    (front_of a e) (h cpu e)

pub told_section :
    (o : Opening) (ls : List TraceLine) (given : List ℕ) (n : ℕ) (closing : List State)
    (later : List Processor)
    → NoneQuiet ls
    → AreOnProcessors (length o.processors) ls
    → Told o ls given n closing later
    → HasSection o ls given n closing later
told_section o ls given n closing later plain on h =
    let context = o.context in
    let ps = o.processors in
    let rs = h.replies in
    let ts = lines_with_replies ls rs in
    let s = section_on o ts in
    let cpus : Cpus (length ps) ts = cpus_of (length ps) ls rs on in
    let stand = h.replied.stand in
    let kinds : AreReplies ls rs = stand_kinds context closing ps ls h.counts h.listed rs stand in
    let calls = stand_calls context closing ps ls h.counts h.listed rs stand in
    let accesses = stand_accesses context closing ps ls h.counts h.listed rs stand in
    let shows : ShowMarks context ls given rs (drop n given) = record {
      kinds = kinds;
      marks = stand_marks context closing ps ls h.counts h.listed rs plain stand;
      text = h.replied.text;
    } in
    let steps : section_steps ls h.read.marks ≡ map placed_step (receipts_by ts) = ap
    (section_steps ls) (sym (h.read.only rs (drop n given) shows)) ∙ steps_by_marks context ps
    ls rs plain kinds calls (just_access context closing ps ts accesses) in
    let found = found_section s h.listed closing cpus
    (subst (AreInTable (length o.states)) steps h.read.in_table)
    (subst (λ z. FindStates o.states z h.listed closing) steps
    (h.find (section_steps ls h.read.marks) h.read.numbers))
    (stand_before context closing ps ls h.counts h.listed rs stand) in
    record {
      replies = rs;
      found =
          record {
            kinds = kinds;
            good = (
              found.0,
              found_order o.states ps ts h.replied.in_order,
              λ cpu. own_lines (λ p t. IsCallReply context t.line.act t.reply) ps ts cpu cpus calls,
              λ cpu.
                  subst
                  (λ z.
                  EachLineOfProcessor (IsAccessLine (access_of context) z) (processor_at ps cpu)
                  (lines_of_processor cpu ts)) (sym found.1)
                  (own_lines (IsAccessLine (access_of context) closing) ps ts cpu cpus accesses),
            );
            text = h.replied.text;
          };
      closes = found.1;
      behind = own_processors ps ts cpus ∙ sym h.replied.behind;
    }

-- ---- a section that isn't
-- the replies of a good section are good by the states before its receipts
good_stand :
    (context : StoreContext) (closing : List State) (ps : List Processor) (ls : List TraceLine)
    (rs : List Reply)
    → AreReplies ls rs
    → ShortLines (lines_with_replies ls rs)
    → InFileOrder (λ p t. IsCallReply context t.line.act t.reply) ps (lines_with_replies ls rs)
    → InFileOrder (IsAccessLine (access_of context) closing) ps (lines_with_replies ls rs)
    → AllStand context closing ps ls (map (λ (r : Reply). length (marks_in r)) rs)
    (before_each (receipts_by (lines_with_replies ls rs))) rs
good_stand context closing ps [] [] kinds short calls accesses = refl
good_stand context closing ps [] (r ∷ rs) kinds short calls accesses = absurd kinds
good_stand context closing ps (l ∷ ls) [] kinds short calls accesses = absurd kinds
good_stand context closing ps (l ∷ ls) (r ∷ rs) kinds short calls accesses =
    let mine = before_each (receipts_in r) in
    let others = before_each (receipts_by (lines_with_replies ls rs)) in
    let n = length (marks_in r) in
    let size : n ≡ length mine = length-map (receipts_in r) mark_of ∙ sym
    (length-map (receipts_in r) (λ (x : Receipt). x.before)) in
    let all : before_each (receipts_in r ++ receipts_by (lines_with_replies ls rs)) ≡ mine ++ others
    = before_append (receipts_in r) (receipts_by (lines_with_replies ls rs)) in
    let few : n ≤ length (mine ++ others) = let e : length (mine ++ others) ≡ length mine + length
    others = length-append mine others in
    omega arith in
    let cut : take n (mine ++ others) ≡ mine = ap (λ k. take k (mine ++ others)) size ∙
    take-append_seam mine others in
    let left : drop n (mine ++ others) ≡ others = ap (λ k. drop k (mine ++ others)) size ∙
    drop-append_seam mine others in
    let here :
    StandsOn context closing (processor_at ps l.cpu) l (take n (mine ++ others)) r = record {
      reply = record { kind = kinds.0; call = calls.0; access = accesses.0.reply };
      before = sym cut;
      marks = short_marks (receipts_in r) short.0;
      gone = accesses.0.gone;
    } in
    let behind = good_stand context closing (processors_after ps (record { line = l; reply = r }))
    ls rs kinds.1 short.1 calls.1 accesses.1 in
    subst
    (λ z.
    AllStand context closing ps (l ∷ ls) (n ∷ map (λ (r : Reply). length (marks_in r)) rs) z
    (r ∷ rs)) (sym all) (
      few,
      here,
      subst
          (λ z.
          AllStand context closing (processors_after ps (record { line = l; reply = r })) ls
          (map (λ (r : Reply). length (marks_in r)) rs) z rs) (sym left) behind,
    )

short_shows :
    (context : StoreContext) (ps : List Processor) (ls : List TraceLine) (rs : List Reply)
    → NoneQuiet ls
    → AreReplies ls rs
    → ShortLines (lines_with_replies ls rs)
    → InFileOrder (λ p t. IsCallReply context t.line.act t.reply) ps (lines_with_replies ls rs)
    → InFileOrder (λ p t. IsReplyToAccess (access_of context) p t.line.act t.reply) ps
    (lines_with_replies ls rs)
    → AllByRecursion (HasItsMarks context) (lines_with_replies ls rs)
short_shows context ps [] rs plain kinds short calls accesses = tt
short_shows context ps (l ∷ ls) [] plain kinds short calls accesses = tt
short_shows context ps (l ∷ ls) (r ∷ rs) plain kinds short calls accesses = (
  record {
    marks = short_marks (receipts_in r) short.0;
    few =
        (shown.line_shows context (processor_at ps l.cpu) l.act r plain.0 calls.0
        accesses.0).few;
  },
  short_shows context (processors_after ps (record { line = l; reply = r })) ls rs plain.1
      kinds.1 short.1 calls.1 accesses.1,
)

-- What holds of each good section of a store, whatever the parts show.
record Good (o : Opening) (ls : List TraceLine) (given : List ℕ) (rs : List Reply) (rest : List ℕ) :
    Type 0 where
  pub cpus : Cpus (length o.processors) (lines_with_replies ls rs)
  pub short : ShortLines (lines_with_replies ls rs)
  pub calls :
      InFileOrder (λ p t. IsCallReply o.context t.line.act t.reply) o.processors
      (lines_with_replies ls rs)
  pub accesses :
      InFileOrder
      (IsAccessLine (access_of o.context)
      (closing_of (section_on o (lines_with_replies ls rs)))) o.processors
      (lines_with_replies ls rs)
  pub shows : ShowMarks o.context ls given rs rest
  pub steps :
      section_steps ls (map marks_in rs) ≡ map placed_step (receipts_by (lines_with_replies ls rs))

good_facts :
    (o : Opening) (ls : List TraceLine) (given : List ℕ) (rs : List Reply) (rest : List ℕ)
    → NoneQuiet ls
    → AreOnProcessors (length o.processors) ls
    → length o.states ≤ entry_count greatest_order
    → LowStates o.states
    → IsFound o ls given rs rest
    → Good o ls given rs rest
good_facts o ls given rs rest plain on few low h =
    let ts = lines_with_replies ls rs in
    let s = section_on o ts in
    let cpus : Cpus (length o.processors) ts = cpus_of (length o.processors) ls rs on in
    let short = lines_short s cpus few low h.good.0 in
    let calls = file_lines (λ p t. IsCallReply o.context t.line.act t.reply) o.processors ts cpus
    h.good.2 in
    let accesses = file_lines (IsAccessLine (access_of o.context) (closing_of s)) o.processors ts
    cpus h.good.3 in
    let plainly = just_access o.context (closing_of s) o.processors ts accesses in
    record {
      cpus = cpus;
      short = short;
      calls = calls;
      accesses = accesses;
      shows =
          record {
            kinds = h.kinds;
            marks = short_shows o.context o.processors ls rs plain h.kinds short calls plainly;
            text = h.text;
          };
      steps = steps_by_marks o.context o.processors ls rs plain h.kinds calls plainly;
    }

-- the receipts are of entries of the table, and so are the marks
entries_in :
    (size : ℕ) (rs : List Receipt)
    → AllByRecursion (λ (r : Receipt). r.entry < size) rs
    → AllByRecursion (λ (m : Mark). m.entry < size) (map mark_of rs)
entries_in size [] h = tt
entries_in size (r ∷ rs) h = (h.0, entries_in size rs h.1)

mark_entries :
    (size : ℕ) (ls : List TraceLine) (rs : List Reply)
    → AreReplies ls rs
    → AllByRecursion (λ (r : Receipt). r.entry < size) (receipts_by (lines_with_replies ls rs))
    → MarkEntries size rs
mark_entries size [] [] kinds h = tt
mark_entries size [] (r ∷ rs) kinds h = absurd kinds
mark_entries size (l ∷ ls) [] kinds h = tt
mark_entries size (l ∷ ls) (r ∷ rs) kinds h = (
  entries_in size (receipts_in r)
      (each_front (λ (r : Receipt). r.entry < size) (receipts_in r)
      (receipts_by (lines_with_replies ls rs)) h),
  mark_entries size ls rs kinds.1
      (each_back (λ (r : Receipt). r.entry < size) (receipts_in r)
      (receipts_by (lines_with_replies ls rs)) h),
)

-- no marks were read
pub no_marks :
    (o : Opening) (ls : List TraceLine) (given : List ℕ)
    → NoneQuiet ls
    → AreOnProcessors (length o.processors) ls
    → length o.states ≤ entry_count greatest_order
    → LowStates o.states
    → NoMarks o.context (length o.states) ls given
    → HasNoSection o ls given
no_marks o ls given plain on few low none rs rest h =
    let g = good_facts o ls given rs rest plain on few low h in
    let ts = lines_with_replies ls rs in
    none rs rest g.shows
    (mark_entries (length o.states) ls rs h.kinds
    (each_regrouped (λ (r : Receipt). r.entry < length o.states)
    (regrouped_back (file_listed (length o.processors) ts g.cpus)) h.good.0.in_table))

map_length :
    (rs : List Reply)
    → map (λ (ms : List Mark). length ms) (map marks_in rs)
    ≡ map (λ (r : Reply). length (marks_in r)) rs
map_length [] = refl
map_length (r ∷ rs) = ap (λ l. length (marks_in r) ∷ l) (map_length rs)

-- Where no replies with the steps that were read stand, the text has no section of these lines.
pub no_replies :
    (o : Opening) (ls : List TraceLine) (given : List ℕ) (steps : List LineStep) (counts : List ℕ)
    (listed closing : List State)
    → NoneQuiet ls
    → AreOnProcessors (length o.processors) ls
    → length o.states ≤ entry_count greatest_order
    → LowStates o.states
    → ReadMarks o.context (length o.states) ls given steps counts
    →
    ((xs : List PlacedStep)
    → map (numbered_by ls) steps ≡ numbered 0 xs
    → FindStates o.states xs listed closing)
    →
    ((rs : List Reply) (rest : List ℕ) (later : List Processor)
    → AreReplied (judged o.context closing ls counts listed) o.processors
    (λ cpu e. front_at (opening_fronts o.states) e) given rs rest later
    → ⊥)
    → HasNoSection o ls given
no_replies o ls given steps counts listed closing plain on few low read find none rs rest h =
    let g = good_facts o ls given rs rest plain on few low h in
    let ts = lines_with_replies ls rs in
    let s = section_on o ts in
    let context = o.context in
    let ps = o.processors in
    let marks : map marks_in rs ≡ read.marks = read.only rs rest g.shows in
    let placed : section_steps ls read.marks ≡ map placed_step (receipts_by ts) = ap
    (section_steps ls) (sym marks) ∙ g.steps in
    let counted : counts ≡ map (λ (r : Reply). length (marks_in r)) rs = read.counts ∙ ap
    (map (λ (ms : List Mark). length ms)) (sym marks) ∙ map_length rs in
    let found = section_finds s listed closing g.cpus h.good.0
    (subst (λ z. FindStates o.states z listed closing) placed
    (find (section_steps ls read.marks) read.numbers)) in
    let stand : AllStand context (closing_of s) ps ls (map (λ (r : Reply). length (marks_in r)) rs)
    (before_each (receipts_by ts)) rs = good_stand context (closing_of s) ps ls rs h.kinds
    g.short g.calls g.accesses in
    none rs rest (processors_behind ps ts) (record {
      stand =
          subst (λ (z : List State). AllStand context z ps ls counts listed rs) found.1
          (subst (λ z. AllStand context (closing_of s) ps ls z listed rs) (sym counted)
          (subst
          (λ z.
          AllStand context (closing_of s) ps ls
          (map (λ (r : Reply). length (marks_in r)) rs) z rs) found.0 stand));
      in_order =
          λ cpu e.
          subst (λ p. InOrder e p (events_by (processor_at ps cpu) (lines_of_processor cpu ts)))
          (sym (front_of o.states e)) (h.good.1 cpu e);
      text = h.text;
      behind = refl;
    })
