-- The sections of worked runs: which lines fall where, on which states each opens, and what a
-- processor's lines tell of an entry.
use Rattle.std.specs.Prelude.{map, slice_set, take, IfSome}
use Rattle.std.proofs.Common.{◌≡◌, ℕ, List, [], ◌∷◌, true, false, Some, None, refl, ◌<◌, arith}
use Rattle.power_addr.specs.Pages.{virtual_page, same_page}
use Rattle.papr_codes.specs.Hcalls.{hcall_of, row_of}
use Rattle.papr_codes.specs.declared.codes.Rc.TheVariants.{Success}
use Rattle.storage_prot.specs.declared.want.Want.TheVariants.{Load}
use Rattle.storage_prot.specs.Protection.{permission, rows}
use Rattle.slb_model.specs.Buffer.{no_slots, slots_after, segment_of}
use Rattle.slb_model.specs.Refusals.{mte_refusal, tests_of_words}
use Rattle.slb_model.specs.Slots.{slot_of_words}
use Rattle.tlb_model.specs.Cache.{empty_cache, cached_line}
use Rattle.entry_model.specs.History.{place, pair_of, state_eq}
use Rattle.entry_model.specs.Receipt.{receipt_of}
use Rattle.entry_model.specs.Reply.{has_base}
use Rattle.entry_model.specs.Run.{state_at}
use Rattle.entry_model.specs.State.{State, empty_state}
use Rattle.entry_model.specs.declared.access_reply.By.TheVariants.{Walk}
use Rattle.entry_model.specs.declared.access_reply.Outcome.TheVariants.{At}
use Rattle.entry_model.specs.declared.receipt.Receipt.{Receipt}
use Rattle.hpt_resize.specs.TableMemory.{prepare_result, commit_result}
use Rattle.hpt_resize.specs.Rehash.{carried_page, target_of, first_with, collision_at, collision_of}
use Rattle.hpt_resize.specs.Resize.{outcome_of_prepare, outcome_of_commit}
use Rattle.hpt_pool.specs.Pool.{lowest_place, multiples, taken_with, taken_without}
use Rattle.tlb_model.specs.CacheAfter.{after_walk}
use Rattle.tlb_model.specs.Processor.{Processor, new_processor}
use Rattle.trace_line.specs.declared.act.Act.{Act}
use Rattle.trace_line.specs.declared.act.Act.TheVariants.{Call, Access, SlbMte, Dump}
use Rattle.trace_line.specs.Lines.{is_quiet}
use Rattle.trace_reply.specs.declared.reply.Reply.{Reply}
use Rattle.run_model.specs.StoreContexts.{access_of}
use Rattle.run_model.specs.GoodRun.{IsAccessLine}
use Rattle.run_model.specs.Histories.{made, gone, closing_states, events_by}
use Rattle.run_model.specs.Processors.{gone_line_of}
use Rattle.run_model.specs.Quiet.{cut}
use Rattle.run_model.specs.Sections.{Section, made_in, closing, section_end, section_of, sections_from}
use Rattle.trace_reply.specs.Replies.{RepliedLine}
use Rattle.run_model.specs.QuietLines.{reply_of_code, run_quiet_line, run_resize, shown_of}
use Rattle.run_model.specs.Stores.{context_of, is_on}
use Rattle.run_model.proofs.ParallelRows.{entered}
use Rattle.run_model.proofs.SmallPartition.{small}
use Rattle.entry_model.specs.declared.operation.Op.TheVariants as ops
use Rattle.trace_reply.specs.declared.reply.Reply.TheVariants as replies
use Rattle.authority_mask.specs.Authority.{no_masks, row_says, key_rows}
use Rattle.run_model.proofs.HistoryRows.{at_stamp, with_r}

replied_line : ℕ → ℕ → Act → Reply → RepliedLine
replied_line number cpu act reply =
    record { line = record { number = number; cpu = cpu; act = act }; reply = reply }

protected : Receipt
protected = receipt_of 0 (at_stamp 1) (ops.Protect (record { avpn = None; andcond = None }) 0x2)

reached : State → Receipt
reached before = receipt_of 0 before (ops.Access 0x1001 12 false false Load no_masks)

hcall : ℕ → ℕ → ℕ → Receipt → RepliedLine
hcall n cpu number r =
    replied_line n cpu (Call number (0 ∷ 0 ∷ 0 ∷ 0 ∷ []) true)
    (replies.Hcall (record { rc = Success; words = []; receipts = r ∷ [] }))

walk : ℕ → ℕ → Receipt → RepliedLine
walk n cpu r =
    replied_line n cpu (Access Load 0x1000 false)
    (replies.Access (record { outcome = At 0x2000003000; by = Some Walk; receipts = r ∷ [] }))

resize : ℕ → ℕ → RepliedLine
resize n number = replied_line n 0 (Call number (0 ∷ 18 ∷ []) false) (reply_of_code Success)

-- ---- which lines fall where
-- Two resize calls and no line between them.
lines_of_sections :
    cut
    (hcall 5 0 0x08 entered
    ∷ resize 6 0x36C
    ∷ resize 7 0x370
    ∷ walk 8 1 (reached (at_stamp 1))
    ∷ hcall 9 0 0x18 protected
    ∷ [])
    ≡ (
      hcall 5 0 0x08 entered ∷ [],
      (resize 6 0x36C, [])
          ∷ (resize 7 0x370, walk 8 1 (reached (at_stamp 1)) ∷ hcall 9 0 0x18 protected ∷ [])
          ∷ [],
    )
unfolding hcall walk resize replied_line is_quiet hcall_of row_of
lines_of_sections = refl

-- ---- on which states they open
dump : RepliedLine
dump =
    replied_line 10 0 Dump
    (replies.Dump
    (record { number = 0; order = 18; place = 0x1000000000; states = (0, with_r) ∷ [] }))

-- Processor 0 enters and, after processor 1's protection, finds the entry by a walk; after the
-- dump processor 1 does.
replied_lines : List RepliedLine
replied_lines =
    replied_line 4 0 (SlbMte 0x8000000 0x1000) (replies.Segment true)
    ∷ hcall 5 0 0x08 entered
    ∷ walk 6 0 (reached (at_stamp 2))
    ∷ hcall 7 1 0x18 protected
    ∷ dump
    ∷ walk 11 1 (reached with_r)
    ∷ resize 12 0x36C
    ∷ resize 13 0x370
    ∷ []

opened : List Section
opened = let c = cut replied_lines in sections_from (is_on [] None) (small 2) c.0 c.1

-- The receipts are listed by processor.
by_processor :
    made_in (section_of (is_on [] None) (small 2) (cut replied_lines).0 None)
    ≡ entered ∷ reached (at_stamp 2) ∷ protected ∷ []
unfolding replied_lines replied_line hcall walk resize dump is_quiet hcall_of row_of entered
    protected reached
by_processor = refl

-- The dump has the reply of the closing states.
dump_is_replied :
    (run_quiet_line (closing (section_of (is_on [] None) (small 2) (cut replied_lines).0 None))
    Dump).0
    ≡ dump.reply
unfolding replied_lines replied_line hcall walk resize dump is_quiet hcall_of row_of entered
    protected reached at_stamp with_r section_end closing_states place pair_of state_eq has_base
    permission rows row_says key_rows run_quiet_line shown_of
dump_is_replied = refl

-- The one after the dump opens on the states that the one before it closes on, and so on; the one
-- after the commit on a table of the next number.
opening_states :
    map (λ (s : Section). state_at s.before.memory.table.states 0) (take 3 opened)
    ≡ empty_state 0 ∷ with_r ∷ with_r ∷ []
unfolding opened replied_lines replied_line hcall walk resize dump is_quiet hcall_of row_of entered
    protected reached at_stamp with_r section_end closing_states place pair_of state_eq has_base
    permission rows row_says key_rows run_quiet_line run_resize prepare_result
opening_states = refl

opening_numbers : map (λ (s : Section). s.before.memory.table.number) opened ≡ 0 ∷ 0 ∷ 0 ∷ 1 ∷ []
unfolding opened replied_lines replied_line hcall walk resize dump is_quiet hcall_of row_of entered
    protected reached at_stamp with_r section_end closing_states place pair_of state_eq has_base
    permission rows row_says key_rows run_quiet_line run_resize prepare_result commit_result
    outcome_of_prepare outcome_of_commit lowest_place multiples taken_with taken_without
    collision_of collision_at first_with target_of carried_page
opening_numbers = refl

opening_ends :
    map (λ (s : Section). s.quiet) opened
    ≡ Some dump ∷ Some (resize 12 0x36C) ∷ Some (resize 13 0x370) ∷ None ∷ []
unfolding opened replied_lines replied_line hcall walk resize dump is_quiet hcall_of row_of
opening_ends = refl

-- Processor 0 keeps its segment, and the line of its walk, until the commit.
filled : Processor
unfolding slots_after no_slots slot_of_words empty_cache
filled =
    record {
      slots = slots_after no_slots 0x8000000 0x1000;
      masks = no_masks;
      cache =
          slice_set empty_cache 1
          (record {
            page = virtual_page false 1 12 1;
            entry = 0;
            stamp = 2;
            dword0 = 0x1001;
            dword1 = 0x3012;
          }
          ∷ []);
    }

-- After it the segment alone.
bare : Processor
bare = record filled { cache = empty_cache }

opening_processors :
    map (λ (s : Section). s.before.processors) opened
    ≡ (new_processor ∷ new_processor ∷ [])
    ∷ (filled ∷ new_processor ∷ [])
    ∷ (filled ∷ new_processor ∷ [])
    ∷ (bare ∷ new_processor ∷ [])
    ∷ []
unfolding filled bare opened replied_lines replied_line hcall walk resize dump is_quiet hcall_of
    row_of entered protected reached at_stamp with_r section_end closing_states place pair_of
    state_eq has_base permission rows row_says key_rows run_quiet_line run_resize prepare_result
    commit_result outcome_of_prepare outcome_of_commit lowest_place multiples taken_with
    taken_without collision_of collision_at first_with target_of carried_page mte_refusal
    tests_of_words slots_after no_slots slot_of_words segment_of new_processor empty_cache
    cached_line same_page after_walk
opening_processors = refl

-- ---- what a processor's lines say of an entry
-- A walk past the cached translation says that it was gone, before its receipt; the first walk is
-- past none.
told :
    events_by bare (walk 5 0 (reached (at_stamp 2)) ∷ walk 6 0 (reached (at_stamp 3)) ∷ [])
    ≡ made (reached (at_stamp 2))
    ∷ gone
    (record {
      page = virtual_page false 1 12 1;
      entry = 0;
      stamp = 2;
      dword0 = 0x1001;
      dword1 = 0x3012;
    })
    ∷ made (reached (at_stamp 3))
    ∷ []
unfolding filled bare walk replied_line reached at_stamp has_base permission rows row_says key_rows
    slots_after no_slots slot_of_words segment_of empty_cache cached_line same_page after_walk
told = refl

-- Where the entry closes at the line's stamp, a walk past it is no good reply; at a later stamp it
-- is.
past_a_current_line :
    IsAccessLine (access_of (context_of (small 2))) (with_r ∷ []) filled (walk 6 0 (reached with_r))
    → ⊥
unfolding filled walk replied_line reached with_r at_stamp slots_after no_slots slot_of_words
    segment_of empty_cache cached_line same_page
past_a_current_line h = let no : 2 < 2 = h.gone in omega arith

past_a_gone_line :
    IfSome (gone_line_of filled (Access Load 0x1000 false) (walk 6 0 (reached (at_stamp 3))).reply)
    (λ line. line.stamp < (state_at (at_stamp 3 ∷ []) line.entry).stamp)
unfolding filled walk replied_line reached at_stamp slots_after no_slots slot_of_words segment_of
    empty_cache cached_line same_page
past_a_gone_line = let later : 2 < 3 = omega arith in later
