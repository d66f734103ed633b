-- The serial run on worked traces: what a store shows, and how long a cached translation is used.
use Rattle.std.specs.Prelude.{codes}
use Rattle.std.proofs.Common.{◌≡◌, List, [], ◌∷◌, ◌++◌, true, false, refl}
use Rattle.std.specs.Fmt.{digits}
use Rattle.frame_grants.specs.Grants.{machine_range}
use Rattle.power_addr.specs.Pages.{tag_of, same_page}
use Rattle.papr_codes.specs.Hcalls.{hcall_of, row_of}
use Rattle.storage_prot.specs.declared.want.Want.TheVariants.{Load, Store, Fetch}
use Rattle.storage_prot.specs.Protection.{permission, rows}
use Rattle.slb_model.specs.Buffer.{no_slots, slots_after, segment_of}
use Rattle.slb_model.specs.Refusals.{mte_refusal, tests_of_words}
use Rattle.slb_model.specs.Slots.{slot_of_words}
use Rattle.hpt_hash.specs.Hash.{group_of}
use Rattle.tlb_model.specs.Cache.{empty_cache, cached_line}
use Rattle.entry_model.specs.Reply.{has_base}
use Rattle.entry_model.specs.Trial.{trial_run, plan_run}
use Rattle.page_grants.specs.Suited.{suits_grants}
use Rattle.call_plan.specs.Checks.{h_enter_plan}
use Rattle.call_plan.specs.Enter.{candidates}
use Rattle.call_plan.specs.Bulk.{asked_by, bulk_calls, bulk_told, h_bulk_remove_plan}
use Rattle.call_plan.specs.Single.{h_remove_plan, h_protect_plan, h_clear_mod_plan}
use Rattle.hpt_walk.specs.Access.{outcome_of}
use Rattle.tlb_model.specs.CacheAfter.{after_walk}
use Rattle.tlb_model.specs.Processor.{new_processor}
use Rattle.hpt_walk.specs.Walk.{walk_calls}
use Rattle.trace_line.specs.declared.line.TraceLine.{TraceLine}
use Rattle.trace_line.specs.declared.act.Act.TheVariants.{Call, Access, SetMask}
use Rattle.trace_line.specs.Lines.{is_quiet}
use Rattle.run_model.specs.LineReplies.{hcall_plan}
use Rattle.run_model.specs.SerialRun.{line_result, run_on, replies_from}
use Rattle.reply_text.specs.Text.{text_from, head_text, code_text}
use Rattle.run_model.proofs.SmallPartition.{small, calls, reaches, mte}
use Rattle.authority_mask.specs.declared.masks.MaskName.TheVariants.{Amr, Iamr}
use Rattle.authority_mask.specs.Authority.{row_says, key_rows}

-- The page of VSID 1 and index 1 has hash 0, so its primary group is the first.
-- ---- a store
-- Denied; the page made writable; at; C cleared and set again; and the removal that shows C.
stored : List TraceLine
stored =
    mte 4 0x8000000 0x1000
    ∷ calls 5 0x08 (0 ∷ 0 ∷ 0x1001 ∷ 0x3013 ∷ [])
    ∷ reaches 6 Store 0x1000 false
    ∷ calls 7 0x18 (0x2 ∷ 0 ∷ 0 ∷ [])
    ∷ reaches 8 Store 0x1000 false
    ∷ calls 9 0x10 (0 ∷ 0 ∷ [])
    ∷ reaches 10 Store 0x1000 false
    ∷ calls 11 0x04 (0 ∷ 0 ∷ 0 ∷ [])
    ∷ []

a_store_shows :
    text_from stored (replies_from [] ((small 1) ∷ []) stored)
    ≡ codes "4 0 slbmte ok\n"
    ++ codes "5 0 H_ENTER 0 0x0 | 0x0.0.0.entered\n"
    ++ codes "6 0 store denied walk | 0x0.1.0.denied\n"
    ++ codes "7 0 H_PROTECT 0 | 0x0.1.0.protected\n"
    ++ codes "8 0 store at 0x2000003000 walk | 0x0.2.0.at\n"
    ++ codes "9 0 H_CLEAR_MOD 0 0x3192 | 0x0.2.3.was\n"
    ++ codes "10 0 store at 0x2000003000 walk | 0x0.3.2.at\n"
    ++ codes "11 0 H_REMOVE 0 0x1001 0x3192 | 0x0.3.3.removed\n"
unfolding digits stored text_from head_text code_text run_on line_result hcall_plan is_quiet
    hcall_of row_of plan_run trial_run candidates suits_grants h_enter_plan h_remove_plan
    h_protect_plan h_clear_mod_plan machine_range mte_refusal tests_of_words no_slots slots_after
    slot_of_words segment_of new_processor empty_cache cached_line same_page after_walk walk_calls
    group_of tag_of has_base permission rows row_says key_rows outcome_of
a_store_shows = refl

-- ---- authority masks
-- The entry has key 1. AMR refuses its stores and allows its loads, by the cached translation too;
-- IAMR refuses its fetches; and H_PROTECT gives it key 0.
masked : List TraceLine
masked =
    mte 4 0x8000000 0x1000
    ∷ calls 5 0x08 (0 ∷ 0 ∷ 0x1001 ∷ 0x3212 ∷ [])
    ∷ record { number = 6; cpu = 0; act = SetMask Amr 0x2000000000000000 }
    ∷ reaches 7 Load 0x1000 false
    ∷ reaches 8 Store 0x1000 false
    ∷ record { number = 9; cpu = 0; act = SetMask Iamr 0x1000000000000000 }
    ∷ reaches 10 Fetch 0x1000 false
    ∷ calls 11 0x18 (0x2 ∷ 0 ∷ 0 ∷ [])
    ∷ reaches 12 Store 0x1000 false
    ∷ []

masks_refuse :
    text_from masked (replies_from [] ((small 1) ∷ []) masked)
    ≡ codes "4 0 slbmte ok\n"
    ++ codes "5 0 H_ENTER 0 0x0 | 0x0.0.0.entered\n"
    ++ codes "6 0 amr ok\n"
    ++ codes "7 0 load at 0x2000003000 walk | 0x0.1.0.at\n"
    ++ codes "8 0 store masked amr hit | 0x0.1.2.masked\n"
    ++ codes "9 0 iamr ok\n"
    ++ codes "10 0 fetch masked iamr hit | 0x0.1.2.masked\n"
    ++ codes "11 0 H_PROTECT 0 | 0x0.1.2.protected\n"
    ++ codes "12 0 store at 0x2000003000 walk | 0x0.2.2.at\n"
unfolding digits masked text_from head_text code_text run_on line_result hcall_plan is_quiet
    hcall_of row_of plan_run trial_run candidates suits_grants h_enter_plan h_protect_plan
    machine_range mte_refusal tests_of_words no_slots slots_after slot_of_words segment_of
    new_processor empty_cache cached_line same_page after_walk walk_calls group_of tag_of has_base
    permission rows row_says key_rows outcome_of
masks_refuse = refl

-- ---- cached translations
-- A second processor protects the entry: the first one's cached translation is gone.
shared : List TraceLine
shared =
    mte 5 0x8000000 0x1000
    ∷ calls 6 0x08 (0 ∷ 0 ∷ 0x1001 ∷ 0x3012 ∷ [])
    ∷ reaches 7 Load 0x1000 false
    ∷ reaches 8 Load 0x1000 false
    ∷ record { number = 9; cpu = 1; act = Call 0x18 (0x2 ∷ 0 ∷ 0 ∷ []) true }
    ∷ reaches 10 Load 0x1000 false
    ∷ reaches 11 Load 0x1000 false
    ∷ record { number = 12; cpu = 1; act = Access Load 0x1000 false }
    ∷ []

a_line_is_gone :
    text_from shared (replies_from [] ((small 2) ∷ []) shared)
    ≡ codes "5 0 slbmte ok\n"
    ++ codes "6 0 H_ENTER 0 0x0 | 0x0.0.0.entered\n"
    ++ codes "7 0 load at 0x2000003000 walk | 0x0.1.0.at\n"
    ++ codes "8 0 load at 0x2000003000 hit | 0x0.1.2.at\n"
    ++ codes "9 1 H_PROTECT 0 | 0x0.1.2.protected\n"
    ++ codes "10 0 load at 0x2000003000 walk | 0x0.2.2.at\n"
    ++ codes "11 0 load at 0x2000003000 hit | 0x0.2.2.at\n"
    ++ codes "12 1 load nosegment\n"
unfolding digits shared text_from head_text code_text run_on line_result hcall_plan is_quiet
    hcall_of row_of plan_run trial_run candidates suits_grants h_enter_plan h_protect_plan
    machine_range mte_refusal tests_of_words no_slots slots_after slot_of_words segment_of
    new_processor empty_cache cached_line same_page after_walk walk_calls group_of tag_of has_base
    permission rows row_says key_rows outcome_of
a_line_is_gone = refl

-- As Linux does it: a bolted page, R and C set from the start, the key of problem state, and a bulk
-- removal of one entry.
linux : List TraceLine
linux =
    mte 4 0x8000000 0x1400
    ∷ calls 5 0x08 (0 ∷ 0 ∷ 0x1011 ∷ 0x3190 ∷ [])
    ∷ reaches 6 Store 0x1000 false
    ∷ reaches 7 Load 0x1000 true
    ∷ calls 8 0x18 (0x80000002 ∷ 0 ∷ 0x1000 ∷ [])
    ∷ calls 9 0x124 (0x4200000000000000 ∷ 0x1000 ∷ 0xC000000000000000 ∷ 0 ∷ 0 ∷ 0 ∷ 0 ∷ 0 ∷ [])
    ∷ []

user_is_denied :
    text_from linux (replies_from [] ((small 1) ∷ []) linux)
    ≡ codes "4 0 slbmte ok\n"
    ++ codes "5 0 H_ENTER 0 0x0 | 0x0.0.0.entered\n"
    ++ codes "6 0 store at 0x2000003000 walk | 0x0.1.3.at\n"
    ++ codes "7 0 load denied hit | 0x0.1.3.denied\n"
    ++ codes "8 0 H_PROTECT 0 | 0x0.1.3.protected\n"
    ++ codes "9 0 H_BULK_REMOVE 0 0x8e00000000000000 0x1000 0xc000000000000000 0x0 0x0 0x0"
    ++ codes " 0x0 0x0 | 0x0.2.3.removed\n"
unfolding digits linux text_from head_text code_text run_on line_result hcall_plan is_quiet hcall_of
    row_of plan_run trial_run candidates suits_grants h_enter_plan h_protect_plan h_bulk_remove_plan
    bulk_calls bulk_told asked_by machine_range mte_refusal tests_of_words no_slots slots_after
    slot_of_words segment_of new_processor empty_cache cached_line same_page after_walk walk_calls
    group_of tag_of has_base permission rows row_says key_rows outcome_of
user_is_denied = refl

-- Five pages of one set in five segments: the fifth line puts the first out, and the first page's
-- new line the second.
five : List TraceLine
five =
    mte 4 0x8000000 0x1000
    ∷ mte 5 0x18000001 0x801000
    ∷ mte 6 0x28000002 0x1001000
    ∷ mte 7 0x38000003 0x1801000
    ∷ mte 8 0x48000004 0x2001000
    ∷ calls 9 0x08 (0 ∷ 0 ∷ 0x1001 ∷ 0x3012 ∷ [])
    ∷ calls 10 0x08 (0 ∷ 0 ∷ 0x801001 ∷ 0x3012 ∷ [])
    ∷ calls 11 0x08 (0 ∷ 0 ∷ 0x1001001 ∷ 0x3012 ∷ [])
    ∷ calls 12 0x08 (0 ∷ 0 ∷ 0x1801001 ∷ 0x3012 ∷ [])
    ∷ calls 13 0x08 (0 ∷ 0 ∷ 0x2001001 ∷ 0x3012 ∷ [])
    ∷ reaches 14 Load 0x1000 false
    ∷ reaches 15 Load 0x10001000 false
    ∷ reaches 16 Load 0x20001000 false
    ∷ reaches 17 Load 0x30001000 false
    ∷ reaches 18 Load 0x40001000 false
    ∷ reaches 19 Load 0x1000 false
    ∷ reaches 20 Load 0x40001000 false
    ∷ reaches 21 Load 0x10001000 false
    ∷ []

the_fifth_evicts :
    text_from five (replies_from [] ((small 1) ∷ []) five)
    ≡ codes "4 0 slbmte ok\n"
    ++ codes "5 0 slbmte ok\n"
    ++ codes "6 0 slbmte ok\n"
    ++ codes "7 0 slbmte ok\n"
    ++ codes "8 0 slbmte ok\n"
    ++ codes "9 0 H_ENTER 0 0x0 | 0x0.0.0.entered\n"
    ++ codes "10 0 H_ENTER 0 0x1 | 0x0.1.0.taken 0x1.0.0.entered\n"
    ++ codes "11 0 H_ENTER 0 0x2 | 0x0.1.0.taken 0x1.1.0.taken 0x2.0.0.entered\n"
    ++ codes "12 0 H_ENTER 0 0x3 | 0x0.1.0.taken 0x1.1.0.taken 0x2.1.0.taken"
    ++ codes " 0x3.0.0.entered\n"
    ++ codes "13 0 H_ENTER 0 0x4 | 0x0.1.0.taken 0x1.1.0.taken 0x2.1.0.taken 0x3.1.0.taken"
    ++ codes " 0x4.0.0.entered\n"
    ++ codes "14 0 load at 0x2000003000 walk | 0x0.1.0.at\n"
    ++ codes "15 0 load at 0x2000003000 walk | 0x0.1.2.nomatch 0x1.1.0.at\n"
    ++ codes "16 0 load at 0x2000003000 walk | 0x0.1.2.nomatch 0x1.1.2.nomatch 0x2.1.0.at\n"
    ++ codes "17 0 load at 0x2000003000 walk | 0x0.1.2.nomatch 0x1.1.2.nomatch"
    ++ codes " 0x2.1.2.nomatch 0x3.1.0.at\n"
    ++ codes "18 0 load at 0x2000003000 walk | 0x0.1.2.nomatch 0x1.1.2.nomatch"
    ++ codes " 0x2.1.2.nomatch 0x3.1.2.nomatch 0x4.1.0.at\n"
    ++ codes "19 0 load at 0x2000003000 walk | 0x0.1.2.at\n"
    ++ codes "20 0 load at 0x2000003000 hit | 0x4.1.2.at\n"
    ++ codes "21 0 load at 0x2000003000 walk | 0x0.1.2.nomatch 0x1.1.2.at\n"
unfolding digits five text_from head_text code_text run_on line_result hcall_plan is_quiet hcall_of
    row_of plan_run trial_run candidates suits_grants h_enter_plan machine_range mte_refusal
    tests_of_words no_slots slots_after slot_of_words segment_of new_processor empty_cache
    cached_line same_page after_walk walk_calls group_of tag_of has_base permission rows row_says
    key_rows outcome_of
the_fifth_evicts = refl

-- ---- page sizes
-- Page 1 of 16 MB.
large : List TraceLine
large =
    mte 4 0x8000000 0x1100
    ∷ calls 5 0x08 (0 ∷ 0 ∷ 0x1105 ∷ 0x3000012 ∷ [])
    ∷ reaches 6 Load 0x1123456 false
    ∷ []

in_16_mb :
    text_from large (replies_from [] ((small 1) ∷ []) large)
    ≡ codes "4 0 slbmte ok\n"
    ++ codes "5 0 H_ENTER 0 0x0 | 0x0.0.0.entered\n"
    ++ codes "6 0 load at 0x2003123456 walk | 0x0.1.0.at\n"
unfolding digits large text_from head_text code_text run_on line_result hcall_plan is_quiet hcall_of
    row_of plan_run trial_run candidates suits_grants h_enter_plan machine_range mte_refusal
    tests_of_words no_slots slots_after slot_of_words segment_of new_processor empty_cache
    cached_line same_page after_walk walk_calls group_of tag_of has_base permission rows row_says
    key_rows outcome_of
in_16_mb = refl

-- A segment of 1 TB.
wide : List TraceLine
wide =
    mte 4 0x8000000 0x4000000001000000
    ∷ calls 5 0x08 (0 ∷ 0 ∷ 0x4000000001000001 ∷ 0x3012 ∷ [])
    ∷ reaches 6 Load 0x1000 false
    ∷ []

in_1_tb :
    text_from wide (replies_from [] ((small 1) ∷ []) wide)
    ≡ codes "4 0 slbmte ok\n"
    ++ codes "5 0 H_ENTER 0 0x0 | 0x0.0.0.entered\n"
    ++ codes "6 0 load at 0x2000003000 walk | 0x0.1.0.at\n"
unfolding digits wide text_from head_text code_text run_on line_result hcall_plan is_quiet hcall_of
    row_of plan_run trial_run candidates suits_grants h_enter_plan machine_range mte_refusal
    tests_of_words no_slots slots_after slot_of_words segment_of new_processor empty_cache
    cached_line same_page after_walk walk_calls group_of tag_of has_base permission rows row_says
    key_rows outcome_of
in_1_tb = refl
