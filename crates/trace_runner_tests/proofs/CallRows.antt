-- The serial run on worked traces: the hypervisor calls on entries, and walks that find nothing.
use Rattle.std.specs.Prelude.{codes}
use Rattle.std.proofs.Common.{◌≡◌, List, [], ◌∷◌, ◌++◌, false, refl}
use Rattle.std.specs.Fmt.{digits}
use Rattle.frame_grants.specs.Grants.{machine_range}
use Rattle.power_addr.specs.Pages.{tag_of, same_page}
use Rattle.papr_codes.specs.Hcalls.{hcall_of, row_of}
use Rattle.storage_prot.specs.declared.want.Want.TheVariants.{Load, Fetch}
use Rattle.storage_prot.specs.Protection.{permission, rows}
use Rattle.slb_model.specs.Buffer.{no_slots, slots_after, segment_of}
use Rattle.slb_model.specs.Refusals.{mte_refusal, tests_of_words}
use Rattle.slb_model.specs.Slots.{slot_of_words}
use Rattle.hpt_hash.specs.Hash.{group_of}
use Rattle.tlb_model.specs.Cache.{empty_cache, cached_line}
use Rattle.entry_model.specs.Reply.{has_base}
use Rattle.entry_model.specs.Trial.{trial_run, plan_run}
use Rattle.page_grants.specs.Suited.{suits_grants}
use Rattle.call_plan.specs.Checks.{h_enter_plan}
use Rattle.call_plan.specs.Enter.{candidates}
use Rattle.call_plan.specs.Bulk.{asked_by, bulk_calls, bulk_told, h_bulk_remove_plan}
use Rattle.call_plan.specs.Single.{h_remove_plan, h_protect_plan, h_read_plan, h_clear_ref_plan}
use Rattle.hpt_walk.specs.Access.{outcome_of}
use Rattle.tlb_model.specs.CacheAfter.{after_walk}
use Rattle.tlb_model.specs.Processor.{new_processor}
use Rattle.hpt_walk.specs.Walk.{walk_calls}
use Rattle.trace_line.specs.declared.line.TraceLine.{TraceLine}
use Rattle.trace_line.specs.declared.act.Act.TheVariants.{Call, SlbClear}
use Rattle.trace_line.specs.Lines.{is_quiet}
use Rattle.run_model.specs.LineReplies.{hcall_plan}
use Rattle.run_model.specs.SerialRun.{line_result, run_on, replies_from}
use Rattle.reply_text.specs.Text.{text_from, head_text, code_text}
use Rattle.run_model.proofs.SmallPartition.{small, calls, reaches, mte}
use Rattle.authority_mask.specs.Authority.{row_says, key_rows}

-- ---- H_ENTER
-- The search begins at the first of the eight entries of the group.
nine : List TraceLine
nine =
    calls 4 0x08 (0 ∷ 0x3 ∷ 0x1001 ∷ 0x3012 ∷ [])
    ∷ calls 5 0x08 (0 ∷ 0x3 ∷ 0x1001 ∷ 0x3012 ∷ [])
    ∷ calls 6 0x08 (0 ∷ 0x3 ∷ 0x1001 ∷ 0x3012 ∷ [])
    ∷ calls 7 0x08 (0 ∷ 0x3 ∷ 0x1001 ∷ 0x3012 ∷ [])
    ∷ calls 8 0x08 (0 ∷ 0x3 ∷ 0x1001 ∷ 0x3012 ∷ [])
    ∷ calls 9 0x08 (0 ∷ 0x3 ∷ 0x1001 ∷ 0x3012 ∷ [])
    ∷ calls 10 0x08 (0 ∷ 0x3 ∷ 0x1001 ∷ 0x3012 ∷ [])
    ∷ calls 11 0x08 (0 ∷ 0x3 ∷ 0x1001 ∷ 0x3012 ∷ [])
    ∷ calls 12 0x08 (0 ∷ 0x3 ∷ 0x1001 ∷ 0x3012 ∷ [])
    ∷ []

the_ninth_is_full :
    text_from nine (replies_from [] ((small 1) ∷ []) nine)
    ≡ codes "4 0 H_ENTER 0 0x0 | 0x0.0.0.entered\n"
    ++ codes "5 0 H_ENTER 0 0x1 | 0x0.1.0.taken 0x1.0.0.entered\n"
    ++ codes "6 0 H_ENTER 0 0x2 | 0x0.1.0.taken 0x1.1.0.taken 0x2.0.0.entered\n"
    ++ codes "7 0 H_ENTER 0 0x3 | 0x0.1.0.taken 0x1.1.0.taken 0x2.1.0.taken"
    ++ codes " 0x3.0.0.entered\n"
    ++ codes "8 0 H_ENTER 0 0x4 | 0x0.1.0.taken 0x1.1.0.taken 0x2.1.0.taken 0x3.1.0.taken"
    ++ codes " 0x4.0.0.entered\n"
    ++ codes "9 0 H_ENTER 0 0x5 | 0x0.1.0.taken 0x1.1.0.taken 0x2.1.0.taken 0x3.1.0.taken"
    ++ codes " 0x4.1.0.taken 0x5.0.0.entered\n"
    ++ codes "10 0 H_ENTER 0 0x6 | 0x0.1.0.taken 0x1.1.0.taken 0x2.1.0.taken 0x3.1.0.taken"
    ++ codes " 0x4.1.0.taken 0x5.1.0.taken 0x6.0.0.entered\n"
    ++ codes "11 0 H_ENTER 0 0x7 | 0x0.1.0.taken 0x1.1.0.taken 0x2.1.0.taken 0x3.1.0.taken"
    ++ codes " 0x4.1.0.taken 0x5.1.0.taken 0x6.1.0.taken 0x7.0.0.entered\n"
    ++ codes "12 0 H_ENTER -6 | 0x0.1.0.taken 0x1.1.0.taken 0x2.1.0.taken 0x3.1.0.taken"
    ++ codes " 0x4.1.0.taken 0x5.1.0.taken 0x6.1.0.taken 0x7.1.0.taken\n"
unfolding digits nine text_from head_text code_text run_on line_result hcall_plan is_quiet hcall_of
    row_of plan_run trial_run candidates suits_grants h_enter_plan machine_range mte_refusal
    tests_of_words no_slots slots_after slot_of_words segment_of new_processor empty_cache
    cached_line same_page after_walk walk_calls group_of tag_of has_base permission rows row_says
    key_rows outcome_of
the_ninth_is_full = refl

-- Only the entry itself is tried under the flag; and an index past the table.
exact : List TraceLine
exact =
    calls 4 0x08 (0x8000000000 ∷ 0x7 ∷ 0x1001 ∷ 0x3012 ∷ [])
    ∷ calls 5 0x08 (0x8000000000 ∷ 0x7 ∷ 0x1001 ∷ 0x3012 ∷ [])
    ∷ calls 6 0x08 (0x8000000000 ∷ 0x4000 ∷ 0x1001 ∷ 0x3012 ∷ [])
    ∷ calls 7 0x0C (0 ∷ 0x4000 ∷ [])
    ∷ []

one_is_tried :
    text_from exact (replies_from [] ((small 1) ∷ []) exact)
    ≡ codes "4 0 H_ENTER 0 0x7 | 0x7.0.0.entered\n"
    ++ codes "5 0 H_ENTER -6 | 0x7.1.0.taken\n"
    ++ codes "6 0 H_ENTER -4\n"
    ++ codes "7 0 H_READ -4\n"
unfolding digits exact text_from head_text code_text run_on line_result hcall_plan is_quiet hcall_of
    row_of plan_run trial_run candidates suits_grants h_enter_plan h_read_plan machine_range
    mte_refusal tests_of_words no_slots slots_after slot_of_words segment_of new_processor
    empty_cache cached_line same_page after_walk walk_calls group_of tag_of has_base permission rows
    row_says key_rows outcome_of
one_is_tried = refl

-- The last page of main storage and the one after it, a device cached and not, and words that are
-- stored as others.
placed : List TraceLine
placed =
    calls 4 0x08 (0 ∷ 0 ∷ 0x1001 ∷ 0x3FFFF012 ∷ [])
    ∷ calls 5 0x08 (0 ∷ 0 ∷ 0x1001 ∷ 0x40000012 ∷ [])
    ∷ calls 6 0x08 (0 ∷ 0 ∷ 0x1001 ∷ 0x40000022 ∷ [])
    ∷ calls 7 0x08 (0 ∷ 0 ∷ 0x1001 ∷ 0x3002 ∷ [])
    ∷ calls 8 0x08 (0 ∷ 0x8 ∷ 0x1060 ∷ 0x3012 ∷ [])
    ∷ calls 9 0x0C (0 ∷ 0x8 ∷ [])
    ∷ calls 10 0x08 (0 ∷ 0 ∷ 0x1005 ∷ 0x12012 ∷ [])
    ∷ calls 11 0x08 (0 ∷ 0 ∷ 0x8000000000001001 ∷ 0x3012 ∷ [])
    ∷ []

what_suits_the_grants :
    text_from placed (replies_from [] ((small 1) ∷ []) placed)
    ≡ codes "4 0 H_ENTER 0 0x0 | 0x0.0.0.entered\n"
    ++ codes "5 0 H_ENTER -4\n"
    ++ codes "6 0 H_ENTER 0 0x1 | 0x0.1.0.taken 0x1.0.0.entered\n"
    ++ codes "7 0 H_ENTER -4\n"
    ++ codes "8 0 H_ENTER 0 0x8 | 0x8.0.0.entered\n"
    ++ codes "9 0 H_READ 0 0x1001 0x3012 | 0x8.1.0.read\n"
    ++ codes "10 0 H_ENTER -4\n"
    ++ codes "11 0 H_ENTER -4\n"
unfolding digits placed text_from head_text code_text run_on line_result hcall_plan is_quiet
    hcall_of row_of plan_run trial_run candidates suits_grants h_enter_plan h_read_plan
    machine_range mte_refusal tests_of_words no_slots slots_after slot_of_words segment_of
    new_processor empty_cache cached_line same_page after_walk walk_calls group_of tag_of has_base
    permission rows row_says key_rows outcome_of
what_suits_the_grants = refl

-- ---- single entries
-- A removal under H_AVPN and one under H_ANDCOND, which need their words to fit.
tested : List TraceLine
tested =
    calls 4 0x08 (0 ∷ 0 ∷ 0x1011 ∷ 0x3012 ∷ [])
    ∷ calls 5 0x04 (0x80000000 ∷ 0 ∷ 0x2000 ∷ [])
    ∷ calls 6 0x04 (0x40000000 ∷ 0 ∷ 0x10 ∷ [])
    ∷ calls 7 0x04 (0x80000000 ∷ 0 ∷ 0x1000 ∷ [])
    ∷ calls 8 0x04 (0 ∷ 0 ∷ 0 ∷ [])
    ∷ []

removed_once :
    text_from tested (replies_from [] ((small 1) ∷ []) tested)
    ≡ codes "4 0 H_ENTER 0 0x0 | 0x0.0.0.entered\n"
    ++ codes "5 0 H_REMOVE -7 | 0x0.1.0.notfound\n"
    ++ codes "6 0 H_REMOVE -7 | 0x0.1.0.notfound\n"
    ++ codes "7 0 H_REMOVE 0 0x1011 0x3012 | 0x0.1.0.removed\n"
    ++ codes "8 0 H_REMOVE -7 | 0x0.2.0.notfound\n"
unfolding digits tested text_from head_text code_text run_on line_result hcall_plan is_quiet
    hcall_of row_of plan_run trial_run candidates suits_grants h_enter_plan h_remove_plan
    machine_range mte_refusal tests_of_words no_slots slots_after slot_of_words segment_of
    new_processor empty_cache cached_line same_page after_walk walk_calls group_of tag_of has_base
    permission rows row_says key_rows outcome_of
removed_once = refl

-- All bits that H_PROTECT sets; the four entries of H_READ; calls by their numbers, which the line
-- doesn't spell; and a number that is none.
protected : List TraceLine
protected =
    calls 4 0x08 (0 ∷ 0 ∷ 0x1001 ∷ 0x3012 ∷ [])
    ∷ calls 5 0x18 (0x3103 ∷ 0 ∷ 0 ∷ [])
    ∷ calls 6 0x0C (0x2000000000 ∷ 0x2 ∷ [])
    ∷ record { number = 7; cpu = 0; act = Call 0x999 (0 ∷ 0 ∷ []) false }
    ∷ record { number = 8; cpu = 0; act = Call 0x04 (0 ∷ 0 ∷ 0 ∷ []) false }
    ∷ calls 9 0x14 (0 ∷ 0 ∷ [])
    ∷ []

by_name_and_number :
    text_from protected (replies_from [] ((small 1) ∷ []) protected)
    ≡ codes "4 0 H_ENTER 0 0x0 | 0x0.0.0.entered\n"
    ++ codes "5 0 H_PROTECT 0 | 0x0.1.0.protected\n"
    ++ codes "6 0 H_READ 0 0x1001 0xb000000000003013 0x0 0x0 0x0 0x0 0x0 0x0 | 0x0.2.0.read"
    ++ codes " 0x1.0.0.read 0x2.0.0.read 0x3.0.0.read\n"
    ++ codes "7 0 hcall -2\n"
    ++ codes "8 0 hcall 0 0x1001 0xb000000000003013 | 0x0.2.0.removed\n"
    ++ codes "9 0 H_CLEAR_REF -7 | 0x0.3.0.notfound\n"
unfolding digits protected text_from head_text code_text run_on line_result hcall_plan is_quiet
    hcall_of row_of plan_run trial_run candidates suits_grants h_enter_plan h_remove_plan
    h_protect_plan h_read_plan h_clear_ref_plan machine_range mte_refusal tests_of_words no_slots
    slots_after slot_of_words segment_of new_processor empty_cache cached_line same_page after_walk
    walk_calls group_of tag_of has_base permission rows row_says key_rows outcome_of
by_name_and_number = refl

-- Removed, not found, ill-formed, and the pair after it left as it is.
bulk : List TraceLine
bulk =
    calls 4 0x08 (0 ∷ 0 ∷ 0x1001 ∷ 0x3192 ∷ [])
    ∷ calls 5 0x124
    (0x4000000000000000
    ∷ 0
    ∷ 0x4000000000000001
    ∷ 0
    ∷ 0x4300000000000002
    ∷ 0
    ∷ 0x4000000000000000
    ∷ 0
    ∷ [])
    ∷ []

bulk_stops_at_the_third :
    text_from bulk (replies_from [] ((small 1) ∷ []) bulk)
    ≡ codes "4 0 H_ENTER 0 0x0 | 0x0.0.0.entered\n"
    ++ codes "5 0 H_BULK_REMOVE -4 0x8c00000000000000 0x0 0x9000000000000001 0x0"
    ++ codes " 0xa300000000000002 0x0 0x4000000000000000 0x0 | 0x0.1.3.removed"
    ++ codes " 0x1.0.0.notfound\n"
unfolding digits bulk text_from head_text code_text run_on line_result hcall_plan is_quiet hcall_of
    row_of plan_run trial_run candidates suits_grants h_enter_plan h_bulk_remove_plan bulk_calls
    bulk_told asked_by machine_range mte_refusal tests_of_words no_slots slots_after slot_of_words
    segment_of new_processor empty_cache cached_line same_page after_walk walk_calls group_of tag_of
    has_base permission rows row_says key_rows outcome_of
bulk_stops_at_the_third = refl

-- ---- walks that find nothing, or late
-- No segment; one that is refused leaves none; no page; and after slbclear no segment again.
nowhere : List TraceLine
nowhere =
    reaches 4 Load 0x1000 false
    ∷ mte 5 0x8000000 0x1010
    ∷ reaches 6 Load 0x1000 false
    ∷ mte 7 0x8000000 0x1000
    ∷ reaches 8 Load 0x1000 false
    ∷ record { number = 9; cpu = 0; act = SlbClear }
    ∷ reaches 10 Load 0x1000 false
    ∷ []

nothing_there :
    text_from nowhere (replies_from [] ((small 1) ∷ []) nowhere)
    ≡ codes "4 0 load nosegment\n"
    ++ codes "5 0 slbmte refused\n"
    ++ codes "6 0 load nosegment\n"
    ++ codes "7 0 slbmte ok\n"
    ++ codes "8 0 load nopage walk | 0x0.0.0.nomatch 0x1.0.0.nomatch 0x2.0.0.nomatch"
    ++ codes " 0x3.0.0.nomatch 0x4.0.0.nomatch 0x5.0.0.nomatch 0x6.0.0.nomatch"
    ++ codes " 0x7.0.0.nomatch 0x3ff8.0.0.nomatch 0x3ff9.0.0.nomatch 0x3ffa.0.0.nomatch"
    ++ codes " 0x3ffb.0.0.nomatch 0x3ffc.0.0.nomatch 0x3ffd.0.0.nomatch 0x3ffe.0.0.nomatch"
    ++ codes " 0x3fff.0.0.nomatch\n"
    ++ codes "9 0 slbclear ok\n"
    ++ codes "10 0 load nosegment\n"
unfolding digits nowhere text_from head_text code_text run_on line_result hcall_plan is_quiet
    hcall_of row_of plan_run trial_run candidates suits_grants h_enter_plan machine_range
    mte_refusal tests_of_words no_slots slots_after slot_of_words segment_of new_processor
    empty_cache cached_line same_page after_walk walk_calls group_of tag_of has_base permission rows
    row_says key_rows outcome_of
nothing_there = refl

-- The page of VSID 0x7FE and index 1 has hash 0x7FF: its secondary group is the first. There the
-- entry has H, without which it is none of the page.
second : List TraceLine
second =
    mte 4 0x8000000 0x7FE000
    ∷ calls 5 0x08 (0x8000000000 ∷ 0 ∷ 0x7FE001 ∷ 0x3012 ∷ [])
    ∷ calls 6 0x08 (0x8000000000 ∷ 0x1 ∷ 0x7FE003 ∷ 0x3012 ∷ [])
    ∷ reaches 7 Fetch 0x1000 false
    ∷ reaches 8 Fetch 0x1000 false
    ∷ []

in_the_second_group :
    text_from second (replies_from [] ((small 1) ∷ []) second)
    ≡ codes "4 0 slbmte ok\n"
    ++ codes "5 0 H_ENTER 0 0x0 | 0x0.0.0.entered\n"
    ++ codes "6 0 H_ENTER 0 0x1 | 0x1.0.0.entered\n"
    ++ codes "7 0 fetch at 0x2000003000 walk | 0x3ff8.0.0.nomatch 0x3ff9.0.0.nomatch"
    ++ codes " 0x3ffa.0.0.nomatch 0x3ffb.0.0.nomatch 0x3ffc.0.0.nomatch 0x3ffd.0.0.nomatch"
    ++ codes " 0x3ffe.0.0.nomatch 0x3fff.0.0.nomatch 0x0.1.0.nomatch 0x1.1.0.at\n"
    ++ codes "8 0 fetch at 0x2000003000 hit | 0x1.1.2.at\n"
unfolding digits second text_from head_text code_text run_on line_result hcall_plan is_quiet
    hcall_of row_of plan_run trial_run candidates suits_grants h_enter_plan machine_range
    mte_refusal tests_of_words no_slots slots_after slot_of_words segment_of new_processor
    empty_cache cached_line same_page after_walk walk_calls group_of tag_of has_base permission rows
    row_says key_rows outcome_of
in_the_second_group = refl
