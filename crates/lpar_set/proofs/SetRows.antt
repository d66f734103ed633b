-- Worked values of sets, which the checker computes.
use Rattle.std.specs.Prelude.{codes}
use Rattle.std.proofs.Common.{◌≡◌, ◌≢◌, ℕ, ◌<◌, [], ◌∷◌, ◌++◌, true, false, Contains, map, get_or, refl, sym, ap, subst, arith}
use Rattle.std.specs.Fmt.{digits}
use Rattle.frame_grants.specs.declared.grant.Grant.{Grant}
use Rattle.frame_grants.specs.Grants.{machine_range}
use Rattle.power_addr.specs.Pages.{tag_of, same_page}
use Rattle.papr_codes.specs.Hcalls.{hcall_of, row_of}
use Rattle.papr_codes.specs.declared.codes.Rc.TheVariants.{Success, NoMem}
use Rattle.storage_prot.specs.Protection.{permission, rows}
use Rattle.slb_model.specs.Buffer.{no_slots, slots_after, segment_of}
use Rattle.slb_model.specs.Refusals.{mte_refusal, tests_of_words}
use Rattle.slb_model.specs.Slots.{slot_of_words}
use Rattle.hpt_hash.specs.Hash.{group_of}
use Rattle.hpt_pool.specs.Pool.{no_blocks, lowest_place, multiples, taken_with}
use Rattle.entry_model.specs.State.{State}
use Rattle.entry_model.specs.Reply.{has_base}
use Rattle.entry_model.specs.Trial.{trial_run, plan_run}
use Rattle.page_grants.specs.Suited.{suits_grants}
use Rattle.call_plan.specs.Checks.{h_enter_plan}
use Rattle.call_plan.specs.Enter.{candidates}
use Rattle.hpt_resize.specs.TableMemory.{prepare_result}
use Rattle.hpt_resize.specs.Resize.{outcome_of_prepare}
use Rattle.hpt_walk.specs.Access.{outcome_of}
use Rattle.hpt_walk.specs.Walk.{walk_calls}
use Rattle.tlb_model.specs.Cache.{empty_cache, cached_line}
use Rattle.tlb_model.specs.CacheAfter.{after_walk}
use Rattle.tlb_model.specs.Processor.{new_processor}
use Rattle.trace_line.specs.Lines.{is_quiet}
use Rattle.trace_reply.specs.declared.reply.Reply.{Reply}
use Rattle.run_model.specs.LineReplies.{hcall_plan}
use Rattle.run_model.specs.QuietLines.{reply_of_code, run_resize, run_quiet_line, shown_of}
use Rattle.run_model.specs.SerialRun.{line_result, run_on}
use Rattle.reply_text.specs.Text.{head_text, code_text, entry_text, dump_head, table_text}
use Rattle.authority_mask.specs.Authority.{row_says, key_rows}
use Rattle.lpar_set.specs.OpeningTables.{HasRoomFor}
use Rattle.lpar_set.specs.SetTrace.{AreStrangers, partition_at}
use Rattle.lpar_set.specs.SetRun.{MemberState, opening_table, opening_members, opening_pool, set_line, replies_from}
use Rattle.lpar_set.specs.SetText.{numbered_entry, set_text}
use Rattle.lpar_set.specs.SetLaws.{replies_of, served, without_place, IsInGrant, IsOwnAddress}
use Rattle.lpar_set.proofs.SmallSet.{storage, storage_at, prepares, turn, small_set, full_pool, opened}
use Rattle.trace_reply.specs.declared.reply.Reply.TheVariants as replies

-- ---- the beginning
-- The tables open one after the other, and fill the pool.
opening_places :
    map (λ (m : MemberState). m.table.place)
    (opening_members (no_blocks 0x1000000000 19) small_set.partitions)
    ≡ 0x1000000000 ∷ 0x1000040000 ∷ []
unfolding opening_table lowest_place multiples taken_with
opening_places = refl

opening_blocks : opening_pool (no_blocks 0x1000000000 19) small_set.partitions ≡ full_pool
unfolding lowest_place multiples taken_with
opening_blocks = refl

room_for_three : HasRoomFor (no_blocks 0x1000000000 19) (18 ∷ 18 ∷ 18 ∷ []) → ⊥
unfolding lowest_place multiples taken_with
room_for_three h = h.1.1.0 refl

-- ---- a pool that is full
-- H_RESIZE_HPT_PREPARE of the first partition answers H_NO_MEM, since the second has the other
-- block; and nothing changes.
no_memory : (set_line opened 0 (prepares 10)).0 ≡ reply_of_code NoMem
unfolding run_on is_quiet hcall_of row_of run_quiet_line run_resize prepare_result
    outcome_of_prepare lowest_place multiples
no_memory = refl

nothing_changes : (set_line opened 0 (prepares 10)).1 ≡ opened
unfolding run_on is_quiet hcall_of row_of run_quiet_line run_resize prepare_result
    outcome_of_prepare lowest_place multiples
nothing_changes = refl

-- ---- a run
-- The load of partition 5 lands in the storage that starts at 0x3000000000, and its dump shows its
-- own table.
both_run :
    set_text small_set (replies_from small_set opened small_set.turns)
    ≡ codes "2 5 0 slbmte ok\n"
    ++ codes "5 6 0 slbmte ok\n"
    ++ codes "2 7 0 H_ENTER 0 0x0 | 0x0.0.0.entered\n"
    ++ codes "5 8 0 H_ENTER 0 0x0 | 0x0.0.0.entered\n"
    ++ codes "5 9 0 load at 0x3000003234 walk | 0x0.1.0.at\n"
    ++ codes "2 10 0 H_RESIZE_HPT_PREPARE -9\n"
    ++ codes "5 11 dump table 0 order 18 place 0x1000040000 entries 1\n"
    ++ codes "5  0x0 0x1001 0x3112 1\n"
unfolding digits head_text code_text entry_text dump_head table_text run_on line_result
    run_quiet_line run_resize shown_of hcall_plan is_quiet hcall_of row_of plan_run trial_run
    candidates suits_grants h_enter_plan machine_range mte_refusal tests_of_words no_slots
    slots_after slot_of_words segment_of new_processor empty_cache cached_line same_page after_walk
    walk_calls group_of tag_of has_base permission rows row_says key_rows outcome_of prepare_result
    outcome_of_prepare lowest_place multiples
both_run = refl

-- ---- the text
entry : State
entry =
    record {
      valid = true;
      dword0 = 0x1001;
      dword1 = 0x3012;
      referenced = true;
      changed = false;
      stamp = 4;
    }

entry_line : numbered_entry 7 (5, entry) ≡ codes "7  0x5 0x1001 0x3112 4\n"
unfolding entry entry_text digits
entry_line = refl

-- ---- replies of one partition
segment : Reply
segment = replies.Segment true

no_table : Reply
no_table = reply_of_code NoMem

shown : ℕ → Reply
shown place =
    replies.Dump (record { number = 0; order = 18; place = place; states = (5, entry) ∷ [] })

table_number : Reply → ℕ
table_number (replies.Dump d) = d.number
table_number other = 0

of_the_second :
    replies_of 1 (turn 0 0 ∷ turn 1 0 ∷ turn 0 1 ∷ turn 1 1 ∷ [])
    (replies.MaskSet ∷ segment ∷ replies.MaskSet ∷ shown 0x1000040000 ∷ [])
    ≡ segment ∷ shown 0x1000040000 ∷ []
of_the_second = refl

before_no_mem :
    served (segment ∷ reply_of_code Success ∷ no_table ∷ segment ∷ [])
    ≡ segment ∷ reply_of_code Success ∷ []
unfolding segment no_table
before_no_mem = refl

all_served : served (segment ∷ reply_of_code Success ∷ []) ≡ segment ∷ reply_of_code Success ∷ []
unfolding segment
all_served = refl

-- Two dumps that differ in the place alone, and two that differ in the number of the table.
same_but_the_place :
    map without_place (segment ∷ shown 0x1000040000 ∷ [])
    ≡ map without_place (segment ∷ shown 0x1000000000 ∷ [])
unfolding shown
same_but_the_place = refl

another_table :
    without_place (shown 0x1000000000)
    ≡ without_place
    (replies.Dump
    (record { number = 1; order = 18; place = 0x1000000000; states = (5, entry) ∷ [] }))
    → ⊥
unfolding shown table_number
another_table h = let clash : 0 ≡ 1 = ap table_number h in absurd (omega (arith, clash))

-- ---- machine memory
apart : AreStrangers (storage_at 0x2000000000) (storage_at 0x3000000000)
apart = ((refl, tt), tt)

-- The second begins with the last page of the first.
meeting : AreStrangers (storage_at 0x2000000000) (storage_at 0x203FFFF000) → ⊥
meeting h = let clash : true ≡ false = h.0.0 in cc

-- ---- addresses of partition 5
not_in_the_other :
    (other : ℕ) (g : Grant)
    → other < 2
    → other ≢ 1
    → Contains (partition_at small_set other).trace.config.granted.grants g
    → IsInGrant 0x3000003234 g
    → ⊥
not_in_the_other other g exists differs there inside =
    let first : other ≡ 0 = omega (arith, differs) in
    let (place, within, is) = subst
    (λ n. Contains (partition_at small_set n).trace.config.granted.grants g) first there in
    let only : place ≡ 0 = omega (arith, within) in
    let same : storage 0x2000000000 ≡ g = subst (λ n. get_or (storage_at 0x2000000000) n g ≡ g) only
    is in
    let clash : false ≡ true = subst (IsInGrant 0x3000003234) (sym same) inside in
    cc

-- Where its load lands.
its_own : IsOwnAddress small_set 1 0x3000003234
its_own = record {
  grant = storage 0x3000000000;
  own = (0, omega arith, refl);
  in_grant = refl;
  strange = not_in_the_other;
  off_pool = λ inside. absurd (omega (arith, inside.to_end));
}

-- An address of partition 2, and one of the pool.
of_another : IsOwnAddress small_set 1 0x2000003234 → ⊥
of_another h =
    h.strange 0 (storage 0x2000000000) (omega arith) (λ same. absurd (omega (arith, same)))
    (0, omega arith, refl) refl

in_the_pool : IsOwnAddress small_set 1 0x1000040000 → ⊥
in_the_pool h = h.off_pool (record { from_base = omega arith; to_end = omega arith })
