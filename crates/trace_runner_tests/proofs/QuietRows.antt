-- The quiet lines of worked traces: the two resize calls, and dumps.
use Rattle.std.specs.Prelude.{codes, replicate, map, slice_set}
use Rattle.std.proofs.Common.{◌≡◌, ℕ, List, [], ◌∷◌, ◌++◌, true, false, Some, None, refl}
use Rattle.std.specs.Fmt.{digits}
use Rattle.frame_grants.specs.Grants.{machine_range}
use Rattle.power_addr.specs.Pages.{virtual_page, tag_of, same_page}
use Rattle.papr_codes.specs.Hcalls.{hcall_of, row_of}
use Rattle.storage_prot.specs.declared.want.Want.TheVariants as wants
use Rattle.storage_prot.specs.Protection.{permission, rows}
use Rattle.slb_model.specs.Buffer.{no_slots, slots_after, segment_of}
use Rattle.slb_model.specs.Refusals.{mte_refusal, tests_of_words}
use Rattle.slb_model.specs.Slots.{slot_of_words}
use Rattle.hpt_hash.specs.Hash.{group_of}
use Rattle.hpt_hash.specs.Entries.{page_at}
use Rattle.hpt_pool.specs.Pool.{lowest_place, multiples, taken_with, taken_without}
use Rattle.tlb_model.specs.Cache.{empty_cache, cached_line}
use Rattle.entry_model.specs.State.{State, empty_state}
use Rattle.entry_model.specs.Reply.{has_base}
use Rattle.entry_model.specs.Run.{state_at}
use Rattle.entry_model.specs.Trial.{trial_run, plan_run}
use Rattle.page_grants.specs.Suited.{suits_grants}
use Rattle.call_plan.specs.Checks.{h_enter_plan}
use Rattle.call_plan.specs.Enter.{candidates}
use Rattle.call_plan.specs.Single.{h_read_plan}
use Rattle.hpt_resize.specs.TableMemory.{TableMemory, opening_memory, empty_states, prepare_result, commit_result, with_states}
use Rattle.hpt_resize.specs.Rehash.{carried_page, target_of, first_with, collision_at, collision_of, entry_at, rehashed_states}
use Rattle.hpt_resize.specs.Resize.{outcome_of_prepare, outcome_of_commit}
use Rattle.hpt_walk.specs.Access.{outcome_of}
use Rattle.tlb_model.specs.CacheAfter.{after_walk}
use Rattle.tlb_model.specs.Processor.{Processor, new_processor}
use Rattle.hpt_walk.specs.Walk.{walk_calls}
use Rattle.trace_line.specs.declared.act.Act.TheVariants.{Dump}
use Rattle.trace_line.specs.declared.line.TraceLine.{TraceLine}
use Rattle.trace_line.specs.Lines.{is_quiet}
use Rattle.run_model.specs.LineReplies.{hcall_plan}
use Rattle.run_model.specs.SerialRun.{line_result, run_on, replies_from}
use Rattle.reply_text.specs.Text.{text_from, head_text, code_text, entry_text, dump_head, table_text}
use Rattle.run_model.specs.Stores.{Store, page_table}
use Rattle.run_model.specs.QuietLines.{run_resize, run_quiet_line, shown_of}
use Rattle.run_model.proofs.SmallPartition.{memory_of, small, calls, reaches, mte}
use Rattle.authority_mask.specs.Authority.{row_says, key_rows}

abbrev dumps : ℕ → TraceLine
dumps n = record { number = n; cpu = 0; act = Dump }

-- ---- dumps
-- The valid entries alone, with R and C in doubleword 1; and the line after a dump goes on where
-- the one before it ended.
shown : List TraceLine
shown =
    mte 4 0x8000000 0x1000
    ∷ dumps 5
    ∷ calls 6 0x08 (0x8000000000 ∷ 0x1 ∷ 0x1001 ∷ 0x3012 ∷ [])
    ∷ calls 7 0x08 (0x8000000000 ∷ 0xE ∷ 0x5011 ∷ 0x6092 ∷ [])
    ∷ reaches 8 wants.Store 0x1000 false
    ∷ dumps 9
    ∷ reaches 10 wants.Store 0x1000 false
    ∷ []

dumped :
    text_from shown (replies_from [] ((small 1) ∷ []) shown)
    ≡ codes "4 0 slbmte ok\n"
    ++ codes "5 dump table 0 order 18 place 0x1000000000 entries 0\n"
    ++ codes "6 0 H_ENTER 0 0x1 | 0x1.0.0.entered\n"
    ++ codes "7 0 H_ENTER 0 0xe | 0xe.0.0.entered\n"
    ++ codes "8 0 store at 0x2000003000 walk | 0x0.0.0.nomatch 0x1.1.0.at\n"
    ++ codes "9 dump table 0 order 18 place 0x1000000000 entries 2\n"
    ++ codes " 0x1 0x1001 0x3192 1\n"
    ++ codes " 0xe 0x5011 0x6092 1\n"
    ++ codes "10 0 store at 0x2000003000 hit | 0x1.1.3.at\n"
unfolding digits shown text_from head_text code_text entry_text dump_head table_text run_on
    line_result run_quiet_line shown_of hcall_plan is_quiet hcall_of row_of plan_run trial_run
    candidates suits_grants h_enter_plan machine_range mte_refusal tests_of_words no_slots
    slots_after slot_of_words segment_of new_processor empty_cache cached_line same_page after_walk
    walk_calls group_of tag_of has_base permission rows row_says key_rows outcome_of
dumped = refl

-- ---- the codes of the two calls
-- In a pool of two blocks, where the table has one.
tight : Store
tight =
    record (small 1) {
      memory =
          record (memory_of []) {
            pool =
                record {
                  base = 0x1000000000;
                  order = 19;
                  taken = record { place = 0x1000000000; order = 18 } ∷ [];
                };
          };
    }

asked : List TraceLine
asked =
    calls 5 0x370 (0 ∷ 19 ∷ [])
    ∷ calls 6 0x36C (0 ∷ 17 ∷ [])
    ∷ calls 7 0x36C (0 ∷ 21 ∷ [])
    ∷ calls 8 0x36C (0 ∷ 19 ∷ [])
    ∷ calls 9 0x36C (0 ∷ 18 ∷ [])
    ∷ calls 10 0x36C (0 ∷ 0 ∷ [])
    ∷ calls 11 0x370 (0 ∷ 18 ∷ [])
    ∷ calls 12 0x370 (0x1 ∷ 18 ∷ [])
    ∷ []

resizes_refused :
    text_from asked (replies_from [] (tight ∷ []) asked)
    ≡ codes "5 0 H_RESIZE_HPT_COMMIT 2\n"
    ++ codes "6 0 H_RESIZE_HPT_PREPARE -4\n"
    ++ codes "7 0 H_RESIZE_HPT_PREPARE -16\n"
    ++ codes "8 0 H_RESIZE_HPT_PREPARE -9\n"
    ++ codes "9 0 H_RESIZE_HPT_PREPARE 0\n"
    ++ codes "10 0 H_RESIZE_HPT_PREPARE 0\n"
    ++ codes "11 0 H_RESIZE_HPT_COMMIT 2\n"
    ++ codes "12 0 H_RESIZE_HPT_COMMIT -4\n"
unfolding digits tight asked text_from head_text code_text run_on run_quiet_line run_resize is_quiet
    hcall_of row_of prepare_result commit_result outcome_of_prepare outcome_of_commit lowest_place
    multiples taken_with taken_without
resizes_refused = refl

-- ---- a resize
-- A bolted entry of the page of VSID 0x801 and index 1, whose hash is 0x800; a bolted one that
-- is in a group of none of its pages; and one that isn't bolted. After the commit no table is
-- pending, and there are 0x8000 entries.
resized : List TraceLine
resized =
    calls 4 0x08 (0x8000000000 ∷ 0 ∷ 0x801011 ∷ 0x3192 ∷ [])
    ∷ calls 5 0x08 (0x8000000000 ∷ 0x8 ∷ 0x81015 ∷ 0x11012 ∷ [])
    ∷ calls 6 0x08 (0x8000000000 ∷ 0x1 ∷ 0x1001 ∷ 0x4012 ∷ [])
    ∷ calls 7 0x36C (0 ∷ 19 ∷ [])
    ∷ calls 8 0x370 (0 ∷ 19 ∷ [])
    ∷ calls 9 0x36C (0 ∷ 19 ∷ [])
    ∷ calls 10 0x370 (0 ∷ 19 ∷ [])
    ∷ calls 11 0x370 (0 ∷ 19 ∷ [])
    ∷ calls 12 0x0C (0 ∷ 0x8000 ∷ [])
    ∷ dumps 13
    ∷ []

resizes_in_two_calls :
    text_from resized (replies_from [] ((small 1) ∷ []) resized)
    ≡ codes "4 0 H_ENTER 0 0x0 | 0x0.0.0.entered\n"
    ++ codes "5 0 H_ENTER 0 0x8 | 0x8.0.0.entered\n"
    ++ codes "6 0 H_ENTER 0 0x1 | 0x1.0.0.entered\n"
    ++ codes "7 0 H_RESIZE_HPT_PREPARE 9900\n"
    ++ codes "8 0 H_RESIZE_HPT_COMMIT 1\n"
    ++ codes "9 0 H_RESIZE_HPT_PREPARE 0\n"
    ++ codes "10 0 H_RESIZE_HPT_COMMIT 0\n"
    ++ codes "11 0 H_RESIZE_HPT_COMMIT 2\n"
    ++ codes "12 0 H_READ -4\n"
    ++ codes "13 dump table 1 order 19 place 0x1000080000 entries 1\n"
    ++ codes " 0x4000 0x801011 0x3192 0\n"
unfolding digits resized dump_head table_text entry_text shown_of rehashed_states entry_at text_from
    head_text code_text run_on line_result run_quiet_line run_resize hcall_plan is_quiet hcall_of
    row_of plan_run trial_run candidates suits_grants h_enter_plan h_read_plan machine_range
    prepare_result commit_result outcome_of_prepare outcome_of_commit lowest_place multiples
    taken_with taken_without collision_of collision_at first_with target_of carried_page page_at
    group_of tag_of
resizes_in_two_calls = refl

-- The entries before the commit.
old : List State
old =
    record {
      valid = true;
      dword0 = 0x801011;
      dword1 = 0x3012;
      referenced = true;
      changed = true;
      stamp = 1;
    }
    ∷ record {
      valid = true;
      dword0 = 0x1001;
      dword1 = 0x4012;
      referenced = false;
      changed = false;
      stamp = 1;
    }
    ∷ empty_state 0
    ∷ empty_state 0
    ∷ empty_state 0
    ∷ empty_state 0
    ∷ empty_state 0
    ∷ empty_state 0
    ∷ record {
      valid = true;
      dword0 = 0x81015;
      dword1 = 0x11012;
      referenced = false;
      changed = false;
      stamp = 1;
    }
    ∷ []

-- The first goes to the first entry of the group 0x800 with its doublewords, R and C; no other goes
-- to where one of the three stood.
carried :
    map (entry_at 18 19 old) (0x4000 ∷ 0 ∷ 0x1 ∷ 0x8 ∷ [])
    ≡ record {
      valid = true;
      dword0 = 0x801011;
      dword1 = 0x3012;
      referenced = true;
      changed = true;
      stamp = 0;
    }
    ∷ empty_state 0
    ∷ empty_state 0
    ∷ empty_state 0
    ∷ []
unfolding old entry_at first_with target_of carried_page page_at group_of tag_of
carried = refl

-- In a table of 0x8000 entries the bolted ones of VSID 1 and of VSID 0x801, each of the page with
-- index 1, which meet in one of 0x4000.
at_1 : ℕ → State
at_1 dword0 =
    record {
      valid = true;
      dword0 = dword0;
      dword1 = 0x3012;
      referenced = false;
      changed = false;
      stamp = 1;
    }

they_meet :
    collision_at 19 18 (at_1 0x1011 ∷ replicate 0x3FFF (empty_state 0) ++ at_1 0x801011 ∷ []) 0x4000
    ≡ Some (record { first = 0; second = 0x4000; target = 0 })
unfolding at_1 collision_at first_with target_of carried_page page_at group_of tag_of
they_meet = refl

-- ---- after a commit
-- The table of the next number at the place that was prepared; the old block is free again, and no
-- table is pending.
ready : TableMemory
ready =
    record (memory_of old) {
      pool =
          record {
            base = 0x1000000000;
            order = 20;
            taken =
                record { place = 0x1000000000; order = 18 }
                ∷ record { place = 0x1000080000; order = 19 }
                ∷ [];
          };
      pending = Some (record { order = 19; place = 0x1000080000; ready = 0x8000 });
    }

-- The same without the entries, which are too many to write out.
abbrev bare : TableMemory → TableMemory
bare memory = with_states memory []

new_memory :
    bare (commit_result ready 0 19).1
    ≡ record {
      limit = 20;
      pool =
          record {
            base = 0x1000000000;
            order = 20;
            taken = record { place = 0x1000080000; order = 19 } ∷ [];
          };
      pending = None;
      table = record { order = 19; place = 0x1000080000; number = 1; states = [] };
    }
unfolding ready old commit_result outcome_of_commit taken_without collision_of collision_at
    first_with target_of carried_page page_at group_of tag_of
new_memory = refl

-- Of the 0x8000 entries of the new table the one that was carried is valid.
new_table :
    (shown_of (commit_result ready 0 19).1).states
    ≡ (
      0x4000,
      record {
        valid = true;
        dword0 = 0x801011;
        dword1 = 0x3012;
        referenced = true;
        changed = true;
        stamp = 0;
      },
    )
    ∷ []
unfolding shown_of ready old commit_result outcome_of_commit taken_without collision_of collision_at
    first_with target_of carried_page page_at group_of tag_of rehashed_states entry_at
new_table = refl

-- A line of the entry 0, in the set of the index 1.
filled : Processor
unfolding empty_cache
filled =
    record new_processor {
      cache =
          slice_set empty_cache 1
          (record {
            page = virtual_page false 0x801 12 1;
            entry = 0;
            stamp = 1;
            dword0 = 0x801011;
            dword1 = 0x3012;
          }
          ∷ []);
    }

cached_then : Store
cached_then = record (small 2) { memory = ready; processors = filled ∷ filled ∷ [] }

-- Each processor's cache is cleared, and no other part of it.
caches_are_cleared :
    (run_on cached_then (calls 5 0x370 (0 ∷ 19 ∷ []))).1.processors
    ≡ new_processor ∷ new_processor ∷ []
unfolding cached_then ready filled old run_on run_quiet_line run_resize is_quiet hcall_of row_of
    commit_result outcome_of_commit collision_of collision_at first_with target_of carried_page
    page_at group_of tag_of new_processor empty_cache
caches_are_cleared = refl

-- By a commit that is refused they aren't, nor by a prepare.
caches_are_kept :
    (run_on cached_then (calls 5 0x370 (0 ∷ 18 ∷ []))).1.processors ≡ filled ∷ filled ∷ []
unfolding cached_then ready run_on run_quiet_line run_resize is_quiet hcall_of row_of commit_result
    outcome_of_commit
caches_are_kept = refl

prepare_keeps_caches :
    (run_on cached_then (calls 5 0x36C (0 ∷ 0 ∷ []))).1.processors ≡ filled ∷ filled ∷ []
unfolding cached_then run_on run_quiet_line run_resize is_quiet hcall_of row_of prepare_result
prepare_keeps_caches = refl

-- ---- the beginning
-- Two processors without segments, and a table at the lowest place of the pool.
opened : Store
unfolding page_table
opened =
    page_table
    (record {
      order = 18;
      limit = 20;
      cpus = 2;
      granted = record { pool_base = 0x1000000000; pool_order = 20; grants = [] };
      entries = [];
      windows = [];
    })

opens_without_segments : opened.processors ≡ new_processor ∷ new_processor ∷ []
unfolding opened page_table
opens_without_segments = refl

opens_at_the_lowest_place : bare opened.memory ≡ memory_of []
unfolding opened page_table opening_memory lowest_place multiples taken_with
opens_at_the_lowest_place = refl

last_is_empty : state_at opened.memory.table.states 0x3FFF ≡ empty_state 0
unfolding opened page_table opening_memory empty_states
last_is_empty = refl
