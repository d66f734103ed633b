-- The serial run of whole traces, from the opening table on.
use Rattle.std.specs.Prelude.{codes}
use Rattle.std.proofs.Common.{◌≡◌, [], ◌∷◌, ◌++◌, false, refl}
use Rattle.std.specs.Fmt.{digits}
use Rattle.frame_grants.specs.Grants.{machine_range}
use Rattle.power_addr.specs.Pages.{tag_of, same_page}
use Rattle.papr_codes.specs.Hcalls.{hcall_of, row_of}
use Rattle.storage_prot.specs.declared.want.Want.TheVariants.{Load, Store}
use Rattle.storage_prot.specs.Protection.{permission, rows}
use Rattle.slb_model.specs.Buffer.{no_slots, slots_after, segment_of}
use Rattle.slb_model.specs.Refusals.{mte_refusal, tests_of_words}
use Rattle.slb_model.specs.Slots.{slot_of_words}
use Rattle.hpt_hash.specs.Hash.{group_of}
use Rattle.tlb_model.specs.Cache.{empty_cache, cached_line}
use Rattle.entry_model.specs.Reply.{has_base}
use Rattle.entry_model.specs.Trial.{trial_run, plan_run}
use Rattle.page_grants.specs.Suited.{suits_grants}
use Rattle.call_plan.specs.Checks.{h_enter_plan}
use Rattle.call_plan.specs.Enter.{candidates}
use Rattle.call_plan.specs.Single.{h_remove_plan, h_protect_plan, h_clear_mod_plan}
use Rattle.hpt_walk.specs.Access.{outcome_of}
use Rattle.tlb_model.specs.CacheAfter.{after_walk}
use Rattle.tlb_model.specs.Processor.{new_processor}
use Rattle.hpt_walk.specs.Walk.{walk_calls}
use Rattle.trace_line.specs.Lines.{is_quiet}
use Rattle.trace_read.specs.Trace.{AcceptedTrace}
use Rattle.run_model.specs.LineReplies.{hcall_plan}
use Rattle.run_model.specs.SerialRun.{line_result, run_on, serial_replies}
use Rattle.reply_text.specs.Text.{text_from, head_text, code_text, text_of, dump_head, table_text, entry_text}
use Rattle.run_model.specs.Stores.{page_table}
use Rattle.run_model.specs.QuietLines.{shown_of, run_quiet_line}
use Rattle.hpt_resize.specs.TableMemory.{opening_memory, empty_states}
use Rattle.hpt_pool.specs.Pool.{lowest_place, multiples, taken_with}
use Rattle.frame_grants.specs.declared.grant.Kind.TheVariants.{Ram}
use Rattle.trace_line.specs.declared.act.Act.TheVariants.{Dump}
use Rattle.run_model.proofs.SmallPartition.{calls, reaches, mte}
use Rattle.authority_mask.specs.Authority.{row_says, key_rows}

whole : AcceptedTrace
whole = record {
  config =
      record {
        order = 18;
        limit = 22;
        cpus = 1;
        granted =
            record {
              pool_base = 0x1000000000;
              pool_order = 24;
              grants =
                  record {
                    logical = 0;
                    machine = 0x2000000000;
                    length = 0x40000000;
                    kind = Ram;
                  }
                  ∷ [];
            };
        entries = [];
        windows = [];
      };
  lines =
      mte 4 0x8000000 0x1000
      ∷ calls 5 0x08 (0 ∷ 0x20 ∷ 0x1001 ∷ 0x3013 ∷ [])
      ∷ reaches 6 Store 0x5000 false
      ∷ calls 7 0x18 (0x2 ∷ 0x20 ∷ 0 ∷ [])
      ∷ reaches 8 Store 0x5000 false
      ∷ [];
}

a_whole_trace :
    text_of whole (serial_replies whole)
    ≡ codes "4 0 slbmte ok\n"
    ++ codes "5 0 H_ENTER 0 0x20 | 0x20.0.0.entered\n"
    ++ codes "6 0 store denied walk | 0x20.1.0.denied\n"
    ++ codes "7 0 H_PROTECT 0 | 0x20.1.0.protected\n"
    ++ codes "8 0 store at 0x2000003000 walk | 0x20.2.0.at\n"
unfolding digits whole page_table opening_memory empty_states lowest_place multiples taken_with
    text_from head_text code_text run_on line_result hcall_plan is_quiet hcall_of row_of plan_run
    trial_run candidates suits_grants h_enter_plan h_remove_plan h_protect_plan h_clear_mod_plan
    machine_range mte_refusal tests_of_words no_slots slots_after slot_of_words segment_of
    new_processor empty_cache cached_line same_page after_walk walk_calls group_of tag_of has_base
    permission rows row_says key_rows outcome_of
a_whole_trace = refl

-- A walk to the secondary group, and a dump of the whole table.
far : AcceptedTrace
far = record whole {
  lines =
      mte 4 0x8000000 0x1000
      ∷ calls 5 0x08 (0x8000000000 ∷ 0x3FD8 ∷ 0x1003 ∷ 0x3012 ∷ [])
      ∷ reaches 6 Load 0x5000 false
      ∷ record { number = 7; cpu = 0; act = Dump }
      ∷ [];
}

the_last_group :
    text_of far (serial_replies far)
    ≡ codes "4 0 slbmte ok\n"
    ++ codes "5 0 H_ENTER 0 0x3fd8 | 0x3fd8.0.0.entered\n"
    ++ codes "6 0 load at 0x2000003000 walk | 0x20.0.0.nomatch 0x21.0.0.nomatch"
    ++ codes " 0x22.0.0.nomatch 0x23.0.0.nomatch 0x24.0.0.nomatch 0x25.0.0.nomatch"
    ++ codes " 0x26.0.0.nomatch 0x27.0.0.nomatch 0x3fd8.1.0.at\n"
    ++ codes "7 dump table 0 order 18 place 0x1000000000 entries 1\n"
    ++ codes " 0x3fd8 0x1003 0x3112 1\n"
unfolding digits far whole dump_head table_text entry_text shown_of run_quiet_line page_table
    opening_memory empty_states lowest_place multiples taken_with text_from head_text code_text
    run_on line_result hcall_plan is_quiet hcall_of row_of plan_run trial_run candidates
    suits_grants h_enter_plan h_remove_plan h_protect_plan h_clear_mod_plan machine_range
    mte_refusal tests_of_words no_slots slots_after slot_of_words segment_of new_processor
    empty_cache cached_line same_page after_walk walk_calls group_of tag_of has_base permission rows
    row_says key_rows outcome_of
the_last_group = refl

-- An entry that is valid at first, with R and C: a load uses it, and a dump shows it with its
-- words.
opened : AcceptedTrace
opened = record whole {
  config =
      record (whole.config) {
        entries = record { index = 0x20; dword0 = 0x1001; dword1 = 0x3192 } ∷ [];
      };
  lines =
      mte 5 0x8000000 0x1000
      ∷ reaches 6 Load 0x5000 false
      ∷ record { number = 7; cpu = 0; act = Dump }
      ∷ [];
}

an_opening_entry :
    text_of opened (serial_replies opened)
    ≡ codes "5 0 slbmte ok\n"
    ++ codes "6 0 load at 0x2000003000 walk | 0x20.0.3.at\n"
    ++ codes "7 dump table 0 order 18 place 0x1000000000 entries 1\n"
    ++ codes " 0x20 0x1001 0x3192 0\n"
unfolding digits opened whole dump_head table_text entry_text shown_of run_quiet_line page_table
    opening_memory empty_states lowest_place multiples taken_with text_from head_text code_text
    run_on line_result hcall_plan is_quiet hcall_of row_of plan_run trial_run candidates
    suits_grants h_enter_plan h_remove_plan h_protect_plan h_clear_mod_plan machine_range
    mte_refusal tests_of_words no_slots slots_after slot_of_words segment_of new_processor
    empty_cache cached_line same_page after_walk walk_calls group_of tag_of has_base permission rows
    row_says key_rows outcome_of
an_opening_entry = refl
