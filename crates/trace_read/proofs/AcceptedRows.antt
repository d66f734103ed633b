-- Texts that are accepted, and the traces that they are.
use Rattle.std.proofs.Common.{◌≡◌, ℕ, [], ◌∷◌, ◌++◌, refl, Ok}
use Rattle.std.specs.Prelude.{codes, true, false}
use Rattle.frame_grants.specs.declared.grant.Kind.TheVariants.{Ram}
use Rattle.frame_grants.specs.Grants.{add_refusal, refusals as grant_refusals, with_grant}
use Rattle.pool_range.specs.Ranges.{range_refusal}
use Rattle.papr_codes.specs.Hcalls.{hcall_of, row_of}
use Rattle.storage_prot.specs.declared.want.Want.TheVariants.{Load, Store, Fetch}
use Rattle.trace_line.specs.declared.act.Act.{Act}
use Rattle.authority_mask.specs.declared.masks.MaskName.TheVariants.{Amr, Iamr}
use Rattle.trace_line.specs.declared.act.Act.TheVariants.{Call, Access, Device, SlbMte, SlbClear, SetMask, Dump}
use Rattle.trace_line.specs.declared.line.TraceLine.{TraceLine}
use Rattle.trace_read.specs.Acts.{number_at, arguments_from, mode_at, act_by, read_act, dump_act}
use Rattle.trace_read.specs.Counts.{may_add}
use Rattle.trace_read.specs.Forms.{call_named, other_verb, verb_of, form_named, run_form, form_of}
use Rattle.trace_read.specs.Grammar.{after_act, after_form, after_words, after_text, after_line, after_lines, trace_of}
use Rattle.trace_read.specs.Numbers.{number_of}
use Rattle.trace_read.specs.Settings.{default_settings, number_within, with_order, with_limit, with_cpus, pool_named, with_pool, grant_named, with_granted, with_begin}
use Rattle.trace_line.specs.Lines.{is_quiet}

-- A line of a trace, with its number, its processor and its act.
unfoldable pub run_line : ℕ → ℕ → Act → TraceLine
run_line number cpu act = record { number = number; cpu = cpu; act = act }

-- ---- accepted
-- Nothing but `begin`: every value is the default.
defaults :
    trace_of (codes "begin")
    ≡ Ok
    (record {
      config =
          record {
            order = 18;
            limit = 22;
            cpus = 1;
            granted = record { pool_base = 0x1000000000; pool_order = 24; grants = [] };
            entries = [];
            windows = [];
          };
      lines = [];
    })
unfolding trace_of after_lines after_line after_text after_words after_form form_of form_named
    run_form verb_of call_named other_verb number_within with_order with_limit with_cpus pool_named
    with_pool grant_named with_granted with_begin number_at number_of range_refusal add_refusal
    grant_refusals with_grant read_act dump_act act_by arguments_from mode_at after_act may_add
    is_quiet hcall_of row_of
defaults = refl

-- Every configuration line; the grant lies where the default pool would.
configured :
    trace_of
    (codes
    "order 19\nlimit 20\ncpus 64\npool 0x2000000000 20\nram 0x0 0x1000000000 0x1000\nbegin\n")
    ≡ Ok
    (record {
      config =
          record {
            order = 19;
            limit = 20;
            cpus = 64;
            granted =
                record {
                  pool_base = 0x2000000000;
                  pool_order = 20;
                  grants =
                      record {
                        logical = 0;
                        machine = 0x1000000000;
                        length = 0x1000;
                        kind = Ram;
                      }
                      ∷ [];
                };
            entries = [];
            windows = [];
          };
      lines = [];
    })
unfolding trace_of after_lines after_line after_text after_words after_form form_of form_named
    run_form verb_of call_named other_verb number_within with_order with_limit with_cpus pool_named
    with_pool grant_named with_granted with_begin number_at number_of range_refusal add_refusal
    grant_refusals with_grant read_act dump_act act_by arguments_from mode_at after_act may_add
    is_quiet hcall_of row_of
configured = refl

-- Blanks, a remark, and CR at the lines' ends, also of the last line, which has no LF.
read_one :
    trace_of
    (codes "order 18\r\n"
    ++ codes "ram 0x0 0x2000000000 0X40000000\n"
    ++ codes "\n"
    ++ codes "# remark\n"
    ++ codes "begin\n"
    ++ codes "0\t H_ENTER 0x0 32 0x1001 0x3012\r")
    ≡ Ok
    (record {
      config =
          record {
            order = 18;
            limit = 22;
            cpus = 1;
            granted =
                record {
                  pool_base = 0x1000000000;
                  pool_order = 24;
                  grants =
                      record {
                        logical = 0;
                        machine = 0x2000000000;
                        length = 0x40000000;
                        kind = Ram;
                      }
                      ∷ [];
                };
            entries = [];
            windows = [];
          };
      lines =
          run_line 6 0 (Call 8 (0 ∷ 32 ∷ 0x1001 ∷ 0x3012 ∷ 0 ∷ 0 ∷ 0 ∷ 0 ∷ []) true) ∷ [];
    })
unfolding trace_of after_lines after_line after_text after_words after_form form_of form_named
    run_form verb_of call_named other_verb number_within with_order with_limit with_cpus pool_named
    with_pool grant_named with_granted with_begin number_at number_of range_refusal add_refusal
    grant_refusals with_grant read_act dump_act act_by arguments_from mode_at after_act may_add
    is_quiet hcall_of row_of run_line
read_one = refl

-- The other run lines.
read_each :
    trace_of
    (codes "cpus 2\n"
    ++ codes "begin\n"
    ++ codes "1 load 0x5000 user\n"
    ++ codes "0 store 1 priv\n"
    ++ codes "1 fetch 2 user\n"
    ++ codes "0 slbmte 3 4\n"
    ++ codes "1 slbclear\n"
    ++ codes "dump\n"
    ++ codes "0 H_RESIZE_HPT_PREPARE 0 19\n")
    ≡ Ok
    (record {
      config = record default_settings { cpus = 2 };
      lines =
          run_line 3 1 (Access Load 0x5000 true)
          ∷ run_line 4 0 (Access Store 1 false)
          ∷ run_line 5 1 (Access Fetch 2 true)
          ∷ run_line 6 0 (SlbMte 3 4)
          ∷ run_line 7 1 SlbClear
          ∷ run_line 8 0 Dump
          ∷ run_line 9 0 (Call 0x36C (0 ∷ 19 ∷ 0 ∷ 0 ∷ 0 ∷ 0 ∷ 0 ∷ 0 ∷ []) true)
          ∷ [];
    })
unfolding trace_of after_lines after_line after_text after_words after_form form_of form_named
    run_form verb_of call_named other_verb number_within with_order with_limit with_cpus pool_named
    with_pool grant_named with_granted with_begin number_at number_of range_refusal add_refusal
    grant_refusals with_grant read_act dump_act act_by arguments_from mode_at after_act may_add
    is_quiet hcall_of row_of run_line
read_each = refl

-- A window's calls, and a device's accesses.
read_device :
    trace_of
    (codes
    "begin\n0 H_PUT_TCE 0x1 0x5000 0x3001\n0 H_GET_TCE 1 0\n0 dmaread 0x1 0x5008\n0 dmawrite 2 0\n")
    ≡ Ok
    (record {
      config = default_settings;
      lines =
          run_line 2 0 (Call 0x20 (1 ∷ 0x5000 ∷ 0x3001 ∷ 0 ∷ 0 ∷ 0 ∷ 0 ∷ 0 ∷ []) true)
          ∷ run_line 3 0 (Call 0x1C (1 ∷ 0 ∷ 0 ∷ 0 ∷ 0 ∷ 0 ∷ 0 ∷ 0 ∷ []) true)
          ∷ run_line 4 0 (Device false 1 0x5008)
          ∷ run_line 5 0 (Device true 2 0)
          ∷ [];
    })
unfolding trace_of after_lines after_line after_text after_words after_form form_of form_named
    run_form verb_of call_named other_verb number_within with_order with_limit with_cpus pool_named
    with_pool grant_named with_granted with_begin number_at number_of range_refusal add_refusal
    grant_refusals with_grant read_act dump_act act_by arguments_from mode_at after_act may_add
    is_quiet hcall_of row_of run_line
read_device = refl

-- The masks of a processor.
read_masks :
    trace_of (codes "begin\n0 amr 0x2000000000000000\n0 iamr 3\n")
    ≡ Ok
    (record {
      config = default_settings;
      lines =
          run_line 2 0 (SetMask Amr 0x2000000000000000) ∷ run_line 3 0 (SetMask Iamr 3) ∷ [];
    })
unfolding trace_of after_lines after_line after_text after_words after_form form_of form_named
    run_form verb_of call_named other_verb number_within with_order with_limit with_cpus pool_named
    with_pool grant_named with_granted with_begin number_at number_of range_refusal add_refusal
    grant_refusals with_grant read_act dump_act act_by arguments_from mode_at after_act may_add
    is_quiet hcall_of row_of run_line
read_masks = refl

-- A call by its number: the arguments that the line leaves out are 0.
read_number :
    trace_of (codes "begin\n0 hcall 0x36C 7\n")
    ≡ Ok
    (record {
      config = default_settings;
      lines = run_line 2 0 (Call 0x36C (7 ∷ 0 ∷ 0 ∷ 0 ∷ 0 ∷ 0 ∷ 0 ∷ 0 ∷ []) false) ∷ [];
    })
unfolding trace_of after_lines after_line after_text after_words after_form form_of form_named
    run_form verb_of call_named other_verb number_within with_order with_limit with_cpus pool_named
    with_pool grant_named with_granted with_begin number_at number_of range_refusal add_refusal
    grant_refusals with_grant read_act dump_act act_by arguments_from mode_at after_act may_add
    is_quiet hcall_of row_of run_line
read_number = refl

read_most :
    trace_of (codes "begin\n0 hcall 999 1 2 3 4 5 6 7 8\n")
    ≡ Ok
    (record {
      config = default_settings;
      lines = run_line 2 0 (Call 999 (1 ∷ 2 ∷ 3 ∷ 4 ∷ 5 ∷ 6 ∷ 7 ∷ 8 ∷ []) false) ∷ [];
    })
unfolding trace_of after_lines after_line after_text after_words after_form form_of form_named
    run_form verb_of call_named other_verb number_within with_order with_limit with_cpus pool_named
    with_pool grant_named with_granted with_begin number_at number_of range_refusal add_refusal
    grant_refusals with_grant read_act dump_act act_by arguments_from mode_at after_act may_add
    is_quiet hcall_of row_of run_line
read_most = refl
