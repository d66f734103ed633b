-- The definitions on worked inputs: a set that is accepted, and each reason that a set adds.
use Rattle.std.specs.Prelude.{codes, true, false}
use Rattle.std.proofs.Common.{◌≡◌, ℕ, [], ◌∷◌, ◌++◌, refl, Ok, Err}
use Rattle.frame_grants.specs.Grants.{add_refusal, refusals as grant_refusals, with_grant}
use Rattle.hpt_pool.specs.Pool.{lowest_place, multiples, taken_with}
use Rattle.papr_codes.specs.Hcalls.{hcall_of, row_of}
use Rattle.pool_range.specs.Ranges.{range_refusal}
use Rattle.storage_prot.specs.declared.want.Want.TheVariants.{Load}
use Rattle.trace_line.specs.declared.act.Act.{Act}
use Rattle.trace_line.specs.declared.act.Act.TheVariants.{Call, Access}
use Rattle.trace_line.specs.declared.line.TraceLine.{TraceLine}
use Rattle.trace_line.specs.Lines.{is_quiet}
use Rattle.trace_read.specs.declared.why.Why.TheVariants as whys
use Rattle.trace_read.specs.Acts.{number_at, arguments_from, mode_at, act_by, read_act, dump_act}
use Rattle.trace_read.specs.Counts.{may_add}
use Rattle.trace_read.specs.Forms.{call_named, other_verb, verb_of, form_named, run_form, form_of}
use Rattle.trace_read.specs.Grammar.{after_act, after_form, after_words, after_text}
use Rattle.trace_read.specs.Numbers.{number_of}
use Rattle.trace_read.specs.Settings.{number_within, with_order, pool_named, grant_named, with_granted, with_begin}
use Rattle.lpar_set.specs.SetTrace.{NumberedTrace}
use Rattle.lpar_set.specs.SetGrammar.{with_given, after_own, after_member, with_shared, after_numbered_words, after_allowed, after_set_words, after_set_line, after_set_lines, set_of}
use Rattle.lpar_set.proofs.SmallSet.{storage_at, turn}

-- ---- accepted
-- A partition of order 18 that may grow as far as any.
read_partition : ℕ → ℕ → TraceLine → NumberedTrace
read_partition number machine line = record {
  number = number;
  trace = record {
    config = record {
      order = 18;
      limit = 22;
      cpus = 1;
      granted = record { pool_base = 0x1000000000; pool_order = 19; grants = storage_at machine };
      entries = [];
      windows = [];
    };
    lines = line ∷ [];
  };
}

run_line : ℕ → Act → TraceLine
run_line number act = record { number = number; cpu = 0; act = act }

-- Two partitions, each with a run line.
two :
    set_of
    (codes "shared 0x1000000000 19\n"
    ++ codes "0 order 18\n"
    ++ codes "0 ram 0x0 0x2000000000 0x40000000\n"
    ++ codes "0 begin\n"
    ++ codes "1 order 18\n"
    ++ codes "1 ram 0x0 0x3000000000 0x40000000\n"
    ++ codes "1 begin\n"
    ++ codes "0 0 H_ENTER 0x0 0x20 0x1001 0x3012\n"
    ++ codes "1 0 load 0x5000 priv\n")
    ≡ Ok
    (record {
      pool_base = 0x1000000000;
      pool_order = 19;
      partitions =
          read_partition 0 0x2000000000
          (run_line 8 (Call 8 (0 ∷ 0x20 ∷ 0x1001 ∷ 0x3012 ∷ 0 ∷ 0 ∷ 0 ∷ 0 ∷ []) true))
          ∷ read_partition 1 0x3000000000 (run_line 9 (Access Load 0x5000 false))
          ∷ [];
      turns = turn 0 0 ∷ turn 1 0 ∷ [];
    })
unfolding set_of after_set_lines after_set_line after_set_words after_allowed after_numbered_words
    with_shared after_member after_own with_given after_text after_words after_form form_of
    form_named run_form verb_of call_named other_verb number_within with_order pool_named
    grant_named with_granted with_begin number_at number_of range_refusal add_refusal grant_refusals
    with_grant read_act dump_act act_by arguments_from mode_at after_act may_add is_quiet hcall_of
    row_of lowest_place multiples taken_with read_partition run_line
two = refl

-- ---- refused
-- Machine memory of another partition.
refused_stranger :
    set_of
    (codes "shared 0x1000000000 19\n"
    ++ codes "0 order 18\n"
    ++ codes "0 ram 0x0 0x2000000000 0x40000000\n"
    ++ codes "0 begin\n"
    ++ codes "1 order 18\n"
    ++ codes "1 ram 0x0 0x2000000000 0x40000000\n")
    ≡ Err (6, whys.Overlap)
unfolding set_of after_set_lines after_set_line after_set_words after_allowed after_numbered_words
    with_shared after_member after_own with_given after_text after_words after_form form_of
    form_named run_form verb_of call_named other_verb number_within with_order pool_named
    grant_named with_granted with_begin number_at number_of range_refusal add_refusal grant_refusals
    with_grant read_act dump_act act_by arguments_from mode_at after_act may_add is_quiet hcall_of
    row_of lowest_place multiples taken_with
refused_stranger = refl

-- A number that is no partition's.
refused_number :
    set_of
    (codes
    "shared 0x1000000000 19\n0 order 18\n0 ram 0x0 0x2000000000 0x40000000\n0 begin\n9 order 18\n")
    ≡ Err (5, whys.Lpar)
unfolding set_of after_set_lines after_set_line after_set_words after_allowed after_numbered_words
    with_shared after_member after_own with_given after_text after_words after_form form_of
    form_named run_form verb_of call_named other_verb number_within with_order pool_named
    grant_named with_granted with_begin number_at number_of range_refusal add_refusal grant_refusals
    with_grant read_act dump_act act_by arguments_from mode_at after_act may_add is_quiet hcall_of
    row_of lowest_place multiples taken_with
refused_number = refl

-- A word that names no partition.
refused_word : set_of (codes "order 18\n") ≡ Err (1, whys.Lpar)
unfolding set_of after_set_lines after_set_line after_set_words after_allowed after_numbered_words
    with_shared after_member after_own with_given after_text after_words after_form form_of
    form_named run_form verb_of call_named other_verb number_within with_order pool_named
    grant_named with_granted with_begin number_at number_of range_refusal add_refusal grant_refusals
    with_grant read_act dump_act act_by arguments_from mode_at after_act may_add is_quiet hcall_of
    row_of lowest_place multiples taken_with
refused_word = refl

-- What is of the whole, after whatever word.
refused_shared_pool : set_of (codes "shared pool 1\n") ≡ Err (1, whys.Lpar)
unfolding set_of after_set_lines after_set_line after_set_words after_allowed after_numbered_words
    with_shared after_member after_own with_given after_text after_words after_form form_of
    form_named run_form verb_of call_named other_verb number_within with_order pool_named
    grant_named with_granted with_begin number_at number_of range_refusal add_refusal grant_refusals
    with_grant read_act dump_act act_by arguments_from mode_at after_act may_add is_quiet hcall_of
    row_of lowest_place multiples taken_with
refused_shared_pool = refl

refused_pool : set_of (codes "0 pool 0x0 20\n") ≡ Err (1, whys.Lpar)
unfolding set_of after_set_lines after_set_line after_set_words after_allowed after_numbered_words
    with_shared after_member after_own with_given after_text after_words after_form form_of
    form_named run_form verb_of call_named other_verb number_within with_order pool_named
    grant_named with_granted with_begin number_at number_of range_refusal add_refusal grant_refusals
    with_grant read_act dump_act act_by arguments_from mode_at after_act may_add is_quiet hcall_of
    row_of lowest_place multiples taken_with
refused_pool = refl

refused_entry : set_of (codes "0 entry x\n") ≡ Err (1, whys.Lpar)
unfolding set_of after_set_lines after_set_line after_set_words after_allowed after_numbered_words
    with_shared after_member after_own with_given after_text after_words after_form form_of
    form_named run_form verb_of call_named other_verb number_within with_order pool_named
    grant_named with_granted with_begin number_at number_of range_refusal add_refusal grant_refusals
    with_grant read_act dump_act act_by arguments_from mode_at after_act may_add is_quiet hcall_of
    row_of lowest_place multiples taken_with
refused_entry = refl

refused_window : set_of (codes "0 window 1 0 4\n") ≡ Err (1, whys.Lpar)
unfolding set_of after_set_lines after_set_line after_set_words after_allowed after_numbered_words
    with_shared after_member after_own with_given after_text after_words after_form form_of
    form_named run_form verb_of call_named other_verb number_within with_order pool_named
    grant_named with_granted with_begin number_at number_of range_refusal add_refusal grant_refusals
    with_grant read_act dump_act act_by arguments_from mode_at after_act may_add is_quiet hcall_of
    row_of lowest_place multiples taken_with
refused_window = refl

-- `shared` comes first: a remark of a partition is a line of it, and one of the input is none.
refused_shared : set_of (codes "0\nshared 0x1000000000 19\n") ≡ Err (2, whys.Place)
unfolding set_of after_set_lines after_set_line after_set_words after_allowed after_numbered_words
    with_shared after_member after_own with_given after_text after_words after_form form_of
    form_named run_form verb_of call_named other_verb number_within with_order pool_named
    grant_named with_granted with_begin number_at number_of range_refusal add_refusal grant_refusals
    with_grant read_act dump_act act_by arguments_from mode_at after_act may_add is_quiet hcall_of
    row_of lowest_place multiples taken_with
refused_shared = refl

refused_second :
    set_of (codes "shared 0x1000000000 19\nshared 0x1000000000 19\n") ≡ Err (2, whys.Place)
unfolding set_of after_set_lines after_set_line after_set_words after_allowed after_numbered_words
    with_shared after_member after_own with_given after_text after_words after_form form_of
    form_named run_form verb_of call_named other_verb number_within with_order pool_named
    grant_named with_granted with_begin number_at number_of range_refusal add_refusal grant_refusals
    with_grant read_act dump_act act_by arguments_from mode_at after_act may_add is_quiet hcall_of
    row_of lowest_place multiples taken_with
refused_second = refl

refused_behind_remark : set_of (codes "# remark\nshared 0x1000000000 17\n") ≡ Err (2, whys.Range)
unfolding set_of after_set_lines after_set_line after_set_words after_allowed after_numbered_words
    with_shared after_member after_own with_given after_text after_words after_form form_of
    form_named run_form verb_of call_named other_verb number_within with_order pool_named
    grant_named with_granted with_begin number_at number_of range_refusal add_refusal grant_refusals
    with_grant read_act dump_act act_by arguments_from mode_at after_act may_add is_quiet hcall_of
    row_of lowest_place multiples taken_with
refused_behind_remark = refl

-- No configuration line of any partition follows a run line of any.
refused_setting :
    set_of (codes "shared 0x1000000000 19\n0 begin\n0 dump\n1 order 18\n") ≡ Err (4, whys.Place)
unfolding set_of after_set_lines after_set_line after_set_words after_allowed after_numbered_words
    with_shared after_member after_own with_given after_text after_words after_form form_of
    form_named run_form verb_of call_named other_verb number_within with_order pool_named
    grant_named with_granted with_begin number_at number_of range_refusal add_refusal grant_refusals
    with_grant read_act dump_act act_by arguments_from mode_at after_act may_add is_quiet hcall_of
    row_of lowest_place multiples taken_with
refused_setting = refl

-- The pool has room for two tables.
refused_third :
    set_of (codes "shared 0x1000000000 19\n0 begin\n1 begin\n2 begin\n") ≡ Err (4, whys.Small)
unfolding set_of after_set_lines after_set_line after_set_words after_allowed after_numbered_words
    with_shared after_member after_own with_given after_text after_words after_form form_of
    form_named run_form verb_of call_named other_verb number_within with_order pool_named
    grant_named with_granted with_begin number_at number_of range_refusal add_refusal grant_refusals
    with_grant read_act dump_act act_by arguments_from mode_at after_act may_add is_quiet hcall_of
    row_of lowest_place multiples taken_with
refused_third = refl

-- The pool, and the memory of another partition before it.
refused_tables :
    set_of (codes "shared 0x1000000000 19\n0 ram 0x0 0x1000000000 0x1000\n") ≡ Err (2, whys.Tables)
unfolding set_of after_set_lines after_set_line after_set_words after_allowed after_numbered_words
    with_shared after_member after_own with_given after_text after_words after_form form_of
    form_named run_form verb_of call_named other_verb number_within with_order pool_named
    grant_named with_granted with_begin number_at number_of range_refusal add_refusal grant_refusals
    with_grant read_act dump_act act_by arguments_from mode_at after_act may_add is_quiet hcall_of
    row_of lowest_place multiples taken_with
refused_tables = refl

refused_stranger_first :
    set_of
    (codes
    "shared 0x1000000000 19\n0 ram 0x0 0x2000000000 0x1000\n1 ram 0x0 0x1000000000 0x1000001000\n")
    ≡ Err (3, whys.Overlap)
unfolding set_of after_set_lines after_set_line after_set_words after_allowed after_numbered_words
    with_shared after_member after_own with_given after_text after_words after_form form_of
    form_named run_form verb_of call_named other_verb number_within with_order pool_named
    grant_named with_granted with_begin number_at number_of range_refusal add_refusal grant_refusals
    with_grant read_act dump_act act_by arguments_from mode_at after_act may_add is_quiet hcall_of
    row_of lowest_place multiples taken_with
refused_stranger_first = refl

-- No partition, and one that has not begun.
refused_nothing : set_of [] ≡ Err (1, whys.Begin)
unfolding set_of after_set_lines after_set_line after_set_words after_allowed after_numbered_words
    with_shared after_member after_own with_given after_text after_words after_form form_of
    form_named run_form verb_of call_named other_verb number_within with_order pool_named
    grant_named with_granted with_begin number_at number_of range_refusal add_refusal grant_refusals
    with_grant read_act dump_act act_by arguments_from mode_at after_act may_add is_quiet hcall_of
    row_of lowest_place multiples taken_with
refused_nothing = refl

refused_no_partition : set_of (codes "# remark\n") ≡ Err (2, whys.Begin)
unfolding set_of after_set_lines after_set_line after_set_words after_allowed after_numbered_words
    with_shared after_member after_own with_given after_text after_words after_form form_of
    form_named run_form verb_of call_named other_verb number_within with_order pool_named
    grant_named with_granted with_begin number_at number_of range_refusal add_refusal grant_refusals
    with_grant read_act dump_act act_by arguments_from mode_at after_act may_add is_quiet hcall_of
    row_of lowest_place multiples taken_with
refused_no_partition = refl

refused_no_begin :
    set_of (codes "shared 0x1000000000 19\n0 begin\n1 order 18\n") ≡ Err (4, whys.Begin)
unfolding set_of after_set_lines after_set_line after_set_words after_allowed after_numbered_words
    with_shared after_member after_own with_given after_text after_words after_form form_of
    form_named run_form verb_of call_named other_verb number_within with_order pool_named
    grant_named with_granted with_begin number_at number_of range_refusal add_refusal grant_refusals
    with_grant read_act dump_act act_by arguments_from mode_at after_act may_add is_quiet hcall_of
    row_of lowest_place multiples taken_with
refused_no_begin = refl
