-- The definitions on worked inputs: what is accepted, and each reason for which a line is refused.
use Rattle.std.proofs.Common.{◌≡◌, ℕ, ◌-◌, ◌^◌, ◌<◌, List, [], ◌∷◌, length, replicate, refl, Ok, Err, lt-ltb}
use Rattle.std.specs.Prelude.{codes, true, false}
use Rattle.frame_grants.specs.declared.grant.Kind.TheVariants.{Ram}
use Rattle.frame_grants.specs.Grants.{no_grant, no_grants, add_refusal, refusals as grant_refusals, with_grant}
use Rattle.pool_range.specs.Ranges.{range_refusal}
use Rattle.papr_codes.specs.Hcalls.{hcall_of, row_of}
use Rattle.trace_line.specs.declared.act.Act.TheVariants.{Call, Dump}
use Rattle.trace_read.specs.declared.why.Why.TheVariants as whys
use Rattle.trace_read.specs.Acts.{number_at, arguments_from, mode_at, act_by, read_act, dump_act}
use Rattle.trace_read.specs.Counts.{may_add}
use Rattle.trace_read.specs.Forms.{call_named, other_verb, verb_of, form_named, run_form, form_of}
use Rattle.trace_read.specs.Grammar.{opening_reading, after_act, after_form, after_words, after_text, after_line, after_lines, trace_of}
use Rattle.trace_read.specs.Numbers.{number_of}
use Rattle.trace_read.specs.Settings.{default_settings, number_within, with_order, with_limit, with_cpus, pool_named, with_pool, grant_named, with_granted, with_begin}
use Rattle.trace_line.specs.Lines.{is_quiet}
use Rattle.trace_read.proofs.AcceptedRows.{run_line}

-- ---- refused, in the order of the reasons
-- More bytes than an input may have.
refused_long : (bytes : List ℕ) → 2 ^ 24 < length bytes → trace_of bytes ≡ Err (0, whys.Long)
unfolding trace_of
refused_long bytes h = rw (lt-ltb _ _ h) refl

-- One line past the most that an input may have; the last that it may have.
refused_lines :
    after_line (record opening_reading { taken = 2 ^ 17 }) (codes "\t~") ≡ Err whys.Lines
unfolding trace_of after_lines after_line after_text after_words after_form form_of form_named
    run_form verb_of call_named other_verb number_within with_order with_limit with_cpus pool_named
    with_pool grant_named with_granted with_begin number_at number_of range_refusal add_refusal
    grant_refusals with_grant read_act dump_act act_by arguments_from mode_at after_act may_add
    is_quiet hcall_of row_of
refused_lines = refl

last_line :
    after_line (record opening_reading { taken = 2 ^ 17 - 1 }) (codes "\t#")
    ≡ Ok (record opening_reading { taken = 2 ^ 17 })
unfolding trace_of after_lines after_line after_text after_words after_form form_of form_named
    run_form verb_of call_named other_verb number_within with_order with_limit with_cpus pool_named
    with_pool grant_named with_granted with_begin number_at number_of range_refusal add_refusal
    grant_refusals with_grant read_act dump_act act_by arguments_from mode_at after_act may_add
    is_quiet hcall_of row_of
last_line = refl

-- A CR inside a line; a second CR at its end.
refused_ascii : trace_of (codes "#\n# a remark with a CR \r inside\n") ≡ Err (2, whys.Ascii)
unfolding trace_of after_lines after_line after_text after_words after_form form_of form_named
    run_form verb_of call_named other_verb number_within with_order with_limit with_cpus pool_named
    with_pool grant_named with_granted with_begin number_at number_of range_refusal add_refusal
    grant_refusals with_grant read_act dump_act act_by arguments_from mode_at after_act may_add
    is_quiet hcall_of row_of
refused_ascii = refl

refused_second_cr : trace_of (codes "order 18\r\r\n") ≡ Err (1, whys.Ascii)
unfolding trace_of after_lines after_line after_text after_words after_form form_of form_named
    run_form verb_of call_named other_verb number_within with_order with_limit with_cpus pool_named
    with_pool grant_named with_granted with_begin number_at number_of range_refusal add_refusal
    grant_refusals with_grant read_act dump_act act_by arguments_from mode_at after_act may_add
    is_quiet hcall_of row_of
refused_second_cr = refl

-- No word of a run line, and no first word; both before the place.
refused_word : trace_of (codes "order 18\nbegin\n0 H_FLUSH 0x0\n") ≡ Err (3, whys.Word)
unfolding trace_of after_lines after_line after_text after_words after_form form_of form_named
    run_form verb_of call_named other_verb number_within with_order with_limit with_cpus pool_named
    with_pool grant_named with_granted with_begin number_at number_of range_refusal add_refusal
    grant_refusals with_grant read_act dump_act act_by arguments_from mode_at after_act may_add
    is_quiet hcall_of row_of
refused_word = refl

refused_word_of_place : trace_of (codes "0 H_FLUSH\n") ≡ Err (1, whys.Word)
unfolding trace_of after_lines after_line after_text after_words after_form form_of form_named
    run_form verb_of call_named other_verb number_within with_order with_limit with_cpus pool_named
    with_pool grant_named with_granted with_begin number_at number_of range_refusal add_refusal
    grant_refusals with_grant read_act dump_act act_by arguments_from mode_at after_act may_add
    is_quiet hcall_of row_of
refused_word_of_place = refl

refused_first_word : trace_of (codes "begin\nH_ENTER\n") ≡ Err (2, whys.Word)
unfolding trace_of after_lines after_line after_text after_words after_form form_of form_named
    run_form verb_of call_named other_verb number_within with_order with_limit with_cpus pool_named
    with_pool grant_named with_granted with_begin number_at number_of range_refusal add_refusal
    grant_refusals with_grant read_act dump_act act_by arguments_from mode_at after_act may_add
    is_quiet hcall_of row_of
refused_first_word = refl

-- `begin` twice, a repeated line, lines out of their order, and a run line before `begin`.
refused_place : trace_of (codes "begin\nbegin\n") ≡ Err (2, whys.Place)
unfolding trace_of after_lines after_line after_text after_words after_form form_of form_named
    run_form verb_of call_named other_verb number_within with_order with_limit with_cpus pool_named
    with_pool grant_named with_granted with_begin number_at number_of range_refusal add_refusal
    grant_refusals with_grant read_act dump_act act_by arguments_from mode_at after_act may_add
    is_quiet hcall_of row_of
refused_place = refl

refused_repeated : trace_of (codes "limit 18\nlimit 18\n") ≡ Err (2, whys.Place)
unfolding trace_of after_lines after_line after_text after_words after_form form_of form_named
    run_form verb_of call_named other_verb number_within with_order with_limit with_cpus pool_named
    with_pool grant_named with_granted with_begin number_at number_of range_refusal add_refusal
    grant_refusals with_grant read_act dump_act act_by arguments_from mode_at after_act may_add
    is_quiet hcall_of row_of
refused_repeated = refl

refused_order : trace_of (codes "cpus 1\norder x\n") ≡ Err (2, whys.Place)
unfolding trace_of after_lines after_line after_text after_words after_form form_of form_named
    run_form verb_of call_named other_verb number_within with_order with_limit with_cpus pool_named
    with_pool grant_named with_granted with_begin number_at number_of range_refusal add_refusal
    grant_refusals with_grant read_act dump_act act_by arguments_from mode_at after_act may_add
    is_quiet hcall_of row_of
refused_order = refl

refused_pool : trace_of (codes "io 0 0x1000 0x1000\npool\n") ≡ Err (2, whys.Place)
unfolding trace_of after_lines after_line after_text after_words after_form form_of form_named
    run_form verb_of call_named other_verb number_within with_order with_limit with_cpus pool_named
    with_pool grant_named with_granted with_begin number_at number_of range_refusal add_refusal
    grant_refusals with_grant read_act dump_act act_by arguments_from mode_at after_act may_add
    is_quiet hcall_of row_of
refused_pool = refl

refused_early : trace_of (codes "0 load\n") ≡ Err (1, whys.Place)
unfolding trace_of after_lines after_line after_text after_words after_form form_of form_named
    run_form verb_of call_named other_verb number_within with_order with_limit with_cpus pool_named
    with_pool grant_named with_granted with_begin number_at number_of range_refusal add_refusal
    grant_refusals with_grant read_act dump_act act_by arguments_from mode_at after_act may_add
    is_quiet hcall_of row_of
refused_early = refl

refused_early_dump : trace_of (codes "dump\n") ≡ Err (1, whys.Place)
unfolding trace_of after_lines after_line after_text after_words after_form form_of form_named
    run_form verb_of call_named other_verb number_within with_order with_limit with_cpus pool_named
    with_pool grant_named with_granted with_begin number_at number_of range_refusal add_refusal
    grant_refusals with_grant read_act dump_act act_by arguments_from mode_at after_act may_add
    is_quiet hcall_of row_of
refused_early_dump = refl

-- A line of one word that begins with a digit is a run line.
refused_number_alone : trace_of (codes "5x\n") ≡ Err (1, whys.Place)
unfolding trace_of after_lines after_line after_text after_words after_form form_of form_named
    run_form verb_of call_named other_verb number_within with_order with_limit with_cpus pool_named
    with_pool grant_named with_granted with_begin number_at number_of range_refusal add_refusal
    grant_refusals with_grant read_act dump_act act_by arguments_from mode_at after_act may_add
    is_quiet hcall_of row_of
refused_number_alone = refl

refused_count : trace_of (codes "begin\n5x\n") ≡ Err (2, whys.Count)
unfolding trace_of after_lines after_line after_text after_words after_form form_of form_named
    run_form verb_of call_named other_verb number_within with_order with_limit with_cpus pool_named
    with_pool grant_named with_granted with_begin number_at number_of range_refusal add_refusal
    grant_refusals with_grant read_act dump_act act_by arguments_from mode_at after_act may_add
    is_quiet hcall_of row_of
refused_count = refl

-- Too few words, and too many, before a wrong number.
refused_few : trace_of (codes "begin\n0 H_ENTER 0x0 0x20 y\n") ≡ Err (2, whys.Count)
unfolding trace_of after_lines after_line after_text after_words after_form form_of form_named
    run_form verb_of call_named other_verb number_within with_order with_limit with_cpus pool_named
    with_pool grant_named with_granted with_begin number_at number_of range_refusal add_refusal
    grant_refusals with_grant read_act dump_act act_by arguments_from mode_at after_act may_add
    is_quiet hcall_of row_of
refused_few = refl

refused_many_words : trace_of (codes "begin\n0 H_READ 0 0 z\n") ≡ Err (2, whys.Count)
unfolding trace_of after_lines after_line after_text after_words after_form form_of form_named
    run_form verb_of call_named other_verb number_within with_order with_limit with_cpus pool_named
    with_pool grant_named with_granted with_begin number_at number_of range_refusal add_refusal
    grant_refusals with_grant read_act dump_act act_by arguments_from mode_at after_act may_add
    is_quiet hcall_of row_of
refused_many_words = refl

refused_bulk : trace_of (codes "begin\n0 H_BULK_REMOVE 0 0 0 0 0 0 0\n") ≡ Err (2, whys.Count)
unfolding trace_of after_lines after_line after_text after_words after_form form_of form_named
    run_form verb_of call_named other_verb number_within with_order with_limit with_cpus pool_named
    with_pool grant_named with_granted with_begin number_at number_of range_refusal add_refusal
    grant_refusals with_grant read_act dump_act act_by arguments_from mode_at after_act may_add
    is_quiet hcall_of row_of
refused_bulk = refl

refused_nine : trace_of (codes "begin\n0 hcall 1 1 2 3 4 5 6 7 8 9\n") ≡ Err (2, whys.Count)
unfolding trace_of after_lines after_line after_text after_words after_form form_of form_named
    run_form verb_of call_named other_verb number_within with_order with_limit with_cpus pool_named
    with_pool grant_named with_granted with_begin number_at number_of range_refusal add_refusal
    grant_refusals with_grant read_act dump_act act_by arguments_from mode_at after_act may_add
    is_quiet hcall_of row_of
refused_nine = refl

refused_begin_words : trace_of (codes "begin 1\n") ≡ Err (1, whys.Count)
unfolding trace_of after_lines after_line after_text after_words after_form form_of form_named
    run_form verb_of call_named other_verb number_within with_order with_limit with_cpus pool_named
    with_pool grant_named with_granted with_begin number_at number_of range_refusal add_refusal
    grant_refusals with_grant read_act dump_act act_by arguments_from mode_at after_act may_add
    is_quiet hcall_of row_of
refused_begin_words = refl

-- A number without digits, one of 17 hexadecimal digits, and a processor that is none; before a
-- wrong mode.
refused_number : trace_of (codes "begin\n0 H_ENTER 0x0 0x20 0x1001 0x\n") ≡ Err (2, whys.Number)
unfolding trace_of after_lines after_line after_text after_words after_form form_of form_named
    run_form verb_of call_named other_verb number_within with_order with_limit with_cpus pool_named
    with_pool grant_named with_granted with_begin number_at number_of range_refusal add_refusal
    grant_refusals with_grant read_act dump_act act_by arguments_from mode_at after_act may_add
    is_quiet hcall_of row_of
refused_number = refl

refused_digits : trace_of (codes "pool 0x00000000000000001 24\n") ≡ Err (1, whys.Number)
unfolding trace_of after_lines after_line after_text after_words after_form form_of form_named
    run_form verb_of call_named other_verb number_within with_order with_limit with_cpus pool_named
    with_pool grant_named with_granted with_begin number_at number_of range_refusal add_refusal
    grant_refusals with_grant read_act dump_act act_by arguments_from mode_at after_act may_add
    is_quiet hcall_of row_of
refused_digits = refl

refused_processor : trace_of (codes "begin\n0x load 0 root\n") ≡ Err (2, whys.Number)
unfolding trace_of after_lines after_line after_text after_words after_form form_of form_named
    run_form verb_of call_named other_verb number_within with_order with_limit with_cpus pool_named
    with_pool grant_named with_granted with_begin number_at number_of range_refusal add_refusal
    grant_refusals with_grant read_act dump_act act_by arguments_from mode_at after_act may_add
    is_quiet hcall_of row_of
refused_processor = refl

-- A wrong mode, before a processor that isn't there.
refused_mode : trace_of (codes "begin\n1 load 0 root\n") ≡ Err (2, whys.Mode)
unfolding trace_of after_lines after_line after_text after_words after_form form_of form_named
    run_form verb_of call_named other_verb number_within with_order with_limit with_cpus pool_named
    with_pool grant_named with_granted with_begin number_at number_of range_refusal add_refusal
    grant_refusals with_grant read_act dump_act act_by arguments_from mode_at after_act may_add
    is_quiet hcall_of row_of
refused_mode = refl

refused_cpu : trace_of (codes "cpus 2\nbegin\n2 load 0 user\n") ≡ Err (3, whys.Cpu)
unfolding trace_of after_lines after_line after_text after_words after_form form_of form_named
    run_form verb_of call_named other_verb number_within with_order with_limit with_cpus pool_named
    with_pool grant_named with_granted with_begin number_at number_of range_refusal add_refusal
    grant_refusals with_grant read_act dump_act act_by arguments_from mode_at after_act may_add
    is_quiet hcall_of row_of
refused_cpu = refl

-- After 16 dumps no further dump, and after 256 quiet lines none.
refused_dumps : may_add (replicate 256 (run_line 2 0 Dump)) Dump ≡ Err whys.Dumps
unfolding trace_of after_lines after_line after_text after_words after_form form_of form_named
    run_form verb_of call_named other_verb number_within with_order with_limit with_cpus pool_named
    with_pool grant_named with_granted with_begin number_at number_of range_refusal add_refusal
    grant_refusals with_grant read_act dump_act act_by arguments_from mode_at after_act may_add
    is_quiet hcall_of row_of run_line
refused_dumps = refl

last_dump : may_add (replicate 15 (run_line 2 0 Dump)) Dump ≡ Ok tt
unfolding trace_of after_lines after_line after_text after_words after_form form_of form_named
    run_form verb_of call_named other_verb number_within with_order with_limit with_cpus pool_named
    with_pool grant_named with_granted with_begin number_at number_of range_refusal add_refusal
    grant_refusals with_grant read_act dump_act act_by arguments_from mode_at after_act may_add
    is_quiet hcall_of row_of run_line
last_dump = refl

refused_quiet :
    may_add (replicate 256 (run_line 2 0 (Call 0x36C [] true))) (Call 0x370 [] false)
    ≡ Err whys.Quiet
unfolding trace_of after_lines after_line after_text after_words after_form form_of form_named
    run_form verb_of call_named other_verb number_within with_order with_limit with_cpus pool_named
    with_pool grant_named with_granted with_begin number_at number_of range_refusal add_refusal
    grant_refusals with_grant read_act dump_act act_by arguments_from mode_at after_act may_add
    is_quiet hcall_of row_of run_line
refused_quiet = refl

refused_quiet_dump :
    may_add (replicate 256 (run_line 2 0 (Call 0x36C [] false))) Dump ≡ Err whys.Quiet
unfolding trace_of after_lines after_line after_text after_words after_form form_of form_named
    run_form verb_of call_named other_verb number_within with_order with_limit with_cpus pool_named
    with_pool grant_named with_granted with_begin number_at number_of range_refusal add_refusal
    grant_refusals with_grant read_act dump_act act_by arguments_from mode_at after_act may_add
    is_quiet hcall_of row_of run_line
refused_quiet_dump = refl

not_quiet : may_add (replicate 256 (run_line 2 0 (Call 0x36C [] false))) (Call 8 [] false) ≡ Ok tt
unfolding trace_of after_lines after_line after_text after_words after_form form_of form_named
    run_form verb_of call_named other_verb number_within with_order with_limit with_cpus pool_named
    with_pool grant_named with_granted with_begin number_at number_of range_refusal add_refusal
    grant_refusals with_grant read_act dump_act act_by arguments_from mode_at after_act may_add
    is_quiet hcall_of row_of run_line
not_quiet = refl

-- Values out of their ranges; the limit is not below the order, also where that is the default.
refused_range : trace_of (codes "order 17\n") ≡ Err (1, whys.Range)
unfolding trace_of after_lines after_line after_text after_words after_form form_of form_named
    run_form verb_of call_named other_verb number_within with_order with_limit with_cpus pool_named
    with_pool grant_named with_granted with_begin number_at number_of range_refusal add_refusal
    grant_refusals with_grant read_act dump_act act_by arguments_from mode_at after_act may_add
    is_quiet hcall_of row_of
refused_range = refl

refused_order_high : trace_of (codes "order 23\n") ≡ Err (1, whys.Range)
unfolding trace_of after_lines after_line after_text after_words after_form form_of form_named
    run_form verb_of call_named other_verb number_within with_order with_limit with_cpus pool_named
    with_pool grant_named with_granted with_begin number_at number_of range_refusal add_refusal
    grant_refusals with_grant read_act dump_act act_by arguments_from mode_at after_act may_add
    is_quiet hcall_of row_of
refused_order_high = refl

refused_limit : trace_of (codes "order 20\nlimit 19\n") ≡ Err (2, whys.Range)
unfolding trace_of after_lines after_line after_text after_words after_form form_of form_named
    run_form verb_of call_named other_verb number_within with_order with_limit with_cpus pool_named
    with_pool grant_named with_granted with_begin number_at number_of range_refusal add_refusal
    grant_refusals with_grant read_act dump_act act_by arguments_from mode_at after_act may_add
    is_quiet hcall_of row_of
refused_limit = refl

refused_limit_alone : trace_of (codes "limit 17\n") ≡ Err (1, whys.Range)
unfolding trace_of after_lines after_line after_text after_words after_form form_of form_named
    run_form verb_of call_named other_verb number_within with_order with_limit with_cpus pool_named
    with_pool grant_named with_granted with_begin number_at number_of range_refusal add_refusal
    grant_refusals with_grant read_act dump_act act_by arguments_from mode_at after_act may_add
    is_quiet hcall_of row_of
refused_limit_alone = refl

refused_limit_high : trace_of (codes "limit 23\n") ≡ Err (1, whys.Range)
unfolding trace_of after_lines after_line after_text after_words after_form form_of form_named
    run_form verb_of call_named other_verb number_within with_order with_limit with_cpus pool_named
    with_pool grant_named with_granted with_begin number_at number_of range_refusal add_refusal
    grant_refusals with_grant read_act dump_act act_by arguments_from mode_at after_act may_add
    is_quiet hcall_of row_of
refused_limit_high = refl

refused_cpus : trace_of (codes "cpus 0\n") ≡ Err (1, whys.Range)
unfolding trace_of after_lines after_line after_text after_words after_form form_of form_named
    run_form verb_of call_named other_verb number_within with_order with_limit with_cpus pool_named
    with_pool grant_named with_granted with_begin number_at number_of range_refusal add_refusal
    grant_refusals with_grant read_act dump_act act_by arguments_from mode_at after_act may_add
    is_quiet hcall_of row_of
refused_cpus = refl

refused_cpus_high : trace_of (codes "cpus 65\n") ≡ Err (1, whys.Range)
unfolding trace_of after_lines after_line after_text after_words after_form form_of form_named
    run_form verb_of call_named other_verb number_within with_order with_limit with_cpus pool_named
    with_pool grant_named with_granted with_begin number_at number_of range_refusal add_refusal
    grant_refusals with_grant read_act dump_act act_by arguments_from mode_at after_act may_add
    is_quiet hcall_of row_of
refused_cpus_high = refl

refused_pool_order : trace_of (codes "pool 0 35\n") ≡ Err (1, whys.Range)
unfolding trace_of after_lines after_line after_text after_words after_form form_of form_named
    run_form verb_of call_named other_verb number_within with_order with_limit with_cpus pool_named
    with_pool grant_named with_granted with_begin number_at number_of range_refusal add_refusal
    grant_refusals with_grant read_act dump_act act_by arguments_from mode_at after_act may_add
    is_quiet hcall_of row_of
refused_pool_order = refl

refused_pool_place : trace_of (codes "pool 0x1000000000001000 18\n") ≡ Err (1, whys.Range)
unfolding trace_of after_lines after_line after_text after_words after_form form_of form_named
    run_form verb_of call_named other_verb number_within with_order with_limit with_cpus pool_named
    with_pool grant_named with_granted with_begin number_at number_of range_refusal add_refusal
    grant_refusals with_grant read_act dump_act act_by arguments_from mode_at after_act may_add
    is_quiet hcall_of row_of
refused_pool_place = refl

refused_pool_end : trace_of (codes "pool 0x1000000000000000 18\n") ≡ Err (1, whys.Range)
unfolding trace_of after_lines after_line after_text after_words after_form form_of form_named
    run_form verb_of call_named other_verb number_within with_order with_limit with_cpus pool_named
    with_pool grant_named with_granted with_begin number_at number_of range_refusal add_refusal
    grant_refusals with_grant read_act dump_act act_by arguments_from mode_at after_act may_add
    is_quiet hcall_of row_of
refused_pool_end = refl

-- Grants: each cause.
refused_empty : trace_of (codes "ram 0x800 0 0\n") ≡ Err (1, whys.Empty)
unfolding trace_of after_lines after_line after_text after_words after_form form_of form_named
    run_form verb_of call_named other_verb number_within with_order with_limit with_cpus pool_named
    with_pool grant_named with_granted with_begin number_at number_of range_refusal add_refusal
    grant_refusals with_grant read_act dump_act act_by arguments_from mode_at after_act may_add
    is_quiet hcall_of row_of
refused_empty = refl

refused_unaligned : trace_of (codes "ram 0x800 0 0x1000\n") ≡ Err (1, whys.Unaligned)
unfolding trace_of after_lines after_line after_text after_words after_form form_of form_named
    run_form verb_of call_named other_verb number_within with_order with_limit with_cpus pool_named
    with_pool grant_named with_granted with_begin number_at number_of range_refusal add_refusal
    grant_refusals with_grant read_act dump_act act_by arguments_from mode_at after_act may_add
    is_quiet hcall_of row_of
refused_unaligned = refl

refused_past : trace_of (codes "io 0 0xffffffffffff000 0x2000\n") ≡ Err (1, whys.Past)
unfolding trace_of after_lines after_line after_text after_words after_form form_of form_named
    run_form verb_of call_named other_verb number_within with_order with_limit with_cpus pool_named
    with_pool grant_named with_granted with_begin number_at number_of range_refusal add_refusal
    grant_refusals with_grant read_act dump_act act_by arguments_from mode_at after_act may_add
    is_quiet hcall_of row_of
refused_past = refl

refused_many :
    with_granted
    (record default_settings {
      granted = record (no_grants 0x1000000000 24) { grants = replicate 64 no_grant };
    }) Ram (codes "ram" ∷ codes "0" ∷ codes "0" ∷ codes "0x1000" ∷ [])
    ≡ Err whys.Many
unfolding trace_of after_lines after_line after_text after_words after_form form_of form_named
    run_form verb_of call_named other_verb number_within with_order with_limit with_cpus pool_named
    with_pool grant_named with_granted with_begin number_at number_of range_refusal add_refusal
    grant_refusals with_grant read_act dump_act act_by arguments_from mode_at after_act may_add
    is_quiet hcall_of row_of
refused_many = refl

refused_overlap : trace_of (codes "ram 0 0 0x1000\nio 0x1000 0 0x1000\n") ≡ Err (2, whys.Overlap)
unfolding trace_of after_lines after_line after_text after_words after_form form_of form_named
    run_form verb_of call_named other_verb number_within with_order with_limit with_cpus pool_named
    with_pool grant_named with_granted with_begin number_at number_of range_refusal add_refusal
    grant_refusals with_grant read_act dump_act act_by arguments_from mode_at after_act may_add
    is_quiet hcall_of row_of
refused_overlap = refl

refused_tables : trace_of (codes "ram 0 0x1000000000 0x1000\n") ≡ Err (1, whys.Tables)
unfolding trace_of after_lines after_line after_text after_words after_form form_of form_named
    run_form verb_of call_named other_verb number_within with_order with_limit with_cpus pool_named
    with_pool grant_named with_granted with_begin number_at number_of range_refusal add_refusal
    grant_refusals with_grant read_act dump_act act_by arguments_from mode_at after_act may_add
    is_quiet hcall_of row_of
refused_tables = refl

-- A pool that is smaller than the opening table.
refused_small : trace_of (codes "order 20\npool 0x1000000000 19\nbegin\n") ≡ Err (3, whys.Small)
unfolding trace_of after_lines after_line after_text after_words after_form form_of form_named
    run_form verb_of call_named other_verb number_within with_order with_limit with_cpus pool_named
    with_pool grant_named with_granted with_begin number_at number_of range_refusal add_refusal
    grant_refusals with_grant read_act dump_act act_by arguments_from mode_at after_act may_add
    is_quiet hcall_of row_of
refused_small = refl

-- The input ended without `begin`.
refused_no_begin : trace_of (codes "order 18\n\n") ≡ Err (3, whys.Begin)
unfolding trace_of after_lines after_line after_text after_words after_form form_of form_named
    run_form verb_of call_named other_verb number_within with_order with_limit with_cpus pool_named
    with_pool grant_named with_granted with_begin number_at number_of range_refusal add_refusal
    grant_refusals with_grant read_act dump_act act_by arguments_from mode_at after_act may_add
    is_quiet hcall_of row_of
refused_no_begin = refl

refused_nothing : trace_of [] ≡ Err (1, whys.Begin)
unfolding trace_of after_lines after_line after_text after_words after_form form_of form_named
    run_form verb_of call_named other_verb number_within with_order with_limit with_cpus pool_named
    with_pool grant_named with_granted with_begin number_at number_of range_refusal add_refusal
    grant_refusals with_grant read_act dump_act act_by arguments_from mode_at after_act may_add
    is_quiet hcall_of row_of
refused_nothing = refl
