-- Lines with their numbers on worked inputs: what each gives, and what is reported where one is
-- refused.
use Rattle.std.proofs.Common.{◌≡◌, ℕ, [], ◌∷◌, Some, None, refl, Ok, Err}
use Rattle.std.specs.Prelude.{codes, true, false, ⊤}
use Rattle.frame_grants.specs.declared.grant.Grant.{Grant}
use Rattle.frame_grants.specs.declared.grant.Kind.TheVariants.{Ram, Io}
use Rattle.frame_grants.specs.Grants.{add_refusal, refusals as grant_refusals, with_grant}
use Rattle.pool_range.specs.Ranges.{range_refusal}
use Rattle.papr_codes.specs.Hcalls.{hcall_of, row_of}
use Rattle.trace_line.specs.declared.act.Act.TheVariants.{SlbClear, Dump}
use Rattle.trace_line.specs.Lines.{is_quiet}
use Rattle.trace_read.specs.declared.given.Given.TheVariants as givens
use Rattle.trace_read.specs.declared.why.Why.TheVariants as whys
use Rattle.trace_read.specs.declared.stage.Stage.TheVariants as stages
use Rattle.trace_read.specs.Acts.{number_at, arguments_from, mode_at, act_by, read_act, dump_act}
use Rattle.trace_read.specs.Counts.{may_add}
use Rattle.trace_read.specs.Forms.{call_named, other_verb, verb_of, form_named, run_form, form_of}
use Rattle.trace_read.specs.Givens.{given_of, refused_grant, is_setting}
use Rattle.trace_read.specs.Grammar.{reading_beside, opening_reading, after_act, after_form, after_words, after_text, after_line, after_lines, after_numbered}
use Rattle.trace_read.specs.Numbered.{numbered, after_each, trace_given}
use Rattle.trace_read.specs.Numbers.{number_of}
use Rattle.trace_read.specs.Settings.{default_settings, settings_beside, number_within, with_order, with_limit, with_cpus, pool_named, with_pool, grant_named, with_granted, with_begin}
use Rattle.trace_read.specs.TextLines.{words_of}

-- What is opened to read lines.
unfoldable lines_on_literals : ⊤
unfolding after_lines after_line after_text after_words after_form form_of form_named run_form
    verb_of call_named other_verb number_within with_order with_limit with_cpus pool_named with_pool
    grant_named with_granted with_begin number_at number_of range_refusal add_refusal grant_refusals
    with_grant read_act dump_act act_by arguments_from mode_at after_act may_add is_quiet hcall_of
    row_of
lines_on_literals = tt

-- A grant of 4 KB.
page : ℕ → ℕ → Grant
page logical machine = record { logical = logical; machine = machine; length = 0x1000; kind = Ram }

-- ---- what lines give
gives_nothing : given_of default_settings (words_of (codes "# order 18")) ≡ givens.Remark
unfolding lines_on_literals
gives_nothing = refl

gives_no_words : given_of default_settings (words_of (codes " ")) ≡ givens.Remark
unfolding lines_on_literals
gives_no_words = refl

gives_order : given_of default_settings (words_of (codes "order 18")) ≡ givens.Setting
unfolding lines_on_literals
gives_order = refl

gives_entry :
    given_of default_settings (words_of (codes "entry old 0 00000000ABCDEF01000000000000A012"))
    ≡ givens.Setting
unfolding lines_on_literals
gives_entry = refl

gives_memory :
    given_of default_settings (words_of (codes "ram 0x1000 0x2000 0x1000"))
    ≡ givens.Grant (page 0x1000 0x2000)
unfolding lines_on_literals page
gives_memory = refl

gives_device :
    given_of default_settings (words_of (codes "io 0x1000 0x2000 0x1000"))
    ≡ givens.Grant (record (page 0x1000 0x2000) { kind = Io })
unfolding lines_on_literals page
gives_device = refl

-- The order is the one that stands by then.
gives_begin :
    given_of (record default_settings { order = 20 }) (words_of (codes "begin")) ≡ givens.Begin 20
unfolding lines_on_literals
gives_begin = refl

gives_run : given_of default_settings (words_of (codes "0 slbclear")) ≡ givens.Run
unfolding lines_on_literals
gives_run = refl

gives_dump : given_of default_settings (words_of (codes "dump")) ≡ givens.Run
unfolding lines_on_literals
gives_dump = refl

-- ---- lines of the configuration, by their first word alone
sets : is_setting (words_of (codes "order x y")) ≡ true
unfolding lines_on_literals
sets = refl

sets_begin : is_setting (words_of (codes "begin")) ≡ true
unfolding lines_on_literals
sets_begin = refl

runs : is_setting (words_of (codes "0 slbclear")) ≡ false
unfolding lines_on_literals
runs = refl

dumps : is_setting (words_of (codes "dump")) ≡ false
unfolding lines_on_literals
dumps = refl

of_no_form : is_setting (words_of (codes "orders 18")) ≡ false
unfolding lines_on_literals
of_no_form = refl

-- ---- the pool that stands
-- A grant may lie where the pool of a trace that names none would.
beside_another :
    after_numbered 1 (reading_beside 0x2000000000 20) (codes "ram 0 0x1000000000 0x1000")
    ≡ Ok
    (record {
      taken = 1;
      stage = stages.Grants;
      config =
          record (settings_beside 0x2000000000 20) {
            granted =
                record {
                  pool_base = 0x2000000000;
                  pool_order = 20;
                  grants = page 0 0x1000000000 ∷ [];
                };
          };
      lines = [];
    })
unfolding lines_on_literals page
beside_another = refl

names_a_pool : pool_named (words_of (codes "shared 0x2000000000 20")) ≡ Ok (0x2000000000, 20)
unfolding lines_on_literals
names_a_pool = refl

pool_count : pool_named (words_of (codes "shared x")) ≡ Err whys.Count
unfolding lines_on_literals
pool_count = refl

pool_number : pool_named (words_of (codes "shared 0 x")) ≡ Err whys.Number
unfolding lines_on_literals
pool_number = refl

pool_range : pool_named (words_of (codes "shared 1 20")) ≡ Err whys.Range
unfolding lines_on_literals
pool_range = refl

-- ---- refused lines
-- A grant that meets the pool is named.
meets_pool : after_numbered 3 opening_reading (codes "ram 0 0x1000000000 0x1000") ≡ Err whys.Tables
unfolding lines_on_literals
meets_pool = refl

tells_grant :
    refused_grant whys.Tables (words_of (codes "ram 0 0x1000000000 0x1000"))
    ≡ Some (page 0 0x1000000000)
unfolding lines_on_literals page
tells_grant = refl

-- One that meets another grant isn't.
tells_no_grant : refused_grant whys.Overlap (words_of (codes "ram 0 0x1000000000 0x1000")) ≡ None
unfolding lines_on_literals
tells_no_grant = refl

-- ---- numbers
-- A remark at a higher number.
remark_at :
    after_numbered 7 opening_reading (codes "# begin") ≡ Ok (record opening_reading { taken = 7 })
unfolding lines_on_literals
remark_at = refl

-- A run line has its number.
line_at :
    after_each opening_reading ((2, codes "begin") ∷ (5, codes "0 slbclear") ∷ [])
    ≡ Ok
    (record {
      taken = 5;
      stage = stages.Lines;
      config = default_settings;
      lines = record { number = 5; cpu = 0; act = SlbClear } ∷ [];
    })
unfolding lines_on_literals
line_at = refl

-- The whole input: a remark at each number between.
whole_input :
    numbered 0 ((2, codes "begin") ∷ (5, codes "dump") ∷ [])
    ≡ codes "#" ∷ codes "begin" ∷ codes "#" ∷ codes "#" ∷ codes "dump" ∷ []
whole_input = refl

read_whole :
    after_lines opening_reading (numbered 0 ((2, codes "begin") ∷ (5, codes "dump") ∷ []))
    ≡ Ok
    (record {
      config = default_settings;
      lines = record { number = 5; cpu = 0; act = Dump } ∷ [];
    })
unfolding lines_on_literals
read_whole = refl

refused_at :
    trace_given opening_reading
    ((2, codes "begin") ∷ (5, codes "1 slbclear") ∷ (6, codes "dump") ∷ [])
    ≡ Err (5, whys.Cpu)
unfolding lines_on_literals
refused_at = refl

-- At the end `begin` is due after the last of them.
ends_at : trace_given opening_reading ((4, codes "order 18") ∷ []) ≡ Err (5, whys.Begin)
unfolding lines_on_literals
ends_at = refl
