-- Worked values, which the checker computes. Those of the generator were drawn by a program in
-- another language.
use Rattle.std.proofs.Common.{◌≡◌, true, false, [], ◌∷◌, length, refl}
use Rattle.rand_core.specs.Stream.{fill_bytes}
use Rattle.rand_core.specs.Steps.{first_words, word_bytes, stream_of, u32_at}
use Rattle.storage_prot.specs.declared.want.Want.TheVariants.{Load, Store}
use Rattle.trace_gen.specs.Generated.{act_of, segment_lines, lines_from, words_of_seed}
use Rattle.trace_line.specs.declared.act.Act.TheVariants as acts

-- ---- one word
a_protect : act_of 0xcfc5d07f6f03c29b ≡ acts.Call 0x18 (3 ∷ 23 ∷ 0 ∷ 0 ∷ 0 ∷ 0 ∷ 0 ∷ 0 ∷ []) true
unfolding act_of
a_protect = refl

an_enter :
    act_of 0xbf424132963fe08d
    ≡ acts.Call 0x08 (0 ∷ 496 ∷ 0x1001 ∷ 0x24132012 ∷ 0 ∷ 0 ∷ 0 ∷ 0 ∷ []) true
unfolding act_of
an_enter = refl

a_load : act_of 0x97299fcae7202345 ≡ acts.Access Load 0x20000 false
unfolding act_of
a_load = refl

a_store : act_of 0x226113c9f026ec16 ≡ acts.Access Store 0x26000 false
unfolding act_of
a_store = refl

a_remove : act_of 0x03020100 ≡ acts.Call 0x04 (0 ∷ 27 ∷ 0 ∷ 0 ∷ 0 ∷ 0 ∷ 0 ∷ 0 ∷ []) true
unfolding act_of
a_remove = refl

-- ---- a seed
two_words : words_of_seed 1 2 ≡ 0xcfc5d07f6f03c29b ∷ 0xbf424132963fe08d ∷ []
unfolding words_of_seed first_words fill_bytes stream_of word_bytes u32_at
two_words = refl

first_lines : lines_from 5 (words_of_seed 1 2)
    ≡ record {
      number = 5;
      cpu = 3;
      act = acts.Call 0x18 (3 ∷ 23 ∷ 0 ∷ 0 ∷ 0 ∷ 0 ∷ 0 ∷ 0 ∷ []) true;
    }
    ∷ record {
      number = 6;
      cpu = 1;
      act = acts.Call 0x08 (0 ∷ 496 ∷ 0x1001 ∷ 0x24132012 ∷ 0 ∷ 0 ∷ 0 ∷ 0 ∷ []) true;
    }
    ∷ []
unfolding act_of lines_from words_of_seed first_words fill_bytes stream_of word_bytes u32_at
first_lines = refl

segments : length segment_lines ≡ 4
unfolding segment_lines
segments = refl
