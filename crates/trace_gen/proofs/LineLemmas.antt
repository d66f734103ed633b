-- Generated lines are lines of an accepted trace.
use Rattle.std.specs.Prelude.{IsTrue}
use Rattle.std.proofs.Common.{◌≡◌, ℕ, zero, suc, ◌+◌, ◌*◌, ◌<◌, ◌≤◌, Bool, false, List, [], ◌∷◌, ◌++◌, length, count_by, refl, sym, ap, ◌∙◌, subst, arith}
use Rattle.std.specs.List.{AllByRecursion}
use Rattle.std.proofs.lemmas.List.{length-append}
use Rattle.rand_core.specs.Steps.{first_words}
use Rattle.storage_prot.specs.declared.want.Want.{Want}
use Rattle.storage_prot.specs.declared.want.Want.TheVariants.{Load, Store}
use Rattle.papr_codes.specs.declared.calls.Hcall.{Hcall}
use Rattle.papr_codes.specs.declared.calls.Hcall.TheVariants.{Enter, Remove, Protect, ClearMod, ClearRef, Read}
use Rattle.papr_codes.specs.Hcalls.{hcall_number, hcall_of, is_named, row_of}
use Rattle.trace_read.specs.Configuration.{Configuration}
use Rattle.trace_line.specs.Lines.{IsTrace, IsSpelt, is_quiet, is_dump, is_resize}
use Rattle.trace_read.specs.Trace.{AcceptedTrace}
use Rattle.trace_line.specs.declared.act.Act.{Act}
use Rattle.trace_line.specs.declared.line.TraceLine.{TraceLine}
use Rattle.trace_gen.specs.Generated.{acts_of_word, act_of, entry_of, frame_of, generated_config, group_start, page_of, named_call, segment_line, kind_of, segment_lines, lines_from, words_of_seed, generated_trace}
use Rattle.trace_line.specs.declared.act.Act.TheVariants as acts
use Rattle.basics.proofs.Each.{each_within, each_map, each_append}

count_none :
    {X : Type 0} (p : X → Bool) (xs : List X)
    → AllByRecursion (λ x. p x ≡ false) xs
    → count_by p xs ≡ 0
count_none p [] all = refl
count_none p (x ∷ xs) all = rw all.0 (count_none p xs all.1)

-- ---- one line
-- It names a call that has a name, or none, and it is not a quiet one.
record IsPlain (act : Act) : Type 0 where
  spelt : IsSpelt act
  loud : is_quiet act ≡ false
  no_dump : is_dump act ≡ false

plain_call :
    (hcall : Hcall) (args : List ℕ)
    → IsTrue (is_named hcall)
    → hcall_of (hcall_number hcall) ≡ hcall
    → is_resize hcall ≡ false
    → IsPlain (named_call hcall args)
unfolding is_quiet
plain_call hcall args named back loud =
    record {
      spelt = λ e. ap is_named back ∙ named;
      loud = ap is_resize back ∙ loud;
      no_dump = refl;
    }

plain_access : (want : Want) (ea : ℕ) → IsPlain (acts.Access want ea false)
unfolding is_quiet
plain_access want ea = record { spelt = tt; loud = refl; no_dump = refl }

plain_rows : (word : ℕ) → AllByRecursion IsPlain (acts_of_word word)
unfolding hcall_of row_of
plain_rows word = (
  plain_call Enter (0 ∷ group_start word ∷ 0x1001 ∷ (frame_of word * 4096 + 0x12) ∷ []) refl refl
      refl,
  (
    plain_call Remove (0 ∷ entry_of word ∷ 0 ∷ []) refl refl refl,
    (
      plain_call Protect (0x3 ∷ entry_of word ∷ 0 ∷ []) refl refl refl,
      (
        plain_access Load (page_of word * 4096),
        (
          plain_access Store (page_of word * 4096),
          (
            plain_call ClearMod (0 ∷ entry_of word ∷ []) refl refl refl,
            (
              plain_call ClearRef (0 ∷ entry_of word ∷ []) refl refl refl,
              (
                plain_call Read (0 ∷ entry_of word ∷ []) refl refl refl,
                tt,
              ),
            ),
          ),
        ),
      ),
    ),
  ),
)

plain_act : (word : ℕ) → IsPlain (act_of word)
unfolding act_of
plain_act word =
    each_within IsPlain (acts_of_word word) (kind_of word) acts.Dump (plain_rows word) (omega arith)

record IsAccepted (line : TraceLine) : Type 0 where
  cpu : line.cpu < 4
  plain : IsPlain line.act

accepted_words : (number : ℕ) (words : List ℕ) → AllByRecursion IsAccepted (lines_from number words)
unfolding lines_from
accepted_words number [] = tt
accepted_words number (word ∷ words) =
    (record { cpu = omega arith; plain = plain_act word }, accepted_words (number + 1) words)

accepted_segments : AllByRecursion IsAccepted segment_lines
unfolding segment_lines is_quiet
accepted_segments = (
  segment 0 (omega arith),
  (segment 1 (omega arith), (segment 2 (omega arith), (segment 3 (omega arith), tt))),
) where
  segment : (cpu : ℕ) → cpu < 4 → IsAccepted (segment_line cpu)
  segment cpu below =
      record { cpu = below; plain = record { spelt = tt; loud = refl; no_dump = refl } }

-- ---- the trace
length-first_words :
    {S : Type 0} (step : S → ℕ × S) (n : ℕ) (s : S) → length (first_words step n s) ≡ n
unfolding first_words
length-first_words step zero s = refl
length-first_words step (suc n) s =
    let shorter = length-first_words step n (step s).1 in omega arith

length-lines : (number : ℕ) (words : List ℕ) → length (lines_from number words) ≡ length words
unfolding lines_from
length-lines number [] = refl
length-lines number (word ∷ words) = let shorter = length-lines (number + 1) words in omega arith

long :
    (seed lines : ℕ) → length (segment_lines ++ lines_from 5 (words_of_seed seed lines)) ≡ 4 + lines
unfolding segment_lines words_of_seed
long seed lines =
    length-append segment_lines (lines_from 5 (words_of_seed seed lines))
    ∙ ap (λ n. 4 + n) (length-lines 5 (words_of_seed seed lines) ∙ length-first_words _ lines _)

pub is_trace :
    (seed lines : ℕ)
    → lines ≤ 100000
    → IsTrace 4 (segment_lines ++ lines_from 5 (words_of_seed seed lines))
is_trace seed lines few =
    let whole : List TraceLine = segment_lines ++ lines_from 5 (words_of_seed seed lines) in
    let all = each_append IsAccepted segment_lines (lines_from 5 (words_of_seed seed lines))
    accepted_segments (accepted_words 5 (words_of_seed seed lines)) in
    let count = long seed lines in
    let quiet = count_none (λ (l : TraceLine). is_quiet l.act) whole
    (each_map IsAccepted (λ (l : TraceLine). is_quiet l.act ≡ false) whole
    (λ l a. a.plain.loud) all) in
    let dumps = count_none (λ (l : TraceLine). is_dump l.act) whole
    (each_map IsAccepted (λ (l : TraceLine). is_dump l.act ≡ false) whole
    (λ l a. a.plain.no_dump) all) in
    record {
      on_cpus = each_map IsAccepted (λ (l : TraceLine). l.cpu < 4) whole (λ l a. a.cpu) all;
      spelt =
          each_map IsAccepted (λ (l : TraceLine). IsSpelt l.act) whole (λ l a. a.plain.spelt) all;
      few = omega arith;
      few_quiet = omega arith;
      few_dumps = omega arith;
    }

-- ---- put together
pub lines_are :
    (none first all : List TraceLine) (seed lines : ℕ)
    → none ≡ []
    → first ≡ none ++ segment_lines
    → all ≡ first ++ lines_from 5 (words_of_seed seed lines)
    → all ≡ segment_lines ++ lines_from 5 (words_of_seed seed lines)
lines_are none first all seed lines empty segments words =
    words
    ∙ ap (λ (xs : List TraceLine). xs ++ lines_from 5 (words_of_seed seed lines))
    (segments ∙ ap (λ (xs : List TraceLine). xs ++ segment_lines) empty)

pub kept_trace :
    (config : Configuration) (all : List TraceLine) (seed lines : ℕ)
    → lines ≤ 100000
    → config ≡ generated_config
    → all ≡ segment_lines ++ lines_from 5 (words_of_seed seed lines)
    → IsTrace config.cpus all
unfolding generated_config
kept_trace config all seed lines few same is =
    subst (λ n. IsTrace n all) (sym (ap (λ (c : Configuration). c.cpus) same))
    (subst (IsTrace 4) (sym is) (is_trace seed lines few))

-- The trace of a configuration and run lines.
abbrev pub trace_with : Configuration → List TraceLine → AcceptedTrace
trace_with config lines = record { config = config; lines = lines }

pub trace_is :
    (config : Configuration) (all : List TraceLine) (seed lines : ℕ)
    → config ≡ generated_config
    → all ≡ segment_lines ++ lines_from 5 (words_of_seed seed lines)
    → trace_with config all ≡ generated_trace seed lines
unfolding generated_trace
trace_is config all seed lines same is =
    ap (λ (c : Configuration). trace_with c all) same ∙ ap (trace_with generated_config) is
