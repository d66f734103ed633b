-- A line whose number follows on the last one, and lines past the most that may be.
use Rattle.std.proofs.Common.{◌≡◌, ◌∙◌, ◌<◌, sym, ℕ, ◌+◌, ◌-◌, ◌≤◌, List, ◌∷◌, Err, refl, arith}
use Rattle.std.proofs.lemmas.Bool.{le-ltb, lt-ltb}
use Rattle.trace_read.specs.declared.given.LineRefused.{LineRefused}
use Rattle.trace_read.specs.declared.given.LineRefused.TheVariants as refusals
use Rattle.trace_read.specs.declared.why.Why.{Why}
use Rattle.trace_read.specs.declared.why.Why.TheVariants as whys
use Rattle.trace_read.specs.Grammar.{Reading, after_line, after_lines, after_numbered}
use Rattle.trace_read.specs.ReaderLaws.{TextIsReadByWords}
use Rattle.trace_read.specs.Read.{Reads, IsParsed, error_of}
use Rattle.trace_line.specs.Lines.{most_lines}

-- A line that has the next number is the next line.
pub next_line : (r : Reading) (number : ℕ) (line : List ℕ) → number ≡ r.taken + 1
    → after_numbered number r line ≡ after_line r line
next_line r number line next =
    let before : number - 1 ≡ r.taken = omega (arith, next) in
    rw before refl

-- After the most lines there are, each is refused.
pub past_lines :
    (r : Reading) (line : List ℕ) → most_lines ≤ r.taken → after_line r line ≡ Err whys.Lines
unfolding after_line
past_lines r line past = rw (le-ltb r.taken most_lines past) refl

-- The first line that is refused.
pub refused_next :
    (r : Reading) (line : List ℕ) (rest : List (List ℕ)) (why : Why) → after_line r line ≡ Err why
    → after_lines r (line ∷ rest) ≡ Err (r.taken + 1, why)
unfolding after_lines
refused_next r line rest why refused = rw refused refl

-- A refusal of the next line is that of the lines from there on.
pub refused_lines :
    (r new : Reading) (number : ℕ) (line : List ℕ) (ws rest : List (List ℕ)) (refused : LineRefused)
    → number ≡ r.taken + 1
    → Reads (after_numbered number r line) ws (Err refused) r new
    → IsParsed (Err (error_of number refused)) (after_lines r (line ∷ rest))
refused_lines r new number line ws rest refusals.Memory next reads = tt
refused_lines r new number line ws rest (refusals.Refused why grant) next reads =
    rw next (refused_next r line rest why (sym (next_line r number line next) ∙ reads.0))

pub text_is_read_by_words : TextIsReadByWords
unfolding after_line
text_is_read_by_words r number line some few text =
    let before : number - 1 < most_lines = omega (arith, some, few) in
    let back : number - 1 + 1 ≡ number = omega (arith, some) in
    rw (lt-ltb (number - 1) most_lines before, text, back) refl
