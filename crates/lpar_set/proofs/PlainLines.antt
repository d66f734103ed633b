-- Lines that name no partition: remarks, and `shared`.
use Rattle.std.specs.Prelude.{codes}
use Rattle.std.specs.List.{list_all, list_any}
use Rattle.std.proofs.Common.{◌≡◌, ◌∙◌, ℕ, ◌+◌, ◌≤◌, Bool, true, false, List, [], ◌∷◌, length, Option, Some, None, Ok, refl, sym, ap, if◌then◌else◌, ltb, arith}
use Rattle.std.proofs.lemmas.Bool.{eqb-true, false≢true, and_right, and_parts}
use Rattle.std.proofs.lemmas.Slice.Eq.{bytes_eq-Decides}
use Rattle.trace_read.specs.Grammar.{Reading}
use Rattle.trace_read.specs.Numbers.{number_of, digits_number}
use Rattle.trace_read.specs.TextLines.{is_remark}
use Rattle.trace_read.specs.Whys.{◌>>=◌}
use Rattle.lpar_set.specs.PartitionLines.{words_in, is_remark_line, is_shared, first_number, is_line_of, own_line, own_lines, after_all, begun_by, begun_in, is_run_line, is_begin, own_form}
use Rattle.lpar_set.proofs.OwnText.{remark_read}
use Rattle.trace_line.specs.Lines.{most_lines}

-- ---- words that are no number
none_if : (test : Bool) (n : ℕ) → test ≡ false → (if test then Some n else None) ≡ None
none_if test n e = rw e refl

no_digits : (cs : List ℕ) → digits_number 10 20 (35 ∷ cs) ≡ None
no_digits cs = none_if _ _ (and_right _ _ refl)

hash_number : (cs : List ℕ) → number_of (35 ∷ cs) ≡ None
unfolding number_of
hash_number cs = rw (and_right (ltb 1 (length (35 ∷ cs))) _ refl) (no_digits cs)

-- A remark names no partition.
pub remark_numberless : (ws : List (List ℕ)) → is_remark ws ≡ true → first_number ws ≡ None
remark_numberless [] is = refl
remark_numberless ([] ∷ ws) is = absurd (false≢true is)
remark_numberless ((c ∷ cs) ∷ ws) is =
    let hash : c ≡ 35 = eqb-true c 35 is in
    ap (λ n. number_of (n ∷ cs)) hash ∙ hash_number cs

shared_number : number_of (codes "shared") ≡ None
unfolding number_of
shared_number = refl

-- A `shared` line names no partition.
pub shared_numberless : (ws : List (List ℕ)) → is_shared ws ≡ true → first_number ws ≡ None
shared_numberless [] is = refl
shared_numberless (w ∷ ws) is =
    let same : codes "shared" ≡ w = (bytes_eq-Decides (codes "shared") w).0 is in
    ap number_of (sym same) ∙ shared_number

-- ---- lines without a number
pub none_of_it :
    (number : ℕ) (line : List ℕ)
    → first_number (words_in line) ≡ None
    → is_line_of number line ≡ false
none_of_it number line none = rw none refl

if_none : (test : Bool) (o : Option ℕ) → o ≡ None → (if test then o else None) ≡ None
if_none true o e = e
if_none false o e = refl

pub none_begins : (line : List ℕ) → first_number (words_in line) ≡ None → begun_by line ≡ None
none_begins line none = if_none (is_begin (own_form line)) (first_number (words_in line)) none

pub none_runs : (line : List ℕ) → first_number (words_in line) ≡ None → is_run_line line ≡ false
none_runs line none = rw none refl

pub stays_remark :
    (number : ℕ) (line : List ℕ) → is_line_of number line ≡ false → own_line number line ≡ codes "#"
stays_remark number line other = rw other refl

-- ---- remarks alone
-- The first line is a remark, and the others are.
abbrev AreRemarks : List ℕ → List (List ℕ) → Type 0
AreRemarks line rest = (is_remark_line line ≡ true) × (list_all is_remark_line rest ≡ true)

pub are_remarks :
    (line : List ℕ) (rest : List (List ℕ))
    → list_all is_remark_line (line ∷ rest) ≡ true
    → AreRemarks line rest
are_remarks line rest all = and_parts (is_remark_line line) (list_all is_remark_line rest) all

pub remarks_read :
    (ls : List (List ℕ)) (q : Reading) (number : ℕ)
    → list_all is_remark_line ls ≡ true
    → q.taken + length ls ≤ most_lines
    → after_all q (own_lines number ls) ≡ Ok (record q { taken = q.taken + length ls })
remarks_read [] q number all few =
    let none : q.taken ≡ q.taken + 0 = omega arith in
    ap (λ n. Ok (record q { taken = n })) none
remarks_read (l ∷ ls) q number all few =
    let split = are_remarks l ls all in
    let plain = stays_remark number l (none_of_it number l (remark_numberless (words_in l) split.0))
    in
    let seam : q.taken + 1 + length ls ≡ q.taken + length (l ∷ ls) = omega arith in
    ap (λ line. after_all q (line ∷ own_lines number ls)) plain
    ∙ ap (λ said. said >>= (λ s. after_all s (own_lines number ls)))
    (remark_read q (omega (arith, few)))
    ∙ remarks_read ls (record q { taken = q.taken + 1 }) number split.1 (omega (arith, few))
    ∙ ap (λ n. Ok (record q { taken = n })) seam

pub remarks_name_none :
    (ls : List (List ℕ)) (number : ℕ)
    → list_all is_remark_line ls ≡ true
    → list_any (is_line_of number) ls ≡ false
remarks_name_none [] number all = refl
remarks_name_none (l ∷ ls) number all =
    let split = are_remarks l ls all in
    rw (none_of_it number l (remark_numberless (words_in l) split.0))
    (remarks_name_none ls number split.1)

pub remarks_begin_none : (ls : List (List ℕ)) → list_all is_remark_line ls ≡ true → begun_in ls ≡ []
remarks_begin_none [] all = refl
remarks_begin_none (l ∷ ls) all =
    let split = are_remarks l ls all in
    rw (none_begins l (remark_numberless (words_in l) split.0)) (remarks_begin_none ls split.1)

pub remarks_run_none :
    (ls : List (List ℕ)) → list_all is_remark_line ls ≡ true → list_any is_run_line ls ≡ false
remarks_run_none [] all = refl
remarks_run_none (l ∷ ls) all =
    let split = are_remarks l ls all in
    rw (none_runs l (remark_numberless (words_in l) split.0)) (remarks_run_none ls split.1)
