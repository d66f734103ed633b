-- What a turn of an accepted set names: a line of one of its partitions, on one of that partition's
-- processors.
use Rattle.std.proofs.Common.{◌≡◌, ℕ, zero, suc, ◌+◌, ◌<◌, ◌==◌, Bool, true, false, if◌then◌else◌, List, [], ◌∷◌, length, map, get_or, Contains, refl, sym, ap, ◌∙◌, subst, arith}
use Rattle.std.specs.List.{AllByRecursion, range_with_len}
use Rattle.std.proofs.lemmas.Bool.{eq-eqb}
use Rattle.std.proofs.lemmas.List.{get_or_default}
use Rattle.std.proofs.lemmas.List.Elements.{All-from_recursion, All-get_or}
use Rattle.trace_line.specs.declared.line.TraceLine.{TraceLine}
use Rattle.lpar_set.specs.declared.turn.Turn.{Turn}
use Rattle.lpar_set.specs.SetTrace.{NumberedTrace, AcceptedSet, IsAcceptedSet, IsTurnOf, IsOfSet, no_partition, no_line, partition_at, line_of, turns_of}

pub turn_inside :
    (s : AcceptedSet) (t : Turn)
    → IsAcceptedSet s
    → Contains s.turns t
    → t.partition < length s.partitions
turn_inside s t is (k, inside, same) =
    subst (IsTurnOf s) same
    (All-get_or (IsTurnOf s) s.turns k t inside
    (All-from_recursion (IsTurnOf s) s.turns is.turns))

-- ---- its line
range_below : (a n : ℕ) → AllByRecursion (λ k. k < a + n) (range_with_len a n)
range_below a zero = tt
range_below a (suc n) =
    let same : a + 1 + n ≡ a + suc n = omega arith in (
      omega arith,
      subst (λ m. AllByRecursion (λ k. k < m) (range_with_len (a + 1) n)) same
          (range_below (a + 1) n),
    )

pub all_below : (n : ℕ) → AllByRecursion (λ k. k < n) (range_with_len 0 n)
all_below n =
    let same : 0 + n ≡ n = omega arith in
    subst (λ m. AllByRecursion (λ k. k < m) (range_with_len 0 n)) same (range_below 0 n)

-- The lines at which these turns come, in their order.
abbrev pub lines_named : List Turn → List ℕ
lines_named turns = map (λ (t : Turn). t.line) turns

first_named :
    (P : ℕ → Type 0) (b : Bool) (u : Turn) (us : List Turn)
    → b ≡ true
    → AllByRecursion P (lines_named (if b then u ∷ us else us))
    → P u.line
first_named P true u us own all = all.0
first_named P false u us own all = absurd (cc)

others_named :
    (P : ℕ → Type 0) (b : Bool) (u : Turn) (us : List Turn)
    → AllByRecursion P (lines_named (if b then u ∷ us else us))
    → AllByRecursion P (lines_named us)
others_named P true u us all = all.1
others_named P false u us all = all

pub line_named :
    (P : ℕ → Type 0) (k : ℕ) (turns : List Turn) (t : Turn) (i : ℕ)
    → i < length turns
    → get_or turns i t ≡ t
    → t.partition ≡ k
    → AllByRecursion P (lines_named (turns_of k turns))
    → P t.line
line_named P k [] t i inside is own all = absurd (omega (arith, inside))
line_named P k (u ∷ us) t zero inside is own all =
    subst (λ (v : Turn). P v.line) is
    (first_named P (u.partition == k) u (turns_of k us)
    (eq-eqb u.partition k (ap (λ (v : Turn). v.partition) is ∙ own)) all)
line_named P k (u ∷ us) t (suc i) inside is own all =
    line_named P k us t i (omega (arith, inside)) is own
    (others_named P (u.partition == k) u (turns_of k us) all)

pub line_inside :
    (s : AcceptedSet) (t : Turn)
    → IsAcceptedSet s
    → Contains s.turns t
    → t.line < length (partition_at s t.partition).trace.lines
line_inside s t is here =
    let n = length (partition_at s t.partition).trace.lines in
    line_named (λ k. k < n) t.partition s.turns t here.0 here.1 here.2 refl
    (subst (AllByRecursion (λ k. k < n)) (sym (is.lines t.partition (turn_inside s t is here)))
    (all_below n))

-- ---- its processor
pub line_cpu :
    (s : AcceptedSet) (t : Turn)
    → IsAcceptedSet s
    → Contains s.turns t
    → (line_of s t).cpu < (partition_at s t.partition).trace.config.cpus
line_cpu s t is here =
    let p = partition_at s t.partition in
    let of = All-get_or (IsOfSet s.pool_base s.pool_order) s.partitions t.partition no_partition
    (turn_inside s t is here)
    (All-from_recursion (IsOfSet s.pool_base s.pool_order) s.partitions is.each) in
    let OnCpus : TraceLine → Type 0 = λ (l : TraceLine). l.cpu < p.trace.config.cpus in
    All-get_or OnCpus p.trace.lines t.line no_line (line_inside s t is here)
    (All-from_recursion OnCpus p.trace.lines of.accepted.lines.on_cpus)

-- Where the partition and its lines were read.
pub lines_read :
    (s : AcceptedSet) (t : Turn) (p : NumberedTrace) (lines : List TraceLine)
    → IsAcceptedSet s
    → Contains s.turns t
    → p ≡ get_or s.partitions t.partition p
    → lines ≡ p.trace.lines
    → lines ≡ (partition_at s t.partition).trace.lines
lines_read s t p lines is here read same =
    same
    ∙ ap (λ (q : NumberedTrace). q.trace.lines)
    (read ∙ get_or_default s.partitions t.partition p no_partition (turn_inside s t is here))

pub line_read :
    (s : AcceptedSet) (t : Turn) (lines : List TraceLine) (d : TraceLine)
    → IsAcceptedSet s
    → Contains s.turns t
    → lines ≡ (partition_at s t.partition).trace.lines
    → get_or lines t.line d ≡ line_of s t
line_read s t lines d is here same =
    ap (λ (ls : List TraceLine). get_or ls t.line d) same
    ∙ get_or_default (partition_at s t.partition).trace.lines t.line d no_line
    (line_inside s t is here)
