-- The turns of a set come in the order of their lines' numbers.
use Rattle.std.specs.List.{AllByRecursion, AllPairs}
use Rattle.std.proofs.Common.{◌≡◌, ◌∙◌, ℕ, ◌+◌, ◌<◌, ◌≤◌, Bool, true, false, List, [], ◌∷◌, ◌++◌, length, get_or, refl, sym, ap, subst, inl, inr, ◌⊎◌, arith}
use Rattle.std.proofs.lemmas.Bool.{cases_eq, cases_lt}
use Rattle.std.proofs.lemmas.List.{append-nil, get_or_append_left, get_or_default, get_or_push, length_push}
use Rattle.std.proofs.lemmas.List.Elements.{All-from_recursion, All-get_or}
use Rattle.std.proofs.lemmas.List.Quantifiers.{all_pairs_push}
use Rattle.trace_line.specs.declared.line.TraceLine.{TraceLine}
use Rattle.trace_read.specs.declared.given.Given.{Given}
use Rattle.trace_read.specs.declared.given.Given.TheVariants as givens
use Rattle.trace_read.specs.Grammar.{Reading}
use Rattle.trace_read.specs.Places.{is_running}
use Rattle.lpar_set.specs.declared.turn.Turn.{Turn}
use Rattle.lpar_set.specs.SetTrace.{no_line}
use Rattle.lpar_set.specs.SetGrammar.{SetReading, reading_of}
use Rattle.lpar_set.specs.SetReadings.{IsSetReading, count_at}
use Rattle.lpar_set.proofs.AddedReadings.{own_there, other_there}
use Rattle.lpar_set.proofs.LinesTaken.{IsMemberLine, begun_if, counted, gives_begin, turn_if}
use Rattle.lpar_set.proofs.LineMoves.{Moves}
use Rattle.lpar_set.proofs.OwnLines.{is_run}
use Rattle.lpar_set.proofs.RunsKept.{next_turn}
use Rattle.lpar_set.proofs.SetReadingsKept.{retaken, inside_eight}
use Rattle.lpar_set.proofs.TurnLines.{stands_at}
use Rattle.lpar_set.proofs.Turns.{all_below, line_named}

-- The partition of a turn.
abbrev pub turn_number : SetReading → Turn → ℕ
turn_number r t = get_or r.begun t.partition 8

-- The line of a turn.
abbrev pub turn_line : SetReading → Turn → TraceLine
turn_line r t = get_or (reading_of r (turn_number r t)).lines t.line no_line

-- The line of a turn at a place.
abbrev line_at : SetReading → ℕ → Turn → TraceLine
line_at r k d = turn_line r (get_or r.turns k d)

-- The lines of turns have rising numbers, none above that of the last line.
pub record AreOrdered (r : SetReading) : Type 0 where
  pub rising : AllPairs (λ (t u : Turn). (turn_line r t).number < (turn_line r u).number) r.turns
  pub behind :
      (k : ℕ) (d : Turn) → k < length r.turns → (turn_line r (get_or r.turns k d)).number ≤ r.taken

-- ---- what a line of a partition does to the run lines
-- One more of this number, after `begin`, or none.
abbrev pub Grows : Bool → Reading → Reading → Type 0
Grows true old new =
    (is_running old.stage ≡ true)
    × ((l : TraceLine) × (l.number ≡ old.taken) × (new.lines ≡ old.lines ++ l ∷ []))
Grows false old new = new.lines ≡ old.lines

pub moves_grow :
    (given : Given) (old new : Reading) → Moves given old new → Grows (is_run given) old new
moves_grow givens.Remark old new moves = ap (λ (x : Reading). x.lines) moves
moves_grow givens.Setting old new moves = moves.lines
moves_grow (givens.Grant grant) old new moves = moves.lines
moves_grow (givens.Begin order) old new moves = moves.lines
moves_grow givens.Run old new moves = (moves.before, (moves.line, moves.number, moves.lines))

grown_line :
    (runs : Bool) (old new : Reading) (i : ℕ)
    → Grows runs old new
    → i < length old.lines
    → get_or new.lines i no_line ≡ get_or old.lines i no_line
grown_line true old new i grows inside =
    ap (λ (ls : List TraceLine). get_or ls i no_line) grows.1.2
    ∙ get_or_append_left old.lines (grows.1.0 ∷ []) no_line i inside
grown_line false old new i grows inside = ap (λ (ls : List TraceLine). get_or ls i no_line) grows

-- ---- the turns before
partition_inside :
    (r : SetReading) (k : ℕ) (d : Turn)
    → IsSetReading r
    → k < length r.turns
    → (get_or r.turns k d).partition < length r.begun
partition_inside r k d is inside =
    All-get_or (λ (t : Turn). t.partition < length r.begun) r.turns k d inside
    (All-from_recursion (λ (t : Turn). t.partition < length r.begun) r.turns is.turns)

line_inside :
    (r : SetReading) (k : ℕ) (d : Turn)
    → IsSetReading r
    → k < length r.turns
    → (get_or r.turns k d).line < length (reading_of r (turn_number r (get_or r.turns k d))).lines
line_inside r k d is inside =
    let t = get_or r.turns k d in
    let n = count_at r t.partition in
    line_named (λ j. j < n) t.partition r.turns t k inside
    (sym (get_or_default r.turns k d t inside)) refl
    (subst (AllByRecursion (λ j. j < n))
    (sym (is.lines t.partition (partition_inside r k d is inside))) (all_below n))

turn_stays :
    (r s : SetReading) (line : List ℕ) (number : ℕ) (new : Reading) (given : Given) (k : ℕ)
    (d : Turn)
    → IsSetReading r
    → IsMemberLine r s line number new given
    → k < length r.turns
    → turn_line s (get_or r.turns k d) ≡ turn_line r (get_or r.turns k d)
turn_stays r s line number new given k d is member inside =
    let t : Turn = get_or r.turns k d in
    let partition : t.partition < length r.begun = partition_inside r k d is inside in
    let within = line_inside r k d is inside in
    let same : turn_number s t ≡ turn_number r t = ap (λ (ns : List ℕ). get_or ns t.partition 8)
    member.added.begun ∙ get_or_append_left r.begun (begun_if (gives_begin given) number) 8
    t.partition partition in
    ap (λ n. get_or (reading_of s n).lines t.line no_line) same
    ∙ by (turn_number r t) t.line within (cases_eq (turn_number r t) number) where
      by :
          (n i : ℕ)
          → i < length (reading_of r n).lines
          → (n ≡ number) ⊎ (n ≡ number → ⊥)
          → get_or (reading_of s n).lines i no_line ≡ get_or (reading_of r n).lines i no_line
      by n i within (inl same) =
          let there : reading_of s n ≡ new = ap (reading_of s) same ∙ own_there r s number new given
          (inside_eight r number is member.below) member.added in
          let old : reading_of r n ≡ reading_of r number = ap (reading_of r) same in
          ap (λ (x : Reading). get_or x.lines i no_line) there
          ∙ grown_line (is_run given) (retaken (counted r) number) new i
          (moves_grow given (retaken (counted r) number) new member.moved.moves)
          (subst (λ (x : Reading). i < length x.lines) old within)
          ∙ ap (λ (x : Reading). get_or x.lines i no_line) (sym old)
      by n i within (inr other) =
          ap (λ (x : Reading). get_or x.lines i no_line)
          (other_there r s number n new given other member.added)

-- ---- one line more
-- A line that adds no turn.
none_more :
    (r s : SetReading)
    → AreOrdered r
    → r.taken ≤ s.taken
    → s.turns ≡ r.turns
    →
    ((k : ℕ) (d : Turn)
    → k < length r.turns
    → turn_line s (get_or r.turns k d) ≡ turn_line r (get_or r.turns k d))
    → AreOrdered s
none_more r s is later same stays =
    let rising :
    AllPairs (λ (t u : Turn). (turn_line s t).number < (turn_line s u).number) r.turns =
    λ i j d before inside.
    (let one : (line_at r i d).number < (line_at r j d).number = is.rising i j d before inside in
    rw (stays i d (omega (arith, before, inside)), stays j d inside) one) in
    let behind :
    (k : ℕ) (d : Turn)
    → k < length r.turns
    → (turn_line s (get_or r.turns k d)).number ≤ s.taken =
    λ k d inside.
    (let most : (line_at r k d).number ≤ r.taken = is.behind k d inside in
    rw (stays k d inside) (omega (arith, most, later))) in
    record {
      rising =
          subst
          (λ (ts : List Turn).
          AllPairs (λ (t u : Turn). (turn_line s t).number < (turn_line s u).number) ts)
          (sym same) rising;
      behind =
          subst
          (λ (ts : List Turn).
          (k : ℕ) (d : Turn) → k < length ts → (turn_line s (get_or ts k d)).number ≤ s.taken)
          (sym same) behind;
    }

-- A turn whose line is the last.
one_more :
    (r s : SetReading) (turn : Turn)
    → AreOrdered r
    → s.taken ≡ r.taken + 1
    → (turn_line s turn).number ≡ s.taken
    → s.turns ≡ r.turns ++ turn ∷ []
    →
    ((k : ℕ) (d : Turn)
    → k < length r.turns
    → turn_line s (get_or r.turns k d) ≡ turn_line r (get_or r.turns k d))
    → AreOrdered s
one_more r s turn is next last same stays =
    let Before : Turn → Turn → Type 0 = λ t u. (turn_line s t).number < (turn_line s u).number in
    let rising : AllPairs Before r.turns = λ i j d before inside.
    (let one : (line_at r i d).number < (line_at r j d).number = is.rising i j d before inside in
    rw (stays i d (omega (arith, before, inside)), stays j d inside) one) in
    let most :
    (k : ℕ) (d : Turn)
    → k < length r.turns
    → (turn_line s (get_or r.turns k d)).number ≤ r.taken =
    λ k d inside.
    (let before : (line_at r k d).number ≤ r.taken = is.behind k d inside in
    rw (stays k d inside) before) in
    let behind : (k : ℕ) (d : Turn) → k < length (r.turns ++ turn ∷ []) →
    (turn_line s (get_or (r.turns ++ turn ∷ []) k d)).number ≤ s.taken = λ k d inside. by most k
    d inside (cases_lt k (length r.turns)) in
    record {
      rising =
          subst (AllPairs Before) (sym same)
          (all_pairs_push Before r.turns turn rising (λ k d inside.
          (let before : (turn_line s (get_or r.turns k d)).number ≤ r.taken = most k d inside in
          omega (arith, before, next, last))));
      behind =
          subst
          (λ (ts : List Turn).
          (k : ℕ) (d : Turn) → k < length ts → (turn_line s (get_or ts k d)).number ≤ s.taken)
          (sym same) behind;
    } where
      by :
          ((k : ℕ) (d : Turn)
          → k < length r.turns
          → (turn_line s (get_or r.turns k d)).number ≤ r.taken)
          → (k : ℕ) (d : Turn)
          → k < length (r.turns ++ turn ∷ [])
          → (k < length r.turns) ⊎ (length r.turns ≤ k)
          → (turn_line s (get_or (r.turns ++ turn ∷ []) k d)).number ≤ s.taken
      by most k d inside (inl before) =
          let here : (turn_line s (get_or r.turns k d)).number ≤ r.taken = most k d before in
          let same_turn : get_or (r.turns ++ turn ∷ []) k d ≡ get_or r.turns k d =
          get_or_append_left r.turns (turn ∷ []) d k before in
          subst (λ (t : Turn). (turn_line s t).number ≤ s.taken) (sym same_turn)
          (omega (arith, here, next))
      by most k d inside (inr past) =
          let size : length (r.turns ++ turn ∷ []) ≡ length r.turns + 1 = length_push r.turns turn
          in
          let same_turn : get_or (r.turns ++ turn ∷ []) k d ≡ turn = get_or_push r.turns turn d k
          (omega (arith, past, inside, size)) in
          subst (λ (t : Turn). (turn_line s t).number ≤ s.taken) (sym same_turn)
          (omega (arith, last))

member_by :
    (runs : Bool) (r s : SetReading) (line : List ℕ) (number : ℕ) (new : Reading) (given : Given)
    → AreOrdered r
    → IsSetReading r
    → IsMemberLine r s line number new given
    → Grows runs (retaken (counted r) number) new
    → s.turns ≡ r.turns ++ turn_if runs (next_turn r number)
    → AreOrdered s
member_by false r s line number new given ordered is member grows turns =
    let taken : s.taken ≡ r.taken + 1 = member.added.taken in
    none_more r s ordered (omega (arith, taken)) (turns ∙ append-nil r.turns)
    (λ k d inside. turn_stays r s line number new given k d is member inside)
member_by true r s line number new given ordered is member grows turns =
    let taken : s.taken ≡ r.taken + 1 = member.added.taken in
    let stands = stands_at r.begun number (is.begun.all number grows.0) in
    let turn : Turn = next_turn r number in
    let here : turn_number s turn ≡ number = ap (λ (ns : List ℕ). get_or ns turn.partition 8)
    member.added.begun ∙ get_or_append_left r.begun (begun_if (gives_begin given) number) 8
    turn.partition stands.inside ∙ stands.here 8 in
    let there : reading_of s (turn_number s turn) ≡ new = ap (reading_of s) here ∙ own_there r s
    number new given (inside_eight r number is member.below) member.added in
    let last : turn_line s turn ≡ grows.1.0 =
    ap (λ (x : Reading). get_or x.lines turn.line no_line) there
    ∙ ap (λ (ls : List TraceLine). get_or ls turn.line no_line) grows.1.2
    ∙ get_or_push (reading_of r number).lines grows.1.0 no_line turn.line refl in
    let told : (turn_line s turn).number ≡ s.taken = ap (λ (l : TraceLine). l.number) last ∙
    grows.1.1 ∙ sym taken in
    one_more r s turn ordered taken told turns
    (λ k d inside. turn_stays r s line number new given k d is member inside)

-- A line of a partition keeps the order.
pub member_ordered :
    (r s : SetReading) (line : List ℕ) (number : ℕ) (new : Reading) (given : Given)
    → AreOrdered r
    → IsSetReading r
    → IsMemberLine r s line number new given
    → AreOrdered s
member_ordered r s line number new given ordered is member =
    member_by (is_run given) r s line number new given ordered is member
    (moves_grow given (retaken (counted r) number) new member.moved.moves) member.added.turns

-- A line that is only counted keeps the order.
pub counted_ordered : (r : SetReading) → AreOrdered r → AreOrdered (counted r)
counted_ordered r ordered = none_more r (counted r) ordered (omega arith) refl (λ k d inside. refl)

-- No turns are in order.
pub none_ordered : (r : SetReading) → r.turns ≡ [] → AreOrdered r
none_ordered r none = record {
  rising =
      subst
      (λ (ts : List Turn).
      AllPairs (λ (t u : Turn). (turn_line r t).number < (turn_line r u).number) ts) (sym none)
      (λ i j d before inside. absurd (omega (arith, inside)));
  behind =
      subst
      (λ (ts : List Turn).
      (k : ℕ) (d : Turn) → k < length ts → (turn_line r (get_or ts k d)).number ≤ r.taken)
      (sym none) (λ k d inside. absurd (omega (arith, inside)));
}
