-- All lines of an input, followed to their end or to the one that is refused.
use Rattle.std.proofs.Common.{◌≡◌, ℕ, ◌+◌, ◌<◌, Bool, true, false, List, [], ◌∷◌, ◌++◌, length, Result, Ok, Err, refl, sym, subst, if◌then◌else◌, ltb}
use Rattle.std.proofs.lemmas.Bool.{ltb-true}
use Rattle.std.proofs.lemmas.List.{append_assoc, append-nil}
use Rattle.trace_read.specs.declared.why.Why.{Why}
use Rattle.trace_read.specs.declared.why.Why.TheVariants as whys
use Rattle.trace_read.specs.Grammar.{most_bytes}
use Rattle.trace_read.specs.TextLines.{raw_lines}
use Rattle.lpar_set.specs.SetGrammar.{SetReading, after_set_line, after_set_lines, opening_set_reading, set_at_end, set_go_on, set_of}
use Rattle.lpar_set.specs.SetTrace.{AcceptedSet}
use Rattle.lpar_set.proofs.Followed.{IsFollowed, followed_first, line_followed}

-- They were all accepted, and their end says so; or one of them is refused.
pub data Walk (lines : List (List ℕ)) (said : Result AcceptedSet (ℕ × Why)) : Type 0 where
  walked : (r : SetReading) → IsFollowed lines r → set_at_end r ≡ said → Walk lines said
  stopped :
      (before rest : List (List ℕ)) (line : List ℕ) (r : SetReading) (why : Why)
      → lines ≡ before ++ line ∷ rest
      → IsFollowed before r
      → after_set_line r line ≡ Err why
      → Err (r.taken + 1, why) ≡ said
      → Walk lines said

walk_by :
    (before ls : List (List ℕ)) (l : List ℕ) (r : SetReading) (said : Result SetReading Why)
    → IsFollowed before r
    → after_set_line r l ≡ said
    → ((s : SetReading) → said ≡ Ok s → Walk (before ++ l ∷ ls) (after_set_lines s ls))
    → Walk (before ++ l ∷ ls) (set_go_on (r.taken + 1) said (λ s. after_set_lines s ls))
walk_by before ls l r (Ok s) is e each = each s refl
walk_by before ls l r (Err why) is e each = stopped before ls l r why refl is e refl

walk :
    (ls before : List (List ℕ)) (r : SetReading)
    → IsFollowed before r
    → Walk (before ++ ls) (after_set_lines r ls)
unfolding after_set_lines
walk [] before r is =
    walked r (subst (λ lines. IsFollowed lines r) (sym (append-nil before)) is) refl
walk (l ∷ ls) before r is =
    walk_by before ls l r (after_set_line r l) is refl
    (λ s e.
    subst (λ lines. Walk lines (after_set_lines s ls)) (append_assoc before (l ∷ []) ls)
    (walk ls (before ++ l ∷ []) s (line_followed before r s l is e)))

-- All lines from the first on.
pub walk_lines : (lines : List (List ℕ)) → Walk lines (after_set_lines opening_set_reading lines)
walk_lines lines = walk lines [] opening_set_reading followed_first

-- ---- the input
-- It has too many bytes, or it is as its lines are.
pub data Reads (bytes : List ℕ) : Type 0 where
  too_long : most_bytes < length bytes → set_of bytes ≡ Err (0, whys.Long) → Reads bytes
  by_lines : set_of bytes ≡ after_set_lines opening_set_reading (raw_lines bytes) → Reads bytes

reads_by :
    (bytes : List ℕ) (long : Bool)
    → ltb most_bytes (length bytes) ≡ long
    → set_of bytes
    ≡ (if long then Err (0, whys.Long) else after_set_lines opening_set_reading (raw_lines bytes))
    → Reads bytes
reads_by bytes true long is = too_long (ltb-true most_bytes (length bytes) long) is
reads_by bytes false long is = by_lines is

pub reads : (bytes : List ℕ) → Reads bytes
unfolding set_of
reads bytes = reads_by bytes (ltb most_bytes (length bytes)) refl refl
