-- Each line of a set that is accepted keeps what holds of its reading.
use Rattle.std.specs.Prelude.{codes, is_none}
use Rattle.std.specs.List.{list_all}
use Rattle.std.specs.Str.{bytes_eq}
use Rattle.std.proofs.Common.{◌≡◌, ℕ, ◌+◌, ◌<◌, ◌≤◌, Bool, true, false, List, [], ◌∷◌, length, Option, Some, None, Ok, refl, subst, if◌then◌else◌, ltb, eqb, not, arith}
use Rattle.std.proofs.lemmas.Bool.{ltb-true, not-true}
use Rattle.std.proofs.lemmas.Option.{none-some}
use Rattle.pool_range.specs.Ranges.{IsPoolRange, range_refusal}
use Rattle.trace_read.specs.declared.why.Why.TheVariants as whys
use Rattle.trace_read.specs.Acts.{number_at}
use Rattle.trace_read.specs.Numbers.{number_of}
use Rattle.trace_read.specs.Settings.{pool_named}
use Rattle.trace_read.specs.TextLines.{without_cr, is_printable, words_of, is_remark}
use Rattle.lpar_set.specs.SetGrammar.{SetReading, after_allowed, after_numbered_words, after_set_line, after_set_words, below_8, is_of_the_whole, partition_named, with_shared}
use Rattle.lpar_set.specs.SetReadings.{IsSetReading}
use Rattle.lpar_set.proofs.EmptySet.{counted_is, empty_is, range_is}
use Rattle.lpar_set.proofs.SetReadingsKept.{member_keeps}
use Rattle.lpar_set.proofs.TakenSteps.{behind_guard, required_taken, same_ok, steps_taken}
use Rattle.trace_line.specs.Lines.{most_lines}

-- ---- the shared pool
-- A pool that a line names is one.
pub pool_is :
    (ws : List (List ℕ)) (pool : ℕ × ℕ) → pool_named ws ≡ Ok pool → IsPoolRange pool.0 pool.1
unfolding pool_named
pool_is ws pool e =
    let counted = behind_guard (eqb (length ws) 3) whys.Count _ pool e in
    let base = steps_taken (number_at ws 1) _ pool counted.rest in
    let order = steps_taken (number_at ws 2) _ pool base.rest in
    let within = behind_guard (is_none (range_refusal base.value order.value)) whys.Range _ pool
    order.rest in
    subst (λ (p : ℕ × ℕ). IsPoolRange p.0 p.1) (same_ok _ _ _ refl within.rest)
    (range_is base.value order.value within.holds)

-- The line of the shared pool keeps what holds of the set.
pub shared_keeps :
    (r s : SetReading) (ws : List (List ℕ))
    → IsSetReading r
    → with_shared r ws ≡ Ok s
    → IsSetReading s
unfolding with_shared
shared_keeps r s ws is e =
    let first = behind_guard r.untouched whys.Place _ s e in
    let pool = steps_taken (pool_named ws) _ s first.rest in
    subst IsSetReading (same_ok _ _ _ refl pool.rest)
    (empty_is pool.value.0 pool.value.1 r.taken false (pool_is ws pool.value pool.first) is.few)

-- ---- the partition that a line names
below_is : (o : Option ℕ) (number : ℕ) → below_8 o ≡ Some number → number < 8
below_is None number e = absurd (none-some number e)
below_is (Some n) number e = by (ltb n 8) refl e where
  by : (test : Bool) → ltb n 8 ≡ test → (if test then Some n else None) ≡ Some number → number < 8
  by true is e =
      let same : n ≡ number = cc in
      subst (λ m. m < 8) same (ltb-true n 8 is)
  by false is e = absurd (none-some number e)

-- A partition that a word names has a number below 8.
pub named_below : (w : List ℕ) (number : ℕ) → partition_named w ≡ Ok number → number < 8
named_below w number e =
    below_is (number_of w) number (required_taken (below_8 (number_of w)) whys.Lpar number e)

-- A line that names its partition keeps what holds of the set.
pub numbered_keeps :
    (r s : SetReading) (w : List ℕ) (ws : List (List ℕ))
    → IsSetReading r
    → length r.turns < r.taken
    → is_of_the_whole ws ≡ false
    → after_numbered_words r w ws ≡ Ok s
    → IsSetReading s
unfolding after_numbered_words
numbered_keeps r s w ws is counted own e =
    let number = steps_taken (partition_named w) _ s e in
    member_keeps r s number.value ws is (named_below w number.value number.first) counted own
    number.rest

-- ---- the words of a line
first_by :
    (shared : Bool) (r s : SetReading) (w : List ℕ) (ws : List (List ℕ))
    → IsSetReading r
    → length r.turns < r.taken
    → is_of_the_whole ws ≡ false
    → (if shared then with_shared r (w ∷ ws) else after_numbered_words r w ws) ≡ Ok s
    → IsSetReading s
first_by true r s w ws is counted own e = shared_keeps r s (w ∷ ws) is e
first_by false r s w ws is counted own e = numbered_keeps r s w ws is counted own e

allowed_keeps :
    (r s : SetReading) (w : List ℕ) (ws : List (List ℕ))
    → IsSetReading r
    → length r.turns < r.taken
    → after_allowed r w ws ≡ Ok s
    → IsSetReading s
unfolding after_allowed
allowed_keeps r s w ws is counted e =
    let allowed = behind_guard (not (is_of_the_whole ws)) whys.Lpar _ s e in
    first_by (bytes_eq (codes "shared") w) r s w ws is counted (not-true _ allowed.holds)
    allowed.rest

plain_by :
    (remark : Bool) (r s : SetReading) (w : List ℕ) (ws : List (List ℕ))
    → IsSetReading r
    → length r.turns < r.taken
    → (if remark then Ok r else after_allowed r w ws) ≡ Ok s
    → IsSetReading s
plain_by true r s w ws is counted e = subst IsSetReading (same_ok _ _ _ refl e) is
plain_by false r s w ws is counted e = allowed_keeps r s w ws is counted e

-- The words of any accepted line keep the set sound.
pub words_keep :
    (r s : SetReading) (ws : List (List ℕ))
    → IsSetReading r
    → length r.turns < r.taken
    → after_set_words r ws ≡ Ok s
    → IsSetReading s
unfolding after_set_words
words_keep r s [] is counted e = subst IsSetReading (same_ok _ _ _ refl e) is
words_keep r s (w ∷ ws) is counted e = plain_by (is_remark (w ∷ ws)) r s w ws is counted e

-- ---- a line
-- Each line that is accepted keeps what holds of the set.
pub set_line_keeps :
    (r s : SetReading) (line : List ℕ)
    → IsSetReading r
    → after_set_line r line ≡ Ok s
    → IsSetReading s
unfolding after_set_line
set_line_keeps r s line is e =
    let few = behind_guard (ltb r.taken most_lines) whys.Lines _ s e in
    let text = behind_guard (list_all is_printable (without_cr line)) whys.Ascii _ s few.rest in
    let counted : length r.turns ≤ r.taken = is.counted in
    words_keep (record r { taken = r.taken + 1 }) s (words_of (without_cr line))
    (counted_is r is (ltb-true r.taken most_lines few.holds)) (omega (arith, counted)) text.rest
