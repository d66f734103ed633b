-- What an accepted line of a set is, and what it adds.
use Rattle.std.specs.Prelude.{codes, is_some}
use Rattle.std.specs.List.{list_all}
use Rattle.std.specs.Str.{bytes_eq}
use Rattle.std.proofs.Common.{◌≡◌, ◌∙◌, ℕ, ◌+◌, ◌<◌, Bool, true, false, List, [], ◌∷◌, ◌++◌, length, slice_set, Option, Some, None, Result, Ok, Err, refl, sym, subst, if◌then◌else◌, ltb, not, ◌&&◌, ◌||◌, inl, inr, ◌⊎◌, arith, ap}
use Rattle.std.proofs.lemmas.Bool.{cases_Bool, eqb-true, false≢true, ltb-true, lt-ltb, not-true}
use Rattle.std.proofs.lemmas.List.{append-nil, length_push}
use Rattle.frame_grants.specs.declared.grant.Grant.{Grant}
use Rattle.hpt_pool.specs.Pool.{lowest_place, PoolState}
use Rattle.trace_read.specs.declared.forms.Form.{Form}
use Rattle.trace_read.specs.declared.forms.Form.TheVariants as forms
use Rattle.trace_read.specs.declared.given.Given.{Given}
use Rattle.trace_read.specs.declared.given.Given.TheVariants as givens
use Rattle.trace_read.specs.declared.why.Why.{Why}
use Rattle.trace_read.specs.declared.why.Why.TheVariants as whys
use Rattle.trace_read.specs.Configuration.{Configuration}
use Rattle.trace_read.specs.Forms.{form_of, form_named}
use Rattle.trace_read.specs.Givens.{is_setting, given_by, given_if, given_of, given_grant}
use Rattle.trace_read.specs.Grammar.{Reading, after_text}
use Rattle.trace_read.specs.Numbers.{number_of}
use Rattle.trace_read.specs.Settings.{grant_named, pool_named}
use Rattle.trace_read.specs.TextLines.{without_cr, is_printable, words_of, is_remark}
use Rattle.lpar_set.specs.declared.turn.Turn.{Turn}
use Rattle.lpar_set.specs.PartitionLines.{words_in, is_shared, first_number, own_words, is_begin, is_run}
use Rattle.lpar_set.specs.SetGrammar.{SetReading, after_allowed, after_member, after_numbered_words, after_own, after_set_line, after_set_words, below_8, is_of_the_whole, meets_stranger, partition_named, reading_of, set_beside, with_given, with_shared, with_reading}
use Rattle.lpar_set.proofs.LineMoves.{HasMoved}
use Rattle.lpar_set.proofs.OwnLines.{is_run as gives_run, granted_no_run}
use Rattle.lpar_set.proofs.RunsKept.{next_turn}
use Rattle.lpar_set.proofs.SetLinesKept.{named_below}
use Rattle.lpar_set.proofs.SetReadingsKept.{retaken}
use Rattle.lpar_set.proofs.TakenSteps.{behind_guard, never_ok, required_taken, same_ok, steps_taken}
use Rattle.trace_line.specs.Lines.{most_lines}
use Rattle.std.proofs.Math.Bool.{or-true, or-false}
use Rattle.lpar_set.specs.OpeningTables.{with_opening}

-- The set once a line is counted.
abbrev pub counted : SetReading → SetReading
counted r = record r { taken = r.taken + 1 }

-- The set in which `shared` named this pool.
abbrev pub shared_so : SetReading → ℕ × ℕ → SetReading
shared_so r pool = record (set_beside pool.0 pool.1) { taken = r.taken + 1; untouched = false }

-- A line of these words is a remark, or `shared`, or a partition's.
pub data Takes (r : SetReading) (ws : List (List ℕ)) (s : SetReading) : Type 0 where
  takes_remark : is_remark ws ≡ true → counted r ≡ s → Takes r ws s
  takes_shared :
      (pool : ℕ × ℕ)
      → is_remark ws ≡ false
      → is_shared ws ≡ true
      → is_of_the_whole (own_words ws) ≡ false
      → r.untouched ≡ true
      → pool_named ws ≡ Ok pool
      → shared_so r pool ≡ s
      → Takes r ws s
  takes_member :
      (number : ℕ) (new : Reading)
      → number < 8
      → is_remark ws ≡ false
      → is_shared ws ≡ false
      → first_number ws ≡ Some number
      → is_of_the_whole (own_words ws) ≡ false
      → (is_setting (own_words ws) && ltb 0 (length r.turns)) ≡ false
      → after_text (retaken (counted r) number) (own_words ws) ≡ Ok new
      → with_given (counted r) number (reading_of r number) new
      (given_of (reading_of r number).config (own_words ws))
      ≡ Ok s
      → Takes r ws s

-- ---- the words of an accepted line
pub below_some : (o : Option ℕ) (number : ℕ) → below_8 o ≡ Some number → o ≡ Some number
below_some None number e = cc
below_some (Some n) number e = by (ltb n 8) e where
  by : (test : Bool) → (if test then Some n else None) ≡ Some number → Some n ≡ Some number
  by true e = e
  by false e = cc

own_taken :
    (r s : SetReading) (number : ℕ) (w : List ℕ) (ws : List (List ℕ)) (said : Result Reading Why)
    → after_text (retaken (counted r) number) ws ≡ said
    → number < 8
    → is_remark (w ∷ ws) ≡ false
    → is_shared (w ∷ ws) ≡ false
    → number_of w ≡ Some number
    → is_of_the_whole ws ≡ false
    → (is_setting ws && ltb 0 (length r.turns)) ≡ false
    → after_own (counted r) number (reading_of r number) ws said ≡ Ok s
    → Takes r (w ∷ ws) s
unfolding after_own
own_taken r s number w ws (Ok new) is below words plain named own early e =
    takes_member number new below words plain named own early is e
own_taken r s number w ws (Err why) is below words plain named own early e = absurd (never_ok _ s e)

member_taken :
    (r s : SetReading) (number : ℕ) (w : List ℕ) (ws : List (List ℕ))
    → number < 8
    → is_remark (w ∷ ws) ≡ false
    → is_shared (w ∷ ws) ≡ false
    → number_of w ≡ Some number
    → is_of_the_whole ws ≡ false
    → after_member (counted r) number ws ≡ Ok s
    → Takes r (w ∷ ws) s
unfolding after_member
member_taken r s number w ws below words plain named own e =
    let early = behind_guard (not (is_setting ws && ltb 0 (length r.turns))) whys.Place _ s e in
    own_taken r s number w ws (after_text (retaken (counted r) number) ws) refl below words plain
    named own (not-true _ early.holds) early.rest

numbered_taken :
    (r s : SetReading) (w : List ℕ) (ws : List (List ℕ))
    → is_remark (w ∷ ws) ≡ false
    → is_shared (w ∷ ws) ≡ false
    → is_of_the_whole ws ≡ false
    → after_numbered_words (counted r) w ws ≡ Ok s
    → Takes r (w ∷ ws) s
unfolding after_numbered_words
numbered_taken r s w ws words plain own e =
    let number = steps_taken (partition_named w) _ s e in
    let some : below_8 (number_of w) ≡ Some number.value = required_taken (below_8 (number_of w))
    whys.Lpar number.value number.first in
    member_taken r s number.value w ws (named_below w number.value number.first) words plain
    (below_some (number_of w) number.value some) own number.rest

shared_taken :
    (r s : SetReading) (ws : List (List ℕ))
    → is_remark ws ≡ false
    → is_shared ws ≡ true
    → is_of_the_whole (own_words ws) ≡ false
    → with_shared (counted r) ws ≡ Ok s
    → Takes r ws s
unfolding with_shared
shared_taken r s ws words shared own e =
    let first = behind_guard r.untouched whys.Place _ s e in
    let pool = steps_taken (pool_named ws) _ s first.rest in
    takes_shared pool.value words shared own first.holds pool.first (same_ok _ _ _ refl pool.rest)

first_taken :
    (shared : Bool) (r s : SetReading) (w : List ℕ) (ws : List (List ℕ))
    → is_shared (w ∷ ws) ≡ shared
    → is_remark (w ∷ ws) ≡ false
    → is_of_the_whole ws ≡ false
    → (if shared then with_shared (counted r) (w ∷ ws) else after_numbered_words (counted r) w ws)
    ≡ Ok s
    → Takes r (w ∷ ws) s
first_taken true r s w ws is words own e = shared_taken r s (w ∷ ws) words is own e
first_taken false r s w ws is words own e = numbered_taken r s w ws words is own e

allowed_taken :
    (r s : SetReading) (w : List ℕ) (ws : List (List ℕ))
    → is_remark (w ∷ ws) ≡ false
    → after_allowed (counted r) w ws ≡ Ok s
    → Takes r (w ∷ ws) s
unfolding after_allowed
allowed_taken r s w ws words e =
    let allowed = behind_guard (not (is_of_the_whole ws)) whys.Lpar _ s e in
    first_taken (bytes_eq (codes "shared") w) r s w ws refl words (not-true _ allowed.holds)
    allowed.rest

plain_taken :
    (remark : Bool) (r s : SetReading) (w : List ℕ) (ws : List (List ℕ))
    → is_remark (w ∷ ws) ≡ remark
    → (if remark then Ok (counted r) else after_allowed (counted r) w ws) ≡ Ok s
    → Takes r (w ∷ ws) s
plain_taken true r s w ws is e = takes_remark is (same_ok _ _ _ refl e)
plain_taken false r s w ws is e = allowed_taken r s w ws is e

words_taken :
    (r s : SetReading) (ws : List (List ℕ)) → after_set_words (counted r) ws ≡ Ok s → Takes r ws s
unfolding after_set_words
words_taken r s [] e = takes_remark refl (same_ok _ _ _ refl e)
words_taken r s (w ∷ ws) e = plain_taken (is_remark (w ∷ ws)) r s w ws refl e

-- What an accepted line passed.
pub record IsTakenLine (r : SetReading) (line : List ℕ) (s : SetReading) : Type 0 where
  pub few : r.taken < most_lines
  pub text : list_all is_printable (without_cr line) ≡ true
  pub takes : Takes r (words_in line) s

pub set_line_taken :
    (r s : SetReading) (line : List ℕ) → after_set_line r line ≡ Ok s → IsTakenLine r line s
unfolding after_set_line
set_line_taken r s line e =
    let few = behind_guard (ltb r.taken most_lines) whys.Lines _ s e in
    let text = behind_guard (list_all is_printable (without_cr line)) whys.Ascii _ s few.rest in
    record {
      few = ltb-true r.taken most_lines few.holds;
      text = text.holds;
      takes = words_taken r s (words_of (without_cr line)) text.rest;
    }

-- ---- what a partition's line adds
-- It is a `begin`.
abbrev pub gives_begin : Given → Bool
gives_begin (givens.Begin order) = true
gives_begin other = false

-- The partition, if it begins.
abbrev pub begun_if : Bool → ℕ → List ℕ
begun_if true number = number ∷ []
begun_if false number = []

-- The turn of a run line.
abbrev pub turn_if : Bool → Turn → List Turn
turn_if true turn = turn ∷ []
turn_if false turn = []

-- What such a line leaves of the set.
pub record IsAdded (r : SetReading) (number : ℕ) (new : Reading) (given : Given) (s : SetReading) :
    Type 0 where
  pub taken : s.taken ≡ r.taken
  pub untouched : s.untouched ≡ false
  pub base : s.pool_base ≡ r.pool_base
  pub order : s.pool_order ≡ r.pool_order
  pub readings : s.readings ≡ slice_set r.readings number (Some new)
  pub begun : s.begun ≡ r.begun ++ begun_if (gives_begin given) number
  pub turns : s.turns ≡ r.turns ++ turn_if (gives_run given) (next_turn r number)
  pub turned : ltb 0 (length s.turns) ≡ (ltb 0 (length r.turns) || gives_run given)

turned_by :
    (runs : Bool) (turns : List Turn) (turn : Turn)
    → ltb 0 (length (turns ++ turn_if runs turn)) ≡ (ltb 0 (length turns) || runs)
turned_by false turns turn = rw (append-nil turns) (sym (or-false _))
turned_by true turns turn = lt-ltb 0 _ (omega (arith, length_push turns turn)) ∙ sym (or-true _)

-- The new reading, with what the line adds to the partitions that began and to the turns.
reading_added :
    (r : SetReading) (number : ℕ) (new : Reading) (given : Given) (begun : List ℕ)
    (tables : PoolState) (turns : List Turn)
    → begun ≡ r.begun ++ begun_if (gives_begin given) number
    → turns ≡ r.turns ++ turn_if (gives_run given) (next_turn r number)
    → IsAdded r number new given
    (record (with_reading r number new) { begun = begun; tables = tables; turns = turns })
reading_added r number new given begun tables turns begins runs = record {
  taken = refl;
  untouched = refl;
  base = refl;
  order = refl;
  readings = refl;
  begun = begins;
  turns = runs;
  turned =
      ap (λ ts. ltb 0 (length ts)) runs
      ∙ turned_by (gives_run given) r.turns (next_turn r number);
}

-- A line that begins no partition and isn't one of a run adds its reading alone.
nothing_more :
    (r : SetReading) (number : ℕ) (new : Reading) (given : Given)
    → gives_begin given ≡ false
    → gives_run given ≡ false
    → IsAdded r number new given (with_reading r number new)
nothing_more r number new given no_begin no_run =
    reading_added r number new given r.begun r.tables r.turns
    (rw no_begin (sym (append-nil r.begun))) (rw no_run (sym (append-nil r.turns)))

added :
    (r s : SetReading) (number : ℕ) (new : Reading) (given : Given)
    → with_given r number (reading_of r number) new given ≡ Ok s
    → IsAdded r number new given s
unfolding with_given
added r s number new givens.Remark e =
    subst (IsAdded r number new givens.Remark) (same_ok _ _ _ refl e)
    (nothing_more r number new givens.Remark refl refl)
added r s number new givens.Setting e =
    subst (IsAdded r number new givens.Setting) (same_ok _ _ _ refl e)
    (nothing_more r number new givens.Setting refl refl)
added r s number new (givens.Grant grant) e =
    let passed = behind_guard (not (meets_stranger r number grant)) whys.Overlap _ s e in
    subst (IsAdded r number new (givens.Grant grant)) (same_ok _ _ _ refl passed.rest)
    (nothing_more r number new (givens.Grant grant) refl refl)
added r s number new (givens.Begin order) e =
    let passed = behind_guard (is_some (lowest_place r.tables order)) whys.Small _ s e in
    subst (IsAdded r number new (givens.Begin order)) (same_ok _ _ _ refl passed.rest)
    (reading_added r number new (givens.Begin order) (r.begun ++ number ∷ [])
    (with_opening r.tables order) r.turns refl (sym (append-nil r.turns)))
added r s number new givens.Run e =
    subst (IsAdded r number new givens.Run) (same_ok _ _ _ refl e)
    (reading_added r number new givens.Run r.begun r.tables
    (r.turns ++ next_turn r number ∷ []) (sym (append-nil r.begun)) refl)

-- ---- what forms give
granted_begins : (said : Result Grant Why) → gives_begin (given_grant said) ≡ false
granted_begins (Ok grant) = refl
granted_begins (Err why) = refl

form_begins :
    (form : Form) (c : Configuration) (ws : List (List ℕ))
    → gives_begin (given_by form c ws) ≡ is_begin (Ok form)
form_begins forms.Order c ws = refl
form_begins forms.Limit c ws = refl
form_begins forms.Cpus c ws = refl
form_begins forms.Pool c ws = refl
form_begins (forms.Grant kind) c ws = granted_begins (grant_named kind ws)
form_begins forms.Entry c ws = refl
form_begins forms.Window c ws = refl
form_begins forms.Begin c ws = refl
form_begins (forms.Run verb) c ws = refl
form_begins forms.Dump c ws = refl

form_runs :
    (form : Form) (c : Configuration) (ws : List (List ℕ))
    → gives_run (given_by form c ws) ≡ is_run (Ok form)
form_runs forms.Order c ws = refl
form_runs forms.Limit c ws = refl
form_runs forms.Cpus c ws = refl
form_runs forms.Pool c ws = refl
form_runs (forms.Grant kind) c ws = granted_no_run (grant_named kind ws)
form_runs forms.Entry c ws = refl
form_runs forms.Window c ws = refl
form_runs forms.Begin c ws = refl
form_runs (forms.Run verb) c ws = refl
form_runs forms.Dump c ws = refl

-- A remark is of no form.
pub formless : (ws : List (List ℕ)) → is_remark ws ≡ true → form_of ws ≡ Err whys.Word
unfolding form_of form_named
formless [] is = refl
formless ([] ∷ ws) is = absurd (false≢true is)
formless ((c ∷ cs) ∷ ws) is = let hash :
    c ≡ 35 = eqb-true c 35 is in rw hash (refl {a = Err whys.Word})

if_begins :
    (said : Result Form Why) (c : Configuration) (ws : List (List ℕ))
    → gives_begin (given_if said c ws) ≡ is_begin said
if_begins (Ok form) c ws = form_begins form c ws
if_begins (Err why) c ws = refl

if_runs :
    (said : Result Form Why) (c : Configuration) (ws : List (List ℕ))
    → gives_run (given_if said c ws) ≡ is_run said
if_runs (Ok form) c ws = form_runs form c ws
if_runs (Err why) c ws = refl

pub begin_given :
    (c : Configuration) (ws : List (List ℕ)) → gives_begin (given_of c ws) ≡ is_begin (form_of ws)
begin_given c ws = by (cases_Bool (is_remark ws)) where
  by :
      (is_remark ws ≡ true) ⊎ (is_remark ws ≡ false)
      → gives_begin (given_of c ws) ≡ is_begin (form_of ws)
  by (inl q) = rw (q, formless ws q) refl
  by (inr q) = rw q (if_begins (form_of ws) c ws)

pub run_given :
    (c : Configuration) (ws : List (List ℕ)) → gives_run (given_of c ws) ≡ is_run (form_of ws)
run_given c ws = by (cases_Bool (is_remark ws)) where
  by :
      (is_remark ws ≡ true) ⊎ (is_remark ws ≡ false)
      → gives_run (given_of c ws) ≡ is_run (form_of ws)
  by (inl q) = rw (q, formless ws q) refl
  by (inr q) = rw q (if_runs (form_of ws) c ws)

-- What it adds, by its words.
pub member_added :
    (r s : SetReading) (number : ℕ) (new : Reading) (c : Configuration) (ws : List (List ℕ))
    → with_given r number (reading_of r number) new (given_of c ws) ≡ Ok s
    → IsAdded r number new (given_of c ws) s
member_added r s number new c ws e = added r s number new (given_of c ws) e

-- ---- a partition's line
-- An accepted line of a partition, and what it adds.
pub record IsMemberLine (r s : SetReading) (line : List ℕ) (number : ℕ) (new : Reading)
    (given : Given) :
    Type 0 where
  pub few : r.taken < most_lines
  pub text : list_all is_printable (without_cr line) ≡ true
  pub below : number < 8
  pub words : is_remark (words_in line) ≡ false
  pub plain : is_shared (words_in line) ≡ false
  pub named : first_number (words_in line) ≡ Some number
  pub read : after_text (retaken (counted r) number) (own_words (words_in line)) ≡ Ok new
  pub given_is : given ≡ given_of (reading_of r number).config (own_words (words_in line))
  pub moved : HasMoved given (retaken (counted r) number) new
  pub added : IsAdded (counted r) number new given s
