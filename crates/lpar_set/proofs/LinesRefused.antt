-- Why a line of a set is refused.
use Rattle.std.specs.Prelude.{codes, is_some}
use Rattle.std.specs.List.{list_all}
use Rattle.std.specs.Str.{bytes_eq}
use Rattle.std.proofs.Common.{◌≡◌, ◌∙◌, ℕ, ◌<◌, ◌≤◌, Bool, true, false, List, [], ◌∷◌, length, Option, Some, None, Result, Ok, Err, refl, sym, ap, subst, if◌then◌else◌, ltb, not, ◌&&◌, arith}
use Rattle.std.proofs.lemmas.Bool.{false≢true, ltb-false, ltb-true, not-true, not-false, and_parts}
use Rattle.frame_grants.specs.declared.grant.Grant.{Grant}
use Rattle.hpt_pool.specs.Pool.{lowest_place}
use Rattle.trace_read.specs.declared.forms.Form.{Form}
use Rattle.trace_read.specs.declared.forms.Form.TheVariants as forms
use Rattle.trace_read.specs.declared.given.Given.{Given}
use Rattle.trace_read.specs.declared.given.Given.TheVariants as givens
use Rattle.trace_read.specs.declared.why.Why.{Why}
use Rattle.trace_read.specs.declared.why.Why.TheVariants as whys
use Rattle.trace_read.specs.Configuration.{Configuration}
use Rattle.trace_read.specs.Forms.{form_of}
use Rattle.trace_read.specs.Givens.{is_setting, form_grant, given_by, given_grant, given_if, given_of, line_grant, read_grant, refused_grant}
use Rattle.trace_read.specs.Grammar.{Reading, after_line, after_text}
use Rattle.trace_read.specs.Numbers.{number_of}
use Rattle.trace_read.specs.Settings.{grant_named, pool_named}
use Rattle.trace_read.specs.TextLines.{without_cr, is_printable, words_of, is_remark}
use Rattle.trace_read.specs.Whys.{◌>>=◌, guard}
use Rattle.lpar_set.specs.PartitionLaws.{IsAgainstSet, past, unprintable, whole, unnamed, late, poolless, early, strange, full}
use Rattle.lpar_set.specs.PartitionLines.{words_in, behind_word, begun_by, is_begin, is_shared, first_number, own_form, own_line, own_words}
use Rattle.lpar_set.specs.SetGrammar.{SetReading, after_allowed, after_member, after_numbered_words, after_own, after_set_line, after_set_words, below_8, is_of_the_whole, meets_stranger, partition_named, reading_of, refusal_beside, with_given, with_shared}
use Rattle.lpar_set.proofs.Followed.{IsFollowed, number_here}
use Rattle.lpar_set.proofs.LinesBefore.{place_is, stranger_found}
use Rattle.lpar_set.proofs.LinesTaken.{begin_given, below_some, counted, gives_begin, shared_so}
use Rattle.lpar_set.proofs.LineMoves.{HasMoved, HasOpened}
use Rattle.lpar_set.proofs.OwnLines.{own_moves}
use Rattle.lpar_set.proofs.OwnText.{own_line_read}
use Rattle.lpar_set.proofs.SetLinesKept.{named_below}
use Rattle.lpar_set.proofs.SetReadingsKept.{retaken}
use Rattle.lpar_set.proofs.TakenSteps.{IsStopped, at_test, behind_test, guard_stopped, AreStopped, at_step, behind_step, steps_stopped, never_err, required_stopped, required_taken, last_guard}
use Rattle.trace_line.specs.Lines.{most_lines}

-- The set has something against the line, or its partition's own lines do.
pub data IsFaulty (before : List (List ℕ)) (r : SetReading) (line : List ℕ) (why : Why) :
    Type 0 where
  of_set : IsAgainstSet before line why → IsFaulty before r line why
  of_own :
      (number : ℕ)
      → number < 8
      → first_number (words_in line) ≡ Some number
      → is_remark (words_in line) ≡ false
      → is_shared (words_in line) ≡ false
      → after_line (retaken r number) (own_line number line) ≡ Err why
      → IsFaulty before r line why

-- What is known of the line of a partition.
record IsOwn (before : List (List ℕ)) (r : SetReading) (line : List ℕ) (number : ℕ) : Type 0 where
  is : IsFollowed before r
  few : r.taken < most_lines
  text : list_all is_printable (without_cr line) ≡ true
  below : number < 8
  words : is_remark (words_in line) ≡ false
  plain : is_shared (words_in line) ≡ false
  named : first_number (words_in line) ≡ Some number

-- ---- what accepted words give
ok_grant :
    (grant : Grant) (said : Result Grant Why)
    → given_grant said ≡ givens.Grant grant
    → read_grant said ≡ Some grant
ok_grant grant (Ok g) e =
    let same : g ≡ grant = cc in
    ap (λ (x : Grant). Some x) same
ok_grant grant (Err why) e = absurd (cc)

form_grants :
    (form : Form) (c : Configuration) (ws : List (List ℕ)) (grant : Grant)
    → given_by form c ws ≡ givens.Grant grant
    → form_grant (Ok form) ws ≡ Some grant
form_grants forms.Order c ws grant e = absurd (cc)
form_grants forms.Limit c ws grant e = absurd (cc)
form_grants forms.Cpus c ws grant e = absurd (cc)
form_grants forms.Pool c ws grant e = absurd (cc)
form_grants (forms.Grant kind) c ws grant e = ok_grant grant (grant_named kind ws) e
form_grants forms.Entry c ws grant e = absurd (cc)
form_grants forms.Window c ws grant e = absurd (cc)
form_grants forms.Begin c ws grant e = absurd (cc)
form_grants (forms.Run verb) c ws grant e = absurd (cc)
form_grants forms.Dump c ws grant e = absurd (cc)

if_grants :
    (said : Result Form Why) (c : Configuration) (ws : List (List ℕ)) (grant : Grant)
    → given_if said c ws ≡ givens.Grant grant
    → form_grant said ws ≡ Some grant
if_grants (Ok form) c ws grant e = form_grants form c ws grant e
if_grants (Err why) c ws grant e = absurd (cc)

of_grants :
    (remark : Bool) (c : Configuration) (ws : List (List ℕ)) (grant : Grant)
    → (if remark then givens.Remark else given_if (form_of ws) c ws) ≡ givens.Grant grant
    → line_grant ws ≡ Some grant
of_grants true c ws grant e = absurd (cc)
of_grants false c ws grant e = if_grants (form_of ws) c ws grant e

-- The grant that a line gives is the one that it names.
pub given_names :
    (c : Configuration) (ws : List (List ℕ)) (grant : Grant)
    → given_of c ws ≡ givens.Grant grant
    → line_grant ws ≡ Some grant
given_names c ws grant e = of_grants (is_remark ws) c ws grant e

refused_names :
    (why : Why) (ws : List (List ℕ)) (grant : Grant)
    → refused_grant why ws ≡ Some grant
    → line_grant ws ≡ Some grant
refused_names whys.Tables ws grant e = e
refused_names whys.Long ws grant e = absurd (cc)
refused_names whys.Lines ws grant e = absurd (cc)
refused_names whys.Ascii ws grant e = absurd (cc)
refused_names whys.Lpar ws grant e = absurd (cc)
refused_names whys.Word ws grant e = absurd (cc)
refused_names whys.Place ws grant e = absurd (cc)
refused_names whys.Count ws grant e = absurd (cc)
refused_names whys.Number ws grant e = absurd (cc)
refused_names whys.Mode ws grant e = absurd (cc)
refused_names whys.Cpu ws grant e = absurd (cc)
refused_names whys.Dumps ws grant e = absurd (cc)
refused_names whys.Quiet ws grant e = absurd (cc)
refused_names whys.Range ws grant e = absurd (cc)
refused_names whys.Empty ws grant e = absurd (cc)
refused_names whys.Unaligned ws grant e = absurd (cc)
refused_names whys.Past ws grant e = absurd (cc)
refused_names whys.Many ws grant e = absurd (cc)
refused_names whys.Overlap ws grant e = absurd (cc)
refused_names whys.Entry ws grant e = absurd (cc)
refused_names whys.Window ws grant e = absurd (cc)
refused_names whys.Small ws grant e = absurd (cc)
refused_names whys.Begin ws grant e = absurd (cc)

-- ---- a partition's line
against :
    {before : List (List ℕ)} {r : SetReading} {line : List ℕ} (why other : Why)
    → why ≡ other
    → IsAgainstSet before line why
    → IsFaulty before r line other
against {before} {r} {line} why other same is = subst (IsFaulty before r line) same (of_set is)

strange_line :
    (before : List (List ℕ)) (r : SetReading) (line : List ℕ) (number : ℕ) (why : Why)
    (grant : Grant)
    → IsOwn before r line number
    → line_grant (own_words (words_in line)) ≡ Some grant
    → meets_stranger r number grant ≡ true
    → whys.Overlap ≡ why
    → IsFaulty before r line why
strange_line before r line number why grant own names met same =
    let of = stranger_found before r number grant own.is met in
    against whys.Overlap why same
    (strange number of.other grant of.theirs (number_here number number line own.named refl)
    names of.below of.apart of.has of.meets)

no_place : (o : Option ℕ) → is_some o ≡ false → o ≡ None
no_place None e = refl
no_place (Some place) e = absurd (false≢true (sym e))

full_line :
    (before : List (List ℕ)) (r : SetReading) (line : List ℕ) (number order : ℕ) (new : Reading)
    (why : Why)
    → IsOwn before r line number
    → HasMoved (given_of (reading_of r number).config (own_words (words_in line)))
    (retaken (counted r) number) new
    → given_of (reading_of r number).config (own_words (words_in line)) ≡ givens.Begin order
    → is_some (lowest_place r.tables order) ≡ false
    → whys.Small ≡ why
    → IsFaulty before r line why
full_line before r line number order new why own moved gives room same =
    let opened : HasOpened order (retaken (counted r) number) new =
    (subst (λ given. HasMoved given (retaken (counted r) number) new) gives moved).moves in
    let begins : is_begin (own_form line) ≡ true = sym
    (begin_given (reading_of r number).config (own_words (words_in line))) ∙ ap gives_begin
    gives in
    let mine : begun_by line ≡ Some number = rw (begins, own.named) refl in
    let none : lowest_place r.tables (reading_of r number).config.order ≡ None = ap
    (lowest_place r.tables) (sym opened.order) ∙ no_place (lowest_place r.tables order) room in
    against whys.Small why same
    (full number mine (place_is before r number own.is own.below ∙ none))

given_faulty :
    (before : List (List ℕ)) (r : SetReading) (line : List ℕ) (number : ℕ) (new : Reading)
    (why : Why) (given : Given)
    → IsOwn before r line number
    → HasMoved (given_of (reading_of r number).config (own_words (words_in line)))
    (retaken (counted r) number) new
    → given_of (reading_of r number).config (own_words (words_in line)) ≡ given
    → with_given (counted r) number (reading_of r number) new given ≡ Err why
    → IsFaulty before r line why
unfolding with_given
given_faulty before r line number new why givens.Remark own moved is e = absurd (never_err _ why e)
given_faulty before r line number new why givens.Setting own moved is e = absurd (never_err _ why e)
given_faulty before r line number new why givens.Run own moved is e = absurd (never_err _ why e)
given_faulty before r line number new why (givens.Grant grant) own moved is e =
    let stopped = last_guard (not (meets_stranger r number grant)) whys.Overlap why _ e in
    strange_line before r line number why grant own
    (given_names (reading_of r number).config (own_words (words_in line)) grant is)
    (not-false _ stopped.0) stopped.1
given_faulty before r line number new why (givens.Begin order) own moved is e =
    let stopped = last_guard (is_some (lowest_place r.tables order)) whys.Small why _ e in
    full_line before r line number order new why own moved is stopped.0 stopped.1

own_refused :
    (before : List (List ℕ)) (r : SetReading) (line : List ℕ) (number : ℕ) (first why : Why)
    → IsOwn before r line number
    → after_text (retaken (counted r) number) (own_words (words_in line)) ≡ Err first
    → first ≡ why
    → IsFaulty before r line why
own_refused before r line number first why own said same =
    let mine : own_line number line ≡ behind_word (without_cr line) = rw
    (number_here number number line own.named refl) refl in
    let read : after_line (retaken r number) (own_line number line) ≡ Err why = ap
    (after_line (retaken r number)) mine ∙ own_line_read (retaken r number) line own.few
    own.text ∙ said ∙ ap (λ (x : Why). Err x) same in
    of_own number own.below own.named own.words own.plain read

refused_by :
    (before : List (List ℕ)) (r : SetReading) (line : List ℕ) (number : ℕ) (first why : Why)
    (o : Option Grant)
    → IsOwn before r line number
    → after_text (retaken (counted r) number) (own_words (words_in line)) ≡ Err first
    → refused_grant first (own_words (words_in line)) ≡ o
    → refusal_beside (counted r) number first o ≡ why
    → IsFaulty before r line why
refused_by before r line number first why None own said grants e =
    own_refused before r line number first why own said e
refused_by before r line number first why (Some grant) own said grants e =
    by (meets_stranger r number grant) refl e where
      by :
          (met : Bool)
          → meets_stranger r number grant ≡ met
          → (if met then whys.Overlap else first) ≡ why
          → IsFaulty before r line why
      by true met e =
          strange_line before r line number why grant own
          (refused_names first (own_words (words_in line)) grant grants) met e
      by false met e = own_refused before r line number first why own said e

own_faulty :
    (before : List (List ℕ)) (r : SetReading) (line : List ℕ) (number : ℕ) (why : Why)
    (said : Result Reading Why)
    → IsOwn before r line number
    → is_of_the_whole (own_words (words_in line)) ≡ false
    → after_text (retaken (counted r) number) (own_words (words_in line)) ≡ said
    → after_own (counted r) number (reading_of r number) (own_words (words_in line)) said ≡ Err why
    → IsFaulty before r line why
unfolding after_own
own_faulty before r line number why (Ok new) own mine said e =
    given_faulty before r line number new why
    (given_of (reading_of r number).config (own_words (words_in line))) own
    (own_moves (retaken (counted r) number) new (own_words (words_in line)) mine said) refl e
own_faulty before r line number why (Err first) own mine said e =
    let same : refusal_beside (counted r) number first
    (refused_grant first (own_words (words_in line))) ≡ why = cc in
    refused_by before r line number first why (refused_grant first (own_words (words_in line))) own
    said refl same

member_faulty :
    (before : List (List ℕ)) (r : SetReading) (line : List ℕ) (number : ℕ) (why : Why)
    → IsOwn before r line number
    → is_of_the_whole (own_words (words_in line)) ≡ false
    → after_member (counted r) number (own_words (words_in line)) ≡ Err why
    → IsFaulty before r line why
unfolding after_member
member_faulty before r line number why own mine e =
    by
    (guard_stopped (not (is_setting (own_words (words_in line)) && ltb 0 (length r.turns)))
    whys.Place why
    (after_own (counted r) number (reading_of r number) (own_words (words_in line))
    (after_text (retaken (counted r) number) (own_words (words_in line)))) e) where
      by :
          IsStopped (not (is_setting (own_words (words_in line)) && ltb 0 (length r.turns)))
          whys.Place
          why
          (after_own (counted r) number (reading_of r number) (own_words (words_in line))
          (after_text (retaken (counted r) number) (own_words (words_in line))))
          → IsFaulty before r line why
      by (at_test both same) =
          let parts = and_parts _ _ (not-false _ both) in
          against whys.Place why same
          (early number (number_here number number line own.named refl) parts.0
          (sym own.is.turned ∙ parts.1))
      by (behind_test passed rest) =
          own_faulty before r line number why
          (after_text (retaken (counted r) number) (own_words (words_in line))) own mine refl rest

-- ---- the words of a line
-- What is known of the words of a line.
record AreWords (before : List (List ℕ)) (r : SetReading) (line w : List ℕ) (ws : List (List ℕ)) :
    Type 0 where
  is : IsFollowed before r
  few : r.taken < most_lines
  text : list_all is_printable (without_cr line) ≡ true
  at : words_in line ≡ w ∷ ws
  words : is_remark (words_in line) ≡ false

numbered_faulty :
    (before : List (List ℕ)) (r : SetReading) (line w : List ℕ) (ws : List (List ℕ)) (why : Why)
    → AreWords before r line w ws
    → is_shared (words_in line) ≡ false
    → is_of_the_whole ws ≡ false
    → after_numbered_words (counted r) w ws ≡ Err why
    → IsFaulty before r line why
unfolding after_numbered_words
numbered_faulty before r line w ws why are plain mine e =
    by (steps_stopped (partition_named w) (λ number. after_member (counted r) number ws) why e)
  where
    by :
        AreStopped (partition_named w) (λ number. after_member (counted r) number ws) why
        → IsFaulty before r line why
    by (at_step refused) =
        let missing = required_stopped (below_8 (number_of w)) whys.Lpar why refused in
        against whys.Lpar why missing.1
        (unnamed are.words plain (ap (λ words. below_8 (first_number words)) are.at ∙ missing.0))
    by (behind_step number named rest) =
        let own : own_words (words_in line) ≡ ws = ap own_words are.at in
        let some : number_of w ≡ Some number = below_some (number_of w) number
        (required_taken (below_8 (number_of w)) whys.Lpar number named) in
        member_faulty before r line number why
        (record {
          is = are.is;
          few = are.few;
          text = are.text;
          below = named_below w number named;
          words = are.words;
          plain = plain;
          named = ap first_number are.at ∙ some;
        })
        (ap is_of_the_whole own ∙ mine)
        (ap (after_member (counted r) number) own ∙ rest)

shared_faulty :
    (before : List (List ℕ)) (r : SetReading) (line w : List ℕ) (ws : List (List ℕ)) (why : Why)
    → AreWords before r line w ws
    → is_shared (words_in line) ≡ true
    → with_shared (counted r) (w ∷ ws) ≡ Err why
    → IsFaulty before r line why
unfolding with_shared
shared_faulty before r line w ws why are shared e =
    by (guard_stopped r.untouched whys.Place why _ e) where
      named :
          AreStopped (pool_named (w ∷ ws)) (λ (pool : ℕ × ℕ). Ok (shared_so r pool)) why
          → IsFaulty before r line why
      named (at_step refused) = of_set (poolless why shared (ap pool_named are.at ∙ refused))
      named (behind_step pool is rest) = absurd (never_err _ why rest)

      by :
          IsStopped r.untouched whys.Place why
          (pool_named (w ∷ ws) >>= (λ (pool : ℕ × ℕ). Ok (shared_so r pool)))
          → IsFaulty before r line why
      by (at_test touched same) = against whys.Place why same (late shared (are.is.first ∙ touched))
      by (behind_test first rest) =
          named
          (steps_stopped (pool_named (w ∷ ws)) (λ (pool : ℕ × ℕ). Ok (shared_so r pool)) why
          rest)

first_faulty :
    (shared : Bool) (before : List (List ℕ)) (r : SetReading) (line w : List ℕ) (ws : List (List ℕ))
    (why : Why)
    → AreWords before r line w ws
    → bytes_eq (codes "shared") w ≡ shared
    → is_of_the_whole ws ≡ false
    → (if shared then with_shared (counted r) (w ∷ ws) else after_numbered_words (counted r) w ws)
    ≡ Err why
    → IsFaulty before r line why
first_faulty true before r line w ws why are is mine e =
    shared_faulty before r line w ws why are (ap is_shared are.at ∙ is) e
first_faulty false before r line w ws why are is mine e =
    numbered_faulty before r line w ws why are (ap is_shared are.at ∙ is) mine e

allowed_faulty :
    (before : List (List ℕ)) (r : SetReading) (line w : List ℕ) (ws : List (List ℕ)) (why : Why)
    → AreWords before r line w ws
    → after_allowed (counted r) w ws ≡ Err why
    → IsFaulty before r line why
unfolding after_allowed
allowed_faulty before r line w ws why are e =
    by
    (guard_stopped (not (is_of_the_whole ws)) whys.Lpar why
    (if bytes_eq (codes "shared") w then with_shared (counted r) (w ∷ ws) else
    after_numbered_words (counted r) w ws) e) where
      by :
          IsStopped (not (is_of_the_whole ws)) whys.Lpar why
          (if bytes_eq (codes "shared") w then with_shared (counted r) (w ∷ ws) else
          after_numbered_words (counted r) w ws)
          → IsFaulty before r line why
      by (at_test of same) =
          against whys.Lpar why same
          (whole are.words
          (ap (λ words. is_of_the_whole (own_words words)) are.at ∙ not-false _ of))
      by (behind_test other rest) =
          first_faulty (bytes_eq (codes "shared") w) before r line w ws why are refl
          (not-true _ other)
          rest

words_faulty :
    (before : List (List ℕ)) (r : SetReading) (line : List ℕ) (ws : List (List ℕ)) (why : Why)
    → IsFollowed before r
    → r.taken < most_lines
    → list_all is_printable (without_cr line) ≡ true
    → words_in line ≡ ws
    → after_set_words (counted r) ws ≡ Err why
    → IsFaulty before r line why
unfolding after_set_words
words_faulty before r line [] why is few text at e = absurd (never_err _ why e)
words_faulty before r line (w ∷ ws) why is few text at e = by (is_remark (w ∷ ws)) refl e where
  by :
      (remark : Bool)
      → is_remark (w ∷ ws) ≡ remark
      → (if remark then Ok (counted r) else after_allowed (counted r) w ws) ≡ Err why
      → IsFaulty before r line why
  by true remark e = absurd (never_err _ why e)
  by false remark e =
      allowed_faulty before r line w ws why
      (record { is = is; few = few; text = text; at = at; words = ap is_remark at ∙ remark }) e

-- Why the next line is refused.
pub line_faulty :
    (before : List (List ℕ)) (r : SetReading) (line : List ℕ) (why : Why)
    → IsFollowed before r
    → after_set_line r line ≡ Err why
    → IsFaulty before r line why
unfolding after_set_line
line_faulty before r line why is e =
    by
    (guard_stopped (ltb r.taken most_lines) whys.Lines why
    (guard (list_all is_printable (without_cr line)) whys.Ascii >>=
    (λ (done : Unit {0}). after_set_words (counted r) (words_of (without_cr line))))
    e) where
      text :
          r.taken < most_lines
          → IsStopped (list_all is_printable (without_cr line)) whys.Ascii why
          (after_set_words (counted r) (words_of (without_cr line)))
          → IsFaulty before r line why
      text few (at_test other same) = against whys.Ascii why same (unprintable other)
      text few (behind_test all rest) =
          words_faulty before r line (words_of (without_cr line)) why is few all refl rest

      by :
          IsStopped (ltb r.taken most_lines) whys.Lines why
          (guard (list_all is_printable (without_cr line)) whys.Ascii >>=
          (λ (done : Unit {0}). after_set_words (counted r) (words_of (without_cr line))))
          → IsFaulty before r line why
      by (at_test many same) =
          let taken : r.taken ≡ length before = is.taken in
          let most : most_lines ≤ r.taken = ltb-false r.taken most_lines many in
          against whys.Lines why same (past (omega (arith, taken, most)))
      by (behind_test few rest) =
          text (ltb-true r.taken most_lines few)
          (guard_stopped (list_all is_printable (without_cr line)) whys.Ascii why
          (after_set_words (counted r) (words_of (without_cr line))) rest)
