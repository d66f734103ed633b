-- A line that the set has something against is not accepted.
use Rattle.std.specs.Prelude.{codes, is_some}
use Rattle.std.proofs.Common.{◌≡◌, ◌∙◌, ℕ, ◌<◌, true, false, List, [], ◌∷◌, length, Option, Some, None, Result, Ok, Err, refl, sym, ap, subst, ltb, not, inl, inr, ◌⊎◌, arith}
use Rattle.std.proofs.lemmas.Bool.{both_ways, cases_Bool, eqb-true, false≢true, lt-ltb, not-true}
use Rattle.std.proofs.lemmas.Slice.Eq.{bytes_eq-Decides}
use Rattle.hpt_hash.proofs.PageLemmas.{if_some}
use Rattle.frame_grants.specs.declared.grant.Grant.{Grant}
use Rattle.hpt_pool.specs.Pool.{lowest_place}
use Rattle.trace_read.specs.declared.forms.Form.{Form}
use Rattle.trace_read.specs.declared.forms.Form.TheVariants as forms
use Rattle.trace_read.specs.declared.given.Given.{Given}
use Rattle.trace_read.specs.declared.given.Given.TheVariants as givens
use Rattle.trace_read.specs.declared.why.Why.{Why}
use Rattle.trace_read.specs.declared.why.Why.TheVariants as whys
use Rattle.trace_read.specs.Configuration.{Configuration}
use Rattle.trace_read.specs.Forms.{form_of}
use Rattle.trace_read.specs.Givens.{is_setting, form_grant, given_by, given_grant, given_if, given_of, line_grant, read_grant}
use Rattle.trace_read.specs.Grammar.{Reading}
use Rattle.trace_read.specs.Settings.{grant_named, pool_named}
use Rattle.trace_read.specs.TextLines.{is_remark}
use Rattle.lpar_set.specs.PartitionLaws.{IsAgainstSet, past, unprintable, whole, unnamed, late, poolless, early, strange, full}
use Rattle.lpar_set.specs.PartitionLines.{words_in, is_begin, is_shared, first_number, own_form, own_words}
use Rattle.lpar_set.specs.SetGrammar.{SetReading, after_set_line, below_8, is_of_the_whole, meets_stranger, reading_of, with_given}
use Rattle.lpar_set.proofs.Followed.{IsFollowed}
use Rattle.lpar_set.proofs.LinesBefore.{place_is, stranger_met}
use Rattle.lpar_set.proofs.LinesTaken.{IsTakenLine, Takes, takes_remark, takes_shared, takes_member, begin_given, counted, formless, gives_begin, set_line_taken}
use Rattle.lpar_set.proofs.LineMoves.{HasMoved, HasOpened}
use Rattle.lpar_set.proofs.OwnLines.{own_moves}
use Rattle.lpar_set.proofs.PlainLines.{remark_numberless, shared_numberless}
use Rattle.lpar_set.proofs.SetReadingsKept.{retaken}
use Rattle.lpar_set.proofs.TakenSteps.{behind_guard}
use Rattle.trace_line.specs.Lines.{most_lines}
use Rattle.basics.specs.Words.{is_number}

-- ---- which words are accepted
shared_words : (ws : List (List ℕ)) → is_shared ws ≡ true → is_remark ws ≡ false
shared_words [] is = absurd (false≢true is)
shared_words (w ∷ ws) is =
    let same : codes "shared" ≡ w = (bytes_eq-Decides (codes "shared") w).0 is in
    ap (λ v. is_remark (v ∷ ws)) (sym same)

never_whole :
    (r s : SetReading) (ws : List (List ℕ))
    → Takes r ws s
    → is_remark ws ≡ false
    → is_of_the_whole (own_words ws) ≡ true
    → ⊥
never_whole r s ws (takes_remark remark same) words of = both_ways _ words remark
never_whole r s ws (takes_shared pool plain shared own first named same) words of =
    both_ways _ own of
never_whole r s ws (takes_member number new below plain shared named own quiet read e) words of =
    both_ways _ own of

below_none : (o : Option ℕ) (number : ℕ) → number < 8 → o ≡ Some number → below_8 o ≡ None → ⊥
below_none o number below some none =
    let is : below_8 o ≡ Some number = ap below_8 some ∙ rw (lt-ltb number 8 below) refl in
    cc

never_unnamed :
    (r s : SetReading) (ws : List (List ℕ))
    → Takes r ws s
    → is_remark ws ≡ false
    → is_shared ws ≡ false
    → below_8 (first_number ws) ≡ None
    → ⊥
never_unnamed r s ws (takes_remark remark same) words plain none = both_ways _ words remark
never_unnamed r s ws (takes_shared pool one shared own first named same) words plain none =
    both_ways _ plain shared
never_unnamed r s ws (takes_member number new below one shared named own quiet read e) words plain
    none =
    below_none (first_number ws) number below named none

never_late :
    (r s : SetReading) (ws : List (List ℕ))
    → Takes r ws s
    → is_shared ws ≡ true
    → r.untouched ≡ false
    → ⊥
never_late r s ws (takes_remark remark same) shared touched =
    both_ways _ (shared_words ws shared) remark
never_late r s ws (takes_shared pool words one own first named same) shared touched =
    both_ways _ touched first
never_late r s ws (takes_member number new below words plain named own quiet read e) shared touched
    =
    both_ways _ plain shared

named_once :
    (pool : ℕ × ℕ) (why : Why) (ws : List (List ℕ))
    → pool_named ws ≡ Ok pool
    → pool_named ws ≡ Err why
    → ⊥
named_once pool why ws one other = cc

never_poolless :
    (r s : SetReading) (ws : List (List ℕ)) (why : Why)
    → Takes r ws s
    → is_shared ws ≡ true
    → pool_named ws ≡ Err why
    → ⊥
never_poolless r s ws why (takes_remark remark same) shared refused =
    both_ways _ (shared_words ws shared) remark
never_poolless r s ws why (takes_shared pool words one own first named same) shared refused =
    named_once pool why ws named refused
never_poolless r s ws why (takes_member number new below words plain named own quiet read e) shared
    refused =
    both_ways _ plain shared

-- ---- a partition's line
none_named : (number : ℕ) (o : Option ℕ) → o ≡ None → is_number number o ≡ true → ⊥
none_named number o none is = false≢true (sym (ap (is_number number) none) ∙ is)

same_number :
    (number other : ℕ) (o : Option ℕ) → o ≡ Some other → is_number number o ≡ true → other ≡ number
same_number number other o some is = eqb-true other number (sym (ap (is_number number) some) ∙ is)

never_early :
    (r s : SetReading) (ws : List (List ℕ)) (number : ℕ)
    → Takes r ws s
    → is_number number (first_number ws) ≡ true
    → is_setting (own_words ws) ≡ true
    → ltb 0 (length r.turns) ≡ true
    → ⊥
never_early r s ws number (takes_remark remark same) mine setting later =
    none_named number (first_number ws) (remark_numberless ws remark) mine
never_early r s ws number (takes_shared pool words shared own first named same) mine setting later =
    none_named number (first_number ws) (shared_numberless ws shared) mine
never_early r s ws number (takes_member other new below words plain named own quiet read e) mine
    setting later =
    both_ways _ quiet (rw (setting, later) refl)

-- The grant that a line names is given.
grant_ok :
    (grant : Grant) (said : Result Grant Why)
    → read_grant said ≡ Some grant
    → given_grant said ≡ givens.Grant grant
grant_ok grant (Ok g) e =
    let same : g ≡ grant = cc in
    ap (λ (x : Grant). givens.Grant x) same
grant_ok grant (Err why) e = absurd (cc)

grants_form :
    (form : Form) (c : Configuration) (ws : List (List ℕ)) (grant : Grant)
    → form_grant (Ok form) ws ≡ Some grant
    → given_by form c ws ≡ givens.Grant grant
grants_form forms.Order c ws grant e = absurd (cc)
grants_form forms.Limit c ws grant e = absurd (cc)
grants_form forms.Cpus c ws grant e = absurd (cc)
grants_form forms.Pool c ws grant e = absurd (cc)
grants_form (forms.Grant kind) c ws grant e = grant_ok grant (grant_named kind ws) e
grants_form forms.Entry c ws grant e = absurd (cc)
grants_form forms.Window c ws grant e = absurd (cc)
grants_form forms.Begin c ws grant e = absurd (cc)
grants_form (forms.Run verb) c ws grant e = absurd (cc)
grants_form forms.Dump c ws grant e = absurd (cc)

grants_if :
    (said : Result Form Why) (c : Configuration) (ws : List (List ℕ)) (grant : Grant)
    → form_grant said ws ≡ Some grant
    → given_if said c ws ≡ givens.Grant grant
grants_if (Ok form) c ws grant e = grants_form form c ws grant e
grants_if (Err why) c ws grant e = absurd (cc)

grantless :
    (ws : List (List ℕ)) (grant : Grant) → is_remark ws ≡ true → line_grant ws ≡ Some grant → ⊥
grantless ws grant remark e =
    let none : line_grant ws ≡ None = ap (λ said. form_grant said ws) (formless ws remark) in
    cc

names_given :
    (c : Configuration) (ws : List (List ℕ)) (grant : Grant)
    → line_grant ws ≡ Some grant
    → given_of c ws ≡ givens.Grant grant
names_given c ws grant e = by (cases_Bool (is_remark ws)) where
  by : (is_remark ws ≡ true) ⊎ (is_remark ws ≡ false) → given_of c ws ≡ givens.Grant grant
  by (inl remark) = absurd (grantless ws grant remark e)
  by (inr words) = rw words (grants_if (form_of ws) c ws grant e)

strange_given :
    (r s : SetReading) (number : ℕ) (old new : Reading) (grant : Grant)
    → with_given (counted r) number old new (givens.Grant grant) ≡ Ok s
    → meets_stranger r number grant ≡ true
    → ⊥
unfolding with_given
strange_given r s number old new grant e met =
    let passed = behind_guard (not (meets_stranger r number grant)) whys.Overlap _ s e in
    both_ways _ (not-true _ passed.holds) met

never_strange :
    (r s : SetReading) (ws : List (List ℕ)) (number : ℕ) (grant : Grant)
    → Takes r ws s
    → is_number number (first_number ws) ≡ true
    → line_grant (own_words ws) ≡ Some grant
    → meets_stranger r number grant ≡ true
    → ⊥
never_strange r s ws number grant (takes_remark remark same) mine names met =
    none_named number (first_number ws) (remark_numberless ws remark) mine
never_strange r s ws number grant (takes_shared pool words shared own first named same) mine names
    met =
    none_named number (first_number ws) (shared_numberless ws shared) mine
never_strange r s ws number grant (takes_member other new below words plain named own quiet read e)
    mine names met =
    let same : other ≡ number = same_number number other (first_number ws) named mine in
    let gives = names_given (reading_of r other).config (own_words ws) grant names in
    strange_given r s other (reading_of r other) new grant
    (ap (with_given (counted r) other (reading_of r other) new) (sym gives) ∙ e)
    (ap (λ n. meets_stranger r n grant) same ∙ met)

-- A `begin` gives an order.
record IsBegin (given : Given) : Type 0 where
  order : ℕ
  is : given ≡ givens.Begin order

begin_is : (given : Given) → gives_begin given ≡ true → IsBegin given
begin_is givens.Remark e = absurd (false≢true e)
begin_is givens.Setting e = absurd (false≢true e)
begin_is (givens.Grant grant) e = absurd (false≢true e)
begin_is (givens.Begin order) e = record { order = order; is = refl }
begin_is givens.Run e = absurd (false≢true e)

full_given :
    (r s : SetReading) (number order : ℕ) (old new : Reading)
    → with_given (counted r) number old new (givens.Begin order) ≡ Ok s
    → lowest_place r.tables order ≡ None
    → ⊥
unfolding with_given
full_given r s number order old new e none =
    let passed = behind_guard (is_some (lowest_place r.tables order)) whys.Small _ s e in
    both_ways _ (ap is_some none) passed.holds

never_full :
    (r s : SetReading) (ws : List (List ℕ)) (number : ℕ)
    → Takes r ws s
    → is_begin (form_of (own_words ws)) ≡ true
    → first_number ws ≡ Some number
    → (number < 8 → lowest_place r.tables (reading_of r number).config.order ≡ None)
    → ⊥
never_full r s ws number (takes_remark remark same) begins mine none =
    let no : first_number ws ≡ None = remark_numberless ws remark in
    cc
never_full r s ws number (takes_shared pool words shared own first named same) begins mine none =
    let no : first_number ws ≡ None = shared_numberless ws shared in
    cc
never_full r s ws number (takes_member other new below words plain named own quiet read e) begins
    mine none =
    let same : other ≡ number = cc in
    let begin = begin_is (given_of (reading_of r other).config (own_words ws))
    (begin_given (reading_of r other).config (own_words ws) ∙ begins) in
    let opened : HasOpened begin.order (retaken (counted r) other) new =
    (subst (λ given. HasMoved given (retaken (counted r) other) new) begin.is
    (own_moves (retaken (counted r) other) new (own_words ws) own read)).moves in
    let here : lowest_place r.tables (reading_of r other).config.order ≡ None = ap
    (λ n. lowest_place r.tables (reading_of r n).config.order) same ∙ none
    (subst (λ n. n < 8) same below) in
    full_given r s other begin.order (reading_of r other) new
    (ap (with_given (counted r) other (reading_of r other) new) (sym begin.is) ∙ e)
    (ap (lowest_place r.tables) opened.order ∙ here)

-- ---- a line
taken_never :
    (before : List (List ℕ)) (r s : SetReading) (line : List ℕ) (why : Why)
    → IsFollowed before r
    → IsTakenLine r line s
    → IsAgainstSet before line why
    → ⊥
taken_never before r s line why is taken (past many) =
    let few : r.taken < most_lines = taken.few in
    let size : r.taken ≡ length before = is.taken in
    omega (arith, few, size, many)
taken_never before r s line why is taken (unprintable other) = both_ways _ other taken.text
taken_never before r s line why is taken (whole words of) =
    never_whole r s (words_in line) taken.takes words of
taken_never before r s line why is taken (unnamed words plain none) =
    never_unnamed r s (words_in line) taken.takes words plain none
taken_never before r s line why is taken (late shared touched) =
    never_late r s (words_in line) taken.takes shared (sym is.first ∙ touched)
taken_never before r s line why is taken (poolless first shared refused) =
    never_poolless r s (words_in line) first taken.takes shared refused
taken_never before r s line why is taken (early number mine setting later) =
    never_early r s (words_in line) number taken.takes mine setting (is.turned ∙ later)
taken_never before r s line why is taken
    (strange number other grant theirs mine names below apart has meets) =
    never_strange r s (words_in line) number grant taken.takes mine names
    (stranger_met before r number grant is
    (record {
      other = other;
      theirs = theirs;
      below = below;
      apart = apart;
      has = has;
      meets = meets;
    }))
taken_never before r s line why is taken (full number mine none) =
    let parts = if_some (is_begin (own_form line)) (first_number (words_in line)) number mine in
    never_full r s (words_in line) number taken.takes parts.0 parts.1
    (λ below. sym (place_is before r number is below) ∙ none)

pub never_accepted :
    (before : List (List ℕ)) (r s : SetReading) (line : List ℕ) (why : Why)
    → IsFollowed before r
    → IsAgainstSet before line why
    → after_set_line r line ≡ Ok s
    → ⊥
never_accepted before r s line why is against e =
    taken_never before r s line why is (set_line_taken r s line e) against
