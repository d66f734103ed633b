-- What a line of a partition does to the reading of its lines.
use Rattle.std.specs.Prelude.{codes}
use Rattle.std.specs.Str.{bytes_eq}
use Rattle.std.proofs.Common.{◌≡◌, ◌∙◌, ℕ, ◌+◌, Bool, true, false, List, [], ◌∷◌, length, Option, Some, None, Result, Ok, Err, refl, ap, sym, subst, if◌then◌else◌, leb, eqb}
use Rattle.std.proofs.lemmas.Bool.{false≢true, or_parts}
use Rattle.std.proofs.lemmas.List.{length_push}
use Rattle.std.proofs.lemmas.Option.{none-some}
use Rattle.frame_grants.specs.declared.error.GrantError.{GrantError}
use Rattle.frame_grants.specs.declared.grant.Grant.{Grant}
use Rattle.frame_grants.specs.declared.grant.Kind.{Kind}
use Rattle.frame_grants.specs.declared.grant.Kind.TheVariants.{Ram, Io}
use Rattle.frame_grants.specs.Grants.{add_refusal, with_grant}
use Rattle.trace_line.specs.declared.act.Act.{Act}
use Rattle.trace_read.specs.declared.forms.Form.{Form}
use Rattle.trace_read.specs.declared.forms.Form.TheVariants as forms
use Rattle.trace_read.specs.declared.given.Given.{Given}
use Rattle.trace_read.specs.declared.given.Given.TheVariants as givens
use Rattle.trace_read.specs.declared.stage.Stage.{Stage}
use Rattle.trace_read.specs.declared.stage.Stage.TheVariants as stages
use Rattle.trace_read.specs.declared.why.Why.{Why}
use Rattle.trace_read.specs.declared.why.Why.TheVariants as whys
use Rattle.trace_read.specs.Acts.{read_act, dump_act}
use Rattle.trace_read.specs.Configuration.{Configuration, greatest_trace_order, most_processors}
use Rattle.trace_read.specs.Counts.{may_add}
use Rattle.trace_read.specs.Forms.{form_named, form_of, run_form, begins_with_digit, verb_of}
use Rattle.trace_read.specs.Givens.{is_setting_form, given_by, given_if, given_of, given_grant}
use Rattle.trace_read.specs.Grammar.{Reading, set_to, after_act, after_form, after_words, after_text}
use Rattle.trace_read.specs.Places.{is_running, comes_at}
use Rattle.trace_read.specs.Settings.{number_within, with_order, with_limit, with_cpus, grant_named, with_granted, with_checked_grant, with_begin}
use Rattle.trace_read.specs.TextLines.{is_remark}
use Rattle.trace_read.specs.Whys.{guard, required}
use Rattle.lpar_set.specs.SetGrammar.{is_of_the_whole}
use Rattle.lpar_set.proofs.TakenSteps.{same_ok, never_ok, steps_taken, guard_taken, required_taken}
use Rattle.hpte_fields.specs.TableSize.{least_order}
use Rattle.lpar_set.proofs.LineMoves.{HasRun, HasMoved}

-- ---- configuration lines
-- A setting leaves the grants, the entries and the windows.
record Leaves (c d : Configuration) : Type 0 where
  granted : d.granted ≡ c.granted
  entries : d.entries ≡ c.entries
  windows : d.windows ≡ c.windows

order_leaves : (c d : Configuration) (ws : List (List ℕ)) → with_order c ws ≡ Ok d → Leaves c d
unfolding with_order
order_leaves c d ws e =
    let t = steps_taken (number_within ws least_order greatest_trace_order) _ d e in
    subst (Leaves c) (same_ok _ _ _ refl t.rest)
    (record { granted = refl; entries = refl; windows = refl })

limit_leaves : (c d : Configuration) (ws : List (List ℕ)) → with_limit c ws ≡ Ok d → Leaves c d
unfolding with_limit
limit_leaves c d ws e =
    let t = steps_taken (number_within ws c.order greatest_trace_order) _ d e in
    subst (Leaves c) (same_ok _ _ _ refl t.rest)
    (record { granted = refl; entries = refl; windows = refl })

cpus_leave : (c d : Configuration) (ws : List (List ℕ)) → with_cpus c ws ≡ Ok d → Leaves c d
unfolding with_cpus
cpus_leave c d ws e =
    let t = steps_taken (number_within ws 1 most_processors) _ d e in
    subst (Leaves c) (same_ok _ _ _ refl t.rest)
    (record { granted = refl; entries = refl; windows = refl })

begin_leaves : (c d : Configuration) (ws : List (List ℕ)) → with_begin c ws ≡ Ok d → d ≡ c
unfolding with_begin
begin_leaves c d ws e =
    let counted = steps_taken (guard (eqb (length ws) 1) whys.Count) _ d e in
    let room = steps_taken (guard (leb c.order c.granted.pool_order) whys.Small) _ d counted.rest in
    sym (same_ok _ _ _ refl room.rest)

-- The grant that a line names is the one that it adds.
record Adds (c d : Configuration) (kind : Kind) (ws : List (List ℕ)) : Type 0 where
  grant : Grant
  named : grant_named kind ws ≡ Ok grant
  added : d ≡ record c { granted = with_grant c.granted grant }

checked_adds :
    (c d : Configuration) (grant : Grant) (o : Option GrantError)
    → with_checked_grant c grant o ≡ Ok d
    → d ≡ record c { granted = with_grant c.granted grant }
checked_adds c d grant None e = sym (same_ok _ _ _ refl e)
checked_adds c d grant (Some error) e = absurd (never_ok _ d e)

grant_adds :
    (c d : Configuration) (kind : Kind) (ws : List (List ℕ))
    → with_granted c kind ws ≡ Ok d
    → Adds c d kind ws
unfolding with_granted
grant_adds c d kind ws e =
    let t = steps_taken (grant_named kind ws) _ d e in
    record {
      grant = t.value;
      named = t.first;
      added = checked_adds c d t.value (add_refusal c.granted t.value) t.rest;
    }

-- ---- where they may stand
not_running :
    (form : Form) (stage : Stage)
    → is_setting_form form ≡ true
    → comes_at form stage ≡ true
    → is_running stage ≡ false
not_running form stages.Order is here = refl
not_running form stages.Limit is here = refl
not_running form stages.Cpus is here = refl
not_running form stages.Pool is here = refl
not_running form stages.Grants is here = refl
not_running form stages.Entries is here = refl
not_running form stages.Windows is here = refl
not_running forms.Order stages.Lines is here = absurd (false≢true here)
not_running forms.Limit stages.Lines is here = absurd (false≢true here)
not_running forms.Cpus stages.Lines is here = absurd (false≢true here)
not_running forms.Pool stages.Lines is here = absurd (false≢true here)
not_running (forms.Grant kind) stages.Lines is here = absurd (false≢true here)
not_running forms.Entry stages.Lines is here = absurd (false≢true here)
not_running forms.Window stages.Lines is here = absurd (false≢true here)
not_running forms.Begin stages.Lines is here = absurd (false≢true here)
not_running (forms.Run verb) stages.Lines is here = absurd (false≢true is)
not_running forms.Dump stages.Lines is here = absurd (false≢true is)

-- ---- lines of each form
-- No form of the whole: a pool, an entry or a window.
abbrev is_own : Form → Bool
is_own forms.Pool = false
is_own forms.Entry = false
is_own forms.Window = false
is_own other = true

-- What a configuration line says is what the reading has after it.
set_moves :
    (given : Given) (r : Reading) (stage : Stage) (said : Result Configuration Why) (s : Reading)
    →
    ((c : Configuration)
    → said ≡ Ok c
    → HasMoved given r (record r { stage = stage; config = c }))
    → set_to r stage said ≡ Ok s
    → HasMoved given r s
set_moves given r stage said s each e =
    let t = steps_taken said _ s e in
    subst (HasMoved given r) (same_ok _ _ _ refl t.rest) (each t.value t.first)

setting_moves :
    (r : Reading) (stage : Stage) (said : Result Configuration Why) (s : Reading)
    → is_running r.stage ≡ false
    → is_running stage ≡ false
    → ((c : Configuration) → said ≡ Ok c → Leaves r.config c)
    → set_to r stage said ≡ Ok s
    → HasMoved givens.Setting r s
setting_moves r stage said s before after each e =
    set_moves givens.Setting r stage said s
    (λ c is.
    let leaves = each c is in
    record {
      taken = refl;
      base = ap (λ g. g.pool_base) leaves.granted;
      order = ap (λ g. g.pool_order) leaves.granted;
      entries = leaves.entries;
      windows = leaves.windows;
      moves = record { granted = leaves.granted; lines = refl; before = before; after = after };
    }) e

grant_moves :
    (r : Reading) (kind : Kind) (ws : List (List ℕ)) (s : Reading)
    → is_running r.stage ≡ false
    → set_to r stages.Grants (with_granted r.config kind ws) ≡ Ok s
    → HasMoved (given_grant (grant_named kind ws)) r s
unfolding with_grant
grant_moves r kind ws s before e =
    set_moves (given_grant (grant_named kind ws)) r stages.Grants (with_granted r.config kind ws) s
    (λ c is.
    let adds = grant_adds r.config c kind ws is in
    rw adds.named (record {
      taken = refl;
      base = ap (λ (d : Configuration). d.granted.pool_base) adds.added;
      order = ap (λ (d : Configuration). d.granted.pool_order) adds.added;
      entries = ap (λ (d : Configuration). d.entries) adds.added;
      windows = ap (λ (d : Configuration). d.windows) adds.added;
      moves =
          record {
            granted = ap (λ (d : Configuration). d.granted) adds.added;
            lines = refl;
            before = before;
            after = refl;
          };
    })) e

begin_moves :
    (r : Reading) (ws : List (List ℕ)) (s : Reading)
    → is_running r.stage ≡ false
    → set_to r stages.Lines (with_begin r.config ws) ≡ Ok s
    → HasMoved (givens.Begin r.config.order) r s
begin_moves r ws s before e =
    set_moves (givens.Begin r.config.order) r stages.Lines (with_begin r.config ws) s
    (λ c is.
    let same = begin_leaves r.config c ws is in
    record {
      taken = refl;
      base = ap (λ (d : Configuration). d.granted.pool_base) same;
      order = ap (λ (d : Configuration). d.granted.pool_order) same;
      entries = ap (λ (d : Configuration). d.entries) same;
      windows = ap (λ (d : Configuration). d.windows) same;
      moves = record { order = refl; config = same; lines = refl; before = before; after = refl };
    }) e

act_moves :
    (r : Reading) (said : Result (ℕ × Act) Why) (s : Reading)
    → is_running r.stage ≡ true
    → after_act r said ≡ Ok s
    → HasMoved givens.Run r s
unfolding after_act
act_moves r said s running e =
    let x = steps_taken said _ s e in
    let room = steps_taken (may_add r.lines x.value.1) _ s x.rest in
    subst (HasMoved givens.Run r) (same_ok _ _ _ refl room.rest)
    (record {
      taken = refl;
      base = refl;
      order = refl;
      entries = refl;
      windows = refl;
      moves =
          record {
            config = refl;
            line = record { number = r.taken; cpu = x.value.0; act = x.value.1 };
            number = refl;
            lines = refl;
            before = running;
            after = running;
          };
    })

form_moves :
    (form : Form) (r : Reading) (ws : List (List ℕ)) (s : Reading)
    → is_own form ≡ true
    → comes_at form r.stage ≡ true
    → after_form form r ws ≡ Ok s
    → HasMoved (given_by form r.config ws) r s
unfolding after_form
form_moves forms.Order r ws s own here e =
    setting_moves r stages.Limit (with_order r.config ws) s
    (not_running forms.Order r.stage refl here) refl (λ c is. order_leaves r.config c ws is) e
form_moves forms.Limit r ws s own here e =
    setting_moves r stages.Cpus (with_limit r.config ws) s
    (not_running forms.Limit r.stage refl here) refl (λ c is. limit_leaves r.config c ws is) e
form_moves forms.Cpus r ws s own here e =
    setting_moves r stages.Pool (with_cpus r.config ws) s (not_running forms.Cpus r.stage refl here)
    refl (λ c is. cpus_leave r.config c ws is) e
form_moves forms.Pool r ws s own here e = absurd (false≢true own)
form_moves (forms.Grant kind) r ws s own here e =
    grant_moves r kind ws s (not_running (forms.Grant kind) r.stage refl here) e
form_moves forms.Entry r ws s own here e = absurd (false≢true own)
form_moves forms.Window r ws s own here e = absurd (false≢true own)
form_moves forms.Begin r ws s own here e =
    begin_moves r ws s (not_running forms.Begin r.stage refl here) e
form_moves (forms.Run verb) r ws s own here e =
    act_moves r (read_act r.config.cpus verb ws) s here e
form_moves forms.Dump r ws s own here e = act_moves r (dump_act ws) s here e

-- ---- which forms there are
-- The form is none of the whole, if there is one.
record AreOwn (o : Option Form) : Type 0 where
  each : (form : Form) → o ≡ Some form → is_own form ≡ true

own_some : (form : Form) → is_own form ≡ true → AreOwn (Some form)
own_some form own =
    record { each = λ other e. subst (λ f. is_own f ≡ true) (some_same form other e) own } where
      some_same : (a b : Form) → Some a ≡ Some b → a ≡ b
      some_same a b e = cc

own_none : AreOwn None
own_none = record { each = λ other e. absurd (none-some other e) }

own_if :
    (test : Bool) (form : Form) (o : Option Form)
    → (test ≡ true → is_own form ≡ true)
    → AreOwn o
    → AreOwn (if test then Some form else o)
own_if true form o here rest = own_some form (here refl)
own_if false form o here rest = rest

named_own :
    (w : List ℕ)
    → bytes_eq (codes "pool") w ≡ false
    → bytes_eq (codes "window") w ≡ false
    → bytes_eq (codes "entry") w ≡ false
    → AreOwn (form_named w)
unfolding form_named
named_own w no_pool no_window no_entry =
    own_if (bytes_eq (codes "order") w) forms.Order _ (λ is. refl)
    (own_if (bytes_eq (codes "limit") w) forms.Limit _ (λ is. refl)
    (own_if (bytes_eq (codes "cpus") w) forms.Cpus _ (λ is. refl)
    (own_if (bytes_eq (codes "pool") w) forms.Pool _ (λ is. sym no_pool ∙ is)
    (own_if (bytes_eq (codes "ram") w) (forms.Grant Ram) _ (λ is. refl)
    (own_if (bytes_eq (codes "io") w) (forms.Grant Io) _ (λ is. refl)
    (own_if (bytes_eq (codes "entry") w) forms.Entry _ (λ is. sym no_entry ∙ is)
    (own_if (bytes_eq (codes "window") w) forms.Window _ (λ is. sym no_window ∙ is)
    (own_if (bytes_eq (codes "begin") w) forms.Begin _ (λ is. refl)
    (own_if (bytes_eq (codes "dump") w) forms.Dump _ (λ is. refl) own_none)))))))))

run_own : (ws : List (List ℕ)) (form : Form) → run_form ws ≡ Ok form → is_own form ≡ true
unfolding run_form
run_own [] form e = subst (λ f. is_own f ≡ true) (same_ok _ _ _ refl e) refl
run_own (w ∷ ws) form e =
    let verb = steps_taken (required (verb_of w) whys.Word) _ form e in
    subst (λ f. is_own f ≡ true) (same_ok _ _ _ refl verb.rest) refl

form_by :
    (digit : Bool) (w : List ℕ) (ws : List (List ℕ)) (form : Form)
    → AreOwn (form_named w)
    → (if digit then run_form ws else required (form_named w) whys.Word) ≡ Ok form
    → is_own form ≡ true
form_by true w ws form own e = run_own ws form e
form_by false w ws form own e = own.each form (required_taken (form_named w) whys.Word form e)

form_own :
    (ws : List (List ℕ)) (form : Form)
    → is_of_the_whole ws ≡ false
    → form_of ws ≡ Ok form
    → is_own form ≡ true
unfolding form_of
form_own [] form own e = absurd (never_ok _ form e)
form_own (w ∷ ws) form own e =
    let pool = or_parts (bytes_eq (codes "pool") w) _ own in
    let others = or_parts (bytes_eq (codes "window") w) (bytes_eq (codes "entry") w) pool.1 in
    form_by (begins_with_digit w) w ws form (named_own w pool.0 others.0 others.1) e

-- ---- lines
-- The form of a line that was accepted.
record AreFormed (old new : Reading) (ws : List (List ℕ)) : Type 0 where
  form : Form
  is : form_of ws ≡ Ok form
  here : comes_at form old.stage ≡ true
  rest : after_form form old ws ≡ Ok new

words_formed :
    (old new : Reading) (ws : List (List ℕ)) → after_words old ws ≡ Ok new → AreFormed old new ws
unfolding after_words
words_formed old new ws e =
    let form = steps_taken (form_of ws) _ new e in
    let here = steps_taken (guard (comes_at form.value old.stage) whys.Place) _ new form.rest in
    record {
      form = form.value;
      is = form.first;
      here = guard_taken _ whys.Place here.value here.first;
      rest = here.rest;
    }

words_move :
    (old new : Reading) (ws : List (List ℕ))
    → is_of_the_whole ws ≡ false
    → after_words old ws ≡ Ok new
    → HasMoved (given_if (form_of ws) old.config ws) old new
words_move old new ws own e =
    let formed = words_formed old new ws e in
    rw formed.is
    (form_moves formed.form old ws new (form_own ws formed.form own formed.is) formed.here
    formed.rest)

remark_moves : (old new : Reading) → old ≡ new → HasMoved givens.Remark old new
remark_moves old new same =
    subst (HasMoved givens.Remark old) same
    (record {
      taken = refl;
      base = refl;
      order = refl;
      entries = refl;
      windows = refl;
      moves = refl;
    })

text_by :
    (remark : Bool) (old new : Reading) (ws : List (List ℕ))
    → is_of_the_whole ws ≡ false
    → (if remark then Ok old else after_words old ws) ≡ Ok new
    → HasMoved (if remark then givens.Remark else given_if (form_of ws) old.config ws) old new
text_by true old new ws own e = remark_moves old new (same_ok _ _ _ refl e)
text_by false old new ws own e = words_move old new ws own e

-- A line of a partition that is accepted does what it gives.
pub own_moves :
    (old new : Reading) (ws : List (List ℕ))
    → is_of_the_whole ws ≡ false
    → after_text old ws ≡ Ok new
    → HasMoved (given_of old.config ws) old new
unfolding after_text
own_moves old new ws own e = text_by (is_remark ws) old new ws own e

-- ---- run lines among them

-- What is given is a run line.
abbrev pub is_run : Given → Bool
is_run givens.Run = true
is_run other = false

pub granted_no_run : (said : Result Grant Why) → is_run (given_grant said) ≡ false
granted_no_run (Ok grant) = refl
granted_no_run (Err why) = refl

-- A run line is one more.
pub run_counts : (old new : Reading) → HasRun old new → length new.lines ≡ length old.lines + 1
run_counts old new run = ap length run.lines ∙ length_push old.lines run.line
