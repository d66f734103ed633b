-- What the steps of a line are refused for, those of grants left out.
use Rattle.std.proofs.Common.{◌≡◌, ℕ, ◌+◌, Bool, true, false, List, [], ◌∷◌, length, Option, Some, None, Result, Ok, Err, refl, if◌then◌else◌, ltb, leb, eqb, ◌&&◌, not}
use Rattle.std.specs.Prelude.{codes, slice_index_or}
use Rattle.std.specs.Str.{bytes_eq}
use Rattle.bus_window.specs.Windows.{window_of_parts}
use Rattle.frame_grants.specs.declared.grant.Kind.{Kind}
use Rattle.hpte_fields.specs.TableSize.{entry_count}
use Rattle.table_image.specs.Layouts.{entry_words}
use Rattle.trace_line.specs.declared.act.Act.{Act}
use Rattle.trace_line.specs.declared.line.TraceLine.{TraceLine}
use Rattle.trace_read.specs.declared.verbs.Verb.{Verb}
use Rattle.trace_read.specs.declared.verbs.Verb.TheVariants as verbs
use Rattle.trace_read.specs.declared.why.Why.{Why}
use Rattle.trace_read.specs.declared.why.Why.TheVariants as whys
use Rattle.trace_read.specs.Acts.{number_at, arguments_from, mode_at, act_by, read_act, dump_act}
use Rattle.trace_read.specs.Configuration.{Configuration}
use Rattle.trace_line.specs.Lines.{is_quiet, is_dump, count_acts}
use Rattle.trace_read.specs.Counts.{may_add}
use Rattle.trace_read.specs.Entries.{layout_named, is_above, is_stored, entry_named, with_entry}
use Rattle.trace_read.specs.Forms.{verb_of, form_named, run_form, form_of, begins_with_digit}
use Rattle.trace_read.specs.Numbers.{number_of}
use Rattle.trace_read.specs.Settings.{number_within, with_order, with_limit, with_cpus, pool_named, with_pool, grant_named, with_begin}
use Rattle.trace_read.specs.Whys.{◌>>=◌, guard, required}
use Rattle.trace_read.specs.Windows.{has_number, window_named, with_window}

-- A grant meets the pool, or a partition is at fault.
abbrev pub is_apart : Why → Bool
is_apart whys.Tables = true
is_apart whys.Lpar = true
is_apart other = false

-- If it is refused, then for another reason.
pub record IsPlain {A : Type 0} (said : Result A Why) : Type 0 where
  pub reasons : (why : Why) → said ≡ Err why → is_apart why ≡ false

ok_refused :
    {A : Type 0} (said : Result A Why) (x : A) (why : Why)
    → said ≡ Ok x
    → said ≡ Err why
    → is_apart why ≡ false
ok_refused said x why is e = cc

pub plain_ok : {A : Type 0} (x : A) → IsPlain (Ok x)
plain_ok x = record { reasons = λ why e. ok_refused (Ok x) x why refl e }

plain_err :
    {A : Type 0} (said : Result A Why) (why : Why)
    → said ≡ Err why
    → is_apart why ≡ false
    → IsPlain said
plain_err said why is plain = record { reasons = λ other e. other_plain other e } where
  other_plain : (other : Why) → said ≡ Err other → is_apart other ≡ false
  other_plain other e =
      let one : why ≡ other = cc in
      rw one at plain

-- ---- steps
pub plain_steps :
    {A B : Type 0} (said : Result A Why) (f : A → Result B Why)
    → IsPlain said
    → ((x : A) → IsPlain (f x))
    → IsPlain (said >>= f)
plain_steps (Ok x) f first each = each x
plain_steps (Err why) f first each = plain_err _ why refl (first.reasons why refl)

pub plain_guard : (test : Bool) (why : Why) → is_apart why ≡ false → IsPlain (guard test why)
plain_guard true why plain = plain_ok tt
plain_guard false why plain = plain_err _ why refl plain

plain_required :
    {A : Type 0} (o : Option A) (why : Why) → is_apart why ≡ false → IsPlain (required o why)
plain_required (Some x) why plain = plain_ok x
plain_required None why plain = plain_err _ why refl plain

plain_if :
    {A : Type 0} (test : Bool) (a b : Result A Why)
    → IsPlain a
    → IsPlain b
    → IsPlain (if test then a else b)
plain_if true a b first second = first
plain_if false a b first second = second

-- ---- words
plain_number : (ws : List (List ℕ)) (i : ℕ) → IsPlain (number_at ws i)
unfolding number_at
plain_number ws i =
    plain_if (ltb i (length ws)) _ _
    (plain_required (number_of (slice_index_or ws i [])) whys.Number refl) (plain_ok 0)

plain_within : (ws : List (List ℕ)) (low high : ℕ) → IsPlain (number_within ws low high)
unfolding number_within
plain_within ws low high =
    plain_steps _ _ (plain_guard _ whys.Count refl)
    (λ counted. plain_steps _ _ (plain_number ws 1)
    (λ number. plain_steps _ _ (plain_guard _ whys.Range refl) (λ within. plain_ok _)))

plain_arguments : (ws : List (List ℕ)) (i : ℕ) → IsPlain (arguments_from ws i)
unfolding arguments_from
plain_arguments ws i =
    plain_steps _ _ (plain_number ws i)
    (λ a. plain_steps _ _ (plain_number ws (i + 1))
    (λ b. plain_steps _ _ (plain_number ws (i + 2))
    (λ c. plain_steps _ _ (plain_number ws (i + 3))
    (λ d. plain_steps _ _ (plain_number ws (i + 4))
    (λ e. plain_steps _ _ (plain_number ws (i + 5))
    (λ f. plain_steps _ _ (plain_number ws (i + 6))
    (λ g. plain_steps _ _ (plain_number ws (i + 7)) (λ h. plain_ok _))))))))

plain_mode : (ws : List (List ℕ)) (i : ℕ) → IsPlain (mode_at ws i)
unfolding mode_at
plain_mode ws i =
    plain_if (bytes_eq (codes "user") (slice_index_or ws i [])) _ _ (plain_ok true)
    (plain_if (bytes_eq (codes "priv") (slice_index_or ws i [])) _ _ (plain_ok false)
    (plain_err _ whys.Mode refl refl))

-- ---- the form
plain_run_form : (ws : List (List ℕ)) → IsPlain (run_form ws)
unfolding run_form
plain_run_form [] = plain_ok _
plain_run_form (w ∷ ws) =
    plain_steps _ _ (plain_required (verb_of w) whys.Word refl) (λ verb. plain_ok _)

pub plain_form : (ws : List (List ℕ)) → IsPlain (form_of ws)
unfolding form_of
plain_form [] = plain_err _ whys.Word refl refl
plain_form (w ∷ ws) =
    plain_if (begins_with_digit w) _ _ (plain_run_form ws)
    (plain_required (form_named w) whys.Word refl)

-- ---- configuration lines
pub plain_order : (c : Configuration) (ws : List (List ℕ)) → IsPlain (with_order c ws)
unfolding with_order
plain_order c ws = plain_steps _ _ (plain_within ws _ _) (λ order. plain_ok _)

pub plain_limit : (c : Configuration) (ws : List (List ℕ)) → IsPlain (with_limit c ws)
unfolding with_limit
plain_limit c ws = plain_steps _ _ (plain_within ws c.order _) (λ limit. plain_ok _)

pub plain_cpus : (c : Configuration) (ws : List (List ℕ)) → IsPlain (with_cpus c ws)
unfolding with_cpus
plain_cpus c ws = plain_steps _ _ (plain_within ws _ _) (λ cpus. plain_ok _)

plain_range : (ws : List (List ℕ)) → IsPlain (pool_named ws)
unfolding pool_named
plain_range ws =
    plain_steps _ _ (plain_guard _ whys.Count refl)
    (λ counted. plain_steps _ _ (plain_number ws 1)
    (λ base. plain_steps _ _ (plain_number ws 2)
    (λ order. plain_steps _ _ (plain_guard _ whys.Range refl) (λ within. plain_ok _))))

pub plain_pool : (c : Configuration) (ws : List (List ℕ)) → IsPlain (with_pool c ws)
unfolding with_pool
plain_pool c ws = plain_steps _ _ (plain_range ws) (λ pool. plain_ok _)

-- The grant that is named, before it is tried.
pub plain_grant : (kind : Kind) (ws : List (List ℕ)) → IsPlain (grant_named kind ws)
unfolding grant_named
plain_grant kind ws =
    plain_steps _ _ (plain_guard _ whys.Count refl)
    (λ counted. plain_steps _ _ (plain_number ws 1)
    (λ logical. plain_steps _ _ (plain_number ws 2)
    (λ machine. plain_steps _ _ (plain_number ws 3) (λ size. plain_ok _))))

plain_named : (c : Configuration) (ws : List (List ℕ)) → IsPlain (entry_named c ws)
unfolding entry_named
plain_named c ws =
    plain_steps _ _ (plain_guard (eqb (length ws) 4) whys.Count refl)
    (λ counted. plain_steps _ _ (plain_number ws 2)
    (λ index.
    plain_steps _ _ (plain_required (layout_named (slice_index_or ws 1 [])) whys.Entry refl)
    (λ layout. plain_steps _ _ (plain_guard (ltb index (entry_count c.order)) whys.Entry refl)
    (λ inside. plain_steps _ _ (plain_guard (is_above c.entries index) whys.Entry refl)
    (λ rises.
    plain_steps _ _ (plain_required (entry_words layout (slice_index_or ws 3 [])) whys.Entry refl)
    (λ words.
    plain_steps _ _ (plain_guard (is_stored c.granted.grants words) whys.Entry refl)
    (λ stored. plain_ok _)))))))

pub plain_entry : (c : Configuration) (ws : List (List ℕ)) → IsPlain (with_entry c ws)
unfolding with_entry
plain_entry c ws = plain_steps _ _ (plain_named c ws) (λ entry. plain_ok _)

plain_named_window : (c : Configuration) (ws : List (List ℕ)) → IsPlain (window_named c ws)
unfolding window_named
plain_named_window c ws =
    plain_steps _ _ (plain_guard (eqb (length ws) 4) whys.Count refl)
    (λ counted. plain_steps _ _ (plain_number ws 1)
    (λ liobn. plain_steps _ _ (plain_number ws 2)
    (λ base. plain_steps _ _ (plain_number ws 3)
    (λ pages. plain_steps _ _ (plain_required (window_of_parts liobn base pages) whys.Window refl)
    (λ window.
    plain_steps _ _ (plain_guard (not (has_number c.windows window.liobn)) whys.Window refl)
    (λ fresh.
    plain_steps _ _ (plain_guard (ltb (length c.windows) 4) whys.Window refl)
    (λ room. plain_ok _)))))))

pub plain_window : (c : Configuration) (ws : List (List ℕ)) → IsPlain (with_window c ws)
unfolding with_window
plain_window c ws = plain_steps _ _ (plain_named_window c ws) (λ window. plain_ok _)

pub plain_begin : (c : Configuration) (ws : List (List ℕ)) → IsPlain (with_begin c ws)
unfolding with_begin
plain_begin c ws =
    plain_steps _ _ (plain_guard (eqb (length ws) 1) whys.Count refl)
    (λ counted.
    plain_steps _ _ (plain_guard (leb c.order c.granted.pool_order) whys.Small refl)
    (λ room. plain_ok c))

-- ---- run lines
plain_act : (verb : Verb) (ws : List (List ℕ)) → IsPlain (act_by verb ws)
unfolding act_by
plain_act (verbs.Named hcall count) ws = plain_steps _ _ (plain_arguments ws 2) (λ args. plain_ok _)
plain_act verbs.Numbered ws =
    plain_steps _ _ (plain_number ws 2)
    (λ number. plain_steps _ _ (plain_arguments ws 3) (λ args. plain_ok _))
plain_act (verbs.Access want) ws =
    plain_steps _ _ (plain_number ws 2)
    (λ ea. plain_steps _ _ (plain_mode ws 3) (λ user. plain_ok _))
plain_act (verbs.Device write) ws =
    plain_steps _ _ (plain_number ws 2)
    (λ liobn. plain_steps _ _ (plain_number ws 3) (λ ioba. plain_ok _))
plain_act verbs.SlbMte ws =
    plain_steps _ _ (plain_number ws 2)
    (λ rb. plain_steps _ _ (plain_number ws 3) (λ rs. plain_ok _))
plain_act verbs.SlbClear ws = plain_ok _
plain_act (verbs.SetMask name) ws = plain_steps _ _ (plain_number ws 2) (λ value. plain_ok _)

pub plain_run :
    (cpus : ℕ) (verb : Option Verb) (ws : List (List ℕ)) → IsPlain (read_act cpus verb ws)
unfolding read_act
plain_run cpus verb ws =
    plain_steps _ _ (plain_required verb whys.Count refl)
    (λ named. plain_steps _ _ (plain_guard _ whys.Count refl)
    (λ counted. plain_steps _ _ (plain_number ws 0)
    (λ cpu. plain_steps _ _ (plain_act named ws)
    (λ act. plain_steps _ _ (plain_guard _ whys.Cpu refl) (λ there. plain_ok _)))))

pub plain_dump : (ws : List (List ℕ)) → IsPlain (dump_act ws)
unfolding dump_act
plain_dump ws = plain_steps _ _ (plain_guard _ whys.Count refl) (λ counted. plain_ok _)

pub plain_room : (lines : List TraceLine) (act : Act) → IsPlain (may_add lines act)
unfolding may_add
plain_room lines act =
    plain_steps _ _
    (plain_guard (not (is_dump act && leb 16 (count_acts is_dump lines))) whys.Dumps refl)
    (λ dumps.
    plain_guard (not (is_quiet act && leb 256 (count_acts is_quiet lines))) whys.Quiet refl)
