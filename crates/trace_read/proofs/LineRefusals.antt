-- What a line is refused for: the pool of page tables where it names a grant, and never a
-- partition.
use Rattle.std.proofs.Common.{◌≡◌, ◌∙◌, sym, ap, ℕ, ◌+◌, Bool, true, false, List, [], ◌∷◌, length, Option, Some, None, Result, Ok, Err, refl, if◌then◌else◌, ltb, not, ◌&&◌, ◌||◌}
use Rattle.std.proofs.lemmas.Bool.{false≢true}
use Rattle.std.specs.Prelude.{is_some}
use Rattle.std.specs.List.{list_all}
use Rattle.frame_grants.specs.declared.error.GrantError.{GrantError}
use Rattle.frame_grants.specs.declared.error.GrantError.TheVariants as grants
use Rattle.frame_grants.specs.declared.grant.Grant.{Grant}
use Rattle.frame_grants.specs.declared.grant.Kind.{Kind}
use Rattle.frame_grants.specs.Grants.{add_refusal}
use Rattle.trace_line.specs.declared.act.Act.{Act}
use Rattle.trace_read.specs.declared.forms.Form.{Form}
use Rattle.trace_read.specs.declared.forms.Form.TheVariants as forms
use Rattle.trace_read.specs.declared.stage.Stage.{Stage}
use Rattle.trace_read.specs.declared.stage.Stage.TheVariants as stages
use Rattle.trace_read.specs.declared.why.Why.{Why}
use Rattle.trace_read.specs.declared.why.Why.TheVariants as whys
use Rattle.trace_read.specs.Configuration.{Configuration}
use Rattle.trace_read.specs.Forms.{form_of}
use Rattle.trace_read.specs.Givens.{line_grant, form_grant, read_grant}
use Rattle.trace_read.specs.Grammar.{Reading, opening_reading, set_to, go_on, after_act, after_form, after_words, after_text, after_line, after_lines, trace_of, most_bytes}
use Rattle.trace_read.specs.Places.{comes_at, is_running}
use Rattle.trace_read.specs.RefusalLaws.{TablesNameAGrant, NoneIsRefusedForAPartition}
use Rattle.trace_read.specs.Settings.{grant_named, with_granted, with_checked_grant}
use Rattle.trace_read.specs.TextLines.{raw_lines, without_cr, is_printable, words_of, is_remark}
use Rattle.trace_read.specs.Trace.{AcceptedTrace}
use Rattle.trace_read.specs.Whys.{◌>>=◌, guard}
use Rattle.trace_read.proofs.PlainRefusals.{is_apart, IsPlain, plain_ok, plain_steps, plain_guard, plain_form, plain_order, plain_limit, plain_cpus, plain_pool, plain_grant, plain_entry, plain_window, plain_begin, plain_run, plain_dump, plain_room}
use Rattle.trace_line.specs.Lines.{most_lines}

-- ---- reasons that fit a line
-- A grant meets the pool.
abbrev is_tables : Why → Bool
is_tables whys.Tables = true
is_tables other = false

-- The reason is none of a partition, and the pool only where a grant is named.
abbrev fits : Bool → Why → Bool
fits named why = not (is_apart why) || (is_tables why && named)

-- If the line is refused, then for a reason that fits.
record IsFitting {A : Type 0} (named : Bool) (said : Result A Why) : Type 0 where
  reasons : (why : Why) → said ≡ Err why → fits named why ≡ true

plain_fits : (named : Bool) (why : Why) → is_apart why ≡ false → fits named why ≡ true
plain_fits named why plain = rw plain refl

plain_fitting :
    {A : Type 0} (named : Bool) (said : Result A Why) → IsPlain said → IsFitting named said
plain_fitting named said plain =
    record { reasons = λ why e. plain_fits named why (plain.reasons why e) }

refused_fitting :
    {A : Type 0} (named : Bool) (said : Result A Why) (why : Why)
    → said ≡ Err why
    → fits named why ≡ true
    → IsFitting named said
refused_fitting named said why is here = record { reasons = λ other e. other_fits other e } where
  other_fits : (other : Why) → said ≡ Err other → fits named other ≡ true
  other_fits other e =
      let one : why ≡ other = cc in
      rw one at here

fitting_steps : {A B : Type 0} (named : Bool) (said : Result A Why) (f : A → Result B Why)
    → IsFitting named said → ((x : A) → IsFitting named (f x)) → IsFitting named (said >>= f)
fitting_steps named (Ok x) f first each = each x
fitting_steps named (Err why) f first each =
    refused_fitting named _ why refl (first.reasons why refl)

-- ---- lines of each form
grant_fitting :
    (c : Configuration) (grant : Grant) (o : Option GrantError)
    → IsFitting true (with_checked_grant c grant o)
grant_fitting c grant None = plain_fitting true _ (plain_ok _)
grant_fitting c grant (Some grants.Empty) = refused_fitting true _ whys.Empty refl refl
grant_fitting c grant (Some grants.Unaligned) = refused_fitting true _ whys.Unaligned refl refl
grant_fitting c grant (Some grants.Past) = refused_fitting true _ whys.Past refl refl
grant_fitting c grant (Some grants.TooMany) = refused_fitting true _ whys.Many refl refl
grant_fitting c grant (Some grants.Overlap) = refused_fitting true _ whys.Overlap refl refl
grant_fitting c grant (Some grants.PoolOverlap) = refused_fitting true _ whys.Tables refl refl

granted_by : (c : Configuration) (said : Result Grant Why) → IsPlain said
    → IsFitting (is_some (read_grant said))
    (said >>= (λ grant. with_checked_grant c grant (add_refusal c.granted grant)))
granted_by c (Ok grant) plain = grant_fitting c grant (add_refusal c.granted grant)
granted_by c (Err why) plain =
    refused_fitting false _ why refl (plain_fits false why (plain.reasons why refl))

granted_fitting : (c : Configuration) (kind : Kind) (ws : List (List ℕ))
    → IsFitting (is_some (read_grant (grant_named kind ws))) (with_granted c kind ws)
unfolding with_granted
granted_fitting c kind ws = granted_by c (grant_named kind ws) (plain_grant kind ws)

set_plain :
    (r : Reading) (stage : Stage) (said : Result Configuration Why)
    → IsPlain said
    → IsPlain (set_to r stage said)
set_plain r stage said plain = plain_steps said _ plain (λ config. plain_ok _)

act_plain : (r : Reading) (said : Result (ℕ × Act) Why) → IsPlain said → IsPlain (after_act r said)
unfolding after_act
act_plain r said plain =
    plain_steps said _ plain (λ x. plain_steps _ _ (plain_room r.lines x.1) (λ room. plain_ok _))

form_fitting :
    (form : Form) (r : Reading) (ws : List (List ℕ))
    → IsFitting (is_some (form_grant (Ok form) ws)) (after_form form r ws)
unfolding after_form
form_fitting forms.Order r ws =
    plain_fitting false _ (set_plain r stages.Limit _ (plain_order r.config ws))
form_fitting forms.Limit r ws =
    plain_fitting false _ (set_plain r stages.Cpus _ (plain_limit r.config ws))
form_fitting forms.Cpus r ws =
    plain_fitting false _ (set_plain r stages.Pool _ (plain_cpus r.config ws))
form_fitting forms.Pool r ws =
    plain_fitting false _ (set_plain r stages.Grants _ (plain_pool r.config ws))
form_fitting (forms.Grant kind) r ws =
    fitting_steps _ (with_granted r.config kind ws) _ (granted_fitting r.config kind ws)
    (λ config. plain_fitting _ _ (plain_ok _))
form_fitting forms.Entry r ws =
    plain_fitting false _ (set_plain r stages.Entries _ (plain_entry r.config ws))
form_fitting forms.Window r ws =
    plain_fitting false _ (set_plain r stages.Windows _ (plain_window r.config ws))
form_fitting forms.Begin r ws =
    plain_fitting false _ (set_plain r stages.Lines _ (plain_begin r.config ws))
form_fitting (forms.Run verb) r ws =
    plain_fitting false _ (act_plain r _ (plain_run r.config.cpus verb ws))
form_fitting forms.Dump r ws = plain_fitting false _ (act_plain r _ (plain_dump ws))

-- ---- lines
words_by : (said : Result Form Why) (r : Reading) (ws : List (List ℕ)) → IsPlain said
    → IsFitting (is_some (form_grant said ws))
    (said >>=
    (λ form. guard (comes_at form r.stage) whys.Place >>= (λ here. after_form form r ws)))
words_by (Ok form) r ws plain =
    fitting_steps _ (guard (comes_at form r.stage) whys.Place) _
    (plain_fitting _ _ (plain_guard (comes_at form r.stage) whys.Place refl))
    (λ here. form_fitting form r ws)
words_by (Err why) r ws plain =
    refused_fitting false _ why refl (plain_fits false why (plain.reasons why refl))

words_fitting :
    (r : Reading) (ws : List (List ℕ)) → IsFitting (is_some (line_grant ws)) (after_words r ws)
unfolding after_words
words_fitting r ws = words_by (form_of ws) r ws (plain_form ws)

text_by :
    (remark : Bool) (r : Reading) (ws : List (List ℕ))
    → IsFitting (is_some (line_grant ws)) (if remark then Ok r else after_words r ws)
text_by true r ws = plain_fitting _ _ (plain_ok r)
text_by false r ws = words_fitting r ws

text_fitting :
    (r : Reading) (ws : List (List ℕ)) → IsFitting (is_some (line_grant ws)) (after_text r ws)
unfolding after_text
text_fitting r ws = text_by (is_remark ws) r ws

line_fitting :
    (r : Reading) (line : List ℕ)
    → IsFitting (is_some (line_grant (words_of (without_cr line)))) (after_line r line)
unfolding after_line
line_fitting r line =
    fitting_steps _ (guard (ltb r.taken most_lines) whys.Lines) _
    (plain_fitting _ _ (plain_guard _ whys.Lines refl))
    (λ few.
    fitting_steps _ (guard (list_all is_printable (without_cr line)) whys.Ascii) _
    (plain_fitting _ _ (plain_guard _ whys.Ascii refl))
    (λ text. text_fitting (record r { taken = r.taken + 1 }) (words_of (without_cr line))))

-- ---- the laws
pub tables_name_a_grant : TablesNameAGrant
tables_name_a_grant r ws e = (text_fitting r ws).reasons whys.Tables e

-- The reason is a partition's.
abbrev is_partition : Why → Bool
is_partition why = is_apart why && not (is_tables why)

-- The trace is refused, for a reason that is a partition's.
abbrev asks_partition : Result AcceptedTrace (ℕ × Why) → Bool
asks_partition (Ok t) = false
asks_partition (Err x) = is_partition x.1

fitting_tests :
    (apart tables named : Bool)
    → (not apart || (tables && named)) ≡ true
    → (apart && not tables) ≡ false
fitting_tests false tables named fitting = refl
fitting_tests true true named fitting = refl
fitting_tests true false named fitting = absurd (false≢true fitting)

line_no_partition :
    (r : Reading) (line : List ℕ) (why : Why)
    → after_line r line ≡ Err why
    → is_partition why ≡ false
line_no_partition r line why e =
    fitting_tests (is_apart why) (is_tables why) _ ((line_fitting r line).reasons why e)

end_no_partition : (running : Bool) (t : AcceptedTrace) (line : ℕ)
    → asks_partition (if running then Ok t else Err (line, whys.Begin)) ≡ false
end_no_partition true t line = refl
end_no_partition false t line = refl

go_on_no_partition :
    (n : ℕ) (said : Result Reading Why) (f : Reading → Result AcceptedTrace (ℕ × Why))
    → ((why : Why) → said ≡ Err why → is_partition why ≡ false)
    → ((s : Reading) → asks_partition (f s) ≡ false)
    → asks_partition (go_on n said f) ≡ false
go_on_no_partition n (Ok s) f here each = each s
go_on_no_partition n (Err why) f here each = here why refl

lines_no_partition : (ls : List (List ℕ)) (r : Reading) → asks_partition (after_lines r ls) ≡ false
unfolding after_lines
lines_no_partition [] r =
    end_no_partition (is_running r.stage) (record { config = r.config; lines = r.lines })
    (r.taken + 1)
lines_no_partition (l ∷ ls) r =
    go_on_no_partition (r.taken + 1) (after_line r l) (λ s. after_lines s ls)
    (line_no_partition r l) (λ s. lines_no_partition ls s)

long_no_partition :
    (long : Bool) (said : Result AcceptedTrace (ℕ × Why)) → asks_partition said ≡ false
    → asks_partition (if long then Err (0, whys.Long) else said) ≡ false
long_no_partition true said here = refl
long_no_partition false said here = here

trace_no_partition : (bytes : List ℕ) → asks_partition (trace_of bytes) ≡ false
unfolding trace_of
trace_no_partition bytes =
    long_no_partition (ltb most_bytes (length bytes))
    (after_lines opening_reading (raw_lines bytes))
    (lines_no_partition (raw_lines bytes) opening_reading)

pub none_is_refused_for_a_partition : NoneIsRefusedForAPartition
none_is_refused_for_a_partition bytes number e =
    false≢true (sym (trace_no_partition bytes) ∙ ap asks_partition e)
