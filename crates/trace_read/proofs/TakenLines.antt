-- A line that is accepted is counted, whatever it gives.
use Rattle.std.proofs.Common.{◌≡◌, ◌∙◌, ℕ, ◌+◌, Bool, true, false, List, Result, Ok, Err, ap, sym, refl, ltb, if◌then◌else◌}
use Rattle.std.specs.List.{list_all}
use Rattle.trace_line.specs.declared.act.Act.{Act}
use Rattle.trace_read.specs.declared.forms.Form.{Form}
use Rattle.trace_read.specs.declared.forms.Form.TheVariants as forms
use Rattle.trace_read.specs.declared.stage.Stage.{Stage}
use Rattle.trace_read.specs.declared.stage.Stage.TheVariants as stages
use Rattle.trace_read.specs.declared.why.Why.{Why}
use Rattle.trace_read.specs.declared.why.Why.TheVariants as whys
use Rattle.trace_read.specs.Acts.{read_act, dump_act}
use Rattle.trace_read.specs.Configuration.{Configuration}
use Rattle.trace_read.specs.Counts.{may_add}
use Rattle.trace_read.specs.Entries.{with_entry}
use Rattle.trace_read.specs.Forms.{form_of}
use Rattle.trace_read.specs.Grammar.{Reading, set_to, after_act, after_form, after_words, after_text, after_line}
use Rattle.trace_read.specs.Places.{comes_at}
use Rattle.trace_read.specs.Settings.{with_order, with_limit, with_cpus, with_pool, with_granted, with_begin}
use Rattle.trace_read.specs.TextLines.{without_cr, is_printable, words_of, is_remark}
use Rattle.trace_read.specs.Whys.{◌>>=◌, guard}
use Rattle.trace_read.specs.Windows.{with_window}
use Rattle.trace_line.specs.Lines.{most_lines}

-- What is accepted at the end of steps was accepted at the first.
kept : {A : Type 0} (n : ℕ) (said : Result A Why) (f : A → Result Reading Why) (s : Reading)
    → ((x : A) → f x ≡ Ok s → s.taken ≡ n) → (said >>= f) ≡ Ok s → s.taken ≡ n
kept n (Ok x) f s each e = each x e
kept n (Err why) f s each e = cc

-- A reading that was given is the one that is accepted.
same :
    (n : ℕ) (said : Result Reading Why) (t s : Reading)
    → said ≡ Ok t
    → t.taken ≡ n
    → said ≡ Ok s
    → s.taken ≡ n
same n said t s is here e =
    let one : t ≡ s = cc in
    ap (λ (x : Reading). x.taken) (sym one) ∙ here

set_taken : (r : Reading) (stage : Stage) (said : Result Configuration Why) (s : Reading)
    → set_to r stage said ≡ Ok s → s.taken ≡ r.taken
set_taken r stage said s e = kept r.taken said _ s (λ c is. same r.taken _ _ s refl refl is) e

act_taken : (r : Reading) (said : Result (ℕ × Act) Why) (s : Reading)
    → after_act r said ≡ Ok s → s.taken ≡ r.taken
unfolding after_act
act_taken r said s e =
    kept r.taken said _ s
    (λ x added.
    kept r.taken (may_add r.lines x.1) _ s (λ room is. same r.taken _ _ s refl refl is) added) e

form_taken : (form : Form) (r : Reading) (ws : List (List ℕ)) (s : Reading)
    → after_form form r ws ≡ Ok s → s.taken ≡ r.taken
unfolding after_form
form_taken forms.Order r ws s e = set_taken r stages.Limit (with_order r.config ws) s e
form_taken forms.Limit r ws s e = set_taken r stages.Cpus (with_limit r.config ws) s e
form_taken forms.Cpus r ws s e = set_taken r stages.Pool (with_cpus r.config ws) s e
form_taken forms.Pool r ws s e = set_taken r stages.Grants (with_pool r.config ws) s e
form_taken (forms.Grant kind) r ws s e =
    set_taken r stages.Grants (with_granted r.config kind ws) s e
form_taken forms.Entry r ws s e = set_taken r stages.Entries (with_entry r.config ws) s e
form_taken forms.Window r ws s e = set_taken r stages.Windows (with_window r.config ws) s e
form_taken forms.Begin r ws s e = set_taken r stages.Lines (with_begin r.config ws) s e
form_taken (forms.Run verb) r ws s e = act_taken r (read_act r.config.cpus verb ws) s e
form_taken forms.Dump r ws s e = act_taken r (dump_act ws) s e

words_taken : (r : Reading) (ws : List (List ℕ)) (s : Reading)
    → after_words r ws ≡ Ok s → s.taken ≡ r.taken
unfolding after_words
words_taken r ws s e =
    kept r.taken (form_of ws) _ s
    (λ form placed. kept r.taken (guard (comes_at form r.stage) whys.Place) _ s
    (λ here is. form_taken form r ws s is) placed) e

text_by : (remark : Bool) (r : Reading) (ws : List (List ℕ)) (s : Reading)
    → (if remark then Ok r else after_words r ws) ≡ Ok s → s.taken ≡ r.taken
text_by true r ws s e = same r.taken _ r s refl refl e
text_by false r ws s e = words_taken r ws s e

text_taken : (r : Reading) (ws : List (List ℕ)) (s : Reading)
    → after_text r ws ≡ Ok s → s.taken ≡ r.taken
unfolding after_text
text_taken r ws s e = text_by (is_remark ws) r ws s e

pub line_taken : (r : Reading) (line : List ℕ) (s : Reading)
    → after_line r line ≡ Ok s → s.taken ≡ r.taken + 1
unfolding after_line
line_taken r line s e =
    kept (r.taken + 1) (guard (ltb r.taken most_lines) whys.Lines) _ s
    (λ few tried.
    kept (r.taken + 1) (guard (list_all is_printable (without_cr line)) whys.Ascii) _ s
    (λ text is. text_taken (record r { taken = r.taken + 1 }) (words_of (without_cr line)) s is)
    tried) e
