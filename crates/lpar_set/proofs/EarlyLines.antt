-- A configuration line after run lines: it is refused for its place, by the set or by the
-- partition's own reading.
use Rattle.std.proofs.Common.{◌≡◌, ℕ, true, false, List, [], ◌∷◌, length, ltb, if◌then◌else◌, Result, Ok, Err, refl, sym, ap, ◌∙◌, ◌⊎◌, inl, inr}
use Rattle.std.proofs.lemmas.Bool.{cases_Bool, eqb-true, false≢true}
use Rattle.trace_read.specs.declared.forms.Form.{Form}
use Rattle.trace_read.specs.declared.forms.Form.TheVariants as forms
use Rattle.trace_read.specs.declared.stage.Stage.{Stage}
use Rattle.trace_read.specs.declared.stage.Stage.TheVariants as stages
use Rattle.trace_read.specs.declared.why.Why.{Why}
use Rattle.trace_read.specs.declared.why.Why.TheVariants.{Place}
use Rattle.trace_read.specs.Forms.{form_of, form_named}
use Rattle.trace_read.specs.Givens.{is_setting, is_setting_form, is_setting_if}
use Rattle.trace_read.specs.Grammar.{Reading, after_form, after_text, after_words}
use Rattle.trace_read.specs.Places.{is_running, comes_at}
use Rattle.trace_read.specs.TextLines.{is_remark}
use Rattle.trace_read.specs.Whys.{◌>>=◌, guard}
use Rattle.lpar_set.specs.SetGrammar.{SetReading, reading_of, after_own, after_member}
use Rattle.lpar_set.specs.SetRead.{is_early}

-- ---- after `begin`
never_comes :
    (form : Form) (stage : Stage)
    → is_setting_form form ≡ true
    → is_running stage ≡ true
    → comes_at form stage ≡ false
never_comes form stages.Order setting running = absurd (false≢true running)
never_comes form stages.Limit setting running = absurd (false≢true running)
never_comes form stages.Cpus setting running = absurd (false≢true running)
never_comes form stages.Pool setting running = absurd (false≢true running)
never_comes form stages.Grants setting running = absurd (false≢true running)
never_comes form stages.Entries setting running = absurd (false≢true running)
never_comes form stages.Windows setting running = absurd (false≢true running)
never_comes forms.Order stages.Lines setting running = refl
never_comes forms.Limit stages.Lines setting running = refl
never_comes forms.Cpus stages.Lines setting running = refl
never_comes forms.Pool stages.Lines setting running = refl
never_comes (forms.Grant kind) stages.Lines setting running = refl
never_comes forms.Entry stages.Lines setting running = refl
never_comes forms.Window stages.Lines setting running = refl
never_comes forms.Begin stages.Lines setting running = refl
never_comes (forms.Run verb) stages.Lines setting running = absurd (false≢true setting)
never_comes forms.Dump stages.Lines setting running = absurd (false≢true setting)

-- The reading after words of which this is the form.
abbrev by_form : Reading → List (List ℕ) → Result Form Why → Result Reading Why
by_form r ws said =
    said >>= (λ form. guard (comes_at form r.stage) Place >>= (λ here. after_form form r ws))

formed :
    (r : Reading) (ws : List (List ℕ)) (said : Result Form Why)
    → is_setting_if said ≡ true
    → is_running r.stage ≡ true
    → by_form r ws said ≡ Err Place
formed r ws (Ok form) setting running = rw (never_comes form r.stage setting running) refl
formed r ws (Err why) setting running = absurd (false≢true setting)

-- A remark is of no form.
remark_sets_nothing : (ws : List (List ℕ)) → is_remark ws ≡ true → is_setting ws ≡ false
unfolding form_of form_named
remark_sets_nothing [] is = refl
remark_sets_nothing ([] ∷ ws) is = absurd (false≢true is)
remark_sets_nothing ((c ∷ cs) ∷ ws) is = let hash : c ≡ 35 = eqb-true c 35 is in rw hash refl

behind_begin :
    (r : Reading) (ws : List (List ℕ))
    → is_setting ws ≡ true
    → is_running r.stage ≡ true
    → after_text r ws ≡ Err Place
unfolding after_text after_words
behind_begin r ws setting running = at (cases_Bool (is_remark ws)) where
  at : (is_remark ws ≡ true) ⊎ (is_remark ws ≡ false) → after_text r ws ≡ Err Place
  at (inl remark) = absurd (false≢true (sym (remark_sets_nothing ws remark) ∙ setting))
  at (inr words) = rw words (formed r ws (form_of ws) setting running)

-- ---- a line of a partition
-- What the partition's own reading says of the line.
abbrev pub own_line : SetReading → ℕ → List (List ℕ) → Result SetReading Why
own_line r number ws =
    let old : Reading = reading_of r number in
    after_own r number old ws (after_text (record old { taken = r.taken }) ws)

own_refuses :
    (r : SetReading) (number : ℕ) (ws : List (List ℕ))
    → is_setting ws ≡ true
    → is_running (reading_of r number).stage ≡ true
    → Err Place ≡ own_line r number ws
unfolding after_own
own_refuses r number ws setting running =
    let old : Reading = reading_of r number in
    ap (after_own r number old ws)
    (sym (behind_begin (record old { taken = r.taken }) ws setting running))

-- It is refused for its place before that is asked, or it is as that says.
pub member_by :
    (r : SetReading) (number : ℕ) (ws : List (List ℕ))
    → after_member r number ws ≡ (if is_early r number ws then Err Place else own_line r number ws)
unfolding after_member
member_by r number ws =
    at (cases_Bool (is_setting ws)) (cases_Bool (ltb 0 (length r.turns)))
    (cases_Bool (is_running (reading_of r number).stage)) where
      at :
          (is_setting ws ≡ true) ⊎ (is_setting ws ≡ false)
          → (ltb 0 (length r.turns) ≡ true) ⊎ (ltb 0 (length r.turns) ≡ false)
          → (is_running (reading_of r number).stage ≡ true)
          ⊎ (is_running (reading_of r number).stage ≡ false)
          → after_member r number ws
          ≡ (if is_early r number ws then Err Place else own_line r number ws)
      at (inl setting) (inl later) (inl running) =
          rw (setting, later, running) (own_refuses r number ws setting running)
      at (inl setting) (inl later) (inr waiting) = rw (setting, later, waiting) refl
      at (inl setting) (inr first) running = rw (setting, first) refl
      at (inr run) (inl later) (inl running) = rw (run, later, running) refl
      at (inr run) (inl later) (inr waiting) = rw (run, later, waiting) refl
      at (inr run) (inr first) running = rw (run, first) refl
