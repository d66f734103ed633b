-- The forms of lines by their first words: keywords, and the verbs that follow a processor.
use Rattle.std.specs.Prelude.{ℕ, ◌&&◌, Bool, true, false, IsTrue, List, [], ◌∷◌, codes, nat_le, slice_index, Option, Some, None, Result, Ok, Err, find, if◌then◌else◌}
use Rattle.std.specs.Str.{bytes_eq}
use Rattle.frame_grants.specs.declared.grant.Kind.TheVariants.{Ram, Io}
use Rattle.papr_codes.specs.declared.calls.Hcall.{Hcall}
use Rattle.papr_codes.specs.declared.calls.Hcall.TheVariants as calls
use Rattle.papr_codes.specs.Hcalls.{hcall_name, is_named}
use Rattle.storage_prot.specs.declared.want.Want.TheVariants.{Load, Store, Fetch}
use Rattle.authority_mask.specs.declared.masks.MaskName.TheVariants.{Amr, Iamr}
use Rattle.trace_read.specs.declared.forms.Form.{Form}
use Rattle.trace_read.specs.declared.forms.Form.TheVariants as forms
use Rattle.trace_read.specs.declared.verbs.Verb.{Verb}
use Rattle.trace_read.specs.declared.verbs.Verb.TheVariants as verbs
use Rattle.trace_read.specs.declared.why.Why.{Why}
use Rattle.trace_read.specs.declared.why.Why.TheVariants.{Word}
use Rattle.trace_read.specs.Whys.{◌>>=◌, required}

-- ---- the word after the processor
-- The calls that have a name, and how many arguments each has.
abbrev pub call_rows : List (Hcall × ℕ)
call_rows =
    (calls.Enter, 4)
    ∷ (calls.Remove, 3)
    ∷ (calls.Protect, 3)
    ∷ (calls.Read, 2)
    ∷ (calls.ClearRef, 2)
    ∷ (calls.ClearMod, 2)
    ∷ (calls.BulkRemove, 8)
    ∷ (calls.PutTce, 3)
    ∷ (calls.GetTce, 2)
    ∷ (calls.Prepare, 2)
    ∷ (calls.Commit, 2)
    ∷ []

-- The call that a word names.
unfoldable pub call_named : List ℕ → Option (Hcall × ℕ)
call_named word = find (λ (row : Hcall × ℕ). bytes_eq (hcall_name row.0) word) call_rows

-- What else a processor does.
unfoldable pub other_verb : List ℕ → Option Verb
other_verb word =
    if bytes_eq (codes "hcall") word then Some verbs.Numbered
    else if bytes_eq (codes "load") word then Some (verbs.Access Load)
    else if bytes_eq (codes "store") word then Some (verbs.Access Store)
    else if bytes_eq (codes "fetch") word then Some (verbs.Access Fetch)
    else if bytes_eq (codes "dmaread") word then Some (verbs.Device false)
    else if bytes_eq (codes "dmawrite") word then Some (verbs.Device true)
    else if bytes_eq (codes "slbmte") word then Some verbs.SlbMte
    else if bytes_eq (codes "slbclear") word then Some verbs.SlbClear
    else if bytes_eq (codes "amr") word then Some (verbs.SetMask Amr)
    else if bytes_eq (codes "iamr") word then Some (verbs.SetMask Iamr)
    else None

-- The call, or else the other verb.
abbrev pub call_or : Option (Hcall × ℕ) → Option Verb → Option Verb
call_or (Some row) other = Some (verbs.Named row.0 row.1)
call_or None other = other

-- What a word after the processor asks for.
unfoldable pub verb_of : List ℕ → Option Verb
verb_of word = call_or (call_named word) (other_verb word)

-- ---- the first word
-- The word begins with a decimal digit.
abbrev pub begins_with_digit : List ℕ → Bool
begins_with_digit word = nat_le 48 (slice_index word 0) && nat_le (slice_index word 0) 57

-- The form that a first word names, where the line names no processor.
unfoldable pub form_named : List ℕ → Option Form
form_named word =
    if bytes_eq (codes "order") word then Some forms.Order
    else if bytes_eq (codes "limit") word then Some forms.Limit
    else if bytes_eq (codes "cpus") word then Some forms.Cpus
    else if bytes_eq (codes "pool") word then Some forms.Pool
    else if bytes_eq (codes "ram") word then Some (forms.Grant Ram)
    else if bytes_eq (codes "io") word then Some (forms.Grant Io)
    else if bytes_eq (codes "entry") word then Some forms.Entry
    else if bytes_eq (codes "window") word then Some forms.Window
    else if bytes_eq (codes "begin") word then Some forms.Begin
    else if bytes_eq (codes "dump") word then Some forms.Dump
    else None

-- After a processor its line names what it does. A line of the processor alone has this form too.
unfoldable pub run_form : List (List ℕ) → Result Form Why
run_form [] = Ok (forms.Run None)
run_form (w ∷ ws) = do
  verb ← required (verb_of w) Word
  Ok (forms.Run (Some verb))

-- The form of a line. One that begins with a digit names a processor.
unfoldable pub form_of : List (List ℕ) → Result Form Why
form_of [] = Err Word
form_of (w ∷ ws) = if begins_with_digit w then run_form ws else required (form_named w) Word

-- ---- what holds of what a line names
-- A call that is spelt is one of those that have a name.
abbrev pub IsNamedRow : Hcall × ℕ → Type 0
IsNamedRow row = IsTrue (is_named row.0)

-- The verb names a call that has a name, if it names one.
abbrev pub IsNamedVerb : Verb → Type 0
IsNamedVerb (verbs.Named hcall args) = IsTrue (is_named hcall)
IsNamedVerb other = Unit {0}

-- The form's verb names a call that has a name, if it names one.
abbrev pub IsNamedForm : Form → Type 0
IsNamedForm (forms.Run (Some verb)) = IsNamedVerb verb
IsNamedForm other = Unit {0}
