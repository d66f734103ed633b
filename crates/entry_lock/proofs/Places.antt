-- What a change of one word shows.
use Rattle.std.proofs.Common.{◌≡◌, ◌≢◌, ℕ, ◌+◌, ◌*◌, ◌<◌, ◌≤◌, Bool, true, false, List, length, set, get_or, sym, ap, ◌∙◌, subst, arith, get_or-set_same, get_or-set_other}
use Rattle.lock_core.specs.declared.entry.Entry.{Entry}
use Rattle.entry_lock.specs.Layout.{word_of, control_place, data_place}
use Rattle.entry_lock.specs.Rule.{WordsShow}
use lib.Seq.{set-get_or}

pub control_set :
    (words : List ℕ) (e n : ℕ) (x y : Entry)
    → control_place e < length words
    → n ≡ word_of y.control
    → y.dword0 ≡ x.dword0
    → y.dword1 ≡ x.dword1
    → WordsShow words e x
    → WordsShow (set words (control_place e) n) e y
control_set words e n x y fits is first second show = record {
  control = get_or-set_same words (control_place e) n 0 fits ∙ is;
  first =
      get_or-set_other words (control_place e) (data_place e false) n 0 (λ h. omega arith)
      ∙ show.first
      ∙ sym first;
  second =
      get_or-set_other words (control_place e) (data_place e true) n 0 (λ h. omega arith)
      ∙ show.second
      ∙ sym second;
}

pub control_else :
    (words : List ℕ) (e n e' : ℕ) (z : Entry)
    → e' ≢ e
    → WordsShow words e' z
    → WordsShow (set words (control_place e) n) e' z
control_else words e n e' z other show = record {
  control =
      get_or-set_other words (control_place e) (control_place e') n 0 (λ h. other (omega arith))
      ∙ show.control;
  first =
      get_or-set_other words (control_place e) (data_place e' false) n 0 (λ h. omega arith)
      ∙ show.first;
  second =
      get_or-set_other words (control_place e) (data_place e' true) n 0 (λ h. omega arith)
      ∙ show.second;
}

-- The first or the second data word of an entry.
abbrev pub data_of : Bool → Entry → ℕ
data_of false x = x.dword0
data_of true x = x.dword1

pub data_set :
    (second : Bool) (words : List ℕ) (e n : ℕ) (x y : Entry)
    → data_place e second < length words
    → n ≡ data_of second y
    → y.control ≡ x.control
    → ((other : Bool) → other ≢ second → data_of other y ≡ data_of other x)
    → WordsShow words e x
    → WordsShow (set words (data_place e second) n) e y
data_set false words e n x y fits is same others show = record {
  control =
      get_or-set_other words (data_place e false) (control_place e) n 0 (λ h. omega arith)
      ∙ show.control
      ∙ ap word_of (sym same);
  first = get_or-set_same words (data_place e false) n 0 fits ∙ is;
  second =
      get_or-set_other words (data_place e false) (data_place e true) n 0 (λ h. omega arith)
      ∙ show.second
      ∙ sym (others true (λ h. cc));
}
data_set true words e n x y fits is same others show = record {
  control =
      get_or-set_other words (data_place e true) (control_place e) n 0 (λ h. omega arith)
      ∙ show.control
      ∙ ap word_of (sym same);
  first =
      get_or-set_other words (data_place e true) (data_place e false) n 0 (λ h. omega arith)
      ∙ show.first
      ∙ sym (others false (λ h. cc));
  second = get_or-set_same words (data_place e true) n 0 fits ∙ is;
}

pub data_else :
    (second : Bool) (words : List ℕ) (e n e' : ℕ) (z : Entry)
    → e' ≢ e
    → WordsShow words e' z
    → WordsShow (set words (data_place e second) n) e' z
data_else false words e n e' z other show = record {
  control =
      get_or-set_other words (data_place e false) (control_place e') n 0 (λ h. omega arith)
      ∙ show.control;
  first =
      get_or-set_other words (data_place e false) (data_place e' false) n 0
      (λ h. other (omega arith))
      ∙ show.first;
  second =
      get_or-set_other words (data_place e false) (data_place e' true) n 0 (λ h. omega arith)
      ∙ show.second;
}
data_else true words e n e' z other show = record {
  control =
      get_or-set_other words (data_place e true) (control_place e') n 0 (λ h. omega arith)
      ∙ show.control;
  first =
      get_or-set_other words (data_place e true) (data_place e' false) n 0 (λ h. omega arith)
      ∙ show.first;
  second =
      get_or-set_other words (data_place e true) (data_place e' true) n 0 (λ h. other (omega arith))
      ∙ show.second;
}

pub read_shows :
    (words : List ℕ) (i e : ℕ) (x : Entry)
    → WordsShow words e x
    → WordsShow (set words i (get_or words i 0)) e x
read_shows words i e x show = subst (λ l. WordsShow l e x) (sym (set-get_or words i 0)) show

pub data_found :
    (second : Bool) (words : List ℕ) (e : ℕ) (x : Entry)
    → WordsShow words e x
    → get_or words (data_place e second) 0 ≡ data_of second x
data_found false words e x show = show.first
data_found true words e x show = show.second

pub data_before : (second : Bool) (e : ℕ) → data_place e second ≤ 3 * e + 3
data_before false e = omega arith
data_before true e = omega arith
