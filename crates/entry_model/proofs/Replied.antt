-- What a reply can be: one that leaves its entry, a change that raises the stamp, or an access that
-- was allowed.
use Rattle.std.specs.Prelude.{◌≡◌, ℕ, ◌+◌, Bool, true, false, ◌==◌}
use Rattle.std.proofs.Common.{refl, sym, ◌∙◌}
use Rattle.std.proofs.lemmas.Bool.{and_parts, cond_both, eqb-true, eqb-false, false≢true}
use Rattle.authority_mask.specs.declared.masks.Masks.{Masks}
use Rattle.hpte_fields.specs.Fields.{protected_word}
use Rattle.storage_prot.specs.declared.want.Want.{Want}
use Rattle.entry_model.specs.State.{State, empty_state}
use Rattle.entry_model.specs.declared.operation.Answer.{Answer}
use Rattle.entry_model.specs.declared.operation.Answer.TheVariants as answers
use Rattle.entry_model.specs.declared.operation.Op.{Op}
use Rattle.entry_model.specs.declared.operation.Op.TheVariants as ops
use Rattle.entry_model.specs.declared.operation.Test.{Test}
use Rattle.entry_model.specs.Reply.{reply_of, change_to, change_where, entered_state, is_found, is_match, answer_of_match, answer_of_allowed, is_allowed, masks_refuse, touched_state, access_mode}
use Rattle.entry_model.specs.Receipt.{is_access, is_at, is_change, is_decided, is_worn}

-- ---- the kinds of replies
-- What holds of an answer by which an operation leaves an entry in this state as it is.
pub record IsLeft (s : State) (op : Op) (a : Answer) : Type 0 where
  pub no_change : is_change a ≡ false
  pub no_at : is_at a ≡ false
  pub worn : is_worn a ≡ true → s.stamp ≡ 0xFFFFFFFF
  pub decided : is_decided a ≡ true → s.valid ≡ true
  pub undecided : is_access op ≡ false → is_decided a ≡ false

-- Which operation changes an entry in this state to which next one, except for the stamp, with
-- which answer.
pub data Changes (s : State) : Op → Answer → State → Type 0 where
  enters :
      (dword0 dword1 : ℕ)
      → s.valid ≡ false
      → Changes s (ops.Enter dword0 dword1) answers.Entered (entered_state dword0 dword1)
  removes :
      (test : Test)
      → s.valid ≡ true
      → Changes s (ops.Remove test) answers.Removed (empty_state 0)
  protects :
      (test : Test) (flags : ℕ)
      → s.valid ≡ true
      → Changes s (ops.Protect test flags) answers.Protected
      (record s { dword1 = protected_word s.dword1 flags })
  clears_r :
      s.valid ≡ true → Changes s ops.ClearRef answers.Was (record s { referenced = false })
  clears_c : s.valid ≡ true → Changes s ops.ClearMod answers.Was (record s { changed = false })

-- What holds of every change's operation and answer, and of the state before.
pub record IsChange (s : State) (op : Op) (a : Answer) : Type 0 where
  pub access : is_access op ≡ false
  pub change : is_change a ≡ true
  pub no_at : is_at a ≡ false
  pub no_worn : is_worn a ≡ false
  pub undecided : is_decided a ≡ false
  pub fresh : s.stamp ≡ 0xFFFFFFFF → ⊥

-- What an entry in this state replies to an operation: the answer and the next state.
pub data Replied (s : State) : Op → Answer × State → Type 0 where
  left : {op : Op} (a : Answer) → IsLeft s op a → Replied s op (a, s)
  changed :
      {op : Op} (a : Answer) (next : State)
      → Changes s op a next
      → IsChange s op a
      → Replied s op (a, record next { stamp = s.stamp + 1 })
  accessed :
      (tag base : ℕ) (key no_execute : Bool) (want : Want) (masks : Masks)
      → s.valid ≡ true
      → Replied s (ops.Access tag base key no_execute want masks)
      (answers.At, touched_state s want)

-- ---- each reply is one of them
-- An answer that says nothing of the entry.
plain :
    {s : State} {op : Op} (a : Answer)
    → is_change a ≡ false
    → is_at a ≡ false
    → is_worn a ≡ false
    → is_decided a ≡ false
    → Replied s op (a, s)
plain a change at worn decided =
    left a
    (record {
      no_change = change;
      no_at = at;
      worn = λ e. absurd (false≢true (sym worn ∙ e));
      decided = λ e. absurd (false≢true (sym decided ∙ e));
      undecided = λ _. decided;
    })

-- An answer that refuses an access of a valid entry.
refused :
    {s : State} {op : Op} (a : Answer)
    → is_access op ≡ true
    → is_change a ≡ false
    → is_at a ≡ false
    → is_worn a ≡ false
    → s.valid ≡ true
    → Replied s op (a, s)
refused a access change at worn valid =
    left a
    (record {
      no_change = change;
      no_at = at;
      worn = λ e. absurd (false≢true (sym worn ∙ e));
      decided = λ _. valid;
      undecided = λ e. absurd (false≢true (sym e ∙ access));
    })

-- What isn't an access, and answers with a change.
is_change_by :
    {s : State} {op : Op} {a : Answer}
    → (s.stamp ≡ 0xFFFFFFFF → ⊥)
    → is_access op ≡ false
    → is_change a ≡ true
    → is_at a ≡ false
    → is_worn a ≡ false
    → is_decided a ≡ false
    → IsChange s op a
is_change_by fresh access change at worn decided =
    record {
      access = access;
      change = change;
      no_at = at;
      no_worn = worn;
      undecided = decided;
      fresh = fresh;
    }

is_change_of :
    (s : State) {op : Op} {a : Answer} {next : State}
    → (s.stamp ≡ 0xFFFFFFFF → ⊥)
    → Changes s op a next
    → IsChange s op a
is_change_of s fresh (enters dword0 dword1 valid) = is_change_by fresh refl refl refl refl refl
is_change_of s fresh (removes test valid) = is_change_by fresh refl refl refl refl refl
is_change_of s fresh (protects test flags valid) = is_change_by fresh refl refl refl refl refl
is_change_of s fresh (clears_r valid) = is_change_by fresh refl refl refl refl refl
is_change_of s fresh (clears_c valid) = is_change_by fresh refl refl refl refl refl

change_replied :
    (s : State) {op : Op} (a : Answer) (next : State)
    → Changes s op a next
    → Replied s op (change_to s a next)
change_replied s a next changes =
    cond_both (s.stamp == 0xFFFFFFFF) (answers.Worn, s) (a, record next { stamp = s.stamp + 1 })
    (Replied s _)
    (λ e.
    left answers.Worn
    (record {
      no_change = refl;
      no_at = refl;
      worn = λ _. eqb-true s.stamp 0xFFFFFFFF e;
      decided = λ d. cc;
      undecided = λ _. refl;
    }))
    (λ e.
    changed a next changes (is_change_of s (eqb-false s.stamp 0xFFFFFFFF e) changes))

where_replied :
    (found : Bool) (s : State) {op : Op} (a : Answer) (next : State)
    → (found ≡ true → Changes s op a next)
    → Replied s op (change_where found s a next)
where_replied found s a next changes =
    cond_both found (change_to s a next) (answers.NotFound, s) (Replied s _)
    (λ e. change_replied s a next (changes e))
    (λ _. plain answers.NotFound refl refl refl refl)

found_valid : (s : State) (test : Test) → is_found s test ≡ true → s.valid ≡ true
found_valid s test e = (and_parts s.valid _ e).0

pub replied : (s : State) (op : Op) → Replied s op (reply_of s op)
replied s (ops.Enter dword0 dword1) =
    cond_both s.valid (answers.Taken, s)
    (change_to s answers.Entered (entered_state dword0 dword1))
    (Replied s (ops.Enter dword0 dword1))
    (λ _. plain answers.Taken refl refl refl refl)
    (λ e.
    change_replied s answers.Entered (entered_state dword0 dword1) (enters dword0 dword1 e))
replied s (ops.Remove test) =
    where_replied (is_found s test) s answers.Removed (empty_state 0)
    (λ e. removes test (found_valid s test e))
replied s (ops.Protect test flags) =
    where_replied (is_found s test) s answers.Protected
    (record s { dword1 = protected_word s.dword1 flags })
    (λ e. protects test flags (found_valid s test e))
replied s ops.Read = plain answers.Words refl refl refl refl
replied s ops.ClearRef =
    where_replied s.valid s answers.Was (record s { referenced = false }) (λ e. clears_r e)
replied s ops.ClearMod =
    where_replied s.valid s answers.Was (record s { changed = false }) (λ e. clears_c e)
replied s (ops.Access tag base key no_execute want masks) =
    let mode = access_mode key no_execute want masks in
    let op = ops.Access tag base key no_execute want masks in
    cond_both (is_match s tag base) (answer_of_match s mode) (answers.NoMatch, s) (Replied s op)
    (λ e.
    let valid : s.valid ≡ true = (and_parts s.valid _ e).0 in
    cond_both (is_allowed s mode) (answer_of_allowed s mode) (answers.Denied, s) (Replied s op)
    (λ _.
    cond_both (masks_refuse s mode) (answers.Masked, s) (answers.At, touched_state s want)
    (Replied s op)
    (λ _. refused answers.Masked refl refl refl refl valid)
    (λ _. accessed tag base key no_execute want masks valid))
    (λ _. refused answers.Denied refl refl refl refl valid))
    (λ _. plain answers.NoMatch refl refl refl refl)
