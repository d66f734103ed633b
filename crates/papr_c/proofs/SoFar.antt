-- A trial on lent entries, one call after the other.
use Rattle.std.specs.Prelude.{map}
use Rattle.std.proofs.Common.{◌≡◌, ℕ, zero, suc, ◌+◌, ◌≤◌, List, [], ◌∷◌, ◌++◌, length, drop, set, Bool, true, false, Option, Some, None, arith, sym, ap, ◌∙◌, refl, append_assoc, append-nil, length-set}
use Rattle.std.proofs.Math.Numerals.{add-one}
use Rattle.entry_model.specs.Receipt.{after_of}
use Rattle.entry_model.specs.State.{State}
use Rattle.entry_model.specs.declared.operation.Op.{Op}
use Rattle.entry_model.specs.declared.operation.Answer.{Answer}
use Rattle.entry_model.specs.declared.receipt.Receipt.{Receipt}
use Rattle.entry_model.specs.Run.{states_after}
use Rattle.entry_model.specs.Trial.{Call, call, ending_of, receipt_at, trial_run}
use Rattle.entry_model.proofs.TrialSteps.{ending-on, ending-off}
use Rattle.entry_model.specs.Calls.{call_at}
use Rattle.entry_model.proofs.BegunLaws.{at_end, at_inside}
use Rattle.c_layout.specs.declared.receipts.PaprReceipt.{PaprReceipt}
use Rattle.c_layout.specs.Slots.{placed, shown_receipt}
use Rattle.papr_c.specs.Tried.{LentPair, IsMadeAt, IsTriedLast}
use Rattle.c_layout.proofs.Filling.{placed-append}
use Rattle.std.proofs.lemmas.List.{length_push, map_push, length-map}

-- The rest of the calls begins with this one.
pub drop_at :
    (cs : List Call) (i entry : ℕ) (op : Op)
    → call_at cs i ≡ Some (entry, op)
    → drop i cs ≡ call op entry ∷ drop (suc i) cs
drop_at [] i entry op at = cc
drop_at (c ∷ cs) zero entry op at =
    let same : (c.entry, c.op) ≡ (entry, op) = cc in
    ap (λ (x : ℕ × Op). call x.1 x.0 ∷ cs) same
drop_at (c ∷ cs) (suc i) entry op at = drop_at cs i entry op at

-- Where there is no call at an index none is left from it on.
pub drop_none : (cs : List Call) (i : ℕ) → call_at cs i ≡ None → drop i cs ≡ []
drop_none [] zero none = refl
drop_none [] (suc i) none = refl
drop_none (c ∷ cs) zero none = cc
drop_none (c ∷ cs) (suc i) none = drop_none cs i none

-- Receipts before those of the rest.
abbrev pub before_rest : List Receipt → List Receipt × List State → List Receipt × List State
before_rest rs rest = (rs ++ rest.0, rest.1)

-- One call, and its answer goes on.
pub step_on :
    (goes : Answer → Bool) (a : List State) (c : Call) (cs : List Call) (r : Receipt)
    → r ≡ receipt_at a c
    → goes r.answer ≡ true
    → trial_run goes a (c ∷ cs) ≡ before_rest (r ∷ []) (trial_run goes (states_after a r) cs)
unfolding trial_run
step_on goes a c cs r is on =
    let on' : goes (receipt_at a c).answer ≡ true = rw is at on in
    rw (is, on') refl

-- One call, and its answer ends the trial.
pub step_off :
    (goes : Answer → Bool) (a : List State) (c : Call) (cs : List Call) (r : Receipt)
    → r ≡ receipt_at a c
    → goes r.answer ≡ false
    → trial_run goes a (c ∷ cs) ≡ (r ∷ [], states_after a r)
unfolding trial_run
step_off goes a c cs r is off =
    let off' : goes (receipt_at a c).answer ≡ false = rw is at off in
    rw (is, off') refl

pub no_more : (goes : Answer → Bool) (a : List State) → trial_run goes a [] ≡ ([], a)
unfolding trial_run
no_more goes a = refl

-- ---- the trial so far
-- The first calls were made, with these receipts, and each answer went on.
pub record IsSoFar (goes : Answer → Bool) (cs : List Call) (i : ℕ) (a b : List State)
    (old new : List PaprReceipt) (rs : List Receipt) :
    Type 0 where
  pub whole : trial_run goes a cs ≡ before_rest rs (trial_run goes b (drop i cs))
  pub on : (ss : List Receipt) → ending_of goes (rs ++ ss) ≡ ending_of goes ss
  pub put : new ≡ placed old 0 (map shown_receipt rs)
  pub tried : length rs ≡ i
  pub same : length b ≡ length a
  pub inside : i ≤ length cs

pub put_next :
    (old new : List PaprReceipt) (i : ℕ) (rs : List Receipt) (r : Receipt)
    → new ≡ placed old 0 (map shown_receipt rs)
    → length rs ≡ i
    → set new i (shown_receipt r) ≡ placed old 0 (map shown_receipt (rs ++ r ∷ []))
put_next old new i rs r is tried =
    let at : 0 + length (map shown_receipt rs) ≡ i = omega
    (arith, length-map rs shown_receipt, tried) in
    sym
    (ap (placed old 0) (map_push shown_receipt rs r)
    ∙ placed-append (map shown_receipt rs) (shown_receipt r ∷ []) old 0
    ∙ (λ k. set (sym is k) (at k) (shown_receipt r)))

pub starts :
    (goes : Answer → Bool) (cs : List Call) (a : List State) (old : List PaprReceipt)
    → IsSoFar goes cs 0 a a old old []
starts goes cs a old =
    record {
      whole = refl;
      on = λ ss. refl;
      put = refl;
      tried = refl;
      same = refl;
      inside = omega arith;
    }

-- One more call, whose answer goes on.
pub so_far_goes :
    (goes : Answer → Bool) (cs : List Call) (i entry : ℕ) (op : Op) (a b c : List State)
    (old new next : List PaprReceipt) (rs : List Receipt) (r : Receipt)
    → call_at cs i ≡ Some (entry, op)
    → r ≡ receipt_at b (call op entry)
    → c ≡ states_after b r
    → next ≡ set new i (shown_receipt r)
    → goes r.answer ≡ true
    → IsSoFar goes cs i a b old new rs
    → IsSoFar goes cs (i + 1) a c old next (rs ++ r ∷ [])
so_far_goes goes cs i entry op a b c old new next rs r at is after put on h =
    let rest = trial_run goes (states_after b r) (drop (suc i) cs) in
    let one : trial_run goes b (drop i cs) ≡ before_rest (r ∷ []) rest =
    ap (trial_run goes b) (drop_at cs i entry op at)
    ∙ step_on goes b (call op entry) (drop (suc i) cs) r is on in
    record {
      whole =
          rw (add-one, after)
          (h.whole
          ∙ ap (before_rest rs) one
          ∙ ap (λ z. (z, rest.1)) (sym (append_assoc rs (r ∷ []) rest.0)));
      on =
          λ ss.
          ap (ending_of goes) (append_assoc rs (r ∷ []) ss)
          ∙ h.on (r ∷ ss)
          ∙ ending-on goes r ss on;
      put = put ∙ put_next old new i rs r h.put h.tried;
      tried = omega (arith, length_push rs r, h.tried);
      same = rw after (length-set b r.entry (after_of r) ∙ h.same);
      inside = omega (arith, at_inside cs i (entry, op) at);
    }

-- ---- its end
-- What is known of the whole trial.
pub record IsTold (goes : Answer → Bool) (cs : List Call) (count : ℕ) (a c : List State)
    (old next : List PaprReceipt) (last : Option Receipt) :
    Type 0 where
  pub entries : c ≡ (trial_run goes a cs).1
  pub receipts : next ≡ placed old 0 (map shown_receipt (trial_run goes a cs).0)
  pub counted : count ≡ length (trial_run goes a cs).0
  pub ending : last ≡ ending_of goes (trial_run goes a cs).0

-- The answer ends it.
pub ends :
    (goes : Answer → Bool) (cs : List Call) (i entry : ℕ) (op : Op) (a b c : List State)
    (old new next : List PaprReceipt) (rs : List Receipt) (r : Receipt)
    → call_at cs i ≡ Some (entry, op)
    → r ≡ receipt_at b (call op entry)
    → c ≡ states_after b r
    → next ≡ set new i (shown_receipt r)
    → goes r.answer ≡ false
    → IsSoFar goes cs i a b old new rs
    → IsTold goes cs (i + 1) a c old next (Some r)
ends goes cs i entry op a b c old new next rs r at is after put off h =
    let all : trial_run goes a cs ≡ (rs ++ r ∷ [], states_after b r) =
    h.whole
    ∙ ap (before_rest rs)
    (ap (trial_run goes b) (drop_at cs i entry op at)
    ∙ step_off goes b (call op entry) (drop (suc i) cs) r is off) in
    let many : length (rs ++ r ∷ []) ≡ i + 1 = omega (arith, length_push rs r, h.tried) in
    record {
      entries = rw all after;
      receipts = rw all (put ∙ put_next old new i rs r h.put h.tried);
      counted = rw all (sym many);
      ending = rw all (sym (h.on (r ∷ []) ∙ ending-off goes r [] off));
    }

-- After the last call the trial has ended, with no receipt that ended it.
pub past_all :
    (goes : Answer → Bool) (cs : List Call) (i : ℕ) (a b : List State) (old new : List PaprReceipt)
    (rs : List Receipt)
    → call_at cs i ≡ None
    → IsSoFar goes cs i a b old new rs
    → IsTold goes cs i a b old new None
past_all goes cs i a b old new rs none h =
    let all : trial_run goes a cs ≡ (rs, b) =
    h.whole
    ∙ ap (before_rest rs) (ap (trial_run goes b) (drop_none cs i none) ∙ no_more goes b)
    ∙ ap (λ z. (z, b)) (append-nil rs) in
    record {
      entries = rw all refl;
      receipts = rw all h.put;
      counted = rw all (sym h.tried);
      ending = rw all (sym (ap (ending_of goes) (sym (append-nil rs)) ∙ h.on []));
    }

pub past_last :
    (goes : Answer → Bool) (cs : List Call) (i : ℕ) (a b : List State) (old new : List PaprReceipt)
    (rs : List Receipt)
    → length cs ≤ i
    → IsSoFar goes cs i a b old new rs
    → IsTold goes cs i a b old new None
past_last goes cs i a b old new rs past h = past_all goes cs i a b old new rs (at_end cs i past) h

-- One call more, or the end.
pub so_far_next :
    (goes : Answer → Bool) (cs : List Call) (i : ℕ) (a : List State) (old : List PaprReceipt)
    (m : LentPair)
    → ((r : Receipt) × IsMadeAt goes cs i m r true)
    → ((rs : List Receipt) × IsSoFar goes cs i a m.before old m.slots_before rs)
    → (rs : List Receipt) × IsSoFar goes cs (i + 1) a m.after old m.slots_after rs
so_far_next goes cs i a old m (r, made) (rs, h) = (
  rs ++ r ∷ [],
  so_far_goes goes cs i made.entry made.op a m.before m.after old m.slots_before m.slots_after
      rs r made.at made.receipt made.after made.put made.goes_on h,
)

pub told_last :
    (goes : Answer → Bool) (cs : List Call) (i : ℕ) (a : List State) (old : List PaprReceipt)
    (m : LentPair) (last : Option Receipt) (count : ℕ)
    → IsTriedLast goes cs i m last count
    → ((rs : List Receipt) × IsSoFar goes cs i a m.before old m.slots_before rs)
    → IsTold goes cs count a m.after old m.slots_after last
told_last goes cs i a old m None count (none, (after, (put, counted))) (rs, h) =
    rw (after, put, counted) (past_all goes cs i a m.before old m.slots_before rs none h)
told_last goes cs i a old m (Some r) count (made, counted) (rs, h) =
    rw counted
    (ends goes cs i made.entry made.op a m.before m.after old m.slots_before m.slots_after rs
    r made.at made.receipt made.after made.put made.goes_on h)
