-- What an entry answers to an access depends on V and the doublewords alone, and what it leaves.
use Rattle.std.specs.Prelude.{if◌then◌else◌}
use Rattle.std.proofs.Common.{◌≡◌, ℕ, ◌||◌, not, Bool, true, false, refl, sym, ◌∙◌, subst}
use Rattle.std.proofs.lemmas.Bool.{and_parts, false≢true}
use Rattle.storage_prot.specs.declared.want.Want.{Want}
use Rattle.authority_mask.specs.declared.masks.Masks.{Masks}
use Rattle.entry_model.specs.State.{State, OnlyRaisesBits}
use Rattle.entry_model.specs.declared.operation.Answer.{Answer}
use Rattle.entry_model.specs.declared.operation.Answer.TheVariants.{NoMatch, Denied, Masked, At}
use Rattle.entry_model.specs.declared.operation.Op.{Op}
use Rattle.entry_model.specs.declared.operation.Op.TheVariants.{Access}
use Rattle.entry_model.specs.Reply.{reply_of, is_match, is_allowed, masks_refuse, touched_state, access_mode}
use Rattle.entry_model.specs.Receipt.{is_access, is_at}
use Rattle.entry_model.proofs.Replied.{Replied, replied, left, changed, accessed}
use Rattle.hardware_walk.specs.Words.{Pair, pair_state, stores, allows, has_bits}
use Rattle.hardware_walk.specs.Laws.{IsTranslation}

-- The state with these R, C and stamp.
abbrev with_others : State → Bool → Bool → ℕ → State
with_others s r c n = record s { referenced = r; changed = c; stamp = n }

abbrev answer_by : Bool → Bool → Bool → State → State → Answer × State
answer_by b a m s s' =
    if b then (if a then (if m then (Masked, s) else (At, s')) else (Denied, s)) else (NoMatch, s)

at_alike :
    (b a m : Bool) (s s' t t' : State)
    → is_at (answer_by b a m s s').0 ≡ true
    → is_at (answer_by b a m t t').0 ≡ true
at_alike true true true s s' t t' h = absurd (false≢true h)
at_alike true true false s s' t t' h = refl
at_alike true false m s s' t t' h = absurd (false≢true h)
at_alike false a m s s' t t' h = absurd (false≢true h)

access_alike :
    (s : State) (r c : Bool) (n : ℕ) (tag base : ℕ) (key no_execute : Bool) (want : Want)
    (masks : Masks)
    → is_at (reply_of s (Access tag base key no_execute want masks)).0 ≡ true
    → is_at (reply_of (with_others s r c n) (Access tag base key no_execute want masks)).0 ≡ true
access_alike s r c n tag base key no_execute want masks h =
    let mode = access_mode key no_execute want masks in
    let t : State = with_others s r c n in
    at_alike (is_match s tag base) (is_allowed s mode) (masks_refuse s mode) s
    (touched_state s want) t (touched_state t want) h

op_alike :
    (s : State) (r c : Bool) (n : ℕ) (op : Op)
    → is_access op ≡ true
    → is_at (reply_of s op).0 ≡ true
    → is_at (reply_of (with_others s r c n) op).0 ≡ true
op_alike s r c n (Access tag base key no_execute want masks) is h =
    access_alike s r c n tag base key no_execute want masks h
op_alike s r c n op is h = absurd (false≢true is)

-- An access that one state allows is allowed by each that has its V and doublewords.
pub same_answer :
    (s t : State) (op : Op)
    → t.valid ≡ s.valid
    → t.dword0 ≡ s.dword0
    → t.dword1 ≡ s.dword1
    → is_access op ≡ true
    → is_at (reply_of s op).0 ≡ true
    → is_at (reply_of t op).0 ≡ true
same_answer s t op valid dword0 dword1 is h =
    let same : with_others s t.referenced t.changed t.stamp ≡ t = λ i.
    record {
      valid = sym valid i;
      dword0 = sym dword0 i;
      dword1 = sym dword1 i;
      referenced = t.referenced;
      changed = t.changed;
      stamp = t.stamp;
    } in
    subst (λ z. is_at (reply_of z op).0 ≡ true) same
    (op_alike s t.referenced t.changed t.stamp op is h)

pub allows_parts :
    (p : Pair) (op : Op)
    → allows p op ≡ true
    → (is_access op ≡ true) × (is_at (reply_of (pair_state p) op).0 ≡ true)
unfolding allows
allows_parts p op h = and_parts (is_access op) _ h

-- What a translation allows the entry allows.
pub allowed_here :
    (p : Pair) (s : State) (op : Op)
    → IsTranslation p s
    → allows p op ≡ true
    → is_at (reply_of s op).0 ≡ true
allowed_here p s op is h =
    let a = allows_parts p op h in
    same_answer (pair_state p) s op is.valid (sym is.dword0) (sym is.dword1) a.0 a.1

-- ---- what an allowed access leaves
-- R is set, and after a store C.
abbrev pub touched : State → Op → State
touched s op = record s { referenced = true; changed = s.changed || stores op }

pub at_touches :
    (s : State) (op : Op) → is_at (reply_of s op).0 ≡ true → (reply_of s op).1 ≡ touched s op
at_touches s op = at (replied s op) where
  at : {op : Op} {x : Answer × State} → Replied s op x → is_at x.0 ≡ true → x.1 ≡ touched s op
  at (left a is) h = absurd (false≢true (sym is.no_at ∙ h))
  at (changed a next changes is) h = absurd (false≢true (sym is.no_at ∙ h))
  at (accessed tag base key no_execute want masks valid) h = refl

or_has_it : (c w : Bool) → c ≡ true → (c || w) ≡ true
or_has_it true w e = refl
or_has_it false w e = absurd (false≢true e)

pub touched_further : (s : State) (op : Op) → OnlyRaisesBits s (touched s op)
touched_further s op = record {
  valid = refl;
  dword0 = refl;
  dword1 = refl;
  stamp = refl;
  referenced = λ e. refl;
  changed = or_has_it s.changed (stores op);
}

pub at_further :
    (s : State) (op : Op)
    → is_at (reply_of s op).0 ≡ true
    → OnlyRaisesBits s (reply_of s op).1
at_further s op h = subst (OnlyRaisesBits s) (sym (at_touches s op h)) (touched_further s op)

covered_bit : (p c w : Bool) → (p || not w) ≡ true → (p ≡ true → c ≡ true) → (c || w) ≡ c
covered_bit p true w h f = refl
covered_bit p false false h f = refl
covered_bit true false true h f = absurd (false≢true (f refl))
covered_bit false false true h f = absurd (false≢true h)

-- An access whose bits the translation has leaves the entry.
pub covered_leaves :
    (p : Pair) (s : State) (op : Op)
    → has_bits p op ≡ true
    → (p.referenced ≡ true → s.referenced ≡ true)
    → (p.changed ≡ true → s.changed ≡ true)
    → is_at (reply_of s op).0 ≡ true
    → (reply_of s op).1 ≡ s
unfolding has_bits
covered_leaves p s op has f g h =
    let b = and_parts p.referenced _ has in
    let c : (s.changed || stores op) ≡ s.changed = covered_bit p.changed s.changed
    (stores op) b.1 g in
    let r : true ≡ s.referenced = sym (f b.0) in
    at_touches s op h ∙ (λ i. record s { referenced = r i; changed = c i })
