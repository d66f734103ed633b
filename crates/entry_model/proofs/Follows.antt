-- What an operation leaves of an entry: a higher stamp, or the same entry with further bits.
use Rattle.std.specs.Prelude.{◌≡◌, ◌<◌, ◌⊎◌, Bool, true, false}
use Rattle.std.proofs.Common.{arith, inl, inr, refl, ◌∙◌}
use Rattle.std.proofs.lemmas.Bool.{or_left}
use Rattle.entry_model.specs.State.{State, OnlyRaisesBits, Follows}
use Rattle.entry_model.specs.declared.operation.Answer.{Answer}
use Rattle.entry_model.specs.declared.operation.Op.{Op}
use Rattle.entry_model.specs.Reply.{reply_of, touched_state, is_store}
use Rattle.entry_model.specs.History.{bits}
use Rattle.entry_model.proofs.Replied.{Replied, replied, left, changed, accessed}
use Rattle.storage_prot.specs.declared.want.Want.{Want}

pub no_further : (s : State) → OnlyRaisesBits s s
no_further s =
    record {
      valid = refl;
      dword0 = refl;
      dword1 = refl;
      stamp = refl;
      referenced = λ e. e;
      changed = λ e. e;
    }

pub stays : (s : State) → Follows s s
stays s = inl (no_further s)

-- ---- one after the other
pub further_on : (s t u : State) → OnlyRaisesBits s t → OnlyRaisesBits t u → OnlyRaisesBits s u
further_on s t u a b = record {
  valid = b.valid ∙ a.valid;
  dword0 = b.dword0 ∙ a.dword0;
  dword1 = b.dword1 ∙ a.dword1;
  stamp = b.stamp ∙ a.stamp;
  referenced = λ e. b.referenced (a.referenced e);
  changed = λ e. b.changed (a.changed e);
}

pub follows_on : (s t u : State) → Follows s t → Follows t u → Follows s u
follows_on s t u (inl a) (inl b) = inl (further_on s t u a b)
follows_on s t u (inl a) (inr b) = inr (omega (arith, a.stamp))
follows_on s t u (inr a) (inl b) = inr (omega (arith, b.stamp))
follows_on s t u (inr a) (inr b) = inr (omega arith)

-- ---- further bits are more bits, or the same
-- The same entry with these bits.
abbrev pub with_bits : State → Bool → Bool → State
with_bits s r c = record s { referenced = r; changed = c }

by_bits :
    (s : State) (r c r' c' : Bool)
    → (r ≡ true → r' ≡ true)
    → (c ≡ true → c' ≡ true)
    → (with_bits s r' c' ≡ with_bits s r c) ⊎ (bits (with_bits s r c) < bits (with_bits s r' c'))
by_bits s true true true true f g = inl refl
by_bits s true true true false f g = let e : false ≡ true = g refl in cc
by_bits s true true false c' f g = let e : false ≡ true = f refl in cc
by_bits s true false true true f g = inr (omega arith)
by_bits s true false true false f g = inl refl
by_bits s true false false c' f g = let e : false ≡ true = f refl in cc
by_bits s false true true true f g = inr (omega arith)
by_bits s false true false true f g = inl refl
by_bits s false true r' false f g = let e : false ≡ true = g refl in cc
by_bits s false false true true f g = inr (omega arith)
by_bits s false false true false f g = inr (omega arith)
by_bits s false false false true f g = inr (omega arith)
by_bits s false false false false f g = inl refl

pub with_its_bits : (s t : State) → OnlyRaisesBits s t → t ≡ with_bits s t.referenced t.changed
with_its_bits s t h =
    λ i.
    record {
      valid = h.valid i;
      dword0 = h.dword0 i;
      dword1 = h.dword1 i;
      referenced = t.referenced;
      changed = t.changed;
      stamp = h.stamp i;
    }

pub same_or_more : (s t : State) → OnlyRaisesBits s t → (t ≡ s) ⊎ (bits s < bits t)
same_or_more s t h =
    at (by_bits s s.referenced s.changed t.referenced t.changed h.referenced h.changed) where
      at :
          (with_bits s t.referenced t.changed ≡ s)
          ⊎ (bits s < bits (with_bits s t.referenced t.changed))
          → (t ≡ s) ⊎ (bits s < bits t)
      at (inl same) = inl (with_its_bits s t h ∙ same)
      at (inr more) = inr more

-- ---- replies
pub touched_further : (s : State) (want : Want) → OnlyRaisesBits s (touched_state s want)
touched_further s want =
    record {
      valid = refl;
      dword0 = refl;
      dword1 = refl;
      stamp = refl;
      referenced = λ e. refl;
      changed = or_left s.changed (is_store want);
    }

pub reply_follows : (s : State) (o : Op) → Follows s (reply_of s o).1
reply_follows s o = at (replied s o) where
  at : {op : Op} {x : Answer × State} → Replied s op x → Follows s x.1
  at (left a is) = stays s
  at (changed a next changes is) = inr (omega arith)
  at (accessed tag base key no_execute want masks valid) = inl (touched_further s want)
