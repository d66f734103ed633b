-- Receipts with the same marks, and histories of such receipts.
use Rattle.std.proofs.Common.{◌≡◌, ℕ, ◌<◌, ◌+◌, ◌*◌, List, [], ◌∷◌, Bool, true, false, ap, sym, ◌∙◌, refl, subst, ◌⊎◌, inl, inr, map, arith, cond, eqb}
use Rattle.std.specs.Prelude.{if◌then◌else◌, ◌==◌, ◌||◌, ◌&&◌, filter, nat_le}
use Rattle.std.specs.List.{AllByRecursion}
use Rattle.std.proofs.lemmas.Bool.{cond_both, cases_Bool, eq-eqb, eqb-true}
use Rattle.storage_prot.specs.declared.want.Want.{Want}
use Rattle.hpte_fields.specs.Fields.{protected_word}
use Rattle.entry_model.specs.State.{State, empty_state}
use Rattle.entry_model.specs.declared.operation.Op.{Op}
use Rattle.entry_model.specs.declared.operation.Op.TheVariants as ops
use Rattle.entry_model.specs.declared.operation.Answer.{Answer}
use Rattle.entry_model.specs.declared.receipt.Receipt.{Receipt}
use Rattle.entry_model.specs.Receipt.{after_of, is_at, is_change}
use Rattle.entry_model.specs.Reply.{reply_of, entered_state, touched_state, is_store}
use Rattle.entry_model.specs.History.{IsLegal, history, by_place, put_in, precedes, place, pair_of, state_eq}
use Rattle.basics.specs.Words.{bool_eq}
use Rattle.entry_model.proofs.Sorted.{state_self}
use Rattle.receipt_text.specs.Receipts.{mark_of}
use Rattle.entry_model.proofs.Replied.{Changes, enters, removes, protects, clears_r, clears_c, Replied, replied, left, changed, accessed}
use Rattle.history_check.specs.Steps.{step_op, is_unchanged}

-- The operation is a store of a processor.
abbrev pub is_store_access : Op → Bool
is_store_access (ops.Access tag base key no_execute want masks) = is_store want
is_store_access other = false

-- The two receipts have the same mark, and the same is kept of their operations.
pub record Alike (x y : Receipt) : Type 0 where
  pub mark : mark_of x ≡ mark_of y
  pub op : step_op x.op ≡ step_op y.op

-- ---- R and C of a mark
pub digit_bits :
    (a b c d : Bool)
    → (if a then 2 else 0) + (if b then 1 else 0) ≡ (if c then 2 else 0) + (if d then 1 else 0)
    → (a ≡ c) × (b ≡ d)
digit_bits true true true true h = (refl, refl)
digit_bits true false true false h = (refl, refl)
digit_bits false true false true h = (refl, refl)
digit_bits false false false false h = (refl, refl)
digit_bits true true true false h = absurd (omega (arith, h))
digit_bits true true false true h = absurd (omega (arith, h))
digit_bits true true false false h = absurd (omega (arith, h))
digit_bits true false true true h = absurd (omega (arith, h))
digit_bits true false false true h = absurd (omega (arith, h))
digit_bits true false false false h = absurd (omega (arith, h))
digit_bits false true true true h = absurd (omega (arith, h))
digit_bits false true true false h = absurd (omega (arith, h))
digit_bits false true false false h = absurd (omega (arith, h))
digit_bits false false true true h = absurd (omega (arith, h))
digit_bits false false true false h = absurd (omega (arith, h))
digit_bits false false false true h = absurd (omega (arith, h))

same_bits :
    (x y : Receipt)
    → mark_of x ≡ mark_of y
    → (x.before.referenced ≡ y.before.referenced) × (x.before.changed ≡ y.before.changed)
same_bits x y h =
    digit_bits x.before.referenced x.before.changed y.before.referenced y.before.changed
    (ap (λ m. m.bits) h)

-- ---- the state after, by the state before and the answer
abbrev next_by : Op → State → State
next_by (ops.Enter a b) s = entered_state a b
next_by (ops.Remove test) s = empty_state 0
next_by (ops.Protect test flags) s = record s { dword1 = protected_word s.dword1 flags }
next_by ops.Read s = s
next_by ops.ClearRef s = record s { referenced = false }
next_by ops.ClearMod s = record s { changed = false }
next_by (ops.Access tag base key no_execute want masks) s = touched_state s want

abbrev after_by : Op → Answer → State → State
after_by op answer s =
    if is_change answer then record (next_by op s) { stamp = s.stamp + 1 } else if is_at answer
    then next_by op s else s

abbrev IsAfter : Op → State → Answer × State → Type 0
IsAfter op s x = x.1 ≡ after_by op x.0 s

change_after :
    (s : State) {op : Op} {a : Answer} {next : State}
    → Changes s op a next
    → IsAfter (step_op op) s (a, record next { stamp = s.stamp + 1 })
change_after s (enters a b valid) = refl
change_after s (removes test valid) = refl
change_after s (protects test flags valid) = refl
change_after s (clears_r valid) = refl
change_after s (clears_c valid) = refl

after_is : (s : State) (op : Op) → IsAfter (step_op op) s (reply_of s op)
after_is s op = at (replied s op) where
  at : {op : Op} {x : Answer × State} → Replied s op x → IsAfter (step_op op) s x
  at (left a is) = rw (is.no_change, is.no_at) refl
  at (changed a next changes is) = change_after s changes
  at (accessed tag base key no_execute want masks valid) = refl

alike_after : (x y : Receipt) → Alike x y → x.before ≡ y.before → after_of x ≡ after_of y
alike_after x y h e =
    after_is x.before x.op
    ∙ ap (λ a. after_by (step_op x.op) a x.before) (sym x.lawful)
    ∙ (λ i. after_by (h.op i) (h.mark i).answer (e i))
    ∙ ap (λ a. after_by (step_op y.op) a y.before) y.lawful
    ∙ sym (after_is y.before y.op)

-- ---- whether a receipt changed something shows
never_last : (a b : Bool) → (a && (b && false)) ≡ false
never_last true true = refl
never_last true false = refl
never_last false b = refl

above_stamp : (s t : State) → t.stamp ≡ s.stamp + 1 → state_eq t s ≡ false
unfolding state_eq
above_stamp s t e = at (cases_Bool (t.stamp == s.stamp)) where
  at : (t.stamp == s.stamp ≡ true) ⊎ (t.stamp == s.stamp ≡ false) → state_eq t s ≡ false
  at (inl h) = let same : t.stamp ≡ s.stamp = eqb-true t.stamp s.stamp h in absurd (omega arith)
  at (inr h) =
      rw h
      (never_last (bool_eq t.valid s.valid && (t.dword0 == s.dword0) && (t.dword1 == s.dword1))
      (bool_eq t.referenced s.referenced && bool_eq t.changed s.changed))

touched_eq :
    (s : State) (w : Want)
    → state_eq (touched_state s w) s
    ≡ (bool_eq true s.referenced && bool_eq (s.changed || is_store w) s.changed)
unfolding state_eq
touched_eq s w =
    rw (
      bool_same_self s.valid,
      eq-eqb s.dword0 s.dword0 refl,
      eq-eqb s.dword1 s.dword1 refl,
      eq-eqb s.stamp s.stamp refl,
    )
    (with_true (bool_eq true s.referenced) (bool_eq (s.changed || is_store w) s.changed)) where
      bool_same_self : (b : Bool) → bool_eq b b ≡ true
      bool_same_self true = refl
      bool_same_self false = refl

      with_true : (a b : Bool) → (a && b && true) ≡ (a && b)
      with_true true true = refl
      with_true true false = refl
      with_true false b = refl

abbrev IsUnchanged : Op → State → Answer × State → Type 0
IsUnchanged op s x = state_eq x.1 s ≡ is_unchanged (is_store_access op) x.0 s.referenced s.changed

unchanged_is : (s : State) (op : Op) → IsUnchanged (step_op op) s (reply_of s op)
unchanged_is s op = at (replied s op) where
  at : {op : Op} {x : Answer × State} → Replied s op x → IsUnchanged (step_op op) s x
  at (left a is) = rw (is.no_change, is.no_at) (state_self s)
  at (changed a next changes is) =
      rw is.change (above_stamp s (record next { stamp = s.stamp + 1 }) refl)
  at (accessed tag base key no_execute want masks valid) = touched_eq s want

pub flag_of :
    (r : Receipt)
    → state_eq (after_of r) r.before
    ≡ is_unchanged (is_store_access (step_op r.op)) r.answer r.before.referenced r.before.changed
flag_of r =
    unchanged_is r.before r.op
    ∙ ap (λ a. is_unchanged (is_store_access (step_op r.op)) a r.before.referenced r.before.changed)
    (sym r.lawful)

alike_flag :
    (x y : Receipt) → Alike x y → state_eq (after_of x) x.before ≡ state_eq (after_of y) y.before
alike_flag x y h =
    let b = same_bits x y h.mark in
    flag_of x
    ∙ (λ i. is_unchanged (is_store_access (h.op i)) (h.mark i).answer (b.0 i) (b.1 i))
    ∙ sym (flag_of y)

-- receipts with the same marks have one place
pub alike_place : (x y : Receipt) → Alike x y → place x ≡ place y
unfolding place pair_of
alike_place x y h =
    let b = same_bits x y h.mark in
    λ i.
    ((h.mark i).stamp * 4 + ((if b.0 i then 1 else 0) + (if b.1 i then 1 else 0))) * 2
    + (if alike_flag x y h i then 0 else 1)

-- ---- pairs of receipts
-- Two receipts side by side, each of a list of its own.
pub record Pair : Type 0 where
  pub first : Receipt
  pub second : Receipt

-- The first receipt of each pair.
abbrev pub firsts : List Pair → List Receipt
firsts zs = map (λ z. z.first) zs

-- The second receipt of each pair.
abbrev pub seconds : List Pair → List Receipt
seconds zs = map (λ z. z.second) zs

-- The two receipts of each pair are alike.
abbrev pub AllAlike : List Pair → Type 0
AllAlike zs = AllByRecursion (λ z. Alike z.first z.second) zs

-- The two receipts of each pair have the same state before.
abbrev pub AllBefore : List Pair → Type 0
AllBefore zs = AllByRecursion (λ z. z.first.before ≡ z.second.before) zs

abbrev put_pair : Pair → List Pair → List Pair
put_pair z [] = z ∷ []
put_pair z (w ∷ ws) = if precedes z.first w.first then z ∷ w ∷ ws else w ∷ put_pair z ws

abbrev pairs_by_place : List Pair → List Pair
pairs_by_place [] = []
pairs_by_place (z ∷ zs) = put_pair z (pairs_by_place zs)

pub cond_map : {A B : Type 0} (f : A → B) (b : Bool) (x y : A) → f (cond b x y) ≡ cond b (f x) (f y)
cond_map f true x y = refl
cond_map f false x y = refl

put_firsts : (z : Pair) (ws : List Pair) → firsts (put_pair z ws) ≡ put_in z.first (firsts ws)
put_firsts z [] = refl
put_firsts z (w ∷ ws) =
    cond_map firsts (precedes z.first w.first) (z ∷ w ∷ ws) (w ∷ put_pair z ws)
    ∙ ap (λ l. cond (precedes z.first w.first) (z.first ∷ w.first ∷ firsts ws) (w.first ∷ l))
    (put_firsts z ws)

same_precedes :
    (z w : Pair)
    → Alike z.first z.second
    → Alike w.first w.second
    → precedes z.first w.first ≡ precedes z.second w.second
same_precedes z w h k =
    λ i. nat_le (alike_place z.first z.second h i) (alike_place w.first w.second k i)

put_seconds :
    (z : Pair) (ws : List Pair)
    → Alike z.first z.second
    → AllAlike ws
    → seconds (put_pair z ws) ≡ put_in z.second (seconds ws)
put_seconds z [] h k = refl
put_seconds z (w ∷ ws) h k =
    cond_map seconds (precedes z.first w.first) (z ∷ w ∷ ws) (w ∷ put_pair z ws)
    ∙ ap (λ l. cond (precedes z.first w.first) (z.second ∷ w.second ∷ seconds ws) (w.second ∷ l))
    (put_seconds z ws h k.1)
    ∙ ap (λ b. cond b (z.second ∷ w.second ∷ seconds ws) (w.second ∷ put_in z.second (seconds ws)))
    (same_precedes z w h k.0)

each_put :
    (P : Pair → Type 0) (z : Pair) (ws : List Pair)
    → P z
    → AllByRecursion P ws
    → AllByRecursion P (put_pair z ws)
each_put P z [] h k = (h, tt)
each_put P z (w ∷ ws) h k =
    cond_both (precedes z.first w.first) (z ∷ w ∷ ws) (w ∷ put_pair z ws) (AllByRecursion P)
    (λ e. (h, k)) (λ e. (k.0, each_put P z ws h k.1))

each_unput :
    (P : Pair → Type 0) (z : Pair) (ws : List Pair)
    → AllByRecursion P (put_pair z ws)
    → P z × AllByRecursion P ws
each_unput P z [] h = (h.0, tt)
each_unput P z (w ∷ ws) h =
    at (cases_Bool (precedes z.first w.first)) (λ k. each_unput P z ws k) where
      at :
          (precedes z.first w.first ≡ true) ⊎ (precedes z.first w.first ≡ false)
          → (AllByRecursion P (put_pair z ws) → P z × AllByRecursion P ws)
          → P z × AllByRecursion P (w ∷ ws)
      at (inl e) rest = let k = rw e at h in (k.0, k.1)
      at (inr e) rest = let k = rw e at h in let m = rest k.1 in (m.0, (k.0, m.1))

sorted_alike : (zs : List Pair) → AllAlike zs → AllAlike (pairs_by_place zs)
sorted_alike [] h = tt
sorted_alike (z ∷ zs) h =
    each_put (λ z. Alike z.first z.second) z (pairs_by_place zs) h.0 (sorted_alike zs h.1)

unsorted :
    (P : Pair → Type 0) (zs : List Pair)
    → AllByRecursion P (pairs_by_place zs)
    → AllByRecursion P zs
unsorted P [] h = tt
unsorted P (z ∷ zs) h = let k = each_unput P z (pairs_by_place zs) h in (k.0, unsorted P zs k.1)

sorted_firsts : (zs : List Pair) → firsts (pairs_by_place zs) ≡ by_place (firsts zs)
sorted_firsts [] = refl
sorted_firsts (z ∷ zs) = put_firsts z (pairs_by_place zs) ∙ ap (put_in z.first) (sorted_firsts zs)

sorted_seconds :
    (zs : List Pair) → AllAlike zs → seconds (pairs_by_place zs) ≡ by_place (seconds zs)
sorted_seconds [] h = refl
sorted_seconds (z ∷ zs) h =
    put_seconds z (pairs_by_place zs) h.0 (sorted_alike zs h.1)
    ∙ ap (put_in z.second) (sorted_seconds zs h.1)

-- along two legal histories from one state
same_along :
    (a b c : State) (zs : List Pair)
    → AllAlike zs
    → IsLegal a (firsts zs) b
    → IsLegal a (seconds zs) c
    → AllBefore zs
same_along a b c [] h k l = tt
same_along a b c (z ∷ zs) h k l =
    let here : z.first.before ≡ z.second.before = k.0 ∙ sym l.0 in (
      here,
      same_along (after_of z.first) b c zs h.1 k.1
          (subst (λ s. IsLegal s (seconds zs) c) (sym (alike_after z.first z.second h.0 here)) l.1),
    )

-- ---- of one entry
abbrev of_entry : ℕ → List Pair → List Pair
of_entry e zs = filter (λ z. eqb z.first.entry e) zs

entry_firsts :
    (e : ℕ) (zs : List Pair) → firsts (of_entry e zs) ≡ filter (λ r. eqb r.entry e) (firsts zs)
entry_firsts e [] = refl
entry_firsts e (z ∷ zs) =
    cond_map firsts (eqb z.first.entry e) (z ∷ of_entry e zs) (of_entry e zs)
    ∙ ap (λ l. cond (eqb z.first.entry e) (z.first ∷ l) l) (entry_firsts e zs)

entry_seconds :
    (e : ℕ) (zs : List Pair)
    → AllAlike zs
    → seconds (of_entry e zs) ≡ filter (λ r. eqb r.entry e) (seconds zs)
entry_seconds e [] h = refl
entry_seconds e (z ∷ zs) h =
    cond_map seconds (eqb z.first.entry e) (z ∷ of_entry e zs) (of_entry e zs)
    ∙
    (λ i.
    cond (eqb ((h.0.mark i).entry) e) (z.second ∷ entry_seconds e zs h.1 i)
    (entry_seconds e zs h.1 i))

each_entry :
    (P : Pair → Type 0) (e : ℕ) (zs : List Pair)
    → AllByRecursion P zs
    → AllByRecursion P (of_entry e zs)
each_entry P e [] h = tt
each_entry P e (z ∷ zs) h =
    cond_both (eqb z.first.entry e) (z ∷ of_entry e zs) (of_entry e zs) (AllByRecursion P)
    (λ q. (h.0, each_entry P e zs h.1)) (λ q. each_entry P e zs h.1)

tail_entry :
    (P : Pair → Type 0) (e : ℕ) (z : Pair) (zs : List Pair)
    → AllByRecursion P (of_entry e (z ∷ zs))
    → AllByRecursion P (of_entry e zs)
tail_entry P e z zs h = at (cases_Bool (eqb z.first.entry e)) where
  at :
      (eqb z.first.entry e ≡ true) ⊎ (eqb z.first.entry e ≡ false)
      → AllByRecursion P (of_entry e zs)
  at (inl q) = let k = rw q at h in k.1
  at (inr q) = let k = rw q at h in k

head_entry :
    (P : Pair → Type 0) (z : Pair) (zs : List Pair)
    → AllByRecursion P (of_entry z.first.entry (z ∷ zs))
    → P z
head_entry P z zs h = let k = rw (eq-eqb z.first.entry z.first.entry refl) at h in k.0

of_entries :
    (P : Pair → Type 0) (n : ℕ) (zs : List Pair)
    → AllByRecursion (λ r. r.entry < n) (firsts zs)
    → ((e : ℕ) → e < n → AllByRecursion P (of_entry e zs))
    → AllByRecursion P zs
of_entries P n [] low h = tt
of_entries P n (z ∷ zs) low h = (
  head_entry P z zs (h z.first.entry low.0),
  of_entries P n zs low.1 (λ e k. tail_entry P e z zs (h e k)),
)

-- legal histories of receipts with the same marks have the same states
pub same_states :
    (n : ℕ) (a b c : ℕ → State) (zs : List Pair)
    → AllAlike zs
    → AllByRecursion (λ r. r.entry < n) (firsts zs)
    → ((e : ℕ) → e < n → IsLegal (a e) (history e (firsts zs)) (b e))
    → ((e : ℕ) → e < n → IsLegal (a e) (history e (seconds zs)) (c e))
    → AllBefore zs
same_states n a b c zs h low k l =
    of_entries (λ z. z.first.before ≡ z.second.before) n zs low (λ e within.
    let es = of_entry e zs in
    let alike : AllAlike es = each_entry (λ z. Alike z.first z.second) e zs h in
    let one : IsLegal (a e) (firsts (pairs_by_place es)) (b e) = subst
    (λ rs. IsLegal (a e) rs (b e)) (sym (sorted_firsts es ∙ ap by_place (entry_firsts e zs)))
    (k e within) in
    let two : IsLegal (a e) (seconds (pairs_by_place es)) (c e) = subst
    (λ rs. IsLegal (a e) rs (c e))
    (sym (sorted_seconds es alike ∙ ap by_place (entry_seconds e zs h))) (l e within) in
    unsorted (λ z. z.first.before ≡ z.second.before) es
    (same_along (a e) (b e) (c e) (pairs_by_place es) (sorted_alike es alike) one two))
