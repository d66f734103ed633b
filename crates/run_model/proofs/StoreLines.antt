-- Lines by the stores that they are on: each is on the page table or on a window, and quiet lines
-- are on the page table.
use Rattle.std.specs.Prelude.{filter, ◌==◌, ◌||◌}
use Rattle.std.proofs.Common.{◌≡◌, ℕ, List, [], ◌∷◌, Bool, true, false, not, ap, sym, ◌∙◌, refl, subst, ◌⊎◌, inl, inr, map, Option, Some, None}
use Rattle.std.specs.List.{AllByRecursion, list_any}
use Rattle.std.specs.Option.{option_map_or}
use Rattle.std.proofs.lemmas.Bool.{cases_Bool, eqb-true}
use Rattle.bus_window.specs.Windows.{BusWindow}
use Rattle.papr_codes.specs.declared.calls.Hcall.{Hcall}
use Rattle.papr_codes.specs.Hcalls.{hcall_of}
use Rattle.trace_line.specs.Lines.{is_resize, is_quiet, bus_of_call, bus_of}
use Rattle.trace_line.specs.declared.act.Act.{Act}
use Rattle.trace_line.specs.declared.line.TraceLine.{TraceLine}
use Rattle.trace_read.specs.Configuration.{Configuration}
use Rattle.trace_reply.specs.declared.reply.Reply.{Reply}
use Rattle.trace_reply.specs.Replies.{RepliedLine, AreReplies, IsOfKind, lines_with_replies}
use Rattle.run_model.specs.Stores.{Store, page_table, opening_store, opening_stores, is_on_window, is_on, lines_on}
use Rattle.basics.proofs.Each.{each_map, filter_yes, filter_no}
use Rattle.papr_codes.specs.declared.calls.Hcall.TheVariants as calls
use Rattle.trace_line.specs.declared.act.Act.TheVariants as acts

-- ---- one line
pub dump_is_quiet : (act : Act) → act ≡ acts.Dump → is_quiet act ≡ false → ⊥
unfolding is_quiet
dump_is_quiet act is off = let clash : true ≡ false = sym (ap is_quiet is) ∙ off in cc

bus_call_plain :
    (h : Hcall) (args : List ℕ) (n : ℕ) → bus_of_call h args ≡ Some n → is_resize h ≡ false
bus_call_plain calls.PutTce args n e = refl
bus_call_plain calls.GetTce args n e = refl
bus_call_plain other args n e = cc

-- A line that names a window isn't quiet.
pub bus_plain : (act : Act) (n : ℕ) → bus_of act ≡ Some n → is_quiet act ≡ false
unfolding bus_of is_quiet
bus_plain (acts.Call number args spelt) n e = bus_call_plain (hcall_of number) args n e
bus_plain acts.Dump n e = cc
bus_plain other n e = refl

pub on_window_bus :
    (w : BusWindow) (act : Act) → is_on_window w act ≡ true → bus_of act ≡ Some w.liobn
on_window_bus w act = at (bus_of act) refl where
  at :
      (o : Option ℕ)
      → bus_of act ≡ o
      → option_map_or (λ number. w.liobn == number) o false ≡ true
      → bus_of act ≡ Some w.liobn
  at None e h = cc
  at (Some n) e h = e ∙ ap (λ (k : ℕ). Some k) (sym (eqb-true w.liobn n h))

-- Another window has the line exactly if it has the number.
pub other_window :
    (w v : BusWindow) (act : Act)
    → is_on_window w act ≡ true
    → is_on_window v act ≡ (v.liobn == w.liobn)
other_window w v act h =
    ap (λ o. option_map_or (λ number. v.liobn == number) o false) (on_window_bus w act h)

pub on_window_plain : (w : BusWindow) (act : Act) → is_on_window w act ≡ true → is_quiet act ≡ false
on_window_plain w act h = bus_plain act w.liobn (on_window_bus w act h)

pub quiet_off_window :
    (w : BusWindow) (act : Act) → is_quiet act ≡ true → is_on_window w act ≡ false
quiet_off_window w act q = at (cases_Bool (is_on_window w act)) where
  at : (is_on_window w act ≡ true) ⊎ (is_on_window w act ≡ false) → is_on_window w act ≡ false
  at (inl on) = let no : true ≡ false = sym q ∙ on_window_plain w act on in cc
  at (inr off) = off

neither : (a b : Bool) → a ≡ false → not b ≡ true → not (a || b) ≡ true
neither false b e h = h
neither true b e h = cc

pub quiet_on_table :
    (ws : List BusWindow) (act : Act) → is_quiet act ≡ true → is_on ws None act ≡ true
quiet_on_table [] act q = refl
quiet_on_table (w ∷ ws) act q =
    neither (is_on_window w act) (list_any (λ (v : BusWindow). is_on_window v act) ws)
    (quiet_off_window w act q) (quiet_on_table ws act q)

-- A line of the windows but not of the first is of the others.
pub off_first :
    (w : BusWindow) (ws : List BusWindow) (act : Act)
    → is_on_window w act ≡ false
    → is_on (w ∷ ws) None act ≡ is_on ws None act
off_first w ws act e = rw e refl

pub on_first :
    (w : BusWindow) (ws : List BusWindow) (act : Act)
    → is_on_window w act ≡ true
    → is_on (w ∷ ws) None act ≡ false
on_first w ws act e = rw e refl

-- ---- lines that some store has
-- One of the stores of these names has the line.
abbrev pub SomeHas : List BusWindow → List (Option BusWindow) → Act → Type 0
SomeHas ws [] act = ⊥
SomeHas ws (o ∷ os) act = (is_on ws o act ≡ true) ⊎ SomeHas ws os act

-- The names of the stores of a run.
abbrev pub opening_names : List BusWindow → List (Option BusWindow)
opening_names ws = None ∷ map (λ (w : BusWindow). Some w) ws

some_window :
    (ws vs : List BusWindow) (act : Act)
    → is_on vs None act ≡ false
    → SomeHas ws (map (λ (w : BusWindow). Some w) vs) act
some_window ws [] act off = cc
some_window ws (v ∷ vs) act off = at (cases_Bool (is_on_window v act)) (some_window ws vs act) where
  at :
      (is_on_window v act ≡ true) ⊎ (is_on_window v act ≡ false)
      → (is_on vs None act ≡ false → SomeHas ws (map (λ (w : BusWindow). Some w) vs) act)
      → SomeHas ws (map (λ (w : BusWindow). Some w) (v ∷ vs)) act
  at (inl on) rest = inl on
  at (inr not_first) rest = inr (rest (sym (off_first v vs act not_first) ∙ off))

-- Each line is on one of them.
pub each_has_store : (ws : List BusWindow) (act : Act) → SomeHas ws (opening_names ws) act
each_has_store ws act = at (cases_Bool (is_on ws None act)) where
  at : (is_on ws None act ≡ true) ⊎ (is_on ws None act ≡ false) → SomeHas ws (opening_names ws) act
  at (inl on) = inl on
  at (inr off) = inr (some_window ws ws act off)

-- The names of stores.
abbrev pub names : List Store → List (Option BusWindow)
names ss = map (λ (s : Store). s.window) ss

opening_windows_named :
    (c : Configuration) (ws : List BusWindow)
    → names (map (opening_store c) ws) ≡ map (λ (w : BusWindow). Some w) ws
opening_windows_named c [] = refl
opening_windows_named c (w ∷ ws) = ap (λ os. Some w ∷ os) (opening_windows_named c ws)

opening_named : (c : Configuration) → names (opening_stores c) ≡ opening_names c.windows
unfolding page_table
opening_named c = ap (λ os. None ∷ os) (opening_windows_named c c.windows)

-- Each line of a run is on one of the stores that it opens with.
pub opening_has : (c : Configuration) (act : Act) → SomeHas c.windows (names (opening_stores c)) act
opening_has c act =
    subst (λ os. SomeHas c.windows os act) (sym (opening_named c)) (each_has_store c.windows act)

-- ---- facts of each line
-- The fact holds of a line that is on the store.
abbrev pub HoldsOn : (Act → Bool) → (RepliedLine → Type 0) → RepliedLine → Type 0
HoldsOn on P t = on t.line.act ≡ true → P t

on_some :
    (P : RepliedLine → Type 0) (ws : List BusWindow) (ss : List Store) (t : RepliedLine)
    → SomeHas ws (names ss) t.line.act
    → AllByRecursion (λ (s : Store). HoldsOn (is_on ws s.window) P t) ss
    → P t
on_some P ws [] t some h = absurd some
on_some P ws (s ∷ ss) t (inl on) h = h.0 on
on_some P ws (s ∷ ss) t (inr some) h = on_some P ws ss t some h.1

-- The fact holds of each of these lines that is on the store.
abbrev pub HoldOn : (RepliedLine → Type 0) → List BusWindow → List RepliedLine → Store → Type 0
HoldOn P ws ts s = AllByRecursion (HoldsOn (is_on ws s.window) P) ts

-- What holds of each line on each store holds of each line.
pub on_all_stores :
    (P : RepliedLine → Type 0) (ws : List BusWindow) (ss : List Store) (ts : List RepliedLine)
    → ((act : Act) → SomeHas ws (names ss) act)
    → AllByRecursion (HoldOn P ws ts) ss
    → AllByRecursion P ts
on_all_stores P ws ss [] some h = tt
on_all_stores P ws ss (t ∷ ts) some h = (
  on_some P ws ss t (some t.line.act)
      (each_map (HoldOn P ws (t ∷ ts)) (λ (s : Store). HoldsOn (is_on ws s.window) P t) ss
      (λ s k. k.0) h),
  on_all_stores P ws ss ts some
      (each_map (HoldOn P ws (t ∷ ts)) (HoldOn P ws ts) ss (λ s k. k.1) h),
)

-- ---- lists of replies that agree on each store
-- The lines on each of the stores are the same.
abbrev pub SameOnEach : List BusWindow → List Store → List RepliedLine → List RepliedLine → Type 0
SameOnEach ws ss ts us =
    AllByRecursion
    (λ (s : Store). lines_on (is_on ws s.window) ts ≡ lines_on (is_on ws s.window) us) ss

abbrev first_or : Reply → List RepliedLine → Reply
first_or d [] = d
first_or d (t ∷ ts) = t.reply

abbrev all_but_first : List RepliedLine → List RepliedLine
all_but_first [] = []
all_but_first (t ∷ ts) = ts

-- Two lists of which the filter depends on the lines alone agree in the first reply, if the line is
-- kept, and after it.
module _ (f : Act → Bool) (l : TraceLine) (r q : Reply) (ts us : List RepliedLine) where
  abbrev Keeps : RepliedLine → Bool
  Keeps t = f t.line.act

  abbrev Same : Type 0
  Same =
      filter Keeps (record { line = l; reply = r } ∷ ts)
      ≡ filter Keeps (record { line = l; reply = q } ∷ us)

  same_first : f l.act ≡ true → Same → r ≡ q
  same_first on h =
      ap (first_or r)
      (sym (filter_yes Keeps (record { line = l; reply = r }) ts on)
      ∙ h
      ∙ filter_yes Keeps (record { line = l; reply = q }) us on)

  same_rest : Same → filter Keeps ts ≡ filter Keeps us
  same_rest h = at (cases_Bool (f l.act)) where
    at : (f l.act ≡ true) ⊎ (f l.act ≡ false) → filter Keeps ts ≡ filter Keeps us
    at (inl on) =
        ap all_but_first
        (sym (filter_yes Keeps (record { line = l; reply = r }) ts on)
        ∙ h
        ∙ filter_yes Keeps (record { line = l; reply = q }) us on)
    at (inr off) =
        sym (filter_no Keeps (record { line = l; reply = r }) ts off)
        ∙ h
        ∙ filter_no Keeps (record { line = l; reply = q }) us off

same_rest_on_each :
    (ws : List BusWindow) (ss : List Store) (l : TraceLine) (r q : Reply) (ts us : List RepliedLine)
    → SameOnEach ws ss (record { line = l; reply = r } ∷ ts) (record { line = l; reply = q } ∷ us)
    → SameOnEach ws ss ts us
same_rest_on_each ws [] l r q ts us h = tt
same_rest_on_each ws (s ∷ ss) l r q ts us h =
    (same_rest (is_on ws s.window) l r q ts us h.0, same_rest_on_each ws ss l r q ts us h.1)

same_on_one :
    (ws : List BusWindow) (ss : List Store) (l : TraceLine) (r q : Reply) (ts us : List RepliedLine)
    → SomeHas ws (names ss) l.act
    → SameOnEach ws ss (record { line = l; reply = r } ∷ ts) (record { line = l; reply = q } ∷ us)
    → r ≡ q
same_on_one ws [] l r q ts us some h = absurd some
same_on_one ws (s ∷ ss) l r q ts us (inl on) h = same_first (is_on ws s.window) l r q ts us on h.0
same_on_one ws (s ∷ ss) l r q ts us (inr some) h = same_on_one ws ss l r q ts us some h.1

-- Replies that agree on each store are the same.
pub same_replies :
    (ws : List BusWindow) (ss : List Store) (ls : List TraceLine) (rs qs : List Reply)
    → ((act : Act) → SomeHas ws (names ss) act)
    → AreReplies ls rs
    → AreReplies ls qs
    → SameOnEach ws ss (lines_with_replies ls rs) (lines_with_replies ls qs)
    → rs ≡ qs
same_replies ws ss [] [] [] some k m h = refl
same_replies ws ss [] [] (q ∷ qs) some k m h = absurd m
same_replies ws ss [] (r ∷ rs) qs some k m h = absurd k
same_replies ws ss (l ∷ ls) [] qs some k m h = absurd k
same_replies ws ss (l ∷ ls) (r ∷ rs) [] some k m h = absurd m
same_replies ws ss (l ∷ ls) (r ∷ rs) (q ∷ qs) some k m h =
    let ts = lines_with_replies ls rs in
    let us = lines_with_replies ls qs in
    let rest : rs ≡ qs = same_replies ws ss ls rs qs some k.1 m.1
    (same_rest_on_each ws ss l r q ts us h) in
    let first : r ≡ q = same_on_one ws ss l r q ts us (some l.act) h in
    λ i. first i ∷ rest i

-- ---- the lines of replied lines
pub lines_back :
    (ts : List RepliedLine)
    → lines_with_replies (map (λ (t : RepliedLine). t.line) ts)
    (map (λ (t : RepliedLine). t.reply) ts)
    ≡ ts
lines_back [] = refl
lines_back (t ∷ ts) = ap (λ us. t ∷ us) (lines_back ts)

pub kinds_each :
    (ls : List TraceLine) (rs : List Reply)
    → AreReplies ls rs
    → AllByRecursion (λ (t : RepliedLine). IsOfKind t.line.act t.reply) (lines_with_replies ls rs)
kinds_each [] rs k = tt
kinds_each (l ∷ ls) [] k = tt
kinds_each (l ∷ ls) (r ∷ rs) k = (k.0, kinds_each ls rs k.1)

pub kinds_back :
    (ts : List RepliedLine)
    → AllByRecursion (λ (t : RepliedLine). IsOfKind t.line.act t.reply) ts
    → AreReplies (map (λ (t : RepliedLine). t.line) ts) (map (λ (t : RepliedLine). t.reply) ts)
kinds_back [] h = tt
kinds_back (t ∷ ts) h = (h.0, kinds_back ts h.1)
