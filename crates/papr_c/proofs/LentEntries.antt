-- Entries that are lent: what is read of one, and what it is to give one another state.
use Rattle.std.specs.Prelude.{◌&&◌, ◌==◌, nat_le}
use Rattle.std.proofs.Common.{◌≡◌, ℕ, Bool, true, false, zero, suc, ◌+◌, ◌<◌, List, [], ◌∷◌, length, set, get_or, take, drop, ◌++◌, refl, sym, ap, subst, ◌∙◌, arith}
use Rattle.std.proofs.lemmas.List.{get_or-map, set-get_or, drop_more}
use Rattle.std.proofs.lemmas.Bool.{leb-true}
use Rattle.std.proofs.Math.Numerals.{add-one}
use Rattle.hpte_fields.specs.TableSize.{IsTableOrder, entry_count, greatest_order, least_order}
use Rattle.hpte_fields.proofs.TableSizes.{entries_few}
use Rattle.entry_model.specs.State.{State, empty_state, Follows}
use Rattle.entry_model.specs.Receipt.{after_of, is_change}
use Rattle.entry_model.specs.Run.{state_at, states_after}
use Rattle.entry_model.specs.declared.receipt.Receipt.{Receipt}
use Rattle.entry_model.proofs.Follows.{reply_follows}
use Rattle.c_layout.specs.Entries.{Entry, states_of, entry_with, entries_with, ArePassed, AreMarked}
use Rattle.c_layout.specs.Tables.{is_table}
use Rattle.papr_c.specs.Transfers.{replaced}
use Rattle.papr_c.proofs.Changes.{raises}
use Rattle.papr_c.proofs.Outcomes.{table_whole}
use Rattle.c_layout.proofs.Marks.{states-length, states-set, passed_one, marked_none, no_entry, change_marked}

pub state_read :
    (es : List Entry) (i : ℕ) (e : Entry) (s : State)
    → i < length (states_of es)
    → s ≡ (get_or es i e).state
    → s ≡ state_at (states_of es) i
state_read es i e s inside said =
    said
    ∙ sym
    (get_or-map (λ (x : Entry). x.state) es i e (empty_state 0)
    (omega (arith, inside, states-length es)))

-- One entry has another state.
pub states_one :
    (es new : List Entry) (i : ℕ) (e : Entry) (s : State)
    → new ≡ set es i (entry_with (get_or es i e) s)
    → states_of new ≡ set (states_of es) i s
states_one es new i e s is =
    ap (λ (xs : List Entry). states_of xs) is ∙ states-set es i (entry_with (get_or es i e) s)

pub passed_by :
    (es new : List Entry) (r : Receipt) (e : Entry) (s : State)
    → r.entry < length es
    → r.before ≡ state_at (states_of es) r.entry
    → s ≡ after_of r
    → new ≡ set es r.entry (entry_with (get_or es r.entry e) s)
    → ArePassed es new
passed_by es new r e s inside before after is =
    let was : (get_or es r.entry e).state ≡ r.before =
    sym (before ∙ get_or-map (λ (x : Entry). x.state) es r.entry e (empty_state 0) inside) in
    let later : Follows (get_or es r.entry e).state s =
    subst (λ (t : State). Follows t s) (sym was)
    (subst (Follows r.before) (sym after) (reply_follows r.before r.op)) in
    subst (ArePassed es) (sym is)
    (passed_one es r.entry e (entry_with (get_or es r.entry e) s) inside
    (record { marked = refl; later = later }))

-- A change marks its entry.
pub marked_by :
    (es : List Entry) (r : Receipt) (s : State)
    → r.entry < length es
    → r.before ≡ state_at (states_of es) r.entry
    → s ≡ after_of r
    → is_change r.answer ≡ true
    → record { state = s; marked = true } ≡ entry_with (get_or es r.entry no_entry) s
marked_by es r s inside before after is =
    let e = get_or es r.entry no_entry in
    let was : e.state ≡ r.before =
    sym (before ∙ get_or-map (λ (x : Entry). x.state) es r.entry no_entry (empty_state 0) inside)
    in
    let other : e.state ≡ s → ⊥ =
    λ same.
    let stamps : s.stamp ≡ r.before.stamp = ap (λ (t : State). t.stamp) (sym same ∙ was) in
    let raised : s.stamp ≡ r.before.stamp + 1 =
    ap (λ (t : State). t.stamp) after ∙ raises r is in
    absurd (omega (arith, stamps, raised)) in
    λ k. record { state = s; marked = sym (change_marked e s other) k }

-- An operation that leaves the state leaves all.
pub states_kept :
    (ss : List State) (r : Receipt)
    → r.before ≡ state_at ss r.entry
    → after_of r ≡ r.before
    → ss ≡ states_after ss r
states_kept ss r before after =
    sym
    (ap (set ss r.entry) (after ∙ before)
    ∙ set-get_or ss r.entry (empty_state 0))

-- Entries that have their states still are as they were.
pub kept_same :
    (old new : List Entry)
    → AreMarked old new
    → states_of new ≡ states_of old
    → new ≡ old
kept_same old new marked same =
    marked ∙ ap (entries_with old) same ∙ sym (marked_none old)

-- ---- entries that are given states one after the other
pub marked-length : (old new : List Entry) → AreMarked old new → length new ≡ length old
marked-length [] [] h = refl
marked-length [] (n ∷ ns) h = cc
marked-length (o ∷ os) [] h = cc
marked-length (o ∷ os) (n ∷ ns) h =
    let tail : ns ≡ entries_with os (states_of ns) = cc in
    ap suc (marked-length os ns tail)

-- One more entry has a state of its own, which it wasn't given before.
pub marked_set :
    (old new : List Entry) (i : ℕ) (d : Entry) (s : State)
    → i < length old
    → AreMarked old new
    → AreMarked old (set new i (entry_with (get_or old i d) s))
marked_set [] [] i d s inside h = absurd (omega (arith, inside))
marked_set [] (n ∷ ns) i d s inside h = cc
marked_set (o ∷ os) [] i d s inside h = cc
marked_set (o ∷ os) (n ∷ ns) zero d s inside h =
    let tail : ns ≡ entries_with os (states_of ns) = cc in
    ap (λ (xs : List Entry). entry_with o s ∷ xs) tail
marked_set (o ∷ os) (n ∷ ns) (suc i) d s inside h =
    let tail : ns ≡ entries_with os (states_of ns) = cc in
    let head : n ≡ entry_with o n.state = cc in
    λ k. head k ∷ marked_set os ns i d s (omega (arith, inside)) tail k

pub drop_set :
    (es : List Entry) (i : ℕ) (e : Entry) → drop (i + 1) (set es i e) ≡ drop (i + 1) es
drop_set es i e = rw add-one (at es i) where
  at : (xs : List Entry) (j : ℕ) → drop (suc j) (set xs j e) ≡ drop (suc j) xs
  at [] j = refl
  at (x ∷ xs) zero = refl
  at (x ∷ xs) (suc j) = at xs j

-- Entries whose rests are the same have the same first one of these.
pub same_rest :
    (old new : List Entry) (i : ℕ) (d : Entry)
    → i < length old
    → i < length new
    → drop i new ≡ drop i old
    → get_or new i d ≡ get_or old i d
same_rest old new i d inside inside_new rest =
    let one = drop_more old i d inside in
    let two = drop_more new i d inside_new in
    let both : get_or new i d ∷ drop (i + 1) new ≡ get_or old i d ∷ drop (i + 1) old =
    sym two ∙ rest ∙ one in
    cc

-- A table has few entries.
order_fits : (p q r : Bool) → ((p && q) && r) ≡ true → (p ≡ true) × (q ≡ true)
order_fits true true r h = (refl, refl)
order_fits true false r h = cc
order_fits false q r h = cc

pub table_few :
    (order : ℕ) (es : List Entry)
    → is_table order (states_of es) ≡ true
    → length es < 4294967296
table_few order es table =
    let fits = order_fits (nat_le least_order order) (nat_le order greatest_order)
    (length (states_of es) == entry_count order) table in
    let within : IsTableOrder order =
    (leb-true least_order order fits.0, leb-true order greatest_order fits.1) in
    let few = entries_few (entry_count order) order refl within in
    omega (arith, few, table_whole order (states_of es) table, states-length es)

-- No entry is replaced.
pub replaced_none : (ss : List State) (first : ℕ) → ss ≡ replaced ss first []
replaced_none ss first = let none : first + 0 ≡ first = omega arith in rw none (at ss first) where
  at : (xs : List State) (n : ℕ) → xs ≡ take n xs ++ drop n xs
  at xs zero = refl
  at [] (suc n) = refl
  at (x ∷ xs) (suc n) = ap (λ ys. x ∷ ys) (at xs n)
