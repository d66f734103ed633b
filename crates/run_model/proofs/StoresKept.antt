-- No store is lost from section to section.
use Rattle.std.specs.Prelude.{MatchOption}
use Rattle.std.proofs.Common.{◌≡◌, ℕ, ◌<◌, ◌≤◌, List, [], ◌∷◌, Bool, true, false, ap, sym, ◌∙◌, refl, subst, ◌⊎◌, inl, inr, length, Option, Some, None}
use Rattle.std.specs.List.{AllByRecursion}
use Rattle.std.proofs.lemmas.Bool.{cases_lt}
use Rattle.std.proofs.lemmas.List.{get_or_past}
use Rattle.entry_model.specs.State.{State, empty_state}
use Rattle.entry_model.specs.Run.{state_at}
use Rattle.hpt_resize.specs.Rehash.{target_at}
use Rattle.hpt_resize.specs.Resize.{Table}
use Rattle.trace_read.specs.Trace.{AcceptedTrace, IsAccepted}
use Rattle.trace_reply.specs.declared.reply.Reply.{Reply}
use Rattle.run_model.specs.Stores.{states_of}
use Rattle.entry_model.specs.History.{history}
use Rattle.run_model.specs.Sections.{Section, closing, made_in, sections_of}
use Rattle.run_model.specs.GoodRun.{IsGoodRun, IsGoodSection, AreLegal}
use Rattle.run_model.specs.ShownStores.{closing_state, has_table_of, carried_to, ShowsChange, StaysShown, NoStoreIsLostIn, NoSetBitIsLostIn}
use Rattle.run_model.specs.CommittedResizes.{is_committed}
use Rattle.basics.proofs.Each.{each_map}
use Rattle.run_model.proofs.Resized.{Moves, IsAfter, resized_at}
use Rattle.run_model.proofs.SectionChain.{AreChained, chained_rest, chained, closed_order, same_number, other_number}
use Rattle.run_model.proofs.Stores.{IsDirty, shows, stores_shown}
use Rattle.hpte_fields.specs.TableSize.{least_order}

-- ---- the same entry in the next section
-- An entry whose C is set is one of the table.
dirty_in_table :
    (states : List State) (entry : ℕ) → IsDirty (state_at states entry) → entry < length states
dirty_in_table states entry d = at (cases_lt entry (length states)) where
  at : (entry < length states) ⊎ (length states ≤ entry) → entry < length states
  at (inl inside) = inside
  at (inr past) =
      let gone : (state_at states entry).valid ≡ false = ap (λ (s : State). s.valid)
      (get_or_past states entry (empty_state 0) past) in
      let valid : (state_at states entry).valid ≡ true = d.valid in
      absurd (cc)

-- Where the entry is carried, its C is set there.
carried_dirty :
    (s next : Section) (entry target : ℕ) (committed : Bool)
    → least_order ≤ next.before.memory.table.order
    → Moves committed (closing s).memory.table next.before.memory.table
    → carried_to s next entry ≡ Some target
    → IsDirty (closing_state s entry)
    → IsDirty (state_at (states_of next.before) target)
carried_dirty s next entry target false low same to d =
    let stays : has_table_of s next ≡ true = same_number s next same in
    let here : Some entry ≡ Some target = rw stays at to in
    let one : entry ≡ target = cc in
    subst (λ k. IsDirty (state_at (states_of next.before) k)) one
    (subst (λ (table : Table). IsDirty (state_at table.states entry)) (sym same) d)
carried_dirty s next entry target true low r to d =
    let moves : has_table_of s next ≡ false = other_number s next r in
    let goes : target_at s.before.memory.table.order next.before.memory.table.order
    (states_of (closing s)) entry ≡ Some target = rw moves at to in
    let order = closed_order s.before s.replied_lines in
    let there = resized_at (closing s).memory.table next.before.memory.table entry target low r
    (ap (λ n. target_at n next.before.memory.table.order (states_of (closing s)) entry) order
    ∙ goes) in
    subst IsDirty (sym there) (record { valid = d.valid; changed = d.changed })

-- ---- section by section
one_shown :
    (s next : Section) (entry : ℕ) (rest : List Section) (committed : Bool)
    → IsAfter committed (closing s).memory next.before.memory
    → AreLegal next
    → ((target : ℕ) → IsDirty (closing_state next target) → StaysShown next target rest)
    → IsDirty (closing_state s entry)
    → StaysShown s entry (next ∷ rest)
one_shown s next entry rest committed after legal more d = at (carried_to s next entry) refl where
  at :
      (o : Option ℕ)
      → carried_to s next entry ≡ o
      → MatchOption o (Unit {0})
      (λ target.
      ShowsChange (history target (made_in next)) (closing_state next target)
      (StaysShown next target rest))
  at None to = tt
  at (Some target) to =
      let here = carried_dirty s next entry target committed after.stands.low after.moves to d in
      shows (state_at (states_of next.before) target) (closing_state next target)
      (history target (made_in next)) (StaysShown next target rest) (more target) here
      (legal.legal target (dirty_in_table (states_of next.before) target here))

stays_shown :
    (s : Section) (entry : ℕ) (ss : List Section)
    → AreChained (s ∷ ss)
    → AllByRecursion AreLegal ss
    → IsDirty (closing_state s entry)
    → StaysShown s entry ss
stays_shown s entry [] h legal d = tt
stays_shown s entry (next ∷ rest) h legal d =
    one_shown s next entry rest (is_committed s.quiet) h.1 legal.0
    (λ target k. stays_shown next target rest h.2 legal.1 k) d

none_lost : (ss : List Section) → AreChained ss → AllByRecursion AreLegal ss → NoStoreIsLostIn ss
none_lost [] h legal = tt
none_lost (s ∷ rest) h legal = (
  λ entry below.
      stores_shown (state_at (states_of s.before) entry) (closing_state s entry)
      (history entry (made_in s))
      (StaysShown s entry rest) (stays_shown s entry rest h legal.1) (legal.0.legal entry below),
  none_lost rest (chained_rest s rest h) legal.1,
)

-- In a good run every store that succeeds shows in a change bit until a reply reports or clears it.
pub no_store_is_lost :
    (t : AcceptedTrace) (rs : List Reply)
    → IsAccepted t
    → IsGoodRun t rs
    → NoStoreIsLostIn (sections_of t rs)
no_store_is_lost t rs is good =
    none_lost (sections_of t rs) (chained t rs is good)
    (each_map IsGoodSection AreLegal (sections_of t rs) (λ s h. h.legal) good.stores.0)

-- ---- bits that are set already
none_unset : (ss : List Section) → AreChained ss → AllByRecursion AreLegal ss → NoSetBitIsLostIn ss
none_unset [] h legal = tt
none_unset (s ∷ rest) h legal = (
  λ entry valid changed.
      shown entry (record { valid = valid; changed = changed }),
  none_unset rest (chained_rest s rest h) legal.1,
) where
  shown :
      (entry : ℕ)
      → IsDirty (state_at (states_of s.before) entry)
      → ShowsChange (history entry (made_in s)) (closing_state s entry) (StaysShown s entry rest)
  shown entry dirty =
      shows (state_at (states_of s.before) entry) (closing_state s entry)
      (history entry (made_in s))
      (StaysShown s entry rest) (stays_shown s entry rest h legal.1) dirty
      (legal.0.legal entry (dirty_in_table (states_of s.before) entry dirty))

-- In a good run every change bit that is set when a section begins shows until a reply reports or
-- clears it.
pub no_set_bit_is_lost :
    (t : AcceptedTrace) (rs : List Reply)
    → IsAccepted t
    → IsGoodRun t rs
    → NoSetBitIsLostIn (sections_of t rs)
no_set_bit_is_lost t rs is good =
    none_unset (sections_of t rs) (chained t rs is good)
    (each_map IsGoodSection AreLegal (sections_of t rs) (λ s h. h.legal) good.stores.0)
