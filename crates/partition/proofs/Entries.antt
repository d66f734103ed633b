-- The entries of an opening table, each in its place.
use Rattle.std.proofs.Common.{◌≡◌, ◌≢◌, ℕ, suc, ◌+◌, ◌-◌, ◌*◌, ◌%◌, ◌^◌, ◌<◌, ◌≤◌, List, [], ◌∷◌, ◌++◌, length, get_or, set, take, replicate, inl, inr, ◌⊎◌, subst, ap, sym, refl, ◌∙◌, add-one, arith}
use Rattle.std.proofs.Math.Seq.{take-suc}
use Rattle.std.proofs.Math.Pow.{pow_mono}
use Rattle.std.proofs.Math.Nat.{mod-eq_of_lt}
use Rattle.frame_grants.specs.declared.grant.Grant.{Grant}
use Rattle.std.specs.List.{AllByRecursion}
use Rattle.std.proofs.lemmas.List.{length-set, get_or-set_same, get_or-replicate, get_or_past, length-replicate}
use Rattle.std.proofs.lemmas.Bool.{cases_lt}
use Rattle.hpte_fields.specs.TableSize.{entry_count, greatest_order}
use Rattle.table_image.specs.declared.entry.ImageEntry.{ImageEntry}
use Rattle.trace_read.specs.Configuration.{AreRising, IsOpeningEntry, AreOpeningEntries}
use Rattle.entry_model.specs.State.{State, empty_state}
use Rattle.entry_model.specs.Reply.{entered_state}
use Rattle.entry_model.specs.Run.{state_at}
use Rattle.hpt_resize.specs.TableMemory.{empty_states, with_entries}
use Rattle.hpt_resize.proofs.OpeningStates.{with_entry, entries-more, entries-other, opening-length}
use Rattle.basics.proofs.Each.{each_within, each_map}

-- Each index is one of the table's.
abbrev pub AreInTable : ℕ → List ImageEntry → Type 0
AreInTable count entries = AllByRecursion (λ (e : ImageEntry). e.index < count) entries

-- Each entry is in its place.
pub each_entered :
    (states : List State) (es : List ImageEntry)
    → AreInTable (length states) es
    → AreRising es
    → AllByRecursion
    (λ (e : ImageEntry).
    state_at (with_entries states es) e.index ≡ entered_state e.dword0 e.dword1) es
each_entered states [] within rising = tt
each_entered states (e ∷ es) within rising =
    let here : e.index < length states = within.0 in
    let apart : AllByRecursion (λ (later : ImageEntry). e.index ≢ later.index) es = each_map
    (λ (later : ImageEntry). e.index < later.index)
    (λ (later : ImageEntry). e.index ≢ later.index) es (λ later lt same. omega arith) rising.0
    in
    let size : length states ≡ length (with_entry states e) = sym
    (length-set states e.index (entered_state e.dword0 e.dword1)) in (
      entries-other (with_entry states e) es e.index apart
          ∙ get_or-set_same states e.index (entered_state e.dword0 e.dword1) (empty_state 0) here,
      each_entered (with_entry states e) es (subst (λ n. AreInTable n es) size within.1) rising.1,
    )

-- Where an empty table of this order is empty: everywhere.
pub empty_at : (order index : ℕ) → state_at (empty_states order) index ≡ empty_state 0
unfolding empty_states
empty_at order index = at (cases_lt index (entry_count order)) where
  at :
      (index < entry_count order) ⊎ (entry_count order ≤ index)
      → state_at (replicate (entry_count order) (empty_state 0)) index ≡ empty_state 0
  at (inl inside) =
      get_or-replicate (entry_count order) index (empty_state 0) (empty_state 0) inside
  at (inr past) =
      get_or_past (replicate (entry_count order) (empty_state 0)) index (empty_state 0)
      (omega (arith, length-replicate (entry_count order) (empty_state 0)))

-- The next entry's index is one of the table's.
pub next_inside :
    (order : ℕ) (grants : List Grant) (states : List State) (es some : List ImageEntry) (i : ℕ)
    (d : ImageEntry)
    → AreOpeningEntries order grants es
    → i < length es
    → states ≡ with_entries (empty_states order) some
    → (get_or es i d).index < length states
next_inside order grants states es some i d is inside so_far =
    let entry :
    IsOpeningEntry order grants (get_or es i d) = each_within (IsOpeningEntry order grants)
    es i d is.each inside in
    subst (λ n. (get_or es i d).index < n) (sym (ap length so_far ∙ opening-length order some))
    entry.in_table

-- With it one more entry is in its place.
pub next_placed :
    (order : ℕ) (states : List State) (es : List ImageEntry) (i : ℕ) (d : ImageEntry) (one : State)
    → i < length es
    → states ≡ with_entries (empty_states order) (take i es)
    → one ≡ entered_state (get_or es i d).dword0 (get_or es i d).dword1
    → set states (get_or es i d).index one ≡ with_entries (empty_states order) (take (i + 1) es)
next_placed order states es i d one inside so_far is =
    let e = get_or es i d in
    let more : take (suc i) es ≡ take i es ++ e ∷ [] = take-suc es i d inside in
    ap (λ (s : State). set states e.index s) is
    ∙ ap (λ (s : List State). with_entry s e) so_far
    ∙ sym (entries-more (empty_states order) (take i es) e)
    ∙ ap (with_entries (empty_states order)) (sym more)
    ∙ rw add-one refl

-- ---- the empty states
pub all_empty :
    (states : List State) (order n : ℕ) (one : State)
    → order ≤ greatest_order
    → states ≡ replicate n one
    → n ≡ 1 * 2 ^ (order - 4) % 2 ^ 64
    → one ≡ empty_state 0
    → states ≡ empty_states order
unfolding empty_states
all_empty states order n one small is count empty =
    let most : 2 ^ (order - 4) ≤ 2 ^ 30 = pow_mono {i = order - 4} {j = 30} (omega arith) in
    let fits : 1 * 2 ^ (order - 4) % 2 ^ 64 ≡ 2 ^ (order - 4) = omega
    (arith, mod-eq_of_lt {n = 1 * 2 ^ (order - 4)} {m = 2 ^ 64} (omega arith)) in
    is ∙ ap (λ m. replicate m one) (count ∙ fits) ∙ ap (replicate (2 ^ (order - 4))) empty
