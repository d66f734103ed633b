-- The states of an opening table, entry by entry.
use Rattle.std.proofs.Common.{◌≡◌, ◌≢◌, ℕ, List, [], ◌∷◌, ◌++◌, length, set, refl, ◌∙◌}
use Rattle.std.specs.List.{AllByRecursion}
use Rattle.std.proofs.lemmas.List.{length-set, get_or-set_other, length-replicate}
use Rattle.hpte_fields.specs.TableSize.{entry_count}
use Rattle.table_image.specs.declared.entry.ImageEntry.{ImageEntry}
use Rattle.entry_model.specs.State.{State, empty_state}
use Rattle.entry_model.specs.Reply.{entered_state}
use Rattle.entry_model.specs.Run.{state_at}
use Rattle.hpt_resize.specs.TableMemory.{empty_states, with_entries}

-- The states with one entry in its place.
abbrev pub with_entry : List State → ImageEntry → List State
with_entry states e = set states e.index (entered_state e.dword0 e.dword1)

pub entries-length :
    (states : List State) (es : List ImageEntry) → length (with_entries states es) ≡ length states
entries-length states [] = refl
entries-length states (e ∷ es) =
    entries-length (with_entry states e) es
    ∙ length-set states e.index (entered_state e.dword0 e.dword1)

pub opening-length :
    (order : ℕ) (es : List ImageEntry)
    → length (with_entries (empty_states order) es) ≡ entry_count order
unfolding empty_states
opening-length order es =
    entries-length (empty_states order) es ∙ length-replicate (entry_count order) (empty_state 0)

-- One more entry after the others.
pub entries-more :
    (states : List State) (es : List ImageEntry) (e : ImageEntry)
    → with_entries states (es ++ e ∷ []) ≡ with_entry (with_entries states es) e
entries-more states [] e = refl
entries-more states (first ∷ es) e = entries-more (with_entry states first) es e

-- A place that is none of theirs stays.
pub entries-other :
    (states : List State) (es : List ImageEntry) (index : ℕ)
    → AllByRecursion (λ (e : ImageEntry). index ≢ e.index) es
    → state_at (with_entries states es) index ≡ state_at states index
entries-other states [] index apart = refl
entries-other states (e ∷ es) index apart =
    entries-other (with_entry states e) es index apart.1
    ∙ get_or-set_other states e.index index (entered_state e.dword0 e.dword1) (empty_state 0)
    apart.0
