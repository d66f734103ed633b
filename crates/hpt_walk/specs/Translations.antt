-- The translations of a table: the page of each entry that has one. No hash is searched.
use Rattle.std.specs.Prelude.{◌==◌, ◌&&◌, Bool, ℕ, ◌+◌, ◌/◌, List, [], ◌∷◌, Option, Some, None, if◌then◌else◌, IsTrue, ◌≡◌}
use Rattle.std.specs.List.{list_any}
use Rattle.hpte_fields.specs.Fields.{is_secondary}
use Rattle.power_addr.specs.Pages.{VirtualPage, same_page, tag_of}
use Rattle.hpt_hash.specs.Hash.{group_of}
use Rattle.hpt_hash.specs.Entries.{page_at}
use Rattle.hpt_walk.specs.Walk.{h_bit}
use Rattle.entry_model.specs.State.{State}
use Rattle.entry_model.specs.declared.line.Line.{Line}
use Rattle.entry_model.specs.Reply.{compared_bits, has_base}

-- A page, and the index of an entry that translates it.
pub record Translation : Type 0 where
  pub page : VirtualPage
  pub entry : ℕ

-- The page of a valid entry in this state, or none.
abbrev pub page_in : ℕ → ℕ → State → Option VirtualPage
page_in order entry s = if s.valid then page_at order entry s.dword0 s.dword1 else None

-- One translation before the others, where there is a page.
abbrev pub put_first : ℕ → Option VirtualPage → List Translation → List Translation
put_first entry None rest = rest
put_first entry (Some page) rest = record { page = page; entry = entry } ∷ rest

-- The translations of the entries from an index on, in rising index.
abbrev pub translations_from : ℕ → ℕ → List State → List Translation
translations_from order entry [] = []
translations_from order entry (s ∷ ss) =
    put_first entry (page_in order entry s) (translations_from order (entry + 1) ss)

-- The translations of a table of 2 ^ order bytes.
unfoldable pub translations : ℕ → List State → List Translation
translations order states = translations_from order 0 states

-- The list pairs the page with this entry.
abbrev pub is_paired : List Translation → VirtualPage → ℕ → Bool
is_paired ts page entry =
    list_any (λ (t : Translation). same_page t.page page && (t.entry == entry)) ts

-- ---- a cached translation
-- The line's doublewords translate its page: they have the page's tag and base size, with V, and H
-- as it is.
pub record TranslatesItsPage (line : Line) : Type 0 where
  pub tag : tag_of line.page + h_bit (is_secondary line.dword0) + 1 ≡ compared_bits line.dword0
  pub size : IsTrue (has_base line.dword0 line.dword1 line.page.shift)

-- The line's entry is in its page's primary group, or with H in its doubleword 0 in the
-- secondary one.
abbrev pub StandsInItsGroup : ℕ → Line → Type 0
StandsInItsGroup order line =
    group_of line.page order (is_secondary line.dword0) ≡ line.entry / 8
