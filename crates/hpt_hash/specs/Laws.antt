-- The law that an entry translates one base page and no other.
use Rattle.std.specs.Prelude.{◌≡◌, ℕ, ◌≤◌}
use Rattle.power_addr.specs.Pages.{VirtualPage, IsPage}
use Rattle.hpte_fields.specs.TableSize.{least_order}
use Rattle.hpt_hash.specs.Entries.{IsPageOf}

-- An entry translates one base page and no other, so none of the other base pages that lie in the
-- same actual page.
abbrev pub OnePageOfAnEntry : Type 0
OnePageOfAnEntry =
    (order index dword0 dword1 : ℕ) (p q : VirtualPage)
    → least_order ≤ order
    → IsPage p
    → IsPage q
    → IsPageOf order index dword0 dword1 p
    → IsPageOf order index dword0 dword1 q
    → p ≡ q
