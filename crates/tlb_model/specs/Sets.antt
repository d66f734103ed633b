-- The sets of a processor's cache of translations: what holds of them at all times, and what
-- changes one of them.
use Rattle.std.specs.Prelude.{◌≡◌, ℕ, ◌≤◌, List, [], ◌∷◌, length, false, slice_index_or, slice_set}
use Rattle.power_addr.specs.Pages.{VirtualPage}
use Rattle.entry_model.specs.declared.line.Line.{Line}
use Rattle.tlb_model.specs.Cache.{is_of, set_number, AllInSet}

-- ---- what holds at all times
-- No page has two lines.
abbrev pub AreApart : List Line → Type 0
AreApart [] = Unit {0}
AreApart (line ∷ lines) = AllInSet (λ other. is_of line.page other ≡ false) lines × AreApart lines

-- A set has at most four lines, each of another page.
pub record IsLineSet (lines : List Line) : Type 0 where
  pub count : length lines ≤ 4
  pub apart : AreApart lines

-- The lines are of pages that this set is for.
abbrev pub IsForSet : ℕ → List Line → Type 0
IsForSet number lines = AllInSet (λ line. set_number line.page ≡ number) lines

-- A cache has 32 sets, and each line is in the set of its page.
pub record IsCache (cache : List (List Line)) : Type 0 where
  pub count : length cache ≡ 32
  pub placed : (number : ℕ) → IsForSet number (slice_index_or cache number [])

-- ---- a change
-- The page's set is made into these lines, and every other set stays as it was.
abbrev pub with_set : VirtualPage → List Line → List (List Line) → List (List Line)
with_set page lines cache = slice_set cache (set_number page) lines
