-- Entries that H_ENTER could have made.
use Rattle.std.specs.Prelude.{◌≡◌, true, List, Some}
use Rattle.frame_grants.specs.declared.grant.Grant.{Grant}
use Rattle.page_grants.specs.Suited.{entered_words}
use Rattle.entry_model.specs.State.{State, IsCanonicalState}

-- R and C stand apart, and where the entry is valid H_ENTER would store just its doublewords for
-- them.
pub record CanBeEntered (grants : List Grant) (s : State) : Type 0 where
  pub canonical : IsCanonicalState s
  pub stored : s.valid ≡ true → entered_words grants s.dword0 s.dword1 ≡ Some (s.dword0, s.dword1)
