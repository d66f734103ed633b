-- The readings of a set after a line of one partition: that partition's is replaced, and the
-- others stay.
use Rattle.std.specs.Prelude.{unwrap_or}
use Rattle.std.proofs.Common.{◌≡◌, ◌≢◌, ◌∙◌, ℕ, ◌<◌, List, length, get_or, Option, Some, None, ap}
use Rattle.std.proofs.lemmas.List.{get_or-set_same, get_or-set_other}
use Rattle.trace_read.specs.declared.given.Given.{Given}
use Rattle.trace_read.specs.Grammar.{Reading, reading_beside}
use Rattle.lpar_set.specs.SetGrammar.{SetReading, reading_of}
use Rattle.lpar_set.specs.SetReadings.{reading_at}
use Rattle.lpar_set.proofs.LinesTaken.{IsAdded, counted}

pub own_at :
    (r s : SetReading) (number : ℕ) (new : Reading) (given : Given)
    → number < length r.readings
    → IsAdded (counted r) number new given s
    → reading_at s number ≡ Some new
own_at r s number new given inside added =
    ap (λ (os : List (Option Reading)). get_or os number None) added.readings
    ∙ get_or-set_same r.readings number (Some new) None inside

pub other_at :
    (r s : SetReading) (number m : ℕ) (new : Reading) (given : Given)
    → m ≢ number
    → IsAdded (counted r) number new given s
    → reading_at s m ≡ reading_at r m
other_at r s number m new given other added =
    ap (λ (os : List (Option Reading)). get_or os m None) added.readings
    ∙ get_or-set_other r.readings number m (Some new) None other

pub same_start :
    (r s : SetReading) (number : ℕ) (new : Reading) (given : Given)
    → IsAdded (counted r) number new given s
    → reading_beside s.pool_base s.pool_order ≡ reading_beside r.pool_base r.pool_order
same_start r s number new given added =
    ap (λ b. reading_beside b s.pool_order) added.base ∙ ap (reading_beside r.pool_base) added.order

pub own_there :
    (r s : SetReading) (number : ℕ) (new : Reading) (given : Given)
    → number < length r.readings
    → IsAdded (counted r) number new given s
    → reading_of s number ≡ new
own_there r s number new given inside added =
    ap (λ o. unwrap_or o (reading_beside s.pool_base s.pool_order))
    (own_at r s number new given inside added)

pub other_there :
    (r s : SetReading) (number m : ℕ) (new : Reading) (given : Given)
    → m ≢ number
    → IsAdded (counted r) number new given s
    → reading_of s m ≡ reading_of r m
other_there r s number m new given other added =
    ap (λ o. unwrap_or o (reading_beside s.pool_base s.pool_order))
    (other_at r s number m new given other added)
    ∙ ap (unwrap_or (reading_at r m)) (same_start r s number new given added)
