-- A list of grants that is made one grant after the other.
use Rattle.std.proofs.Common.{◌≡◌, ℕ, ◌+◌, ◌<◌, ◌≤◌, List, length, drop, get_or, Some, None, refl}
use Rattle.std.proofs.Math.Numerals.{add-one}
use Rattle.std.proofs.Math.Seq.{drop-cons}
use Rattle.std.proofs.lemmas.List.{drop_all}
use Rattle.pool_range.specs.Ranges.{range_refusal}
use Rattle.pool_range.specs.declared.range.RangeError.{RangeError}
use Rattle.frame_grants.specs.declared.error.GrantError.{GrantError}
use Rattle.frame_grants.specs.Grants.{GrantedMemory, no_grants, add_refusal, with_grant}
use Rattle.c_layout.specs.declared.grants.PaprGrant.{PaprGrant}
use Rattle.c_layout.specs.Grants.{grant_of}
use Rattle.papr_c.specs.Grants.{making_from, making_of, Making}

-- Where the pool's range is refused no list of grants is made.
pub without_pool :
    (base order : ℕ) (given : List PaprGrant) (e : RangeError)
    → range_refusal base order ≡ Some e
    → making_of base order given ≡ Making.NoPool e
unfolding making_of
without_pool base order given e no_pool = rw no_pool refl

-- Where there is a pool the grants are added one after the other.
pub beside_pool :
    (base order : ℕ) (given : List PaprGrant)
    → range_refusal base order ≡ None
    → making_of base order given ≡ making_from (no_grants base order) 0 given
unfolding making_of
beside_pool base order given pool = rw pool refl

-- One more that is taken.
pub one_taken :
    (granted : GrantedMemory) (index : ℕ) (given : List PaprGrant) (d : PaprGrant)
    → index < length given
    → add_refusal granted (grant_of (get_or given index d)) ≡ None
    → making_from granted index (drop index given)
    ≡ making_from (with_grant granted (grant_of (get_or given index d))) (index + 1)
    (drop (index + 1) given)
one_taken granted index given d inside taken =
    rw (drop-cons given index d inside, taken, add-one) refl

-- One that is refused.
pub one_refused :
    (granted : GrantedMemory) (index : ℕ) (given : List PaprGrant) (d : PaprGrant) (e : GrantError)
    → index < length given
    → add_refusal granted (grant_of (get_or given index d)) ≡ Some e
    → making_from granted index (drop index given) ≡ Making.Refused index e
one_refused granted index given d e inside refused =
    rw (drop-cons given index d inside, refused) refl

-- After the last grant the list is made.
pub all_taken :
    (granted : GrantedMemory) (index : ℕ) (given : List PaprGrant)
    → length given ≤ index
    → making_from granted index (drop index given) ≡ Making.Made granted
all_taken granted index given past = rw (drop_all index given past) refl
