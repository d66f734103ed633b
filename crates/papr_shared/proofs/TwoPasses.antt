-- Two passes after a split and after a join.
use Rattle.std.specs.Prelude.{nat_le}
use Rattle.std.proofs.Common.{◌≡◌, ℤ, true, Option, Some, None, refl, inl}
use Rattle.papr_codes.specs.ReturnCodes.{rc_code}
use Rattle.papr_codes.specs.declared.codes.Rc.TheVariants.{Success}
use Rattle.shared_pass.specs.declared.working.Working.{Working}
use Rattle.shared_pass.specs.Workings.{is_free, IsSplitOff, IsTakenIn}
use Rattle.papr_shared.specs.Passes.{two_after, IsSplitting, SplitsBy, IsJoining}

pub split_two :
    (x y z : Working) (other : Option Working)
    → nat_le 2 x.sharer.pass.shares ≡ true
    → other ≡ Some z
    → IsSplitOff x y z
    → SplitsBy (nat_le 2 x.sharer.pass.shares) x (two_after (Some y) other (rc_code Success))
split_two x y z other two is off =
    rw two
    (inl
    (record {
      left = y;
      right = z;
      pass_is = refl;
      other_is = is;
      code_is = refl;
      split_off = off;
    }))

pub split_in :
    (x y : Working) (before other after other_after : Option Working) (code told : ℤ)
    → before ≡ Some x
    → other ≡ None
    → after ≡ Some y
    → told ≡ code
    → SplitsBy (nat_le 2 x.sharer.pass.shares) x (two_after (Some y) other_after code)
    → IsSplitting before other (two_after after other_after told)
split_in x y before other after other_after code told was closed is tells split =
    rw (was, closed, is, tells) split

pub joined_in :
    (x y z : Working) (before other after other_after : Option Working) (code : ℤ)
    → before ≡ Some x
    → other ≡ Some y
    → is_free x ≡ true
    → is_free y ≡ true
    → after ≡ Some z
    → other_after ≡ None
    → code ≡ rc_code Success
    → IsTakenIn x y z
    → IsJoining before other (two_after after other_after code)
joined_in x y z before other after other_after code was other_was free other_free is other_is tells
    taken =
    rw (was, other_was, free, other_free)
    (record { both = z; pass_is = is; other_is = other_is; code_is = tells; taken_in = taken })
