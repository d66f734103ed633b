use Rattle.std.proofs.Common.{map}
use Rattle.hpt_resize.specs.Rehash.{IsPlacedBelow}
use Rattle.hpt_resize.proofs.Holders.{AreHolders}
use Rattle.hpt_resize.proofs.carry.rehash_into.Given as goal

abbrev pub invariant-loop-index : goal.invariant-loop-index
invariant-loop-index g l = record {
  placed :
      IsPlacedBelow l.order_from l.order_to (map g.H.StateHolder.held l.states)
      (map g.H.StateHolder.held l.into) l.index;
  holders : AreHolders g.H.StateHolder.held g.H.StateHolder.holding l.fn.into l.into;
}
