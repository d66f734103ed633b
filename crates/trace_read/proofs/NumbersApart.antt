-- Windows whose numbers differ, and one more.
use Rattle.std.proofs.Common.{◌≡◌, ◌<◌, List, [], ◌∷◌, ◌++◌, length, length-append, eqb, false, arith}
use Rattle.std.proofs.lemmas.Bool.{eqb-false, or_parts}
use Rattle.basics.proofs.Each.{each_append}
use Rattle.bus_window.specs.Windows.{BusWindow, IsWindow}
use Rattle.trace_read.specs.Configuration.{NumbersDiffer, AreWindows}
use Rattle.trace_read.specs.Windows.{has_number}

-- One more, whose number none of these has.
numbers_push :
    (ws : List BusWindow) (w : BusWindow) → NumbersDiffer ws → has_number ws w.liobn ≡ false
    → NumbersDiffer (ws ++ w ∷ [])
numbers_push [] w differ fresh = (tt, tt)
numbers_push (v ∷ vs) w differ fresh =
    let parts = or_parts (eqb v.liobn w.liobn) (has_number vs w.liobn) fresh in (
      each_append _ vs (w ∷ []) differ.0 (eqb-false _ _ parts.0, tt),
      numbers_push vs w differ.1 parts.1,
    )

pub AreWindows-push :
    (ws : List BusWindow) (w : BusWindow) → AreWindows ws → IsWindow w → length ws < 4
    → has_number ws w.liobn ≡ false → AreWindows (ws ++ w ∷ [])
AreWindows-push ws w are here room fresh = record {
  each = each_append _ ws (w ∷ []) are.each (here, tt);
  few = omega (arith, length-append ws (w ∷ []));
  differ = numbers_push ws w are.differ fresh;
}
