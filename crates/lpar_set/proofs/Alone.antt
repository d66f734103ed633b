-- Each partition of a set is answered as it would be with the pool to itself, until a PREPARE is
-- refused for lack of room.
use Rattle.std.proofs.Common.{◌≡◌, ℕ, ◌<◌, List, map, length, sym, ◌∙◌, subst}
use Rattle.pool_range.specs.Ranges.{IsPoolRange}
use Rattle.hpt_pool.specs.Pool.{no_blocks}
use Rattle.trace_line.specs.declared.line.TraceLine.{TraceLine}
use Rattle.run_model.specs.Stores.{page_table}
use Rattle.lpar_set.specs.OpeningTables.{opening_place, with_opening}
use Rattle.lpar_set.specs.SetTrace.{AcceptedSet, IsAcceptedSet, partition_at}
use Rattle.lpar_set.specs.SetRun.{MemberState, with_pool, opening_set, set_replies}
use Rattle.lpar_set.specs.SetLaws.{replies_of, served, without_place, RunsAsIfAlone}
use Rattle.lpar_set.proofs.FirstLines.{first_of_serial}
use Rattle.lpar_set.proofs.LinesOfTurns.{lines_are_turns}
use Rattle.lpar_set.proofs.Moved.{moved}
use Rattle.lpar_set.proofs.SetKept.{opening_keeps}
use Rattle.lpar_set.proofs.LoneOpening.{opens_alone, opens_like, opens_over, opening_count, alone_order, shared_order}
use Rattle.lpar_set.proofs.OwnAddresses.{of_set}
use Rattle.lpar_set.proofs.AloneTurns.{IsLike, IsRunning, RunsLike, turns_alone}

-- ---- the beginning
opens_alike :
    (s : AcceptedSet) (k : ℕ)
    → IsAcceptedSet s
    → k < length s.partitions
    → IsLike (opening_set s) k (page_table (partition_at s k).trace.config)
opens_alike s k is within =
    let c = (partition_at s k).trace.config in
    let own_is = of_set s is k within in
    let configured = own_is.accepted.configured in
    let range : IsPoolRange c.granted.pool_base c.granted.pool_order = subst
    (λ n. IsPoolRange n c.granted.pool_order) (sym own_is.base)
    (subst (λ n. IsPoolRange s.pool_base n) (sym own_is.order) is.pool) in
    let over = opens_over (no_blocks s.pool_base s.pool_order) s.partitions k within in
    let own = no_blocks c.granted.pool_base c.granted.pool_order in
    let whole = (opening_set s).pool in
    let pool = with_opening own c.order in
    let place = opening_place own c.order in
    record {
      pool = pool;
      place = place;
      other = 0;
      is =
          subst (λ (m : MemberState). page_table c ≡ moved (with_pool whole m) pool place 0)
          (sym over.is) (opens_like whole over.left c);
      alone = opens_alone c range configured.settings.at_least configured.room;
      order =
          alone_order c
          ∙ own_is.order
          ∙ sym (shared_order (no_blocks s.pool_base s.pool_order) s.partitions);
    }

opens_running : (s : AcceptedSet) → IsAcceptedSet s → IsRunning s (opening_set s)
opens_running s is = record {
  state = opening_keeps s is;
  count = opening_count (no_blocks s.pool_base s.pool_order) s.partitions;
}

-- ---- the run
pub runs_as_if_alone :
    (s : AcceptedSet)
    → IsAcceptedSet s
    → (k : ℕ)
    → k < length s.partitions
    → RunsAsIfAlone (partition_at s k).trace (served (replies_of k s.turns (set_replies s)))
runs_as_if_alone s is k within =
    let u = page_table (partition_at s k).trace.config in
    let rs = served (replies_of k s.turns (set_replies s)) in
    let t = (partition_at s k).trace in
    let alike : RunsLike rs u t.lines = subst (λ (ls : List TraceLine). RunsLike rs u ls)
    (lines_are_turns s is k within)
    (turns_alone s k (opening_set s) u s.turns within (opens_running s is) is.turns
    (opens_alike s k is within)) in
    subst (λ qs. map without_place rs ≡ map without_place qs)
    (first_of_serial t (length rs) (of_set s is k within).windows) alike
