-- The tables of a set open in blocks of their own.
use Rattle.std.specs.Prelude.{unwrap_or}
use Rattle.std.specs.List.{AllByRecursion}
use Rattle.std.proofs.Common.{◌≡◌, ◌≢◌, ℕ, ◌≤◌, false, List, [], ◌∷◌, ◌++◌, All, Contains, map, get_or, Option, Some, None, refl, sym, ap, ◌∙◌, subst, append_assoc, append-nil, arith}
use Rattle.std.proofs.lemmas.List.Elements.{All-nil, All-cons, All-append, All-contains, All-weaker}
use Rattle.hpt_pool.specs.Pool.{Block, PoolState, IsSound, block_at, overlap, lowest_place}
use Rattle.hpt_pool.proofs.Kept.{with_contains, with_keeps}
use Rattle.hpt_pool.proofs.Placing.{fits_in, sound_with, apart_places}
use Rattle.hpt_resize.proofs.Holding.{lowest_fits}
use Rattle.hpt_resize.proofs.OpeningStates.{opening-length}
use Rattle.trace_read.specs.Configuration.{Configuration}
use Rattle.lpar_set.specs.OpeningTables.{HasRoomFor, opening_place, with_opening}
use Rattle.lpar_set.specs.SetTrace.{NumberedTrace, IsOfSet}
use Rattle.lpar_set.specs.SetRun.{MemberState, opening_table, opening_member, opening_members, opening_pool}
use Rattle.lpar_set.specs.SetStates.{IsMember, held_blocks}
use Rattle.lpar_set.proofs.BlocksApart.{BeginApart, AreHeld, pairs_append}
use Rattle.hpte_fields.specs.TableSize.{greatest_order, least_order}

-- ---- one further block
-- A block that a pool has room for is taken, and begins apart from all that were taken.
pub record IsPlacedIn (pool : PoolState) (order : ℕ) : Type 0 where
  pub sound : IsSound (with_opening pool order)
  pub apart :
      All (λ (other : Block). BeginApart (block_at (opening_place pool order) order) other)
      pool.taken

some_is : (o : Option ℕ) → o ≢ None → o ≡ Some (unwrap_or o 0)
some_is None room = absurd (room refl)
some_is (Some place) room = refl

pub placed_in :
    (pool : PoolState) (order : ℕ)
    → IsSound pool
    → least_order ≤ order
    → lowest_place pool order ≢ None
    → IsPlacedIn pool order
placed_in pool order sound large room =
    let found : lowest_place pool order ≡ Some (opening_place pool order) = some_is
    (lowest_place pool order) room in
    let block = block_at (opening_place pool order) order in
    let fit = fits_in pool order (opening_place pool order) large
    (lowest_fits pool order (opening_place pool order) found) in
    record {
      sound = sound_with pool block sound fit;
      apart =
          All-weaker (λ (other : Block). overlap block other ≡ false) (BeginApart block)
          (λ other clear. apart_places block other clear) pool.taken fit.apart;
    }

-- Blocks that were held stay so next to it.
pub with_one :
    (pool : PoolState) (order : ℕ) (blocks : List Block)
    → IsPlacedIn pool order
    → AreHeld pool.taken blocks
    → AreHeld (with_opening pool order).taken
    (blocks ++ block_at (opening_place pool order) order ∷ [])
with_one pool order blocks placed held =
    let block = block_at (opening_place pool order) order in
    let Held = Contains (with_opening pool order).taken in
    record {
      held =
          All-append Held blocks (block ∷ [])
          (All-weaker (Contains pool.taken) Held
          (λ other here. with_keeps pool.taken block other here) blocks held.held)
          (All-cons Held block [] (with_contains pool.taken block) (All-nil Held));
      apart =
          pairs_append BeginApart blocks (block ∷ []) held.apart
          (λ i j d before inside. absurd (omega arith))
          (λ k d inside.
          let other = get_or blocks k d in
          let apart : BeginApart block other = All-contains (BeginApart block) pool.taken other
          placed.apart (held.held k d inside) in
          All-cons (BeginApart other) block [] (λ same. apart (sym same))
          (All-nil (BeginApart other)));
    }

-- ---- all tables
opening_block :
    (pool : PoolState) (c : Configuration) (members : List MemberState)
    → held_blocks (opening_member pool c ∷ members)
    ≡ block_at (opening_place pool c.order) c.order ∷ held_blocks members
unfolding opening_table
opening_block pool c members = refl

-- The pool is sound, and the tables hold blocks of it beside those that were held before.
pub record AreOpened (pool : PoolState) (before blocks : List Block) : Type 0 where
  pub sound : IsSound pool
  pub held : AreHeld pool.taken (before ++ blocks)

of_set_low :
    (base order : ℕ) (p : NumberedTrace) → IsOfSet base order p → least_order ≤ p.trace.config.order
of_set_low base order p is = is.accepted.configured.settings.at_least

tables_open :
    (base order : ℕ) (pool : PoolState) (ps : List NumberedTrace) (before : List Block)
    → IsSound pool
    → HasRoomFor pool (map (λ (p : NumberedTrace). p.trace.config.order) ps)
    → AllByRecursion (IsOfSet base order) ps
    → AreHeld pool.taken before
    → AreOpened (opening_pool pool ps) before (held_blocks (opening_members pool ps))
tables_open base order pool [] before sound room each held =
    record { sound = sound; held = subst (AreHeld pool.taken) (sym (append-nil before)) held }
tables_open base order pool (p ∷ ps) before sound room each held =
    let c = p.trace.config in
    let block = block_at (opening_place pool c.order) c.order in
    let next = with_opening pool c.order in
    let members = opening_members next ps in
    let placed = placed_in pool c.order sound (of_set_low base order p each.0) room.0 in
    let rest = tables_open base order next ps (before ++ block ∷ []) placed.sound room.1 each.1
    (with_one pool c.order before placed held) in
    let joined : (before ++ block ∷ []) ++ held_blocks members ≡ before ++ held_blocks
    (opening_member pool c ∷ members) = append_assoc before (block ∷ []) (held_blocks members) ∙
    ap (λ blocks. before ++ blocks) (sym (opening_block pool c members)) in
    record {
      sound = rest.sound;
      held = subst (AreHeld (opening_pool next ps).taken) joined rest.held;
    }

-- ---- the partitions
opening_is :
    (base order : ℕ) (pool : PoolState) (p : NumberedTrace)
    → IsOfSet base order p
    → IsMember (opening_member pool p.trace.config)
unfolding opening_table
opening_is base order pool p is =
    let c = p.trace.config in
    let settings = is.accepted.configured.settings in
    let below : c.order ≤ c.limit = settings.within in
    let least : least_order ≤ c.order = settings.at_least in
    let most : c.limit ≤ greatest_order = omega (arith, settings.at_most) in
    record {
      limit_fits = (omega arith, most);
      order_fits = (least, omega arith);
      whole = opening-length c.order c.entries;
    }

pub openings_are :
    (base order : ℕ) (pool : PoolState) (ps : List NumberedTrace)
    → AllByRecursion (IsOfSet base order) ps
    → AllByRecursion IsMember (opening_members pool ps)
openings_are base order pool [] each = tt
openings_are base order pool (p ∷ ps) each = (
  opening_is base order pool p each.0,
  openings_are base order (with_opening pool p.trace.config.order) ps each.1,
)

-- All of them open in a sound pool.
pub opens_held :
    (base order : ℕ) (pool : PoolState) (ps : List NumberedTrace)
    → IsSound pool
    → HasRoomFor pool (map (λ (p : NumberedTrace). p.trace.config.order) ps)
    → AllByRecursion (IsOfSet base order) ps
    → AreOpened (opening_pool pool ps) [] (held_blocks (opening_members pool ps))
opens_held base order pool ps sound room each =
    tables_open base order pool ps [] sound room each
    (record {
      held = All-nil (Contains pool.taken);
      apart = λ i j d before inside. absurd (omega arith);
    })
