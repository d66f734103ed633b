-- What the lines before one say of the partitions, against the reading of the set.
use Rattle.std.proofs.Common.{◌≡◌, ◌≢◌, ◌∙◌, ℕ, ◌<◌, true, List, length, map, get_or, slice_set, Contains, None, sym, ap, subst, inl, inr, ◌⊎◌}
use Rattle.std.proofs.lemmas.Bool.{cases_eq, false≢true}
use Rattle.std.proofs.lemmas.List.{get_or_default, get_or-set_same, get_or-set_other, length-set}
use Rattle.std.proofs.lemmas.List.Folds.{Any-from_list_any, list_any_at}
use Rattle.frame_grants.specs.declared.grant.Grant.{Grant}
use Rattle.frame_grants.specs.Grants.{meets_machine}
use Rattle.hpt_pool.specs.Pool.{PoolState, no_blocks, lowest_place}
use Rattle.trace_read.specs.Configuration.{Configuration}
use Rattle.lpar_set.specs.OpeningTables.{with_openings}
use Rattle.lpar_set.specs.PartitionLines.{after_all, config_or, opening_tables, own_config, own_lines, shared_pool}
use Rattle.lpar_set.specs.SetGrammar.{SetReading, grants_read, meets_any, meets_stranger, reading_of}
use Rattle.lpar_set.specs.SetReadings.{order_of, orders_begun, reading_at}
use Rattle.lpar_set.proofs.BegunTables.{map_agree}
use Rattle.lpar_set.proofs.Followed.{IsFollowed}
use Rattle.lpar_set.proofs.Partitions.{pool_is, start_is}
use Rattle.lpar_set.proofs.SetPlaces.{grants_there}
use Rattle.basics.proofs.Each.{each_map}

-- ---- configurations
pub config_is :
    (before : List (List ℕ)) (r : SetReading) (number : ℕ)
    → IsFollowed before r
    → number < 8
    → own_config before number ≡ (reading_of r number).config
config_is before r number is below =
    ap config_or
    (ap (λ q. after_all q (own_lines number before)) (start_is before r is) ∙ is.own number below)

-- ---- tables
tables_are :
    (before : List (List ℕ)) (r : SetReading)
    → IsFollowed before r
    → opening_tables before ≡ r.tables
tables_are before r is =
    let orders : map (λ number. (own_config before number).order) r.begun ≡ orders_begun r =
    map_agree (λ number. (own_config before number).order) (order_of r) r.begun
    (each_map (λ number. number < 8)
    (λ number. (own_config before number).order ≡ order_of r number) r.begun
    (λ number below.
    ap (λ (c : Configuration). c.order) (config_is before r number is below))
    is.sound.begun.below) in
    ap
    (λ (ns : List ℕ).
    with_openings (no_blocks (shared_pool before).0 (shared_pool before).1)
    (map (λ number. (own_config before number).order) ns)) (sym is.begun)
    ∙ ap
    (λ (pool : ℕ × ℕ).
    with_openings (no_blocks pool.0 pool.1)
    (map (λ number. (own_config before number).order) r.begun)) (pool_is before r is)
    ∙ ap (with_openings (no_blocks r.pool_base r.pool_order)) orders
    ∙ sym is.sound.tables

-- The place for a partition's table is looked for in the same pool.
pub place_is :
    (before : List (List ℕ)) (r : SetReading) (number : ℕ)
    → IsFollowed before r
    → number < 8
    → lowest_place (opening_tables before) (own_config before number).order
    ≡ lowest_place r.tables (reading_of r number).config.order
place_is before r number is below =
    ap (λ (pool : PoolState). lowest_place pool (own_config before number).order)
    (tables_are before r is)
    ∙ ap (λ (c : Configuration). lowest_place r.tables c.order) (config_is before r number is below)

-- ---- grants
-- A grant that another partition's own lines gave.
pub record IsOfAnother (before : List (List ℕ)) (number : ℕ) (grant : Grant) : Type 0 where
  pub other : ℕ
  pub theirs : Grant
  pub below : other < 8
  pub apart : other ≢ number
  pub has : Contains (own_config before other).granted.grants theirs
  pub meets : meets_machine grant theirs ≡ true

grants_are :
    (before : List (List ℕ)) (r : SetReading) (number : ℕ)
    → IsFollowed before r
    → number < 8
    → grants_read (reading_at r number) ≡ (own_config before number).granted.grants
grants_are before r number is below =
    grants_there r number
    ∙ ap (λ (c : Configuration). c.granted.grants) (sym (config_is before r number is below))

found_at :
    (before : List (List ℕ)) (r : SetReading) (number k : ℕ) (grant : Grant)
    → IsFollowed before r
    → k < 8
    → k ≢ number
    → meets_any grant (reading_at r k) ≡ true
    → IsOfAnother before number grant
found_at before r number k grant is below apart met =
    let found = Any-from_list_any (meets_machine grant) (grants_read (reading_at r k)) met in
    record {
      other = k;
      theirs = found.1;
      below = below;
      apart = apart;
      has =
          subst (λ (grants : List Grant). Contains grants found.1) (grants_are before r k is below)
          (found.0, found.2, found.3);
      meets = found.4;
    }

-- A grant that meets one of another partition meets one that its lines gave.
pub stranger_found :
    (before : List (List ℕ)) (r : SetReading) (number : ℕ) (grant : Grant)
    → IsFollowed before r
    → meets_stranger r number grant ≡ true
    → IsOfAnother before number grant
stranger_found before r number grant is met =
    let found = Any-from_list_any (meets_any grant) (slice_set r.readings number None) met in
    let inside : found.0 < length r.readings = subst (λ n. found.0 < n)
    (length-set r.readings number None) found.2 in
    let below : found.0 < 8 = subst (λ n. found.0 < n) is.sound.eight inside in
    let there : get_or (slice_set r.readings number None) found.0 None ≡ found.1 = get_or_default
    (slice_set r.readings number None) found.0 None found.1 found.2 ∙ found.3 in
    by found.0 inside below (ap (meets_any grant) there ∙ found.4) (cases_eq found.0 number) where
      by :
          (k : ℕ)
          → k < length r.readings
          → k < 8
          → meets_any grant (get_or (slice_set r.readings number None) k None) ≡ true
          → (k ≡ number) ⊎ (k ≡ number → ⊥)
          → IsOfAnother before number grant
      by k inside below here (inl same) =
          let none : get_or (slice_set r.readings number None) k None ≡ None = subst
          (λ n. get_or (slice_set r.readings n None) k None ≡ None) same
          (get_or-set_same r.readings k None None inside) in
          absurd (false≢true (sym (ap (meets_any grant) none) ∙ here))
      by k inside below here (inr other) =
          found_at before r number k grant is below other
          (sym (ap (meets_any grant) (get_or-set_other r.readings number k None None other))
          ∙ here)

-- A grant that meets one that another partition's lines gave meets one in what was read of them.
pub stranger_met :
    (before : List (List ℕ)) (r : SetReading) (number : ℕ) (grant : Grant)
    → IsFollowed before r
    → IsOfAnother before number grant
    → meets_stranger r number grant ≡ true
stranger_met before r number grant is of =
    let grants : grants_read (reading_at r of.other) ≡ (own_config before of.other).granted.grants =
    grants_are before r of.other is of.below in
    let has : Contains (grants_read (reading_at r of.other)) of.theirs = subst
    (λ (gs : List Grant). Contains gs of.theirs) (sym grants) of.has in
    let met : meets_any grant (reading_at r of.other) ≡ true = list_any_at (meets_machine grant)
    (grants_read (reading_at r of.other)) has.0 of.theirs has.1
    (ap (meets_machine grant) has.2 ∙ of.meets) in
    let there : get_or (slice_set r.readings number None) of.other None ≡ reading_at r of.other =
    get_or-set_other r.readings number of.other None None of.apart in
    let inside : of.other < length (slice_set r.readings number None) = subst (λ n. of.other < n)
    (sym (length-set r.readings number None ∙ is.sound.eight)) of.below in
    list_any_at (meets_any grant) (slice_set r.readings number None) of.other None inside
    (ap (meets_any grant) there ∙ met)
