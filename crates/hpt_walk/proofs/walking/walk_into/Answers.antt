use Rattle.entry_model.specs.Reply.{access_mode}
use Rattle.std.proofs.Common.{◌≡◌, List, Some, true, false, ap, sym, ◌∙◌, subst}
use Rattle.entry_model.specs.declared.receipt.Receipt.{Receipt}
use Rattle.entry_model.specs.Receipt.{is_no_match, found_of}
use Rattle.entry_model.specs.Trial.{IsTrial, receipts_added}
use Rattle.hpte_fields.proofs.TableSizes.{groups_few}
use Rattle.hpt_hash.specs.Hash.{group_of}
use Rattle.hpt_walk.specs.Walk.{group_calls, walk_calls}
use Rattle.hpt_walk.proofs.Found.{found_joined}
use Rattle.hpt_walk.proofs.Walks.{group_in_table, walk_ends, walk_joined, walk_none, walk_shown, walk_translates}
use Rattle.hpt_walk.proofs.walking.walk_into.Goals as goal

-- ---- the primary group
pub search-requires-clause-in_table : goal.search-requires-clause-in_table
search-requires-clause-in_table g c =
    rw (← c.order.ensures.value)
    (group_in_table c.order.result c.groups-primary.result.0 c.order.ensures.order.0
    c.groups-primary.ensures.primary_in_table)

pub search-requires-clause-small : goal.search-requires-clause-small
search-requires-clause-small g c =
    groups_few c.groups-primary.result.0 c.order.result
    c.groups-primary.ensures.primary_in_table c.order.ensures.order

pub returns-in-Some-clause-trial : goal.returns-in-Some-clause-trial
returns-in-Some-clause-trial g c =
    let page = c.args.page.now in
    let first : List Receipt = c.search.new.receipts in
    let trial : IsTrial is_no_match (group_calls c.access_op-op.result c.groups-primary.result.0)
    first = rw c.clear.ensures at c.search.ensures.trial in
    let found : c.search.result ≡ found_of first = rw c.clear.ensures at c.search.ensures.found in
    let group : c.groups-primary.result.0 ≡ group_of page
    (g.T.EntryStore.table_order c.args.store.now) false = c.groups-primary.ensures.primary ∙ ap
    (λ o. group_of page o false) c.order.ensures.value in
    walk_ends (g.T.EntryStore.table_order c.args.store.now) page
    (access_mode c.args.key c.args.no_execute c.args.want c.args.masks) c.access_op-op.result
    c.groups-primary.result.0 first c.in-Some.receipt c.access_op-op.ensures.op group trial
    (sym found ∙ c.in-Some.is)

pub returns-in-Some-clause-shown : goal.returns-in-Some-clause-shown
returns-in-Some-clause-shown g c =
    let found : c.search.result ≡ found_of c.search.new.receipts = rw c.clear.ensures at
    c.search.ensures.found in
    walk_shown (g.T.EntryStore.table_order c.args.store.now) c.args.page.now
    (access_mode c.args.key c.args.no_execute c.args.want c.args.masks) c.search.new.receipts
    (Some c.in-Some.receipt) (returns-in-Some-clause-trial g c) (sym c.in-Some.is ∙ found)

pub returns-in-Some-clause-translates : goal.returns-in-Some-clause-translates
returns-in-Some-clause-translates g c =
    let found : c.search.result ≡ found_of c.search.new.receipts = rw c.clear.ensures at
    c.search.ensures.found in
    walk_translates (g.T.EntryStore.table_order c.args.store.now) c.args.page.now
    (access_mode c.args.key c.args.no_execute c.args.want c.args.masks) c.search.new.receipts
    (Some c.in-Some.receipt) (returns-in-Some-clause-trial g c) (sym c.in-Some.is ∙ found)

-- ---- the secondary group
pub search-requires-2-clause-in_table : goal.search-requires-2-clause-in_table
search-requires-2-clause-in_table g c =
    let stays : g.T.EntryStore.table_order c.search.new.store ≡ c.order.result =
    g.met.T.EntryStore.order_stays _ _ _ c.search.ensures.made ∙ sym c.order.ensures.value in
    rw stays
    (group_in_table c.order.result c.groups-primary.result.1 c.order.ensures.order.0
    c.groups-primary.ensures.secondary_in_table)

pub search-requires-2-clause-small : goal.search-requires-2-clause-small
search-requires-2-clause-small g c =
    groups_few c.groups-primary.result.1 c.order.result
    c.groups-primary.ensures.secondary_in_table c.order.ensures.order

pub returns-clause-made : goal.returns-clause-made
returns-clause-made g c =
    let first : List Receipt = c.search.new.receipts in
    let all : List Receipt = c.search-2.new.receipts in
    let made : g.T.EntryStore.made c.args.store.now c.search.new.store first = rw c.clear.ensures at
    c.search.ensures.made in
    subst (g.T.EntryStore.made c.args.store.now c.search-2.new.store)
    (sym c.search-2.ensures.behind)
    (g.met.T.EntryStore.made_more _ _ _ first (receipts_added first all) made
    c.search-2.ensures.made)

pub returns-clause-trial : goal.returns-clause-trial
returns-clause-trial g c =
    let page = c.args.page.now in
    let order = g.T.EntryStore.table_order c.args.store.now in
    let first : List Receipt = c.search.new.receipts in
    let all : List Receipt = c.search-2.new.receipts in
    let trial : IsTrial is_no_match (group_calls c.access_op-op.result c.groups-primary.result.0)
    first = rw c.clear.ensures at c.search.ensures.trial in
    let found : c.search.result ≡ found_of first = rw c.clear.ensures at c.search.ensures.found in
    let primary : c.groups-primary.result.0 ≡ group_of page order false =
    c.groups-primary.ensures.primary ∙ ap (λ o. group_of page o false) c.order.ensures.value in
    let secondary : c.groups-primary.result.1 ≡ group_of page order true =
    c.groups-primary.ensures.secondary ∙ ap (λ o. group_of page o true) c.order.ensures.value in
    subst
    (IsTrial is_no_match
    (walk_calls order page
    (access_mode c.args.key c.args.no_execute c.args.want c.args.masks)))
    (sym c.search-2.ensures.behind)
    (walk_joined order page (access_mode c.args.key c.args.no_execute c.args.want c.args.masks)
    c.access_op-op.result c.access_op-op-2.result c.groups-primary.result.0
    c.groups-primary.result.1 first (receipts_added first all) c.access_op-op.ensures.op
    primary c.access_op-op-2.ensures.op secondary trial (sym found ∙ c.in_default.is)
    c.search-2.ensures.trial)

pub returns-clause-found : goal.returns-clause-found
returns-clause-found g c =
    let first : List Receipt = c.search.new.receipts in
    let all : List Receipt = c.search-2.new.receipts in
    let found : c.search.result ≡ found_of first = rw c.clear.ensures at c.search.ensures.found in
    c.search-2.ensures.found
    ∙ sym
    (ap found_of c.search-2.ensures.behind
    ∙ found_joined first (receipts_added first all) (sym found ∙ c.in_default.is))

pub returns-clause-none : goal.returns-clause-none
returns-clause-none g c =
    walk_none (g.T.EntryStore.table_order c.args.store.now) c.args.page.now
    (access_mode c.args.key c.args.no_execute c.args.want c.args.masks) c.search-2.new.receipts
    c.search-2.result (returns-clause-trial g c) (returns-clause-found g c)

pub returns-clause-shown : goal.returns-clause-shown
returns-clause-shown g c =
    walk_shown (g.T.EntryStore.table_order c.args.store.now) c.args.page.now
    (access_mode c.args.key c.args.no_execute c.args.want c.args.masks) c.search-2.new.receipts
    c.search-2.result (returns-clause-trial g c) (returns-clause-found g c)

pub returns-clause-translates : goal.returns-clause-translates
returns-clause-translates g c =
    walk_translates (g.T.EntryStore.table_order c.args.store.now) c.args.page.now
    (access_mode c.args.key c.args.no_execute c.args.want c.args.masks) c.search-2.new.receipts
    c.search-2.result (returns-clause-trial g c) (returns-clause-found g c)
