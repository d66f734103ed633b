use Rattle.std.proofs.Common.{◌∙◌, refl}
use Rattle.c_layout.specs.Grants.{no_fields}
use Rattle.papr_c.proofs.Makings.{without_pool, beside_pool, one_taken, one_refused, all_taken}
use Rattle.papr_c.proofs.granting.papr_make_grants.Goals as goal

pub returns-in-Err-clause-told : goal.returns-in-Err-clause-told
returns-in-Err-clause-told c =
    let told = rw c.from.ensures at c.in-Err.ensures.told in
    rw (
      without_pool c.args.pool_base c.args.pool_order c.args.given.now c.in-Err.error told,
      c.pool_refusal_number.ensures,
    ) refl

pub returns-in-Err-clause-list : goal.returns-in-Err-clause-list
returns-in-Err-clause-list c =
    let told = rw c.from.ensures at c.in-Err.ensures.told in
    rw (without_pool c.args.pool_base c.args.pool_order c.args.given.now c.in-Err.error told) refl

pub loop-index-preserved : goal.loop-index-preserved
loop-index-preserved c =
    let taken = rw c.grant.ensures at c.in_default.ensures.told in
    let added = rw c.grant.ensures at c.in_default.ensures.ok in
    rw added
    (c.loop-index.invariant
    ∙ one_taken c.loop-index.grants c.loop-index.index c.args.given.now no_fields
    c.loop-index-test.true taken)

pub returns-in-Err-add-clause-told : goal.returns-in-Err-add-clause-told
returns-in-Err-add-clause-told c =
    let refused = rw c.grant.ensures at c.in-Err-add.ensures.told in
    let made =
    beside_pool c.args.pool_base c.args.pool_order c.args.given.now
    (rw c.from.ensures at c.in-Ok.ensures.told)
    ∙ c.loop-index.invariant
    ∙ one_refused c.loop-index.grants c.loop-index.index c.args.given.now no_fields
    c.in-Err-add.error c.loop-index-test.true refused in
    rw (made, c.grant_refusal_number.ensures) refl

pub returns-in-Err-add-clause-list : goal.returns-in-Err-add-clause-list
returns-in-Err-add-clause-list c =
    let refused = rw c.grant.ensures at c.in-Err-add.ensures.told in
    let made =
    beside_pool c.args.pool_base c.args.pool_order c.args.given.now
    (rw c.from.ensures at c.in-Ok.ensures.told)
    ∙ c.loop-index.invariant
    ∙ one_refused c.loop-index.grants c.loop-index.index c.args.given.now no_fields
    c.in-Err-add.error c.loop-index-test.true refused in
    rw made refl

pub returns-clause-told : goal.returns-clause-told
returns-clause-told c =
    let made =
    beside_pool c.args.pool_base c.args.pool_order c.args.given.now
    (rw c.from.ensures at c.in-Ok.ensures.told)
    ∙ c.loop-index.invariant
    ∙ all_taken c.loop-index.grants c.loop-index.index c.args.given.now c.loop-index-test.false in
    rw made refl

pub returns-clause-list : goal.returns-clause-list
returns-clause-list c =
    let made =
    beside_pool c.args.pool_base c.args.pool_order c.args.given.now
    (rw c.from.ensures at c.in-Ok.ensures.told)
    ∙ c.loop-index.invariant
    ∙ all_taken c.loop-index.grants c.loop-index.index c.args.given.now c.loop-index-test.false in
    rw made (c.of.ensures ∙ c.list.ensures.items)
