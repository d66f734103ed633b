use Rattle.std.proofs.Common.{◌≡◌, ◌<◌, ◌∙◌, sym, subst, length}
use Rattle.std.proofs.lemmas.List.{get_or_default}
use Rattle.hpt_resize.specs.Resize.{IsHeld}
use Rattle.hpt_pool.specs.Pool.{block_at}
use Rattle.std.specs.Prelude.{Contains}
use Rattle.trace_reply.specs.Slots.{reply_in}
use Rattle.lpar_set.specs.SetRun.{MemberState, SetState, no_member, member_at}
use Rattle.lpar_set.proofs.SetSteps.{own_taken, own_pending, still_set}
use Rattle.lpar_set.proofs.members.Members.line.Goals as goal

pub line-requires-clause-pending : goal.line-requires-clause-pending
line-requires-clause-pending c =
    let w : SetState = record { pool = c.self.inside.pool; members = c.self.inside.members.items }
    in
    let inside : c.args.partition < length w.members = subst
    (λ (v : SetState). c.args.partition < length v.members) (sym c.self.view_is)
    c.requires.partition in
    let is : c.index_mut.result.now ≡ member_at w c.args.partition = c.index_mut.ensures.value ∙
    get_or_default w.members c.args.partition c.index_mut.result.now no_member inside in
    subst (λ (m : MemberState). IsHeld m.pending w.pool) (sym is)
    (own_pending w c.args.partition c.self.invariant inside)

pub line-requires-clause-taken : goal.line-requires-clause-taken
line-requires-clause-taken c =
    let w : SetState = record { pool = c.self.inside.pool; members = c.self.inside.members.items }
    in
    let inside : c.args.partition < length w.members = subst
    (λ (v : SetState). c.args.partition < length v.members) (sym c.self.view_is)
    c.requires.partition in
    let is : c.index_mut.result.now ≡ member_at w c.args.partition = c.index_mut.ensures.value ∙
    get_or_default w.members c.args.partition c.index_mut.result.now no_member inside in
    subst (λ (m : MemberState). Contains w.pool.taken (block_at m.table.place m.table.order))
    (sym is) (own_taken w c.args.partition c.self.invariant inside)

pub invariant_of-self : goal.invariant_of-self
invariant_of-self c =
    let w : SetState = record { pool = c.self.inside.pool; members = c.self.inside.members.items }
    in
    let inside : c.args.partition < length w.members = subst
    (λ (v : SetState). c.args.partition < length v.members) (sym c.self.view_is)
    c.requires.partition in
    let is : c.index_mut.result.now ≡ member_at w c.args.partition = c.index_mut.ensures.value ∙
    get_or_default w.members c.args.partition c.index_mut.result.now no_member inside in
    still_set c.line.result w c.args.partition c.index_mut.result.now c.line.new.self
    c.line.new.pool c.args.line.now (reply_in c.line.new.slot) c.self.invariant inside is
    c.line.ensures.reply c.line.ensures.same c.line.ensures.same_pool
