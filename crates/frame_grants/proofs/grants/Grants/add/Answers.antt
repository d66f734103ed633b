use Rattle.std.proofs.Common.{◌≡◌, ◌<◌, ◌≤◌, ap, lit<, length, None, count_by, arith}
use Rattle.std.proofs.lemmas.List.Sums.{count_by-le-length}
use Rattle.frame_grants.specs.Grants.{GrantedMemory, starts_below, add_refusal}
use Rattle.frame_grants.proofs.Accepting.{room_left, IsInserted, made_sound, made_is}
use Rattle.frame_grants.proofs.grants.Grants.add.Goals as goal

-- there is room, and the place lies in the list
pub insert-requires : goal.insert-requires
insert-requires c =
    let fine : add_refusal c.args.self.now c.args.grant ≡ None = c.in_ok-check.ensures in
    let same : length c.self.inside.items.items ≡ length c.args.self.now.grants = ap
    (λ (g : GrantedMemory). length g.grants) c.self.view_is in
    let room : length c.args.self.now.grants < 64 = room_left c.args.self.now c.args.grant fine in
    let in_list : count_by (starts_below c.args.grant) c.args.self.now.grants ≤ length
    c.args.self.now.grants = count_by-le-length (starts_below c.args.grant)
    c.args.self.now.grants in
    let counted : c.position_of-place.result ≡ count_by (starts_below c.args.grant)
    c.args.self.now.grants = c.position_of-place.ensures in
    let below : length c.self.inside.items.items < 64 = omega arith in
    (lit< tt, (omega arith, below))

abbrev before : goal.After-insert → GrantedMemory
before c =
    record {
      pool_base = c.self.inside.pool_base;
      pool_order = c.self.inside.pool_order;
      grants = c.self.inside.items.items;
    }

made :
    (c : goal.After-insert)
    → IsInserted (before c) c.args.self.now c.args.grant c.position_of-place.result
    c.insert.new.self.items
made c =
    record {
      same = c.self.view_is;
      sound = c.self.invariant;
      fine = c.in_ok-check.ensures;
      counted = c.position_of-place.ensures;
      inserted = c.insert.ensures.items;
    }

pub invariant_of-self : goal.invariant_of-self
invariant_of-self c =
    made_sound (before c) c.args.self.now c.args.grant c.position_of-place.result
    c.insert.new.self.items (made c)

pub returns-clause-ok : goal.returns-clause-ok
returns-clause-ok c =
    made_is (before c) c.args.self.now c.args.grant c.position_of-place.result
    c.insert.new.self.items (made c)
