use Rattle.std.proofs.Common.{◌≡◌, ℕ, length, ap, ◌∙◌, arith}
use Rattle.atomic_table.specs.Table.{Me}
use Rattle.entry_lock.specs.declared.rule.View.{View}
use Rattle.entry_lock.proofs.Openings.{length_numbers}
use Rattle.entry_lock.proofs.table.LockTable.open.Goals as goal

pub invariant_of-result-2 : goal.invariant_of-result-2
invariant_of-result-2 c =
    let me = c.in-Ok.ensures.seat.1 in
    let key = c.in-Ok.prepared.table.shared.key in
    let passes : key.passes ≡ c.args.passes = c.in-Ok.ensures.key.1 in
    let count : length c.in-Ok.prepared.seat.me.0.numbers ≡ c.args.passes = ap
    (λ (m : Me ℕ View). length m.0.numbers) me ∙ length_numbers 0 key.passes ∙ passes in
    let some_pass = c.requires.some_pass in
    let few = c.requires.few in
    let all : c.in-Ok.prepared.seat.me.0.passes ≡ c.args.passes = ap (λ (m : Me ℕ View). m.0.passes)
    me ∙ passes in
    record {
      idle = record {
        bare = ap (λ (m : Me ℕ View). m.1) me;
        acting =
            record { live = ap (λ (m : Me ℕ View). m.0.actor.live) me; some_share = omega arith };
        idle = ap (λ (m : Me ℕ View). m.0.actor.phase) me;
      };
      counted = record { count = count; few = omega arith };
    }
