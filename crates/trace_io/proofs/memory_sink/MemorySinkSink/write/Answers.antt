use Rattle.std.proofs.Common.{◌≡◌, ◌==◌, ◌+◌, ◌-◌, ◌≤◌, ◌++◌, ℕ, List, min, nat_le, take, length, rules, vec_len, length-append}
use Rattle.trace_io.proofs.Room.{take_in_room, whole_in_room, front_again}
use Rattle.trace_io.proofs.memory_sink.MemorySinkSink.write.Goals as goal

pub returns-clause-after : goal.returns-clause-after
returns-clause-after c =
    let kept : List ℕ = c.self.inside.kept.items in
    let front : List ℕ = take c.min.result c.args.piece.now in
    let size : vec_len c.self.inside.kept ≡ length kept = search rules in
    let within : length kept ≤ c.self.inside.room = search rules in
    let fitting : c.min-fitting.result ≡ min (c.self.inside.room - length kept) (length front) = cc
    in
    let same : take (length front) c.args.piece.now ≡ front = front_again c.min.result
    c.args.piece.now in
    let stored : kept ++ take (min (c.self.inside.room - length kept) (length front)) front ≡ take
    c.self.inside.room (kept ++ front) = take_in_room kept front c.self.inside.room within in
    let whole : (min (c.self.inside.room - length kept) (length front) == length front) ≡ nat_le
    (length kept + length front) c.self.inside.room = whole_in_room (length kept) (length front)
    c.self.inside.room within in
    let both : length (kept ++ front) ≡ length kept + length front = length-append kept front in
    rw (← c.self.view_is) cc
