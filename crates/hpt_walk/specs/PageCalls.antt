-- The calls of a walk, listed from the two groups and the two operations that the code keeps.
use Rattle.std.specs.Prelude.{List, ◌++◌}
use Rattle.entry_model.specs.Trial.{Call}
use Rattle.hpt_walk.specs.Walk.{group_calls}
use Rattle.hpt_walk.specs.declared.page_calls.PageCalls.{PageCalls}

-- The calls of a walk: those on the primary group, then those on the secondary one.
abbrev pub calls_of : PageCalls → List Call
calls_of p = group_calls p.early p.primary ++ group_calls p.late p.secondary
