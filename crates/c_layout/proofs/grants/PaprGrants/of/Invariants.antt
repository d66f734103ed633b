use Rattle.std.proofs.Common.{◌≡◌, length, map, take}
use Rattle.c_layout.specs.Grants.{grant_of}
use Rattle.c_layout.proofs.grants.PaprGrants.of.Given as goal

abbrev pub invariant-loop-i : goal.invariant-loop-i
invariant-loop-i l = record {
  room : length l.list ≡ 64;
  same : map grant_of (take l.i l.list) ≡ take l.i l.grants;
}
