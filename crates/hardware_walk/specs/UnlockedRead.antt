-- A read of an entry that takes no lock, as KVM's H_READ makes it: each doubleword at a time of its
-- own.
use Rattle.std.specs.Prelude.{ℕ, List, ◌++◌}
use Rattle.hardware_walk.specs.Machine.{Machine}
use Rattle.hardware_walk.specs.Steps.{Orders, Move, run}

-- The reply's doublewords are the one of the first moment and the other of a later moment. What
-- was done between them is in no way limited; a read by itself changes nothing.
abbrev pub unlocked_reply : Orders → Machine → List Move → List Move → ℕ × ℕ
unlocked_reply orders m between older =
    ((run orders m older).entry.dword0, (run orders m (between ++ older)).entry.dword1)
