-- Windows of a bus: which there can be, and the entry of a bus address.
use Rattle.std.specs.Prelude.{◌≡◌, ℕ, ◌+◌, ◌-◌, ◌*◌, ◌/◌, ◌%◌, ◌^◌, ◌<◌, ◌≤◌, ◌==◌, ◌&&◌, Bool, Option, Some, None, nat_le, nat_lt, if◌then◌else◌}
use Rattle.pool_range.specs.Ranges.{address_end, page_bytes}

-- The number by which calls name the window, the bus address at which it begins, and how many pages
-- it has.
pub record BusWindow : Type 0 where
  pub liobn : ℕ
  pub base : ℕ
  pub pages : ℕ

-- The window with these parts.
abbrev pub bus_window : ℕ → ℕ → ℕ → BusWindow
bus_window liobn base pages = record { liobn = liobn; base = base; pages = pages }

-- ---- which there can be
-- The number has 32 bits, and the window is of 1 to 2 ^ 14 whole pages that end at 2 ^ 60 or below.
pub record IsWindow (w : BusWindow) : Type 0 where
  pub number : w.liobn < 2 ^ 32
  pub aligned : w.base % page_bytes ≡ 0
  pub some : 1 ≤ w.pages
  pub few : w.pages ≤ 2 ^ 14
  pub end : w.base + w.pages * page_bytes ≤ address_end

-- Whether a guest can have this window, as a test.
abbrev pub is_window : BusWindow → Bool
is_window w =
    nat_lt w.liobn (2 ^ 32)
    && (w.base % page_bytes == 0)
    && nat_le 1 w.pages
    && nat_le w.pages (2 ^ 14)
    && nat_le (w.base + w.pages * page_bytes) address_end

-- The window with these parts, where there can be one.
abbrev pub window_of_parts : ℕ → ℕ → ℕ → Option BusWindow
window_of_parts liobn base pages =
    if is_window (bus_window liobn base pages) then Some (bus_window liobn base pages) else None

-- ---- addresses
-- The entry of the page that has this bus address, where the window has it.
abbrev pub entry_at : BusWindow → ℕ → Option ℕ
entry_at w ioba =
    if nat_le w.base ioba && nat_lt ioba (w.base + w.pages * page_bytes)
    then Some ((ioba - w.base) / page_bytes)
    else None
