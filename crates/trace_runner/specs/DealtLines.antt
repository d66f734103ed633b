-- The lines of a section, dealt to their processors and to their stores.
use Rattle.std.specs.Prelude.{◌≡◌, ℕ, ◌+◌, min, List, [], ◌∷◌, length, Vec}
use Rattle.bus_window.specs.Windows.{BusWindow}
use Rattle.trace_line.specs.declared.line.TraceLine.{TraceLine}
use Rattle.run_model.specs.StoreNumbers.{lines_on_store}
use Rattle.trace_runner.specs.Workers.{AreOwn, AllNumbered}

-- Each list has the indices of one processor's own lines among these, the first that of processor
-- 0.
abbrev pub AreDealt : {Z : Type 0} → List TraceLine → List (Vec ℕ Z) → Type 0
AreDealt lines dealt = AllNumbered (λ cpu own. AreOwn lines cpu own.items) 0 dealt

-- Each list is empty.
abbrev pub AllEmpty : {A Z : Type 0} → List (Vec A Z) → Type 0
AllEmpty lists = AllNumbered (λ k own. own.items ≡ []) 0 lists

-- How many of the lists aren't empty.
abbrev pub count_with_own : {Z : Type 0} → List (Vec ℕ Z) → ℕ
count_with_own [] = 0
count_with_own (own ∷ rest) = min 1 (length own.items) + count_with_own rest

-- Each list has the lines on one store, the first those on the page table.
abbrev pub AreOnStores :
    {Z : Type 0} → List BusWindow → List TraceLine → List (Vec TraceLine Z) → Type 0
AreOnStores ws lines dealt =
    AllNumbered (λ store own. own.items ≡ lines_on_store ws store lines) 0 dealt
