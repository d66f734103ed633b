-- Texts that are cut at a byte: those that lack it, and the words that a cut leaves.
use Rattle.std.specs.Prelude.{ℕ, ◌==◌, Bool, true, false, List, [], ◌∷◌, Option, Some, None, if◌then◌else◌}
use Rattle.std.specs.Borrow.{Bor}

-- The text doesn't have the byte.
abbrev pub lacks : ℕ → List ℕ → Bool
lacks c [] = true
lacks c (x ∷ xs) = if x == c then false else lacks c xs

-- The words that are left, with the space before them; nothing where none are left.
abbrev pub words_left : Option (Bor (List ℕ)) → List ℕ
words_left None = []
words_left (Some words) = 32 ∷ words.now
