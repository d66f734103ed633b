-- The text of replies, and where that of each reply ends.
use Rattle.std.specs.Prelude.{◌≡◌, ℕ, ◌-◌, ◌/◌, min, List, [], ◌∷◌, ◌++◌, length}
use Rattle.std.specs.Str.{IsUtf8}
use Rattle.trace_line.specs.declared.line.TraceLine.{TraceLine}
use Rattle.trace_reply.specs.declared.reply.Reply.{Reply}
use Rattle.reply_text.specs.Text.{reply_text, text_from}

-- For so many replies that are no dumps there is room, at the room of a reply and an end for each.
abbrev pub text_room : ℕ → ℕ → ℕ → ℕ → ℕ
text_room capacity len most ends = min ((capacity - len) / 1024) (most - ends)

-- After this front there are just the texts of these replies, and each ends where it is said to.
-- The text may be cut at each end.
abbrev pub EndsBehind :
    List ℕ → List ℕ → List ℕ → List TraceLine → List Reply → Type 0
EndsBehind front bytes [] [] [] = bytes ≡ front
EndsBehind front bytes (end ∷ ends) (l ∷ ls) (r ∷ rs) =
    let next = front ++ reply_text l r in
    (end ≡ length next) × (IsUtf8 next × EndsBehind next bytes ends ls rs)
EndsBehind front bytes ends ls rs = ⊥

-- From this place on the text is just that of these replies, with their ends.
pub record KeepsText
    (bytes ends : List ℕ)
    (start : ℕ)
    (ls : List TraceLine)
    (rs : List Reply)
    : Type 0
  where
    pub front : List ℕ
    pub begins : start ≡ length front
    pub cut : IsUtf8 front
    pub texts : EndsBehind front bytes ends ls rs

-- The bytes are the text of the replies to these lines.
pub record HasText (bytes : List ℕ) (ls : List TraceLine) (rs : List Reply) : Type 0 where
  pub count : length ls ≡ length rs
  pub text : bytes ≡ text_from ls rs
