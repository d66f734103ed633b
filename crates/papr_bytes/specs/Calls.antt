-- What a call of the program on bytes in memory answers, and leaves in the caller's room.
use Rattle.std.specs.Prelude.{◌≡◌, ◌==◌, ◌⊎◌, ℕ, nat_le, if◌then◌else◌, List, [], ◌∷◌, ◌++◌, length, drop, map, Some, String, string_bytes}
use Rattle.std.specs.Str.Lossy.{utf8_lossy}
use Rattle.std.specs.declared.alloc.Global.{Global}
use Rattle.papr_edge.specs.Commands.{command_of, without_par}
use Rattle.papr_edge.specs.Status.{status_number}
use Rattle.papr_edge.specs.declared.status.Status.{Status}
use Rattle.papr_top.specs.Ends.{Sides, EndsCommand}
use Rattle.papr_bytes.specs.declared.call_end.CallEnd.{CallEnd}

-- ---- words
-- A word, unless it is empty. Bytes that are no text become U+FFFD.
abbrev pub word_of : List ℕ → List (List ℕ)
word_of bytes = if length bytes == 0 then [] else utf8_lossy bytes ∷ []

-- The bytes of each word.
abbrev pub spelt : List (String Global) → List (List ℕ)
spelt words = map string_bytes words

-- The words of a call.
abbrev pub words_named : List ℕ → List ℕ → List ℕ → List (List ℕ)
words_named first second third = (word_of first ++ word_of second) ++ word_of third

-- ---- what a call leaves
-- There was not enough memory to begin.
abbrev pub no_memory : CallEnd
no_memory = record { status = 5; length = 0 }

-- The text is put first into the caller's room with the call's status, or the room is too small,
-- and stays.
abbrev pub handed : Status → List ℕ → List ℕ → CallEnd × List ℕ
handed status text room =
    if nat_le (length text) (length room)
    then (
      record { status = status_number status; length = length text },
      text ++ drop (length text) room,
    )
    else (record { status = 7; length = length text }, room)

-- The input is all that the source has, and the text is all that the sink took.
abbrev pub sides_of : List ℕ → List ℕ → List ℕ → ℕ → Sides
sides_of input left text faults = record {
  run = record {
    left = Some input;
    left_after = Some left;
    taken = Some [];
    taken_after = Some text;
  };
  source_faults = 0;
  source_faults_after = 0;
  sink_faults = 0;
  sink_faults_after = faults;
}

-- The program was called with these words on this input, and what it wrote was handed over.
pub record Called
    (named : List (List ℕ))
    (input : List ℕ)
    (room : List ℕ)
    (end : CallEnd)
    (room_after : List ℕ)
    : Type 0
  where
    pub words : List (String Global)
    pub status : Status
    pub left : List ℕ
    pub text : List ℕ
    pub faults : ℕ
    pub spelt : spelt words ≡ named
    pub ends : EndsCommand (without_par (command_of words)) (sides_of input left text faults) status
    pub handed : (end, room_after) ≡ handed status text room

-- What a call answers and leaves in the caller's room.
abbrev pub IsCall : List (List ℕ) → List ℕ → List ℕ → CallEnd → List ℕ → Type 0
IsCall named input room end room_after =
    ((end ≡ no_memory) × (room_after ≡ room)) ⊎ Called named input room end room_after
